-- `take_verdicts` meets its contract. The invariant: n verdicts are taken out of the first k formulas' answers.
use Prim.Native.Nat.{◌+◌}
use mathlib.Core.Path.{◌≡◌, refl, ap, ◌∙◌}
use native.Mathlib.Omega.{arith}
use lib.ListN.{length, set}
use Rattle.engine.specs.Tops.{held_at}
use Rattle.checkpoint.specs.Checkpoint.{given}
use Rattle.held.specs.Code.{taken_answers, taken_out}
use Rattle.held.proofs.TakingOut.{length_taken_out, taken_out_none, taken_out_next, may_take}
use Rattle.held.proofs.take_verdicts.Goals as goal
use Rattle.held.proofs.take_verdicts.Goals.{After-loop-k}

-- the words are as many as before
long : (c : After-loop-k) → length c.loop-k.words ≡ length c.args.words.now
long c =
    ap length c.loop-k.invariant ∙
    length_taken_out (held_at c.args.tops.now) c.args.most (given c.args.words.now) c.args.n (length c.args.tops.now) c.args.words.now c.requires.row c.loop-k.k

pub loop-k-init : goal.loop-k-init
loop-k-init c = taken_out_none _ _ _ _ _

pub take_answers-requires : goal.take_answers-requires
take_answers-requires c =
    let l = c.loop-k in
    may_take c.args.tops.now c.args.most c.args.n c.args.words.now c.requires l.k (omega arith) (held_at c.args.tops.now l.k) l.words refl l.invariant

pub loop-k-preserved : goal.loop-k-preserved
loop-k-preserved c =
    let l = c.loop-k in
    c.take_answers.ensures ∙
    ap (taken_answers (held_at c.args.tops.now l.k) (8 + l.k) (8 + c.args.most + l.k) (given c.args.words.now) c.args.n) l.invariant ∙
    taken_out_next (held_at c.args.tops.now) c.args.most (given c.args.words.now) c.args.n l.k c.args.words.now

pub bounds-words-1-2 : goal.bounds-words-1-2
bounds-words-1-2 c = omega (arith, long (goal.at.bounds-words-1-2 c).After-loop-k, c.requires.room)

pub returns : goal.returns
returns c =
    let l = c.loop-k in
    let all : l.k ≡ length c.args.tops.now = omega arith in
    ap (λ ws. set ws 1 (given c.args.words.now + c.args.n))
    (l.invariant ∙ ap (λ k. taken_out (held_at c.args.tops.now) c.args.most (given c.args.words.now) c.args.n k c.args.words.now) all)
