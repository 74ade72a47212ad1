-- `fresh::write` meets its contract: zeros, the format's number, how the copy begins, and the entries' copies are a fresh checkpoint.
use native.Mathlib.Omega.{arith}
use mathlib.Core.Path.{◌≡◌, sym, ◌∙◌}
use lib.ListN.{length, length-set, get_or, replicate, length-replicate}
use lib.Seq.{ext_get_or}
use Prim.Native.Nat.{ℕ, ◌<◌}
use Rattle.std.proofs.Common.{rules}
use Rattle.std.proofs.lemmas.List.{places, get_or-replicate}
use Rattle.rule.proofs.Spans.{header_least}
use Rattle.checkpoint.proofs.Copies.{fresh_words}
use Rattle.checkpoint.proofs.fresh.write.Goals as goal

pub bounds-words-0 : goal.bounds-words-0
bounds-words-0 c = omega (arith, c.fill.auto.self, header_least c.args.rule.now.version)

pub bounds-words-4 : goal.bounds-words-4
bounds-words-4 c = simp length-set (omega (arith, c.fill.auto.self, header_least c.args.rule.now.version))

pub write_copies-requires : goal.write_copies-requires
write_copies-requires c =
    let l = c.fill.auto.self in
    simp length-set (omega arith)

pub shape_of-words : goal.shape_of-words
shape_of-words c = c.write_copies.auto.words ∙ simp length-set c.fill.auto.self

pub returns : goal.returns
returns c =
    let r = c.args.rule.now in
    let size = length c.args.words.now in
    let cleared = c.fill.new.self in
    let long : length cleared ≡ size = c.fill.ensures.len in
    let zeros : (k : ℕ) → k < size → get_or cleared k 0 ≡ 0 = search (rules, places) in
    let is : cleared ≡ replicate size 0 =
    ext_get_or 0 cleared (replicate size 0) (long ∙ sym (length-replicate size 0))
    (λ k h. zeros k (omega arith) ∙ sym (get_or-replicate size k 0 0 (omega arith))) in
    rw (c.write_copies.ensures, is, c.copy_start.ensures)
    (fresh_words r.version r.entries r.count size (omega arith))
