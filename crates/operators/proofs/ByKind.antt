-- From an entry's number of its kind to the formula's last operator, for the dispatch. Assumes nothing.
use Prim.Native.Nat.{ℕ, ◌+◌, ◌≤◌}
use native.Mathlib.Omega.{arith}
use mathlib.Core.Bool.{cond}
use mathlib.Core.List.{List}
use mathlib.Core.Path.{◌≡◌, refl, subst}
use lib.Dec.{eqb}
use Rattle.mtl.specs.Formula.{Formula}
use Rattle.window.specs.declared.view.View.{View}
use Rattle.mtl.specs.Formula.Formula.{letter, not, or, previous, next, since, until}
use Rattle.rule.specs.Words.{ring_words, own_words}
use Rattle.rule.proofs.Spans.{own_least}
use Rattle.blocks.specs.Block.{kind_of, letter_of, low_of, high_of}
use Rattle.blocks.specs.Step.{left_of, right_of, Ends, Steps}
use Rattle.blocks.specs.Kinds.{Fields, takes_left, takes_right}
use Rattle.blocks.specs.declared.Step.{Step}

-- the formula that an entry's fields and its operands make
abbrev pub formula : (kind letter low high : ℕ) (left right : Formula) → Formula
formula k c l h φ ψ =
    cond (eqb k 0) (letter c)
    (cond (eqb k 1) (not ψ)
    (cond (eqb k 2) (or φ ψ)
    (cond (eqb k 3) (previous l h ψ) (cond (eqb k 4) (next l h ψ) (cond (eqb k 5) (since l h φ ψ) (until l h φ ψ))))))

rebuilt : (φ : Formula) → formula (kind_of φ) (letter_of φ) (low_of φ) (high_of φ) (left_of φ) (right_of φ) ≡ φ
rebuilt (letter c) = refl
rebuilt (not φ) = refl
rebuilt (or φ ψ) = refl
rebuilt (previous low high φ) = refl
rebuilt (next low high φ) = refl
rebuilt (since low high φ ψ) = refl
rebuilt (until low high φ ψ) = refl

-- what the operator of kind n promises, it promises of every formula that an entry of this kind stands for
steps_of : (φ : Formula) {k c l h : ℕ} (n : ℕ) (v : View) (s b : List ℕ) (r : Step) (b' : List ℕ) → k ≡ n → Fields φ k c l h →
    Steps (formula n c l h (left_of φ) (right_of φ)) v s b r b' → Steps φ v s b r b'
steps_of φ {c = c} {l = l} {h = h} n v s b r b' e f steps =
    let same : formula n c l h (left_of φ) (right_of φ) ≡ φ = rw (← e, f.kind, f.letter, f.low, f.high) (rebuilt φ) in
    subst (λ (χ : Formula). Steps χ v s b r b') same steps

-- what `advance` promises of an entry of kind k, from what the step of the operator of kind n ensures
pub promised : {k l h : ℕ} (n : ℕ) {v : View} {s b : List ℕ} (r : Step) (b' : List ℕ) {Kept : Type 0} → k ≡ n →
    Ends (takes_left n) (takes_right n) v b r b' → ((c : ℕ) (φ ψ : Formula) → Steps (formula n c l h φ ψ) v s b r b') → Kept →
    Ends (takes_left k) (takes_right k) v b r b' × (((φ : Formula) (c : ℕ) → Fields φ k c l h → Steps φ v s b r b') × Kept)
promised n {v} {s} {b} r b' e ends steps kept =
    (rw e ends, (λ φ c f. steps_of φ n v s b r b' e f (steps c (left_of φ) (right_of φ)), kept))

-- an entry's block has 16 words at least, a since's its ring besides, and an until's that of its other head
pub room_of : (k h n : ℕ) → own_words k h ≤ n → 16 ≤ n
room_of k h n r = omega (arith, own_least k h)

pub since_room_of : (k h n : ℕ) → k ≡ 5 → own_words k h ≤ n → 16 + ring_words h ≤ n
since_room_of k h n e r = rw e at r

pub until_room_of : (k h n : ℕ) → k ≡ 6 → own_words k h ≤ n → 17 ≤ n
until_room_of k h n e r = let more : own_words 6 h ≤ n = rw e at r in omega arith
