-- The reason for a formula's yes or no at a position, as sentences. Document 02, paper 13.
use Rattle.std.specs.Prelude.{ℕ, suc, ◌+◌, ◌-◌, Bool, true, false, cond, ◌&&◌, ◌||◌, not as negate, List, [], ◌∷◌, ◌++◌, ltb, eqb}
use Rattle.mtl.specs.Formula.{Formula}
use Rattle.mtl.specs.Log.{Log}
use Rattle.mtl.specs.Satisfaction.{at_most, within, since_by, until_by, sat}
use Rattle.mtl.specs.Progress.{fails_from, over, progress}
use Rattle.rule.specs.Postfix.{size}
use Rattle.reasons.specs.Search.{first_where, after_last}

-- "the line then ends with left or time"
pub data Cause : Type 0 where
  by_left by_time : Cause

-- what stands in a sentence behind the entry's number and the position
pub data Says : Type 0 where
  -- "for a letter e0 to e31 and yes or no"
  stands : (k : ℕ) (holds : Bool) → Says
  -- "not and or: no number"
  not or : Says
  -- "previous and next give the gap .. or none for the gap where no position stands before"
  prev next : (gap : ℕ) → Says
  prev_none : Says
  -- "Since and until give the earliest fitting j for yes."
  since until : (j : ℕ) → Says
  -- "For no, until gives the first position .. the line then ends with left or time"
  since_no until_no : (p : ℕ) → Cause → Says

-- "an empty rule's reason is the one line empty"; "A sentence is a line, .. the entry's number from 0, the position, then .."
pub data Line : Type 0 where
  empty : Line
  sentence : (entry position : ℕ) → Says → Line

-- "Since and until give the earliest fitting j for yes."
abbrev pub since_witness : (low high : ℕ) (time : ℕ → ℕ) (left right : ℕ → Bool) (i : ℕ) → ℕ
since_witness low high time left right i = first_where (suc i) (since_by low high time left right i)

abbrev pub until_witness : (low high : ℕ) (time : ℕ → ℕ) (left right : ℕ → Bool) (size i : ℕ) → ℕ
until_witness low high time left right size i = first_where size (until_by low high time left right i)

-- of since at i: "the first at most high before"
abbrev pub first_near : (high : ℕ) (time : ℕ → ℕ) (i : ℕ) → ℕ
first_near high time i = first_where (suc i) (λ (q : ℕ). at_most high (time i - time q))

-- one more than "the latest where left fails"; 0 where it fails nowhere up to i
abbrev pub after_failure : (left : ℕ → Bool) (i : ℕ) → ℕ
after_failure left i = after_last (suc i) (λ (q : ℕ). negate (left q))

-- "For no, .. since the latest where left fails, or the first at most high before if none does from there on"
abbrev pub since_denied : (high : ℕ) (time : ℕ → ℕ) (left : ℕ → Bool) (i : ℕ) → Says
since_denied high time left i =
    cond (ltb (first_near high time i) (after_failure left i)) (since_no (after_failure left i - 1) by_left) (since_no (first_near high time i) by_time)

-- of until at i: q, from i on, is a position "where left is answered no"; `answered` is how many left has answered
abbrev pub denied_left : (left : ℕ → Bool) (answered i q : ℕ) → Bool
denied_left left answered i q = ltb q answered && fails_from left i q

-- "the first position where left is answered no or which lies more than high later"
abbrev pub first_end : (high : ℕ) (time : ℕ → ℕ) (left : ℕ → Bool) (size answered i : ℕ) → ℕ
first_end high time left size answered i = first_where size (λ (q : ℕ). denied_left left answered i q || over high time i q)

-- "left's if both"
abbrev pub cause : (failed late : Bool) → Cause
cause true late = by_left
cause false late = by_time

-- "For no, until gives" that position
abbrev pub until_denied : (high : ℕ) (time : ℕ → ℕ) (left : ℕ → Bool) (size answered i : ℕ) → Says
until_denied high time left size answered i =
    let p = first_end high time left size answered i in
    until_no p (cause (denied_left left answered i p) (over high time i p))

-- what a since says, yes or no, and what an until says
abbrev pub since_says : (low high : ℕ) (φ ψ : Formula) → Log → ℕ → Says
since_says low high φ ψ L i =
    cond (sat (Formula.since low high φ ψ) L i)
    (since (since_witness low high L.time (sat φ L) (sat ψ L) i))
    (since_denied high L.time (sat φ L) i)

abbrev pub until_says : (low high : ℕ) (φ ψ : Formula) → Log → ℕ → Says
until_says low high φ ψ L i =
    cond (sat (Formula.until low high φ ψ) L i)
    (until (until_witness low high L.time (sat φ L) (sat ψ L) L.size i))
    (until_denied high L.time (sat φ L) L.size (progress φ L) i)

-- "An or that is yes gives its left operand's if that is yes, else its right's; one that is no gives both, left first."
abbrev pub either : (left right : Bool) (lefts rights : List Line) → List Line
either true right lefts rights = lefts
either false true lefts rights = rights
either false false lefts rights = lefts ++ rights

-- "the gap and, if it is within, then the operand's sentence"
abbrev pub if_within : Bool → List Line → List Line
if_within true ls = ls
if_within false ls = []

-- The reason of the formula whose last entry has the number k, at position i: its own sentence, and behind it those that it gives. "Not gives
-- the operand's sentence; previous and next give the gap and, if it is within, then the operand's sentence, or none for the gap where no
-- position stands before." The right operand, or the only one, is entry k - 1, and the left one stands before the right one's entries.
unfoldable pub reason : Formula → (k : ℕ) → Log → (i : ℕ) → List Line
reason (Formula.letter c) k L i = sentence k i (stands c (L.letters i c)) ∷ []
reason (Formula.not φ) k L i = sentence k i not ∷ reason φ (k - 1) L i
reason (Formula.or φ ψ) k L i =
    sentence k i or ∷ either (sat φ L i) (sat ψ L i) (reason φ (k - 1 - size ψ) L i) (reason ψ (k - 1) L i)
reason (Formula.previous low high φ) k L i =
    cond (eqb i 0)
    (sentence k i prev_none ∷ [])
    (sentence k i (prev (L.time i - L.time (i - 1))) ∷
    if_within (within low high (L.time (i - 1)) (L.time i)) (reason φ (k - 1) L (i - 1)))
reason (Formula.next low high φ) k L i =
    sentence k i (next (L.time (i + 1) - L.time i)) ∷
    if_within (within low high (L.time i) (L.time (i + 1))) (reason φ (k - 1) L (i + 1))
reason (Formula.since low high φ ψ) k L i = sentence k i (since_says low high φ ψ L i) ∷ []
reason (Formula.until low high φ ψ) k L i = sentence k i (until_says low high φ ψ L i) ∷ []
