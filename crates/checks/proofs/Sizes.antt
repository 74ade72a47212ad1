-- What refusals 1 to 9 leave where none of them is met.
-- (Examples is named first so that the worked cases are checked before any law.)
use Rattle.checks.specs.Examples
use Prim.Native.Nat.{ℕ, ◌≤◌}
use mathlib.Core.Path.{◌≡◌, refl, sym}
use mathlib.Core.List.{List}
use lib.Dec.{ltb}
use native.Mathlib.Omega.{arith}
use borrow.Author.Tests.{ltb-false, le-ltb, ne_eqb}
use Rattle.std.specs.Prelude.{Result, Ok, Err, MatchResult}
use Rattle.refusal.specs.declared.Refusal.{Refusal}
use Rattle.refusal.specs.Number.{number, number_of}
use Rattle.refusal.proofs.Numbers.{number_positive}
use Rattle.rule.specs.Entries.{decoded, count}
use Rattle.rule.specs.Refusal.{refusal}
use Rattle.rule.specs.Measure.{refused, measured}
use Rattle.rule.specs.Decoded.{DecodesRule}
use Rattle.rule.proofs.Headers.{first_zero, before_none}
use Rattle.checkpoint.specs.Checkpoint.{need}
use Rattle.checks.specs.Refusal.{open_refusal}
use Rattle.checks.specs.Contract.{IsAdmitted, Admits}
use Rattle.checks.specs.declared.Admitted.{Admitted}

-- `open` takes no fewer words than the need
pub enough_words : (rule : List ℕ) (lent : ℕ) → open_refusal rule lent ≡ 0 → need rule ≤ lent
enough_words rule lent none = ltb-false lent (need rule) (first_zero 8 (ltb lent (need rule)) 0 (before_none (refusal rule) _ none).1).0

-- nor is it refused where the rule was admitted
pub open_accepted : (s : List ℕ) (lent : ℕ) (a : Admitted) → IsAdmitted s lent a → 0 ≡ open_refusal s lent
open_accepted s lent a d = sym (rw (d.accepted, le-ltb lent (need s) d.room))

-- what `admit` answers is refusals 1 to 9, and the words are the need
pub sized_is : (s : List ℕ) (lent : ℕ) (r : Result Admitted Refusal) → Admits s lent r →
    (number r ≡ open_refusal s lent) × MatchResult r (λ a. a.words ≡ need s) (λ refusal. number_of refusal ≡ open_refusal s lent)
sized_is s lent (Ok a) d = (open_accepted s lent a d, d.words_are)
sized_is s lent (Err refusal) d = (d, d)

-- the entries of a rule that is admitted
pub is_decoded : (s : List ℕ) (lent : ℕ) (a : Admitted) → IsAdmitted s lent a → (a.rule.entries ≡ decoded s) × (a.rule.count ≡ count s)
is_decoded s lent a d = (d.entries_are, d.count_is)

-- where the header is refused, that refusal is what weighing the rule answers
pub refused_once : (s : List ℕ) (r : Refusal) → DecodesRule s (Err r) → refused (number_of r) ≡ measured s
refused_once s r e =
    let some = number_positive r in
    let is : refusal s ≡ number_of r = rw (← e, ne_eqb (number_of r) 0 (omega arith)) refl in
    rw (is, ne_eqb (number_of r) 0 (omega arith)) refl
