-- What the checks of a call tell by their outcome: a refusal's number, or what holds where none is met.
-- (Examples is named first so that the worked rows are checked before any law.)
use Rattle.checks.specs.Examples
use Prim.Native.Nat.{ℕ, ◌+◌, ◌-◌, ◌≤◌, ◌<◌, ◌^◌}
use mathlib.Core.Bool.{Bool, true, false, ◌&&◌}
use mathlib.Core.Bool.{not as negate}
use mathlib.Core.Path.{◌≡◌, refl, sym, ap, subst, ◌∙◌}
use mathlib.Core.List.{List}
use native.Mathlib.Omega.{arith}
use borrow.Author.Tests.{ne_eqb, not-false, not-true, ltb-false}
use lib.Dec.{leb, ltb}
use lib.ListN.{length, drop}
use lib.Seq.{get_or-drop}
use Rattle.mtl.specs.Satisfaction.{any}
use Rattle.mtl.proofs.Bounded.{and_iff, leb_iff, any_false_iff}
use Rattle.rule.specs.declared.Entry.{Entry}
use Rattle.rule.specs.Entries.{version, count, decoded, entry}
use Rattle.rule.specs.Refusal.{first, or_else, refusal}
use Rattle.rule.proofs.Headers.{first_zero, or_left, or_right, before_none}
use Rattle.refusal.specs.declared.Refusal.{Refusal}
use Rattle.refusal.specs.Number.{number_of}
use Rattle.refusal.proofs.Numbers.{number_positive}
use Rattle.rule.specs.Postfix.{most_formulas}
use Rattle.rule.specs.Words.{header_words}
use Rattle.blocks.specs.Block.{word}
use Rattle.trace.specs.Format.{skips_of, dropped, total_records, malformed, records_from}
use Rattle.trace.specs.Order.{disordered}
use Rattle.trace.specs.Making.{trimmed}
use Rattle.trace.proofs.Laws.{well_formed_iff}
use Rattle.checkpoint.specs.Checkpoint.{given, seen, last, closed_with, log_kind, first_wanted, no_count, after_latest, need, foreign, block_at, block_outside, block_in_range, waiting_in_range, room, noes_outside, closed_in_range, kind_in_range, words_outside, header_in_range}
use Rattle.checks.specs.Refusal.{resumes_closed, closes_more, other_version, version_refusal, records_refusal, point_refusal, trimming_refusal, words_refusal, summary_refusal}
use Rattle.checks.proofs.Sizes.{enough_words}

-- a refusal that is not met gives way to what comes after
pub passed_over : (n : ℕ) (bad : Bool) (other : ℕ) → bad ≡ false → first n bad other ≡ other
passed_over n bad other e = ap (λ (b : Bool). first n b other) e

-- the number of a refusal gives way to nothing, and no number to what comes after
pub stops : (r : Refusal) (n other : ℕ) → number_of r ≡ n → number_of r ≡ or_else n other
stops r n other e =
    let some = number_positive r in
    e ∙ sym (rw (ne_eqb n 0 (λ z. omega arith)))

pub goes_on : (n other : ℕ) → 0 ≡ n → or_else n other ≡ other
goes_on n other e = ap (λ (m : ℕ). or_else m other) (sym e)

-- these refusals are asked first, and what comes after them only where none is met
first_of_words : (other : ℕ) (a b : Bool) → first 10 a (first 11 b other) ≡ or_else (first 10 a (first 11 b 0)) other
first_of_words other true b = refl
first_of_words other false true = refl
first_of_words other false false = refl

first_of_version : (other : ℕ) (a b : Bool) → first 12 a (first 22 b other) ≡ or_else (first 12 a (first 22 b 0)) other
first_of_version other true b = refl
first_of_version other false true = refl
first_of_version other false false = refl

first_of_records : (other : ℕ) (a b c d : Bool) → first 13 a (first 21 b (first 24 c (first 14 d other))) ≡ or_else (first 13 a (first 21 b (first 24 c (first 14 d 0)))) other
first_of_records other true b c d = refl
first_of_records other false true c d = refl
first_of_records other false false true d = refl
first_of_records other false false false true = refl
first_of_records other false false false false = refl

pub words_first : (version : ℕ) (t : List Entry) (n : ℕ) (p : List ℕ) (other : ℕ) →
    words_refusal version t n p other ≡ or_else (words_refusal version t n p 0) other
words_first version t n p other = first_of_words other (foreign version t n p) (words_outside version t n p)

pub version_first : (log p : List ℕ) (other : ℕ) → version_refusal log p other ≡ or_else (version_refusal log p 0) other
version_first log p other = first_of_version other (malformed log) (other_version log (log_kind p))

pub records_first : (more : Bool) (log p : List ℕ) (other : ℕ) → records_refusal more log p other ≡ or_else (records_refusal more log p 0) other
records_first more log p other =
    first_of_records other (ltb (total_records log) (seen p)) more (ltb (first_wanted p) (dropped log))
    (disordered (records_from log (first_wanted p)) (seen p - first_wanted p) (last p))

-- a log that passes check 12 has few records
pub few_records : (log p : List ℕ) (other : ℕ) → 0 ≡ version_refusal log p other → total_records log ≤ 1000000
few_records log p other e = ((well_formed_iff log).0 (first_zero 11 (malformed log) _ (sym e)).0).few

-- what the refusals that are not met tell
pub record Passes (rule log p : List ℕ) : Type 0 where
  pub given : given p ≤ 1000000
  pub wanted : first_wanted p ≤ seen p
  pub undropped : dropped log ≤ first_wanted p
  pub no_fewer : seen p ≤ total_records log
  pub counted : (k : ℕ) → k < most_formulas (version rule) → no_count p k ≤ 1000000
  pub held : (k : ℕ) → k < count rule → word p (block_at (header_words (version rule)) (decoded rule) k + 12) ≤ 64
  pub records : total_records log ≤ 1000000

header_given : (m : ℕ) (p : List ℕ) → header_in_range m p ≡ true →
    (given p ≤ 1000000) × (first_wanted p ≤ seen p) × ((k : ℕ) → k < m → no_count p k ≤ given p)
header_given m p fits =
    let first = (and_iff _ (negate (any m (noes_outside m p)))).0 fits in
    let wanted = (and_iff _ (leb (first_wanted p) (seen p))).0 first.0 in
    let kind = (and_iff _ (kind_in_range (log_kind p) (seen p) (closed_with p))).0 wanted.0 in
    let second = (and_iff _ (closed_in_range (closed_with p) (seen p))).0 kind.0 in
    let third = (and_iff (leb (seen p) 1000000 && leb (given p) (seen p)) (ltb (last p) (2 ^ 32))).0 second.0 in
    let fourth = (and_iff (leb (seen p) 1000000) (leb (given p) (seen p))).0 third.0 in
    let few = (leb_iff (seen p) 1000000).0 fourth.0 in
    let low = (leb_iff (given p) (seen p)).0 fourth.1 in (
      omega arith,
      (leb_iff (first_wanted p) (seen p)).0 wanted.1,
      λ k h.
          let fits_k = not-false _ ((any_false_iff m (noes_outside m p)).0 (not-true _ first.1) k h) in
          let both = (and_iff (leb (no_count p k) (given p) && leb (after_latest m p k) (given p)) _).0 fits_k in
          (leb_iff (no_count p k) (given p)).0 ((and_iff (leb (no_count p k) (given p)) (leb (after_latest m p k) (given p))).0 both.0).0,
    )

-- what a formula's last entry has answered and was not given yet is at most one word
held_few : (given size cells : ℕ) (b : List ℕ) → block_in_range given size cells b ≡ true → word b 12 ≤ 64
held_few given size cells b fits =
    let others = leb (word b 0) size && leb (word b 1) 64 && leb (word b 3) 64 && leb (word b 5) size && leb (word b 6) 1 && leb (word b 7) 1
    && ltb (word b 8) (2 ^ 32) && leb (word b 9) cells && leb (word b 10) cells && leb (word b 11) size in
    (leb_iff (word b 12) 64).0 ((and_iff others (leb (word b 12) 64)).0 ((and_iff (others && leb (word b 12) 64) (room given (word b 12) size)).0 fits).0).1

pub passes : (closing : Bool) (rule log p : List ℕ) → point_refusal closing (version rule) (decoded rule) (count rule) log p ≡ 0 →
    Passes rule log p
passes closing rule log p none =
    let v = version rule in
    let base = header_words v in
    let t = decoded rule in
    let n = count rule in
    let tenth = first_zero 9 (foreign v t n p) _ none in
    let eleventh = first_zero 10 (words_outside v t n p) _ tenth.1 in
    let twentieth = first_zero 19 (resumes_closed closing (closed_with p)) _ eleventh.1 in
    let twelfth = first_zero 11 (malformed log) _ twentieth.1 in
    let last = first_zero 21 (other_version log (log_kind p)) _ twelfth.1 in
    let thirteenth = first_zero 12 (ltb (total_records log) (seen p)) _ last.1 in
    let repeated = first_zero 20 (closes_more closing (closed_with p) (total_records log)) _ thirteenth.1 in
    let missing = first_zero 23 (ltb (first_wanted p) (dropped log)) _ repeated.1 in
    let (few, wanted, noes) = header_given (most_formulas v) p
    (not-false (header_in_range (most_formulas v) p) (or_left (negate (header_in_range (most_formulas v) p)) (any n (block_outside base t p)) eleventh.0)) in
    let blocks = (any_false_iff n (block_outside base t p)).0 (or_right (negate (header_in_range (most_formulas v) p)) (any n (block_outside base t p)) eleventh.0) in
    record {
      given = few;
      wanted = wanted;
      undropped = ltb-false (first_wanted p) (dropped log) missing.0;
      no_fewer = ltb-false (total_records log) (seen p) thirteenth.0;
      counted = λ k h. omega (arith, noes k h);
      held = λ k h. subst (λ (w : ℕ). w ≤ 64) (get_or-drop (block_at base t k) p 12 0) (held_few _ _ _ (drop (block_at base t k) p) ((and_iff _ (waiting_in_range (entry t k).kind (seen p) (drop (block_at base t k) p))).0 (not-false _ (blocks k h))).0);
      records = ((well_formed_iff log).0 twelfth.0).few;
    }

-- a trimming that is not refused has room for what it writes
pub room_to_trim : (version : ℕ) (t : List Entry) (n lent : ℕ) (log p : List ℕ) → words_refusal version t n p (trimming_refusal lent log p) ≡ 0 →
    length (trimmed log (first_wanted p)) ≤ lent
room_to_trim version t n lent log p none =
    let tenth = first_zero 9 (foreign version t n p) _ none in
    let eleventh = first_zero 10 (words_outside version t n p) _ tenth.1 in
    let twelfth = first_zero 11 (malformed log) _ eleventh.1 in
    let other = first_zero 21 (other_version log (log_kind p)) _ twelfth.1 in
    let plain = first_zero 22 (negate (skips_of log)) _ other.1 in
    let thirteenth = first_zero 12 (ltb (total_records log) (seen p)) _ plain.1 in
    let missing = first_zero 23 (ltb (first_wanted p) (dropped log)) _ thirteenth.1 in
    let ordered = first_zero 13 (disordered (records_from log (first_wanted p)) (seen p - first_wanted p) (last p)) _ missing.1 in
    ltb-false lent (length (trimmed log (first_wanted p))) (first_zero 24 _ 0 ordered.1).0

-- where none of 1 to 11 is met
module _ (rule p : List ℕ) (none : summary_refusal rule p ≡ 0) where
  pub is_accepted : refusal rule ≡ 0
  is_accepted = (before_none (refusal rule) _ (before_none _ (words_refusal (version rule) (decoded rule) (count rule) p 0) none).0).0

  pub has_room : need rule ≤ length p
  has_room = enough_words rule (length p) (before_none _ (words_refusal (version rule) (decoded rule) (count rule) p 0) none).0
