-- TRIMMING: what a trimmed log's bytes say, that they pass check 12, and what is handed over of a log that has dropped records.
-- Assumes nothing.
use Prim.Native.Nat.{ℕ, ◌+◌, ◌-◌, ◌*◌, ◌/◌, ◌%◌, ◌≤◌, ◌<◌}
use native.Mathlib.Omega.{arith}
use mathlib.Core.Bool.{true, false}
use mathlib.Core.List.{List, ◌++◌}
use mathlib.Core.Path.{◌≡◌, refl, ap, ap₂, ◌∙◌}
use lib.ListN.{length, get_or, length-drop}
use lib.Seq.{get_or-drop}
use borrow.Author.Tests.{le-leb, le-ltb}
use Rattle.trace.specs.Format.{record_count, skips_of, is_trimmed, dropped, records_of, total_records, malformed, from_record, SameRecord}
use Rattle.trace.specs.Making.{word_bytes, trimmed_bytes, trimmed}
use Rattle.trace.proofs.Laws.{well_formed_iff}
use Rattle.trace.proofs.Making.{word_back}
use Rattle.trace.proofs.Parts.{Cut}

-- A VERSION 3 LOG of the records s, before which n were dropped

module _ (n : ℕ) (s : List ℕ) where
  has_count : is_trimmed (trimmed_bytes n s) ≡ true
  has_count = le-leb 16 (length (trimmed_bytes n s)) (omega arith)

  -- "Version 3 treats letter 31 as version 2 does"
  pub trimmed_skips : skips_of (trimmed_bytes n s) ≡ true
  trimmed_skips = rw (le-leb 8 (length (trimmed_bytes n s)) (omega arith)) refl

  pub trimmed_records : records_of (trimmed_bytes n s) ≡ s
  trimmed_records = rw has_count refl

  module _ (fits : n ≤ 1000000) where
    -- the count is read back
    pub trimmed_dropped : dropped (trimmed_bytes n s) ≡ n
    trimmed_dropped =
        let high = word_back (n / 4294967296) (word_bytes (n % 4294967296) ++ s) (omega arith) in
        let low = word_back (n % 4294967296) s (omega arith) in
        let sum : n ≡ n / 4294967296 * 4294967296 + n % 4294967296 = omega arith in
        rw has_count (omega arith)

    pub trimmed_total : total_records (trimmed_bytes n s) ≡ n + record_count s
    trimmed_total = ap₂ (λ (dropped count : ℕ). dropped + count) trimmed_dropped (ap record_count trimmed_records)

    -- trimmed again from the same record on it is what it was
    pub trimmed_again : trimmed (trimmed_bytes n s) n ≡ trimmed_bytes n s
    trimmed_again =
        let none : n - n ≡ 0 = omega arith in
        rw (trimmed_dropped, trimmed_records, none) refl

  -- check 12 passes
  pub trimmed_well : length s % 8 ≡ 0 → n + record_count s ≤ 1000000 → malformed (trimmed_bytes n s) ≡ false
  trimmed_well whole few =
      (well_formed_iff (trimmed_bytes n s)).1
      (record {
        long = le-ltb (length (trimmed_bytes n s)) 16 (omega arith);
        header = refl;
        whole = omega arith;
        few = omega (arith, trimmed_total (omega arith));
      })

-- WHAT IS HANDED OVER of records r, before which `gone` of the records u were dropped: from record `first` on they are those of u
pub cut_behind : (u r : List ℕ) (gone first : ℕ) → gone + record_count r ≡ record_count u → gone ≤ first → first ≤ record_count u →
    ((i : ℕ) → first ≤ i → i < record_count u → SameRecord r (i - gone) u i) → Cut u (from_record (first - gone) r) first
cut_behind u r gone first size kept fits records =
    let rest = length-drop ((first - gone) * 8) r in
    record {
      part = record {
        inside = omega arith;
        same = λ i h b few.
            get_or-drop ((first - gone) * 8) r (i * 8 + b) 0 ∙ ap (λ (k : ℕ). get_or r k 0) (omega arith) ∙
            records (first + i) (omega arith) (omega arith) b few;
      };
      whole = omega arith;
    }
