-- TRIMMED LOGS: what a trimming answers, and that a log which may be brought may be brought trimmed, and grown. Assumes nothing.
use Prim.Native.Nat.{ℕ, ◌+◌, ◌*◌, ◌-◌, ◌≤◌, ◌<◌}
use mathlib.Core.Bool.{Bool, true, false, cond}
use mathlib.Core.Logic.{⊎_elim}
use mathlib.Core.Path.{◌≡◌, refl, sym, ◌∙◌, ap}
use mathlib.Core.List.{List, ◌++◌}
use native.Mathlib.Omega.{arith}
use lib.Dec.{eqb}
use lib.ListN.{length, get_or, take, drop, length-take, length-drop, length-append, get_or-append}
use lib.Seq.{get_or-take, get_or-drop, get_or-append-add, take_at}
use borrow.Author.Tests.{eq-eqb, eqb-true}
use Rattle.mtl.proofs.Bounded.{le_or_lt}
use Rattle.trace.specs.Format.{record_count, skips_of, dropped, records_of, records_from}
use Rattle.trace.specs.Making.{trimmed}
use Rattle.trace.proofs.Laws.{well_formed_records}
use Rattle.trace.proofs.Trimming.{trimmed_skips, trimmed_records, trimmed_dropped, trimmed_total, trimmed_well}
use Rattle.checks.specs.Refusal.{trim_refusal}
use Rattle.monitor.specs.Trim.{Answer, wrote, refused_with, trimmed_log, Trims}
use Rattle.calls.specs.Calls.{Brings, grown_by}

-- WHAT A TRIMMING ANSWERS

-- by whether the refusal's number n is 0
number_of : (b : Bool) (n size : ℕ) → eqb n 0 ≡ b → (cond b (wrote size) (refused_with n)).number ≡ n
number_of true n size e = sym (eqb-true n 0 e)
number_of false n size e = refl

module _ {rule log p out : List ℕ} {a : Answer} {out' : List ℕ} (trims : Trims rule log p out a out') where
  pub trim_number : a.number ≡ trim_refusal rule log p (length out)
  trim_number =
      let n = trim_refusal rule log p (length out) in
      ap (λ (x : Answer). x.number) trims.outcome ∙ number_of (eqb n 0) n (length (trimmed_log log p)) refl

  -- not refused, it wrote the trimmed log
  pub trim_writes : a.number ≡ 0 → (a.written ≡ length (trimmed_log log p)) × (take a.written out' ≡ trimmed_log log p)
  trim_writes none =
      let zero = eq-eqb (trim_refusal rule log p (length out)) 0 (sym trim_number ∙ none) in
      let is : a ≡ wrote (length (trimmed_log log p)) = rw zero at trims.outcome in
      let size = ap (λ (x : Answer). x.written) is in
      let accepted = ap (λ (x : Answer). x.refused) is in
      let bytes = rw accepted at trims.bytes in
      (size, ap (take a.written) bytes ∙ take_at (trimmed_log log p) _ a.written (sym size))

-- LOGS THAT MAY BE BROUGHT

module _ (log log' : List ℕ) (first n : ℕ) (brings : Brings log first n log') where
  -- also where a later record is the first wanted
  pub later_brings : (first' : ℕ) → first ≤ first' → Brings log first' n log'
  later_brings first' h =
      record {
        well_formed = brings.well_formed;
        kind = brings.kind;
        size = brings.size;
        within = brings.within;
        kept = omega (arith, brings.kept);
        same = λ i lo hi. brings.same i (omega arith) hi;
      }

  module _ (inside : first ≤ n) where
    abbrev rest : List ℕ
    rest = records_from log' first

    rest_length : length rest ≡ 8 * (n - first)
    rest_length =
        let whole = (well_formed_records log' brings.well_formed).1.whole in
        let size = brings.size in
        let kept = brings.kept in
        let cut = length-drop ((first - dropped log') * 8) (records_of log') in
        omega arith

    pub length_trimmed : length (trimmed log' first) ≡ 16 + 8 * (n - first)
    length_trimmed = omega (arith, rest_length)

    -- grown to m records
    module _ (limit : record_count (records_of log) ≤ 1000000) (kind : skips_of log ≡ true) (m : ℕ) (more : n ≤ m) (within : m ≤ record_count (records_of log)) where
      abbrev added : List ℕ
      added = grown_by log n m

      added_length : length added ≡ 8 * (m - n)
      added_length =
          let behind = length-drop (8 * n) (records_of log) in
          let part = length-take (8 * (m - n)) (drop (8 * n) (records_of log)) in
          omega arith

      sum : length (rest ++ added) ≡ 8 * (m - first)
      sum = omega (arith, length-append rest added, rest_length, added_length)

      few : first ≤ 1000000
      few = omega arith

      -- byte b of record i
      same_byte : (i : ℕ) → first ≤ i → i < m → (b : ℕ) → b < 8 → get_or (rest ++ added) ((i - first) * 8 + b) 0 ≡ get_or (records_of log) (i * 8 + b) 0
      same_byte i lo hi b eight =
          let long = rest_length in
          ⊎_elim
          (λ (new : n ≤ i).
          let at : (i - first) * 8 + b ≡ length rest + ((i - n) * 8 + b) = omega arith in
          ap (λ (k : ℕ). get_or (rest ++ added) k 0) at ∙ get_or-append-add rest added ((i - n) * 8 + b) 0 ∙
          get_or-take (8 * (m - n)) (drop (8 * n) (records_of log)) ((i - n) * 8 + b) 0 (omega arith) ∙
          get_or-drop (8 * n) (records_of log) ((i - n) * 8 + b) 0 ∙ ap (λ (k : ℕ). get_or (records_of log) k 0) (omega arith))
          (λ (old : i < n).
          let kept = brings.kept in
          get_or-append rest added 0 ((i - first) * 8 + b) (omega arith) ∙
          get_or-drop ((first - dropped log') * 8) (records_of log') ((i - first) * 8 + b) 0 ∙
          ap (λ (k : ℕ). get_or (records_of log') k 0) (omega arith) ∙ brings.same i lo old b eight)
          (le_or_lt n i)

      -- THEOREM: what trimming writes of it may be brought in its place, as it is and with more records
      pub trimmed_brings : Brings log first m (trimmed log' first ++ added)
      trimmed_brings =
          let size = sum in
          let gone = trimmed_dropped first (rest ++ added) few in
          record {
            well_formed = trimmed_well first (rest ++ added) (omega arith) (omega arith);
            kind = trimmed_skips first (rest ++ added) ∙ sym kind;
            size = trimmed_total first (rest ++ added) few ∙ omega arith;
            within = within;
            kept = omega arith;
            same = λ i lo hi b eight. rw (gone, trimmed_records first (rest ++ added)) (same_byte i lo hi b eight);
          }
