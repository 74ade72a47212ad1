-- A log with records behind it: its header and check 12, the log of the logic, and what a list of calls may bring of it. Assumes nothing.
use Prim.Native.Nat.{ℕ, suc, ◌+◌, ◌-◌, ◌*◌, ◌≤◌, ◌<◌}
use mathlib.Core.Bool.{Bool, true, false, cond, ◌&&◌}
use mathlib.Core.Logic.{⊎_elim}
use mathlib.Core.Path.{◌≡◌, refl, sym, ◌∙◌, ap, ap₂, subst}
use mathlib.Core.List.{List, ◌++◌}
use native.Mathlib.Nat.{zero-add}
use native.Mathlib.Omega.{arith}
use lib.Dec.{leb, ltb, eqb}
use lib.ListN.{length, get_or, take, length-append, get_or-append}
use lib.Seq.{drop-append-le, take-append-le, take_all, get_or-append-add}
use borrow.Author.Tests.{le-leb, le-ltb, ltb-false}
use Rattle.mtl.specs.Log.{Log, closing, NeverFalls}
use Rattle.mtl.specs.Wanted.{wanted, wanted_record}
use Rattle.mtl.proofs.Bounded.{le_or_lt}
use Rattle.trace.specs.Log.{log_of}
use Rattle.trace.proofs.Laws.{WellFormed, well_formed_iff, trimmed_long, long_enough, well_formed_records, Keeps}
use Rattle.meaning.specs.Verdicts.{formulas_of}
use Rattle.meaning.specs.Verdicts.{first_records, wanted_after}
use Rattle.calls.specs.Calls.{Call, given_by, brought_by}
use Rattle.calls.specs.Calls.{Untouched, Brings, BringsAfter, Calls}
use Rattle.calls.specs.Calls.OneCall.{refused, accepted, trimming}
use Rattle.calls.specs.Calls.Calls.{opened, and_then}
use Rattle.trace.specs.Format.{record_count, time_at, word_at, version_of, skips_of, is_trimmed, dropped, records_of, total_records, wrong_header, malformed, SameRecord}

-- a count that is there only in a version 3 log
both_long : (b : Bool) (m n : ℕ) → m ≤ n → ltb m (cond b 16 8) ≡ false → b && leb 16 n ≡ b && leb 16 m
both_long true m n h long = let l = ltb-false m 16 long in rw (le-leb 16 n (omega arith), le-leb 16 m l)
both_long false m n h long = refl

still_long : (b : Bool) (m n : ℕ) → m ≤ n → ltb m (cond b 16 8) ≡ false → ltb n (cond b 16 8) ≡ false
still_long true m n h long = let l = ltb-false m 16 long in le-ltb n 16 (omega arith)
still_long false m n h long = let l = ltb-false m 8 long in le-ltb n 8 (omega arith)

module _ (log more : List ℕ) (fine : malformed log ≡ false) where
  formed : WellFormed log
  formed = (well_formed_iff log).0 fine

  longer : length log ≤ length (log ++ more)
  longer = omega (arith, length-append log more)

  long : 8 ≤ length log
  long = long_enough log formed.long

  same_byte : (i : ℕ) → i < 8 → get_or (log ++ more) i 0 ≡ get_or log i 0
  same_byte i h = get_or-append log more 0 i (omega (arith, long))

  same_version : version_of (log ++ more) ≡ version_of log
  same_version = rw (same_byte 3 (omega arith), same_byte 4 (omega arith))

  pub same_skips : skips_of (log ++ more) ≡ skips_of log
  same_skips = rw (same_version, le-leb 8 (length log) long, le-leb 8 (length (log ++ more)) (omega (arith, long, longer)))

  same_trimmed : is_trimmed (log ++ more) ≡ is_trimmed log
  same_trimmed = rw same_version (both_long (eqb (version_of log) 3) (length log) (length (log ++ more)) longer formed.long)

  same_word : (at : ℕ) → at + 4 ≤ length log → word_at (log ++ more) at ≡ word_at log at
  same_word at h =
      rw (
        get_or-append log more 0 at (omega arith),
        get_or-append log more 0 (at + 1) (omega arith),
        get_or-append log more 0 (at + 2) (omega arith),
        get_or-append log more 0 (at + 3) (omega arith),
      )

  pub same_dropped : dropped (log ++ more) ≡ dropped log
  same_dropped = rw same_trimmed (by (is_trimmed log) (trimmed_long log))
    where
      by : (b : Bool) → (b ≡ true → 16 ≤ length log) →
          cond b (word_at (log ++ more) 8 * 4294967296 + word_at (log ++ more) 12) 0 ≡ cond b (word_at log 8 * 4294967296 + word_at log 12) 0
      by true h = let l = h refl in rw (same_word 8 (omega arith), same_word 12 (omega arith))
      by false h = refl

  begins : cond (is_trimmed log) 16 8 ≤ length log
  begins = by (is_trimmed log) (trimmed_long log)
    where
      by : (b : Bool) → (b ≡ true → 16 ≤ length log) → cond b 16 8 ≤ length log
      by true h = h refl
      by false h = long

  pub more_records : records_of (log ++ more) ≡ records_of log ++ more
  more_records = rw same_trimmed (drop-append-le (cond (is_trimmed log) 16 8) log more begins)

  -- whole records
  pub whole_records : length (records_of log) ≡ record_count (records_of log) * 8
  whole_records = (well_formed_records log fine).1.whole

  module _ (k : ℕ) (records : length more ≡ 8 * k) where
    pub more_total : total_records (log ++ more) ≡ total_records log + k
    more_total =
        let all = ap length more_records ∙ length-append (records_of log) more in
        let here = whole_records in
        omega (arith, same_dropped)

    same_header : wrong_header (log ++ more) ≡ wrong_header log
    same_header =
        rw (
          same_byte 0 (omega arith),
          same_byte 1 (omega arith),
          same_byte 2 (omega arith),
          same_version,
          same_byte 5 (omega arith),
          same_byte 6 (omega arith),
          same_byte 7 (omega arith),
        )

    -- check 12 passes as long as they are not too many
    pub more_well_formed : total_records log + k ≤ 1000000 → malformed (log ++ more) ≡ false
    more_well_formed few =
        let size = length-append log more in
        let enough = long in
        let whole = formed.whole in
        (well_formed_iff (log ++ more)).1
        (record {
          long = rw same_version (still_long (eqb (version_of log) 3) (length log) (length (log ++ more)) longer formed.long);
          header = same_header ∙ formed.header;
          whole = omega arith;
          few = omega (arith, more_total);
        })

-- THE LOG OF THE LOGIC

-- the times of all records, as `Untouched` has them
pub records_keep : (s : List ℕ) → NeverFalls (log_of false s) → Keeps s
records_keep s falls i j le h =
    let at : (k : ℕ) → time_at s (0 + k) ≡ time_at s k = λ k. ap (time_at s) (zero-add k) in
    let kept : time_at s (0 + i) ≤ time_at s (0 + j) = falls i j le h in
    omega (arith, at i, at j)

-- all of a log's records
pub all_first : (closed : Bool) (log : List ℕ) (n : ℕ) → length (records_of log) ≡ 8 * n →
    first_records closed log n ≡ closing closed (log_of (skips_of log) (records_of log))
all_first closed log n size = ap (λ (s : List ℕ). closing closed (log_of (skips_of log) s)) (take_all (8 * n) (records_of log) (omega arith))

module _ (log more : List ℕ) (fine : malformed log ≡ false) where
  -- records that the log has are what they were
  pub same_first : (closed : Bool) (m : ℕ) → m ≤ record_count (records_of log) → first_records closed (log ++ more) m ≡ first_records closed log m
  same_first closed m h =
      let whole = whole_records log more fine in
      ap₂ (λ (b : Bool) (s : List ℕ). closing closed (log_of b s)) (same_skips log more fine)
      (ap (take (8 * m)) (more_records log more fine) ∙ take-append-le (8 * m) (records_of log) more (omega arith))

  pub more_first : (closed : Bool) (n : ℕ) → length (records_of (log ++ more)) ≡ 8 * n →
      first_records closed (log ++ more) n ≡ closing closed (log_of (skips_of log) (records_of log ++ more))
  more_first closed n size =
      all_first closed (log ++ more) n size ∙
      ap₂ (λ (b : Bool) (s : List ℕ). closing closed (log_of b s)) (same_skips log more fine) (more_records log more fine)

  -- WHAT A LIST OF CALLS MAY BRING

  -- record i of the log
  same_record : (i : ℕ) → i < record_count (records_of log) → SameRecord (records_of log) i (records_of (log ++ more)) i
  same_record i h b few =
      let whole = whole_records log more fine in
      sym (ap (λ (s : List ℕ). get_or s (i * 8 + b) 0) (more_records log more fine) ∙ get_or-append (records_of log) more 0 (i * 8 + b) (omega arith))

  -- and the one behind them
  next_record : (i : ℕ) → i ≡ record_count (records_of log) → SameRecord more 0 (records_of (log ++ more)) i
  next_record i e b few =
      let whole = whole_records log more fine in
      let at : i * 8 + b ≡ length (records_of log) + (0 * 8 + b) = omega arith in
      sym (ap₂ (λ (s : List ℕ) (k : ℕ). get_or s k 0) (more_records log more fine) at ∙ get_or-append-add (records_of log) more (0 * 8 + b) 0)

  -- what it may bring of the log, it may bring of the longer one
  pub brings_still : (first m : ℕ) (log' : List ℕ) → Brings log first m log' → Brings (log ++ more) first m log'
  brings_still first m log' brings =
      let within = brings.within in
      let all = ap length (more_records log more fine) ∙ length-append (records_of log) more in
      record {
        well_formed = brings.well_formed;
        kind = brings.kind ∙ sym (same_skips log more fine);
        size = brings.size;
        within = omega arith;
        kept = brings.kept;
        same = λ i lo hi b few. brings.same i lo hi b few ∙ same_record i (omega arith) b few;
      }

  pub same_wanted : (rule : List ℕ) (d m : ℕ) → m ≤ record_count (records_of log) → wanted_after rule (log ++ more) d m ≡ wanted_after rule log d m
  same_wanted rule d m h = ap (λ (L : Log). wanted_record L m (wanted (formulas_of rule) d)) (same_first false m h)

  brings_after : (rule : List ℕ) (h : List Call) (m : ℕ) (log' : List ℕ) → BringsAfter rule log h m log' → BringsAfter rule (log ++ more) h m log'
  brings_after rule h m log' brought =
      let no_fewer = brought.no_fewer in
      let within = brought.brings.within in
      record {
        no_fewer = no_fewer;
        brings =
            subst (λ (first : ℕ). Brings (log ++ more) first m log') (sym (same_wanted rule (given_by h) (brought_by h) (omega arith)))
            (brings_still _ m log' brought.brings);
      }

  -- every list of calls over the log is one over the longer log
  pub calls_more : {rule : List ℕ} {h : List Call} {point : List ℕ} → Calls rule log h point → Calls rule (log ++ more) h point
  calls_more (opened lent p opens) = opened lent p opens
  calls_more (and_then calls p p' lends (refused closed rule' log' sheet n q sheet' resumes)) =
      and_then (calls_more calls) p p' lends (refused closed rule' log' sheet n q sheet' resumes)
  calls_more {rule} (and_then {h} calls p p' lends (accepted closed n log' sheet c rest q sheet' brought resumes)) =
      and_then (calls_more calls) p p' lends (accepted closed n log' sheet c rest q sheet' (brings_after rule h n log' brought) resumes)
  calls_more (and_then calls p p' lends (trimming rule' log' out a out' trims)) = and_then (calls_more calls) p p' lends (trimming rule' log' out a out' trims)

-- one record behind both, where all of the log is brought
module _ (log r : List ℕ) (fine : malformed log ≡ false) (eight : length r ≡ 8) (few : total_records log < 1000000) where
  abbrev all : ℕ
  all = record_count (records_of log)

  pub longer_length : length (records_of (log ++ r)) ≡ 8 * suc all
  longer_length =
      let whole = whole_records log r fine in
      omega (arith, ap length (more_records log r fine), length-append (records_of log) r)

  pub brings_longer : (first : ℕ) (log' : List ℕ) → Brings log first all log' → Brings (log ++ r) first (suc all) (log' ++ r)
  brings_longer first log' brings =
      let fine' = brings.well_formed in
      let size = brings.size in
      let kept = brings.kept in
      let dropped_is = same_dropped log' r fine' in
      let length_is = longer_length in
      record {
        well_formed = more_well_formed log' r fine' 1 eight (omega arith);
        kind = same_skips log' r fine' ∙ brings.kind ∙ sym (same_skips log r fine);
        size = omega (arith, more_total log' r fine' 1 eight);
        within = omega arith;
        kept = omega arith;
        same = λ i lo hi.
            rw dropped_is
            (⊎_elim
            (λ (last : all ≤ i).
            let before : i - dropped log' ≡ record_count (records_of log') = omega arith in
            λ b small. sym (next_record log' r fine' (i - dropped log') before b small) ∙ next_record log r fine i (omega arith) b small)
            (λ (old : i < all).
            λ b small.
            sym (same_record log' r fine' (i - dropped log') (omega arith) b small) ∙ brings.same i lo old b small ∙ same_record log r fine i old b small)
            (le_or_lt all i));
      }

  -- the same after the accepted calls of a list
  pub brings_after_longer : (rule : List ℕ) (h : List Call) (log' : List ℕ) → BringsAfter rule log h all log' →
      BringsAfter rule (log ++ r) h (suc all) (log' ++ r)
  brings_after_longer rule h log' brought =
      let no_fewer = brought.no_fewer in
      record {
        no_fewer = omega arith;
        brings =
            subst (λ (first : ℕ). Brings (log ++ r) first (suc all) (log' ++ r)) (sym (same_wanted log r fine rule (given_by h) (brought_by h) no_fewer))
            (brings_longer _ log' brought.brings);
      }

-- THE LOG NEVER TRIMMED

own_brings : (log : List ℕ) → Untouched log → (first : ℕ) → Brings log first (record_count (records_of log)) log
own_brings log untouched first =
    let none = untouched.undropped in
    record {
      well_formed = untouched.well_formed;
      kind = refl;
      size = omega arith;
      within = omega arith;
      kept = omega arith;
      same = λ i lo hi b few. ap (λ (k : ℕ). get_or (records_of log) k 0) (omega arith);
    }

-- as it was when it had fewer records, it may be brought at every call for which these are enough
pub never_trimmed : (rule log more : List ℕ) → Untouched log → (h : List Call) → brought_by h ≤ record_count (records_of log) →
    BringsAfter rule (log ++ more) h (record_count (records_of log)) log
never_trimmed rule log more untouched h enough =
    record {
      no_fewer = enough;
      brings = brings_still log more untouched.well_formed _ _ log (own_brings log untouched _);
    }
