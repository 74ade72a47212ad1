-- Laws on logs made here: what was written is read back, and checks 12 and 14 pass.
-- Assumes nothing.
use Prim.Native.Nat.{ℕ, zero, suc, ◌+◌, ◌*◌, ◌/◌, ◌%◌, ◌≤◌, ◌<◌}
use mathlib.Core.List.{List, [], ◌++◌, append_assoc}
use mathlib.Core.Bool.{false, false≢true}
use mathlib.Core.Path.{◌≡◌, refl, sym, ap, ◌∙◌}
use mathlib.Core.Logic.{⊎_elim}
use native.Mathlib.Nat.{add_assoc, not-suc-le-zero}
use native.Mathlib.Numerals.{add-one}
use native.Mathlib.Omega.{arith}
use lib.Dec.{leb}
use borrow.Author.Tests.{le-ltb}
use lib.ListN.{length, get_or, take, drop, length-append}
use lib.Seq.{length-take-le, take_at, drop_at, drop-drop, sets, sets-eq, length-sets, get_or-append-add}
use Rattle.mtl.proofs.Bounded.{le_or_lt, false_iff, and_iff}
use Rattle.trace.specs.Format.{word_at, record_count, time_at, events_at, records_of, skips_of, malformed}
use Rattle.trace.specs.Order.{disordered}
use Rattle.trace.specs.Making.{log_header, word_bytes, record_bytes, records_bytes, log_bytes, trimmed_bytes, put}
use Rattle.trace.proofs.Laws.{well_formed_iff, ordered_iff}

-- stores one behind the other
pub stored : (buffer : List ℕ) (at : ℕ) (bytes : List ℕ) → at + length bytes ≤ length buffer → sets buffer at bytes ≡ put buffer at bytes
stored buffer at bytes fits = sets-eq bytes buffer at fits ∙ append_assoc (take at buffer) bytes (drop (at + length bytes) buffer)

pub length_put : (buffer : List ℕ) (at : ℕ) (bytes : List ℕ) → at + length bytes ≤ length buffer → length (put buffer at bytes) ≡ length buffer
length_put buffer at bytes fits = ap length (sym (stored buffer at bytes fits)) ∙ length-sets buffer at bytes

pub put_nothing : (buffer : List ℕ) (at : ℕ) → at ≤ length buffer → buffer ≡ put buffer at []
put_nothing buffer at fits = stored buffer at [] (omega arith)

-- a part written at once
pub put_part : (buffer : List ℕ) (at n : ℕ) (part bytes : List ℕ) → part ≡ bytes → length bytes ≡ n → take at buffer ++ (part ++ drop n (drop at buffer)) ≡ put buffer at bytes
put_part buffer at n part bytes same long =
    ap (λ (l : List ℕ). take at buffer ++ (l ++ drop n (drop at buffer))) same ∙
    ap (λ (l : List ℕ). take at buffer ++ (bytes ++ l)) (ap (λ (k : ℕ). drop k (drop at buffer)) (sym long) ∙ drop-drop (length bytes) at buffer)

-- bytes written behind bytes that were written: both at once
module _ (buffer : List ℕ) (at : ℕ) (first second : List ℕ) (fits : at + (length first + length second) ≤ length buffer) where
  front : length (take at buffer ++ first) ≡ at + length first
  front = simp length-append (omega (arith, length-take-le at buffer (omega arith)))

  grouped : put buffer at first ≡ (take at buffer ++ first) ++ drop (at + length first) buffer
  grouped = sym (append_assoc (take at buffer) first (drop (at + length first) buffer))

  kept : drop (at + length first + length second) (put buffer at first) ≡ drop (at + length (first ++ second)) buffer
  kept =
      sym (drop-drop (length second) (at + length first) (put buffer at first)) ∙
      ap (drop (length second)) (ap (drop (at + length first)) grouped ∙ drop_at (take at buffer ++ first) (drop (at + length first) buffer) (at + length first) front) ∙
      drop-drop (length second) (at + length first) buffer ∙
      ap (λ (k : ℕ). drop k buffer) sum
    where
      sum : at + length first + length second ≡ at + length (first ++ second)
      sum = omega (arith, length-append first second)

  pub put_behind : put (put buffer at first) (at + length first) second ≡ put buffer at (first ++ second)
  put_behind =
      ap (λ (l : List ℕ). l ++ (second ++ drop (at + length first + length second) (put buffer at first))) (ap (take (at + length first)) grouped ∙ take_at (take at buffer ++ first) (drop (at + length first) buffer) (at + length first) front) ∙
      ap (λ (l : List ℕ). (take at buffer ++ first) ++ (second ++ l)) kept ∙
      simp append_assoc

-- numbers read back

pub byte_behind : (begin rest : List ℕ) (n at : ℕ) → length begin ≡ n → get_or (begin ++ rest) (n + at) 0 ≡ get_or rest at 0
byte_behind begin rest n at e = ap (λ (k : ℕ). get_or (begin ++ rest) (k + at) 0) (sym e) ∙ get_or-append-add begin rest at 0

word_behind : (begin rest : List ℕ) (n at : ℕ) → length begin ≡ n → word_at (begin ++ rest) (n + at) ≡ word_at rest at
word_behind begin rest n at e =
    rw (
      add_assoc n at 1,
      add_assoc n at 2,
      add_assoc n at 3,
      byte_behind begin rest n at e,
      byte_behind begin rest n (at + 1) e,
      byte_behind begin rest n (at + 2) e,
      byte_behind begin rest n (at + 3) e,
    )

pub word_back : (w : ℕ) (rest : List ℕ) → w < 4294967296 → word_at (word_bytes w ++ rest) 0 ≡ w
word_back w rest h =
    let second : w / 65536 ≡ w / 256 / 256 = omega arith in
    let first : w / 16777216 ≡ w / 65536 / 256 = omega arith in
    let top : w / 16777216 % 256 ≡ w / 16777216 = omega arith in
    let upper : w / 65536 ≡ w / 16777216 * 256 + w / 65536 % 256 = omega arith in
    let lower : w / 256 ≡ w / 65536 * 256 + w / 256 % 256 = omega arith in
    let whole : w ≡ w / 256 * 256 + w % 256 = omega arith in
    omega arith

-- records read back, of a log of n records with these times and event sets
module _ (time events : ℕ → ℕ) where
  pub records_length : (n : ℕ) → length (records_bytes time events n) ≡ n * 8
  unfolding records_bytes
  records_length zero = refl
  records_length (suc n) =
      let e = records_length n in
      let sum = length-append (records_bytes time events n) (record_bytes (time n) (events n)) in
      omega arith

  pub records_count : (n : ℕ) → record_count (records_bytes time events n) ≡ n
  records_count n = omega (arith, records_length n)

  -- the bytes of n records from record i on
  abbrev FromRecord : (n i : ℕ) → Type 0
  FromRecord n i =
      (rest : List ℕ) × (records_bytes time events n ≡ records_bytes time events i ++ (record_bytes (time i) (events i) ++ rest))

  from_record : (n i : ℕ) → i < n → FromRecord n i
  unfolding records_bytes
  from_record zero i h = absurd (not-suc-le-zero h)
  from_record (suc n) i h = ⊎_elim last (λ l. before (from_record n i l)) (le_or_lt n i)
    where
      last : n ≤ i → FromRecord (suc n) i
      last l = let same : i ≡ n = omega arith in ([], rw same refl)

      before : FromRecord n i → FromRecord (suc n) i
      before (rest, e) =
          let more = record_bytes (time n) (events n) in
          (rest ++ more, ap (λ (s : List ℕ). s ++ more) e ∙ append_assoc (records_bytes time events i) (record_bytes (time i) (events i) ++ rest) more)

  -- the number at a place of record i
  number_at : (n i at : ℕ) (h : i < n) → word_at (records_bytes time events n) (i * 8 + at) ≡ word_at (record_bytes (time i) (events i) ++ (from_record n i h).0) at
  number_at n i at h =
      ap (λ (s : List ℕ). word_at s (i * 8 + at)) (from_record n i h).1 ∙
      word_behind (records_bytes time events i) (record_bytes (time i) (events i) ++ (from_record n i h).0) (i * 8) at (records_length i)

  module _ (n i : ℕ) (h : i < n) where
    pub time_back : time i < 4294967296 → time_at (records_bytes time events n) i ≡ time i
    time_back small =
        let none : i * 8 ≡ i * 8 + 0 = omega arith in
        ap (word_at (records_bytes time events n)) none ∙ number_at n i 0 h ∙ word_back (time i) (word_bytes (events i) ++ (from_record n i h).0) small

    pub events_back : events i < 4294967296 → events_at (records_bytes time events n) i ≡ events i
    events_back small =
        number_at n i 4 h ∙ word_behind (word_bytes (time i)) (word_bytes (events i) ++ (from_record n i h).0) 4 0 refl ∙
        word_back (events i) (from_record n i h).0 small

  -- check 12 passes
  pub made_well : (n : ℕ) → n ≤ 1000000 → malformed (log_bytes time events n) ≡ false
  made_well n few =
      let size = records_length n in
      let long = length-append (log_header 1) (records_bytes time events n) in
      (well_formed_iff (log_bytes time events n)).1
      (record { long = le-ltb (length (log_bytes time events n)) 8 (omega arith); header = refl; whole = omega arith; few = omega arith })

  -- version 1 has no service records
  pub made_plain : (n : ℕ) → skips_of (log_bytes time events n) ≡ false
  made_plain n = (false_iff (skips_of (log_bytes time events n))).1 (λ e. false≢true ((and_iff (leb 8 (length (log_bytes time events n))) false).0 e).1)

  -- check 14 passes for a first call, if the times do not fall
  pub made_ordered : (n : ℕ) → ((i : ℕ) → i < n → time i < 4294967296) → ((i j : ℕ) → i ≤ j → j < n → time i ≤ time j) →
      disordered (records_bytes time events n) 0 0 ≡ false
  made_ordered n small keeps =
      (ordered_iff (records_bytes time events n) 0 0).1 (
        λ i j le hi.
            let count = records_count n in
            let first = time_back n i (omega arith) (small i (omega arith)) in
            let second = time_back n j (omega arith) (small j (omega arith)) in
            let kept = keeps i j le (omega arith) in
            omega arith,
        λ h. omega arith,
      )

  -- the loop that writes the records behind the header: one more
  pub put_record : (buffer : List ℕ) (n : ℕ) → 8 + n * 8 + 8 ≤ length buffer →
      put (put buffer 8 (records_bytes time events n)) (8 + n * 8) (record_bytes (time n) (events n)) ≡ put buffer 8 (records_bytes time events (n + 1))
  unfolding records_bytes
  put_record buffer n fits =
      let size = records_length n in
      rw (← size, add-one) (put_behind buffer 8 (records_bytes time events n) (record_bytes (time n) (events n)) (omega arith))

  -- header and records
  pub put_log : (buffer : List ℕ) (n : ℕ) → 8 + n * 8 ≤ length buffer →
      put (put buffer 0 (log_header 1)) 8 (records_bytes time events n) ≡ log_bytes time events n ++ drop (8 + n * 8) buffer
  put_log buffer n fits =
      let size = records_length n in
      let total : 0 + length (log_bytes time events n) ≡ 8 + n * 8 = omega (arith, length-append (log_header 1) (records_bytes time events n)) in
      put_behind buffer 0 (log_header 1) (records_bytes time events n) (omega arith) ∙ ap (λ (k : ℕ). log_bytes time events n ++ drop k buffer) total

-- header, count and records of a trimmed log
pub put_trimmed : (buffer : List ℕ) (n : ℕ) (s : List ℕ) → 16 + length s ≤ length buffer →
    put (put (put buffer 0 (log_header 3)) 8 (record_bytes (n / 4294967296) (n % 4294967296))) 16 s ≡ put buffer 0 (trimmed_bytes n s)
put_trimmed buffer n s fits =
    let count = record_bytes (n / 4294967296) (n % 4294967296) in
    ap (λ (b : List ℕ). put b 16 s) (put_behind buffer 0 (log_header 3) count (omega arith)) ∙
    put_behind buffer 0 (log_header 3 ++ count) s (omega arith)
