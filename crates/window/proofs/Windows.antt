-- WINDOWS: what the loops that pass and copy records have done, and what a window has then. Assumes nothing.
use Prim.Native.Nat.{ℕ, zero, suc, ◌+◌, ◌-◌, ◌*◌, ◌/◌, ◌≤◌, ◌<◌, max}
use native.Mathlib.Omega.{arith}
use native.Mathlib.Nat.{add-zero, zero-add}
use native.Mathlib.Numerals.{add-one}
use mathlib.Core.Bool.{Bool, true, false, ◌&&◌, ◌||◌}
use mathlib.Core.Bool.{not as negate}
use mathlib.Core.List.{List, [], ◌∷◌, ◌++◌}
use mathlib.Core.Logic.{◌⊎◌, inl, inr, ⊎_elim}
use mathlib.Core.Path.{◌≡◌, refl, sym, ap, subst, ◌∙◌}
use lib.Dec.{ltb, leb, eqb}
use lib.ListN.{length, get_or, take, drop, length-drop, get_or-append}
use lib.Seq.{get_or-take, get_or-drop, drop-cons, length-take-le}
use borrow.Author.Tests.{lt-ltb, ltb-true, not-true}
use Rattle.std.specs.Int.{w64, to_le_bytes}
use Rattle.std.proofs.lemmas.Nat.{le_bytes_8}
use Rattle.mtl.proofs.Bounded.{le_or_lt, true_or_false, true_and_false, and_iff, leb_iff, any_false_iff}
use Rattle.mtl.specs.Satisfaction.{any}
use Rattle.bits.specs.Packed.{number, Packed}
use Rattle.bits.proofs.Laws.{number_bit, packed_none, packed_same}
use Rattle.trace.specs.Format.{record_count, events_at, has_letter, SameRecord}
use Rattle.trace.specs.Positions.{is_service, spot, place, moved, positions, Inside}
use Rattle.trace.specs.Making.{put}
use Rattle.trace.specs.Letters.{whole_at}
use Rattle.window.specs.View.{slice_first, skips, in_slice}
use Rattle.window.specs.Window.{some_service, dense, own_part, copied, record_of, letter_at, Counted, Transcribed, Copied, Mixed, Lettered, Keeps, Opened, Behind, BehindBut, Gathered, Windowed, Passed, Found}
use Rattle.window.specs.declared.KeptCopy.{KeptCopy}
use Rattle.window.specs.declared.Letters.{Letters}
use Rattle.window.specs.declared.Window.{Window}
use Rattle.window.specs.declared.view.View.{View}
use Rattle.trace.proofs.Making.{byte_behind, length_put}
use Rattle.trace.proofs.Counting.{spot_last, head_finds, count_one, count_grows, count_most}
use Rattle.trace.proofs.Positions.{seek_position, spot_service, spot_position, spot_past, spot_plain}

-- what a loop's test of two parts says, and what it says when the loop ends
pub goes_on : (i n at end : ℕ) → ltb i n && ltb at end ≡ true → (i < n) × (at < end)
goes_on i n at end e = let both = (and_iff (ltb i n) (ltb at end)).0 e in (ltb-true i n both.0, ltb-true at end both.1)

pub stops : (i n at end : ℕ) → ltb i n && ltb at end ≡ false → (n ≤ i) ⊎ (end ≤ at)
stops i n at end e =
    ⊎_elim inl
    (λ l. ⊎_elim inr (λ h. absurd (true_and_false ((and_iff (ltb i n) (ltb at end)).1 (lt-ltb i n l, lt-ltb at end h)) e)) (le_or_lt end at))
    (le_or_lt n i)

-- what a refusal of one record more says: none is left to pass, or none is there
pub ended : {n k left at end count : ℕ} → (left < 1) ⊎ (end < at + 1) → (n ≤ k + left) × (count ≤ end) → (n ≤ k) ⊎ (count ≤ at)
ended refused (most, there) = ⊎_elim (λ h. inl (omega arith)) (λ h. inr (omega arith)) refused

-- letter 31 is the highest bit of the first byte of the event set
pub top_bit : (s : List ℕ) (i : ℕ) → ((k : ℕ) → get_or s k 0 < 256) → get_or s (i * 8 + 4) 0 / 128 ≡ number (is_service s i)
top_bit s i byte =
    let at = i * 8 + 4 in
    sym (number_bit (events_at s i) 31 ∙ omega (arith, byte at, byte (at + 1), byte (at + 2), byte (at + 3)))

-- where none of the first i is a service record, those behind them decide
pub some_further : (s : List ℕ) (from i n : ℕ) → some_service s from i ≡ false → some_service s from (i + n) ≡ some_service s (from + i) n
unfolding any
some_further s from i zero none = rw (add-zero i) none
some_further s from i (suc n) none =
    let next : i + suc n ≡ suc (i + n) = omega arith in
    let here : from + (i + n) ≡ from + i + n = omega arith in
    rw (next, some_further s from i n none, here)

no_number : (b : Bool) → number b ≡ 0 → b ≡ false
no_number true e = absurd (omega arith)
no_number false e = refl

-- PASSING

-- k of n positions from `from` on are passed, and the head stands at record `at`: what is left is what stands from there on
pub record Going (s : List ℕ) (from n k at : ℕ) : Type 0 where
  pub few : k ≤ n
  pub low : from ≤ at
  pub high : at ≤ max from (record_count s)
  pub left : (j : ℕ) → spot s from (k + j) ≡ spot s at j
  pub head : k ≡ n → at ≡ moved true s from n

module _ (s : List ℕ) (from n : ℕ) where
  pub going_none : Going s from n 0 from
  unfolding moved
  going_none =
      record { few = omega arith; low = omega arith; high = omega arith; left = λ j. ap (spot s from) (omega arith); head = λ e. rw (← e) }

  module _ (k at : ℕ) (g : Going s from n k at) (below : k < n) (inside : at < record_count s) where
    -- a position
    going_here : is_service s at ≡ false → spot s from k ≡ at
    unfolding spot
    going_here plain = ap (spot s from) (sym (add-zero k)) ∙ g.left 0 ∙ seek_position s at inside plain

    going_more : is_service s at ≡ false → Going s from n (k + 1) (at + 1)
    unfolding moved
    going_more plain =
        let low = g.low in
        record {
          few = omega arith;
          low = omega arith;
          high = omega arith;
          left = λ j. ap (spot s from) (omega arith) ∙ g.left (suc j) ∙ spot_position s at inside plain j ∙ rw add-one;
          head = λ e. subst (λ (m : ℕ). at + 1 ≡ moved true s from m) (sym (add-one k) ∙ e) (add-one at ∙ ap suc (sym (going_here plain)));
        }

    -- a service record
    going_past : is_service s at ≡ true → Going s from n (k + 0) (at + 1)
    going_past service =
        let low = g.low in
        record {
          few = omega arith;
          low = omega arith;
          high = omega arith;
          left = λ j. ap (spot s from) (omega arith) ∙ g.left j ∙ rw add-one (spot_service s at inside service j);
          head = λ e. absurd (omega arith);
        }

    -- either, as the code counts it
    pub going_on : (x : ℕ) → x ≡ number (is_service s at) → Going s from n (k + (1 - x)) (at + 1)
    going_on x e = by (is_service s at) refl
      where
        by : (b : Bool) → is_service s at ≡ b → Going s from n (k + (1 - x)) (at + 1)
        by true service = let one : x ≡ 1 = e ∙ ap number service in rw one (going_past service)
        by false plain = let none : x ≡ 0 = e ∙ ap number plain in rw none (going_more plain)

  -- m records, of which r are positions
  module _ (k at : ℕ) (g : Going s from n k at) where
    pub going_group : (m : ℕ) → k + m ≤ n → at + m ≤ record_count s → (r : ℕ) → positions s at + r ≡ positions s (at + m) → Going s from n (k + r) (at + m)
    going_group zero h inside r e =
        let none : r ≡ 0 = omega (arith, ap (positions s) (add-zero at)) in
        rw (none, add-zero at, add-zero k) g
    going_group (suc m) h inside r e =
        let x = number (is_service s (at + m)) in
        let here : at + suc m ≡ at + m + 1 = omega arith in
        let all = rw here at e in
        let one = count_one s (at + m) x refl in
        let low = count_grows s at (at + m) (omega arith) in
        let high = count_most s at (at + m) (omega arith) in
        let before = positions s (at + m) - positions s at in
        let sum : k + r ≡ k + before + (1 - x) = omega arith in
        rw (here, sum) (going_on (k + before) (at + m) (going_group m (omega arith) (omega arith) before (omega arith)) (omega arith) (omega arith) x refl)

  -- no more to pass, or no more records: the positions that are there are all passed
  module _ (k at : ℕ) (g : Going s from n k at) (ended : (n ≤ k) ⊎ (record_count s ≤ at)) where
    pub going_all : Inside true s from n → k ≡ n
    going_all inside =
        ⊎_elim
        (λ l. omega (arith, g.few))
        (λ past.
        ⊎_elim
        (λ l. omega (arith, g.few))
        (λ l.
        let here : spot s from k ≡ spot s at 0 = ap (spot s from) (sym (add-zero k)) ∙ g.left 0 in
        absurd (omega (arith, inside k l, spot_past s at past 0)))
        (le_or_lt n k))
        ended

    pub going_behind : Behind s from n at
    going_behind = record { onward = g.low; bounded = g.high; end = λ inside. g.head (going_all inside) }

-- COUNTING A FEW RECORDS

module _ (s : List ℕ) (from : ℕ) where
  pub counted_none : Counted s from 0 0
  counted_none = record { few = omega arith; sum = add-zero (positions s from) ∙ ap (positions s) (sym (add-zero from)) }

  pub counted_on : (i r x : ℕ) → x ≡ number (is_service s (from + i)) → Counted s from i r → Counted s from (i + 1) (r + (1 - x))
  counted_on i r x e c =
      let next : from + (i + 1) ≡ from + i + 1 = omega arith in
      let few = c.few in
      let sum = c.sum in
      record { few = omega arith; sum = rw next (omega (arith, count_one s (from + i) x e)) }

  pub counted_join : (i m a b : ℕ) → Counted s from i a → Counted s (from + i) m b → Counted s from (i + m) (a + b)
  counted_join i m a b c d =
      let sum : from + (i + m) ≡ from + i + m = omega arith in
      record { few = omega (arith, c.few, d.few); sum = rw sum (omega (arith, c.sum, d.sum)) }

  -- those behind them are what stands behind the records
  pub counted_left : (i r : ℕ) → Counted s from i r → from + i ≤ record_count s → (j : ℕ) → spot s from (r + j) ≡ spot s (from + i) j
  counted_left i r c inside =
      rw zero-add at (going_group s from i 0 from (going_none s from i) i (omega arith) inside r c.sum).left

  -- where a position follows, it is the next
  pub counted_here : (i r : ℕ) → Counted s from i r → from + i < record_count s → is_service s (from + i) ≡ false → spot s from r ≡ from + i
  unfolding spot
  counted_here i r c inside plain =
      ap (spot s from) (sym (add-zero r)) ∙ counted_left i r c (omega arith) 0 ∙ seek_position s (from + i) inside plain

  -- where none is a service record, all are positions
  pub counted_all : (n : ℕ) → some_service s from n ≡ false → Counted s from n n
  counted_all n none = at n (omega arith)
    where
      at : (i : ℕ) → i ≤ n → Counted s from i i
      at zero h = counted_none
      at (suc i) h =
          let plain = (any_false_iff n (λ j. is_service s (from + j))).0 none i (omega arith) in
          rw (← add-one) (counted_on i i 0 (sym (ap number plain)) (at i (omega arith)))

-- from the first record on
pub counted_whole : (s : List ℕ) (n r : ℕ) → Counted s 0 n r → r ≡ positions s n
unfolding positions
counted_whole s n r c = sym (zero-add r) ∙ c.sum ∙ ap (positions s) (zero-add n)

-- COPYING

-- n bytes from byte at + k on
unfoldable bytes : (s : List ℕ) (at n k : ℕ) → List ℕ
bytes s at zero k = []
bytes s at (suc n) k = get_or s (at + k) 0 ∷ bytes s at n (suc k)

listed : (s : List ℕ) (at n k : ℕ) → at + k + n ≤ length s → take n (drop (at + k) s) ≡ bytes s at n k
unfolding bytes
listed s at zero k h = refl
listed s at (suc n) k h =
    let next : suc (at + k) ≡ at + suc k = omega arith in
    ap (take (suc n)) (drop-cons s (at + k) 0 (omega arith)) ∙
    ap (λ (l : List ℕ). get_or s (at + k) 0 ∷ l) (ap (λ (j : ℕ). take n (drop j s)) next ∙ listed s at n (suc k) (omega arith))

-- up to eight bytes written where record k stands
module _ (copy bytes : List ℕ) (k : ℕ) (few : length bytes ≤ 8) (room : k * 8 + 8 ≤ length copy) where
  pub written_long : length (put copy (k * 8) bytes) ≡ length copy
  written_long = length_put copy (k * 8) bytes (omega arith)

  pub written_here : (b : ℕ) → b < length bytes → get_or (put copy (k * 8) bytes) (k * 8 + b) 0 ≡ get_or bytes b 0
  written_here b h =
      byte_behind (take (k * 8) copy) _ (k * 8) b (length-take-le (k * 8) copy (omega arith)) ∙ get_or-append bytes _ 0 b h

  pub written_before : (j : ℕ) → j < k → SameRecord (put copy (k * 8) bytes) j copy j
  written_before j l b h =
      let long = length-take-le (k * 8) copy (omega arith) in
      get_or-append (take (k * 8) copy) _ 0 (j * 8 + b) (omega arith) ∙ get_or-take (k * 8) copy (j * 8 + b) 0 (omega arith)

  pub written_after : (j : ℕ) → k < j → SameRecord (put copy (k * 8) bytes) j copy j
  written_after j l b h =
      let n = length bytes in
      let rest = drop (k * 8 + n) copy in
      let m = j * 8 + b - (k * 8 + n) in
      let behind : k * 8 + (n + m) ≡ j * 8 + b = omega arith in
      let there : k * 8 + n + m ≡ j * 8 + b = omega arith in
      ap (λ (i : ℕ). get_or (put copy (k * 8) bytes) i 0) (sym behind) ∙
      byte_behind (take (k * 8) copy) (bytes ++ rest) (k * 8) (n + m) (length-take-le (k * 8) copy (omega arith)) ∙
      byte_behind bytes rest n m refl ∙
      get_or-drop (k * 8 + n) copy m 0 ∙
      ap (λ (i : ℕ). get_or copy i 0) there

module _ (s : List ℕ) (i k : ℕ) (copy : List ℕ) (inside : i < record_count s) (room : k * 8 + 8 ≤ length copy) where
  record_long : length (record_of s i) ≡ 8
  record_long = let rest = length-drop (i * 8) s in length-take-le 8 (drop (i * 8) s) (omega arith)

  record_few : length (record_of s i) ≤ 8
  record_few = omega (arith, record_long)

  abbrev pub its_bytes : List ℕ
  its_bytes =
      get_or s (i * 8) 0 ∷ get_or s (i * 8 + 1) 0 ∷ get_or s (i * 8 + 2) 0 ∷ get_or s (i * 8 + 3) 0 ∷
      get_or s (i * 8 + 4) 0 ∷ get_or s (i * 8 + 5) 0 ∷ get_or s (i * 8 + 6) 0 ∷ get_or s (i * 8 + 7) 0 ∷ []

  record_is : its_bytes ≡ record_of s i
  unfolding bytes
  record_is = sym (rw (add-zero (i * 8)) at (listed s (i * 8) 8 0 (omega arith)))

  module _ (byte : (j : ℕ) → get_or s j 0 < 256) where
    byte_is : (b : ℕ) → get_or its_bytes b 0 < 256
    byte_is zero = byte (i * 8)
    byte_is (suc zero) = byte (i * 8 + 1)
    byte_is (suc (suc zero)) = byte (i * 8 + 2)
    byte_is (suc (suc (suc zero))) = byte (i * 8 + 3)
    byte_is (suc (suc (suc (suc zero)))) = byte (i * 8 + 4)
    byte_is (suc (suc (suc (suc (suc zero))))) = byte (i * 8 + 5)
    byte_is (suc (suc (suc (suc (suc (suc zero)))))) = byte (i * 8 + 6)
    byte_is (suc (suc (suc (suc (suc (suc (suc zero))))))) = byte (i * 8 + 7)
    byte_is (suc (suc (suc (suc (suc (suc (suc (suc b)))))))) = omega arith

    -- the record, read as one number and written
    pub copied_by : {word : ℕ} {after : List ℕ} → word ≡ whole_at s i → after ≡ put copy (k * 8) (to_le_bytes w64 word) → after ≡ put copy (k * 8) (record_of s i)
    copied_by {word} read e = e ∙ ap (put copy (k * 8)) (le_bytes_8 its_bytes word refl byte_is read ∙ record_is)

  pub copied_long : length (put copy (k * 8) (record_of s i)) ≡ length copy
  copied_long = written_long copy (record_of s i) k record_few room

  pub copied_here : SameRecord (put copy (k * 8) (record_of s i)) k s i
  copied_here b h =
      written_here copy (record_of s i) k record_few room b (omega (arith, record_long)) ∙ get_or-take 8 (drop (i * 8) s) b 0 h ∙ get_or-drop (i * 8) s b 0

  pub copied_before : (j : ℕ) → j < k → SameRecord (put copy (k * 8) (record_of s i)) j copy j
  copied_before = written_before copy (record_of s i) k record_few room

  pub copied_after : (j : ℕ) → k < j → SameRecord (put copy (k * 8) (record_of s i)) j copy j
  copied_after = written_after copy (record_of s i) k record_few room

  pub transcribed_one : {after : List ℕ} → after ≡ put copy (k * 8) (record_of s i) → Transcribed s i 1 copy k after
  transcribed_one e =
      rw e
      record {
        long = copied_long;
        before = copied_before;
        here = λ j h. let first : j ≡ 0 = omega arith in rw (first, add-zero k, add-zero i) copied_here;
        after = λ j h. copied_after j (omega arith);
      }

-- records copied as they are, and more behind them
module _ (s : List ℕ) (from n m : ℕ) {copy : List ℕ} (k : ℕ) {now next : List ℕ} where
  pub transcribed_more : Transcribed s from n copy k now → Transcribed s (from + n) m now (k + n) next → Transcribed s from (n + m) copy k next
  transcribed_more first more =
      record {
        long = more.long ∙ first.long;
        before = λ j h b byte. more.before j (omega arith) b byte ∙ first.before j h b byte;
        here = λ j h. ⊎_elim (λ l. new j l h) (λ l b byte. more.before (k + j) (omega arith) b byte ∙ first.here j l b byte) (le_or_lt n j);
        after = λ j h b byte. more.after j (omega arith) b byte ∙ first.after j (omega arith) b byte;
      }
    where
      new : (j : ℕ) → n ≤ j → j < n + m → SameRecord next (k + j) s (from + j)
      new j l h =
          let number : k + n + (j - n) ≡ k + j = omega arith in
          let record_number : from + n + (j - n) ≡ from + j = omega arith in
          rw (number, record_number) at (more.here (j - n) (omega arith))

module _ (s : List ℕ) (from n : ℕ) {copy : List ℕ} (k : ℕ) {now : List ℕ} (whole : Transcribed s from n copy k now) where
  -- where none is a service record, all are positions
  pub copied_plain : from + n ≤ record_count s → some_service s from n ≡ false → Copied s from n copy k now n
  copied_plain inside none =
      record {
        counted = counted_all s from n none;
        long = whole.long;
        before = whole.before;
        here = λ j h.
            rw (spot_plain s from n inside ((any_false_iff n (λ i. is_service s (from + i))).0 none) j h) (whole.here j h);
        after = whole.after;
      }

-- i of a few records from `from` on are copied, from number k on
module _ (s : List ℕ) (from : ℕ) (copy : List ℕ) (k : ℕ) where
  -- one more, as number k + r: it stays if it is a position
  pub copied_on : (i r x : ℕ) (now next : List ℕ) → from + i < record_count s → (k + r) * 8 + 8 ≤ length now → x ≡ number (is_service s (from + i)) →
      next ≡ put now ((k + r) * 8) (record_of s (from + i)) → Copied s from i copy k now r → Copied s from (i + 1) copy k next (r + (1 - x))
  copied_on i r x now next inside room e is so_far =
      rw is
      record {
        counted = counted_on s from i r x e so_far.counted;
        long = copied_long s (from + i) (k + r) now inside room ∙ so_far.long;
        before = λ j h b byte. older j (omega arith) b byte ∙ so_far.before j h b byte;
        here = λ j h. ⊎_elim (λ l. last j l h) (λ l b byte. older (k + j) (omega arith) b byte ∙ so_far.here j l b byte) (le_or_lt r j);
        after = λ j h b byte.
            copied_after s (from + i) (k + r) now inside room j (omega (arith, so_far.counted.few)) b byte ∙ so_far.after j (omega arith) b byte;
      }
    where
      older : (j : ℕ) → j < k + r → SameRecord (put now ((k + r) * 8) (record_of s (from + i))) j now j
      older = copied_before s (from + i) (k + r) now inside room

      last : (j : ℕ) → r ≤ j → j < r + (1 - x) → SameRecord (put now ((k + r) * 8) (record_of s (from + i))) (k + j) s (spot s from j)
      last j l h =
          ⊎_elim
          (λ service. let one : x ≡ 1 = e ∙ ap number service in absurd (omega arith))
          (λ plain.
          let same : j ≡ r = omega arith in
          rw (same, counted_here s from i r so_far.counted inside plain) (copied_here s (from + i) (k + r) now inside room))
          (true_or_false (is_service s (from + i)))

-- the records of those passed stand in the copy
pub record Gathering (s : List ℕ) (from k at : ℕ) (copy : List ℕ) : Type 0 where
  pub going : Going s from 65 k at
  pub counted : positions s from + k ≡ positions s at
  pub long : length copy ≡ 520
  pub done : (j : ℕ) → j < k → SameRecord copy j s (spot s from j)

module _ (s : List ℕ) (from : ℕ) where
  pub gathering_group : (k at m r : ℕ) (copy copy' : List ℕ) → Gathering s from k at copy → k + m ≤ 65 → at + m ≤ record_count s → Copied s at m copy k copy' r →
      Gathering s from (k + r) (at + m) copy'
  gathering_group k at m r copy copy' g few inside copied =
      record {
        going = going_group s from 65 k at g.going m few inside r copied.counted.sum;
        counted = omega (arith, g.counted, copied.counted.sum);
        long = copied.long ∙ g.long;
        done = λ j h. ⊎_elim (λ l. new j l h) (λ l b byte. copied.before j l b byte ∙ g.done j l b byte) (le_or_lt k j);
      }
    where
      new : (j : ℕ) → k ≤ j → j < k + r → SameRecord copy' j s (spot s from j)
      new j l h =
          let same : k + (j - k) ≡ j = omega arith in
          let place = rw same at (g.going.left (j - k)) in
          rw place (rw same at (copied.here (j - k) (omega arith)))

  pub gathered : (k at : ℕ) (copy : List ℕ) → Gathering s from k at copy → (65 ≤ k) ⊎ (record_count s ≤ at) → Gathered s from copy (record { end = at; count = k })
  gathered k at copy g ended =
      record {
        long = g.long;
        holds = record {
          few = g.going.few;
          onward = g.going.low;
          bounded = g.going.high;
          counted = g.counted;
          at = g.done;
        };
        most = λ n few inside. ⊎_elim (λ l. l) (λ l. absurd (none_left n few inside l)) (le_or_lt n k);
      }
    where
      none_left : (n : ℕ) → n ≤ 65 → Inside true s from n → k < n → ⊥
      none_left n few inside l =
          ⊎_elim
          (λ all. omega arith)
          (λ past.
          let here : spot s from k ≡ spot s at 0 = ap (spot s from) (sym (add-zero k)) ∙ g.going.left 0 in
          omega (arith, inside k l, spot_past s at past 0))
          ended

-- BACK FROM AN END

-- of n positions before `end` all but `left` are passed, down to record `at`
pub record Down (s : List ℕ) (from end n left at : ℕ) : Type 0 where
  pub few : left ≤ n
  pub low : from ≤ at
  pub high : at ≤ end
  pub counted : positions s at + (n - left) ≡ positions s end

module _ (s : List ℕ) (from end n : ℕ) where
  module _ (left at : ℕ) (d : Down s from end n left at) where
    pub down_on : (x : ℕ) → from < at → x ≡ number (is_service s (at - 1)) → x ≤ 1 → 1 - x ≤ left → Down s from end n (left - (1 - x)) (at - 1)
    down_on x inside is small some =
        let few = d.few in
        let high = d.high in
        let counted = d.counted in
        let here : (at - 1) + 1 ≡ at = omega arith in
        let one = rw here at (count_one s (at - 1) x is) in
        record { few = omega arith; low = omega arith; high = omega arith; counted = omega arith }

    -- the record before it is a position, and none is left to pass
    pub down_here : end ≤ max from (record_count s) → (x : ℕ) → from < at → x ≡ number (is_service s (at - 1)) → x ≤ 1 → left < 1 - x → BehindBut s from end n at
    unfolding moved
    down_here bound x inside is small none =
        record {
          onward = d.low;
          bounded = d.high;
          at = λ m some all.
              let i = at - 1 - from in
              let j = m - 1 in
              let high = d.high in
              let here : from + i ≡ at - 1 = omega arith in
              let next : (at - 1) + 1 ≡ at = omega arith in
              let plain : is_service s (from + i) ≡ false = rw here (no_number (is_service s (at - 1)) (omega arith)) in
              let one = rw next at (count_one s (at - 1) x is) in
              let most = count_most s from (from + i) (omega arith) in
              let sum : positions s from + j ≡ positions s (from + i) = rw here (omega (arith, d.counted)) in
              let spotted = counted_here s from i j (record { few = omega arith; sum = sum }) (omega arith) plain in
              let last : m ≡ suc j = omega arith in
              rw last (omega arith);
        }

-- OPENING

module _ (skips : Bool) (s : List ℕ) (at n : ℕ) where
  -- what it is to be dense
  pub dense_fits : dense skips s at n ≡ true → at + n ≤ record_count s
  dense_fits e = (leb_iff (at + n) (record_count s)).0 ((and_iff (leb (at + n) (record_count s)) (negate (skips && some_service s at n))).0 e).0

  -- where none is passed over, it is enough that the records are there
  pub plain_dense : negate skips && leb (at + n) (record_count s) ≡ true → dense skips s at n ≡ true
  plain_dense e =
      let both = (and_iff (negate skips) (leb (at + n) (record_count s))).0 e in
      rw (not-true skips both.0, both.1)

  dense_plain : dense skips s at n ≡ true → skips ≡ true → (i : ℕ) → i < n → is_service s (at + i) ≡ false
  dense_plain e kind =
      let none = not-true (skips && some_service s at n) ((and_iff (leb (at + n) (record_count s)) (negate (skips && some_service s at n))).0 e).1 in
      (any_false_iff n (λ i. is_service s (at + i))).0 (rw kind at none)

  place_dense : (kind : Bool) → skips ≡ kind → dense skips s at n ≡ true → (i : ℕ) → i < n → place kind s at i ≡ at + i
  place_dense true kind e i h = spot_plain s at n (dense_fits e) (dense_plain e kind) i h
  place_dense false kind e i h = refl

  moved_dense : dense skips s at n ≡ true → (m : ℕ) → m ≤ n → moved skips s at m ≡ at + m
  unfolding moved
  moved_dense e zero h = sym (add-zero at)
  moved_dense e (suc m) h = let here = place_dense skips refl e m h in omega arith

  -- records that are there, of which none is passed over or none is marked
  pub clear_dense : leb (at + n) (record_count s) ≡ true → (skips ≡ true → some_service s at n ≡ false) → dense skips s at n ≡ true
  clear_dense fits none = by skips refl
    where
      by : (kind : Bool) → skips ≡ kind → dense kind s at n ≡ true
      by true kind = rw (fits, none kind)
      by false kind = rw fits

  pub opened_dense : (copy : KeptCopy) → Keeps s copy → dense skips s at n ≡ true → Opened skips s at n (own_part at n) copy
  opened_dense copy keeps e =
      let fits = dense_fits e in
      record {
        start = refl;
        size = omega arith;
        own = λ told. e;
        mixed = λ told. absurd (true_and_false refl told);
        long = let rest = length-drop (at * 8) s in omega arith;
        keeps = keeps;
        shows = λ inside i h b few.
            get_or-drop (at * 8) s (i * 8 + b) 0 ∙
            ap (λ (j : ℕ). get_or s j 0) (let here = place_dense skips refl e i h in omega arith);
        onward = omega arith;
        bounded = omega arith;
        counted = λ told. absurd (true_and_false refl told);
      }

  -- no position is passed
  stays : (r : ℕ) → Behind s at n r → n ≤ 0 → r ≡ moved skips s at n
  unfolding moved
  stays r behind h =
      let none : n ≡ 0 = omega arith in
      let here : r ≡ moved true s at n = behind.end (λ i l. absurd (omega arith)) in
      rw none (rw none at here)

  -- the head behind
  mixed_end : (r : ℕ) → Mixed skips s at n → Behind s at n r → Inside skips s at n → r ≡ moved skips s at n
  mixed_end r mixed behind inside =
      ⊎_elim
      (λ none. stays r behind none)
      (λ some. let kind = mixed inside some in rw kind (behind.end (rw kind at inside)))
      (le_or_lt n 0)

-- LETTERS

module _ (skips : Bool) (s : List ℕ) (letter at n : ℕ) where
  pub lettered_dense : (bits : ℕ) → dense skips s at n ≡ true → Packed (has_letter s letter) at n bits →
      Lettered skips s letter at n (record { bits = bits; end = at + n })
  lettered_dense bits e packed =
      let fits = dense_fits skips s at n e in
      record {
        answers = λ inside.
            packed_same (has_letter s letter) (letter_at skips s letter at) at 0 n bits
            (λ i h. rw (zero-add i) (ap (has_letter s letter) (place_dense skips s at n skips refl e i h)))
            packed;
        onward = omega arith;
        bounded = omega arith;
        end = λ inside. sym (moved_dense skips s at n e n (omega arith));
      }

  pub lettered_mixed : (r : Letters) → Mixed skips s at n → Lettered true s letter at n r → Lettered skips s letter at n r
  lettered_mixed r mixed l =
      record {
        answers = λ inside.
            ⊎_elim
            (λ none. let zero : n ≡ 0 = omega arith in rw zero (packed_none (letter_at skips s letter at) 0 r.bits))
            (λ some. let kind = mixed inside some in rw kind (l.answers (rw kind at inside)))
            (le_or_lt n 0);
        onward = l.onward;
        bounded = l.bounded;
        end = mixed_end skips s at n r.end mixed (record { onward = l.onward; bounded = l.bounded; end = l.end });
      }

-- AFTER SOME OF ITS POSITIONS

module _ (v : View) (s : List ℕ) (head n : ℕ) (w : Window) where
  module _ (windowed : Windowed v s head n w) (some : 0 < n) where
    abbrev at : ℕ
    at = in_slice (slice_first v) head

    pub begins : w.at ≡ at
    begins = windowed.3.start

    pub passed_dense : w.dense ≡ true → Passed v s head n w (slice_first v + w.at + n)
    passed_dense e =
        let start = begins in
        record {
          onward = omega arith;
          still = λ none. absurd (omega arith);
          behind = λ m copy few opened inside more.
              let here = moved_dense (skips v) s at m (opened.own e) n few in
              omega arith;
        }

-- THE FIRST POSITION FROM A HEAD ON

module _ (skips : Bool) (s : List ℕ) (at : ℕ) where
  -- whether the record at the head is a position, as the code tests it
  pub position_dense : (x : ℕ) → leb (at + 1) (record_count s) ≡ true → x ≡ number (is_service s at) → negate skips || eqb x 0 ≡ dense skips s at 1
  unfolding any
  position_dense x fits is = rw (is, fits, add-zero at) (by skips (is_service s at))
    where
      by : (b here : Bool) → negate b || eqb (number here) 0 ≡ negate (b && here)
      by true true = refl
      by true false = refl
      by false here = refl

  -- then it is the first from there on
  pub first_here : dense skips s at 1 ≡ true → (at < record_count s) × (place skips s at 0 ≡ at)
  first_here e = (omega (arith, dense_fits skips s at 1 e), place_dense skips s at 1 skips refl e 0 (omega arith) ∙ add-zero at)

  -- else the first is the one before the record behind it
  pub first_behind : dense skips s at 1 ≡ false → (end : ℕ) → Behind s at 1 end → Inside skips s at 1 →
      (0 < end) × (end ≤ record_count s) × (end - 1 ≡ place skips s at 0)
  unfolding moved
  first_behind e end behind inside = by skips e inside
    where
      by : (b : Bool) → dense b s at 1 ≡ false → Inside b s at 1 → (0 < end) × (end ≤ record_count s) × (end - 1 ≡ place b s at 0)
      by true f here = let is = behind.end here in let room = here 0 (omega arith) in (omega arith, omega arith, omega arith)
      by false f here =
          let room = here 0 (omega arith) in
          absurd (true_and_false ((and_iff (leb (at + 1) (record_count s)) true).1 ((leb_iff (at + 1) (record_count s)).1 (omega arith), refl)) f)

  -- where the record at the head is not known to be a position, the first is the one before the record behind it
  pub first_mixed : negate skips && leb (at + 1) (record_count s) ≡ false → (end : ℕ) → Behind s at 1 end → Inside skips s at 1 →
      (0 < end) × (end ≤ record_count s) × (end - 1 ≡ place skips s at 0)
  unfolding moved
  first_mixed e end behind inside = by skips e inside
    where
      by : (b : Bool) → negate b && leb (at + 1) (record_count s) ≡ false → Inside b s at 1 → (0 < end) × (end ≤ record_count s) × (end - 1 ≡ place b s at 0)
      by true f here = let is = behind.end here in let room = here 0 (omega arith) in (omega arith, omega arith, omega arith)
      by false f here =
          let room = here 0 (omega arith) in
          absurd (true_and_false ((leb_iff (at + 1) (record_count s)).1 (omega arith)) f)

-- THE FIRST RECORD WANTED

-- of n positions counted from the end down all but `left`, and record p is the last one
pub record Back (s : List ℕ) (n left p : ℕ) : Type 0 where
  pub few : left ≤ n
  pub inside : p ≤ record_count s
  pub counted : positions s p + (n - left) ≡ positions s (record_count s)
  pub plain : left ≡ 0 → p < record_count s → is_service s p ≡ false

pub back_on : (s : List ℕ) (n left p x : ℕ) → Back s n left p → 0 < left → 0 < p → x ≡ number (is_service s (p - 1)) → x ≤ 1 →
    Back s n (left - (1 - x)) (p - 1)
back_on s n left p x b some inside is small =
    let few = b.few in
    let high = b.inside in
    let counted = b.counted in
    let here : (p - 1) + 1 ≡ p = omega arith in
    let one = rw here at (count_one s (p - 1) x is) in
    record {
      few = omega arith;
      inside = omega arith;
      counted = omega arith;
      plain = λ none h. no_number (is_service s (p - 1)) (omega arith);
    }

pub back_found : (s : List ℕ) (n left p : ℕ) → Back s n left p → (left ≤ 0) ⊎ (p ≤ 0) → Found true s n p
unfolding positions
back_found s n left p b ends =
    record {
      bounded = b.inside;
      at = λ enough.
          let few = b.few in
          let counted = b.counted in
          let all : left ≡ 0 =
          ⊎_elim (λ h. omega arith) (λ h. let none : p ≡ 0 = omega arith in let c = rw none at counted in omega arith) ends in
          let number : positions s p ≡ positions s (record_count s) - n = omega arith in
          ⊎_elim
          (λ h. let last : p ≡ record_count s = omega (arith, b.inside) in let none : positions s (record_count s) ≡ positions s (record_count s) - n = rw last at number in last ∙ sym (spot_last s) ∙ ap (spot s 0) none)
          (λ h. sym (seek_position s p h (b.plain all h)) ∙ head_finds s (positions s (record_count s) - n) p b.inside number (omega arith))
          (le_or_lt (record_count s) p);
    }
