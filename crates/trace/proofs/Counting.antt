-- How positions are counted: a head finds the record of its position. Assumes nothing.
use Prim.Native.Nat.{ℕ, zero, suc, ◌+◌, ◌-◌, ◌≤◌, ◌<◌}
use native.Mathlib.Nat.{add-zero}
use native.Mathlib.Omega.{arith}
use native.Mathlib.Decide.{le_ind}
use native.Mathlib.Numerals.{add-one}
use mathlib.Core.Bool.{Bool, true, false, cond}
use mathlib.Core.List.{List}
use mathlib.Core.Logic.{⊎_elim}
use mathlib.Core.Path.{◌≡◌, refl, sym, ap, ◌∙◌}
use Rattle.mtl.proofs.Bounded.{le_or_lt}
use Rattle.bits.specs.Packed.{number}
use Rattle.trace.specs.Format.{record_count}
use Rattle.trace.specs.Positions.{is_service, passing, seek, spot, moved, positions, Inside}

module _ (s : List ℕ) where
  -- one record more
  pub count_position : (n : ℕ) → is_service s n ≡ false → positions s (suc n) ≡ suc (positions s n)
  unfolding positions
  count_position n e = rw e

  pub count_service : (n : ℕ) → is_service s n ≡ true → positions s (suc n) ≡ positions s n
  unfolding positions
  count_service n e = rw e

  -- either, as the code counts it
  pub count_one : (n x : ℕ) → x ≡ number (is_service s n) → positions s n + (1 - x) ≡ positions s (n + 1)
  count_one n x e = rw (add-one n) (by (is_service s n) refl)
    where
      by : (b : Bool) → is_service s n ≡ b → positions s n + (1 - x) ≡ positions s (suc n)
      by true service = let h = count_service n service in let one : x ≡ 1 = e ∙ ap number service in omega arith
      by false plain = let h = count_position n plain in let none : x ≡ 0 = e ∙ ap number plain in omega arith

  count_next : (n : ℕ) → (positions s n ≤ positions s (suc n)) × (positions s (suc n) ≤ suc (positions s n))
  count_next n = by (is_service s n) refl
    where
      by : (b : Bool) → is_service s n ≡ b → (positions s n ≤ positions s (suc n)) × (positions s (suc n) ≤ suc (positions s n))
      by true e = let h = count_service n e in omega arith
      by false e = let h = count_position n e in omega arith

  pub count_grows : (m n : ℕ) → m ≤ n → positions s m ≤ positions s n
  count_grows m n h =
      le_ind (λ (k : ℕ). positions s m ≤ positions s k) (omega arith) (λ k l below. omega (arith, (count_next k).0)) n h

  -- and no faster than the records
  pub count_most : (m n : ℕ) → m ≤ n → positions s n + m ≤ positions s m + n
  count_most m n h =
      le_ind (λ (k : ℕ). positions s k + m ≤ positions s m + k) (omega arith) (λ k l below. omega (arith, (count_next k).1)) n h

  pub count_few : (n : ℕ) → positions s n ≤ n
  unfolding positions
  count_few n = omega (arith, count_most 0 n (omega arith))

  -- n records without a service record
  pub count_plain : (m n : ℕ) → ((i : ℕ) → i < n → is_service s (m + i) ≡ false) → positions s m + n ≡ positions s (m + n)
  count_plain m zero plain = add-zero (positions s m) ∙ ap (positions s) (sym (add-zero m))
  count_plain m (suc n) plain =
      let before = count_plain m n (λ i h. plain i (omega arith)) in
      let here = count_position (m + n) (plain n (omega arith)) in
      let next : m + suc n ≡ suc (m + n) = omega arith in
      rw next (omega arith)

  -- those of the first n records are all before record n
  pub count_first : (n found : ℕ) → positions s 0 + found ≡ positions s (0 + n) → found ≡ positions s n
  unfolding positions
  count_first n found e = let none : positions s 0 ≡ 0 = refl in let all : 0 + n ≡ n = omega arith in omega (arith, rw all at e)

  -- what passing n records from r on finds
  record Passing (n r p : ℕ) : Type 0 where
    low : r ≤ p
    high : p ≤ r + n
    plain : p < r + n → is_service s p ≡ false
    same : positions s p ≡ positions s r

  passes : (n r : ℕ) → Passing n r (passing s n r)
  unfolding passing
  passes zero r = record { low = omega arith; high = omega arith; plain = λ h. absurd (omega arith); same = refl }
  passes (suc n) r = by (passes n (suc r)) (is_service s r) refl
    where
      by : Passing n (suc r) (passing s n (suc r)) → (b : Bool) → is_service s r ≡ b → Passing (suc n) r (cond b (passing s n (suc r)) r)
      by f true e =
          let l = f.low in
          let h = f.high in
          record { low = omega arith; high = omega arith; plain = λ k. f.plain (omega arith); same = f.same ∙ count_service r e }
      by f false e = record { low = omega arith; high = omega arith; plain = λ k. e; same = refl }

  abbrev all : ℕ
  all = record_count s

  seeks : (r : ℕ) → r ≤ all → Passing (all - r) r (seek s r)
  seeks r h = passes (all - r) r

  pub seek_low : (r : ℕ) → r ≤ all → r ≤ seek s r
  seek_low r h = (seeks r h).low

  pub seek_high : (r : ℕ) → r ≤ all → seek s r ≤ all
  seek_high r h = omega (arith, (seeks r h).high)

  seek_plain : (r : ℕ) → r ≤ all → seek s r < all → is_service s (seek s r) ≡ false
  seek_plain r h l = (seeks r h).plain (omega arith)

  pub seek_same : (r : ℕ) → r ≤ all → positions s (seek s r) ≡ positions s r
  seek_same r h = (seeks r h).same

  -- there is one where more positions are counted
  seek_inside : (r : ℕ) → r ≤ all → positions s r < positions s all → seek s r < all
  seek_inside r h more =
      ⊎_elim
      (λ l. let e : seek s r ≡ all = omega (arith, seek_high r h) in let same = rw e at (seek_same r h) in absurd (omega arith))
      (λ l. l)
      (le_or_lt all (seek s r))

  -- and none where no more are
  seek_last : (r : ℕ) → r ≤ all → positions s all ≤ positions s r → seek s r ≡ all
  seek_last r h none =
      ⊎_elim
      (λ l. omega (arith, seek_high r h))
      (λ l. absurd (omega (arith, seek_same r h, count_position (seek s r) (seek_plain r h l), count_grows (suc (seek s r)) all l)))
      (le_or_lt all (seek s r))

  -- a position is told by its number
  pub one_record : (a b : ℕ) → a < all → b < all → is_service s a ≡ false → is_service s b ≡ false → positions s a ≡ positions s b → a ≡ b
  one_record a b ha hb ea eb e =
      ⊎_elim
      (λ l. ⊎_elim (λ k. omega arith) (λ k. absurd (omega (arith, count_position b eb, count_grows (suc b) a k))) (le_or_lt a b))
      (λ k. absurd (omega (arith, count_position a ea, count_grows (suc a) b k)))
      (le_or_lt b a)

  -- heads that have as many positions before them find the same record
  pub seek_told : (a b : ℕ) → a ≤ all → b ≤ all → positions s a ≡ positions s b → seek s a ≡ seek s b
  seek_told a b ha hb e =
      ⊎_elim
      (λ none. seek_last a ha none ∙ sym (seek_last b hb (omega arith)))
      (λ more.
      let ia = seek_inside a ha more in
      let ib = seek_inside b hb (omega arith) in
      one_record (seek s a) (seek s b) ia ib (seek_plain a ha ia) (seek_plain b hb ib) (seek_same a ha ∙ e ∙ sym (seek_same b hb)))
      (le_or_lt (positions s all) (positions s a))

  -- each position is the first behind the head
  pub spot_seek : (r i : ℕ) → spot s r i ≡ seek s (moved true s r i)
  unfolding spot moved
  spot_seek r zero = refl
  spot_seek r (suc i) = refl

  -- a head has as many positions more before it as it has passed
  pub moved_counts : (r n : ℕ) → r ≤ all → Inside true s r n → (moved true s r n ≤ all) × (positions s (moved true s r n) ≡ positions s r + n)
  unfolding moved
  moved_counts r zero h inside = (h, omega arith)
  moved_counts r (suc n) h inside =
      let before = moved_counts r n h (λ i l. inside i (omega arith)) in
      let here = inside n (omega arith) in
      let p = spot s r n in
      let plain : is_service s p ≡ false = rw (spot_seek r n) (seek_plain (moved true s r n) before.0 (rw (spot_seek r n) at here)) in
      let same : positions s p ≡ positions s (moved true s r n) = rw (spot_seek r n) (seek_same (moved true s r n) before.0) in
      (omega arith, omega (arith, count_position p plain, before.1))

  -- the record of position i
  pub record Holds (i p : ℕ) : Type 0 where
    pub inside : p < all
    pub plain : is_service s p ≡ false
    pub number : positions s p ≡ i

  pub spot_holds : (i : ℕ) → i < positions s all → Holds i (spot s 0 i)
  unfolding spot positions
  spot_holds zero h =
      let l : 0 ≤ all = omega arith in
      let inside = seek_inside 0 l h in
      record { inside = inside; plain = seek_plain 0 l inside; number = seek_same 0 l }
  spot_holds (suc i) h =
      let b = spot_holds i (omega arith) in
      let p = spot s 0 i in
      let l : suc p ≤ all = omega (arith, b.inside) in
      let c : positions s (suc p) ≡ suc i = count_position p b.plain ∙ ap suc b.number in
      let inside = seek_inside (suc p) l (omega arith) in
      record { inside = inside; plain = seek_plain (suc p) l inside; number = seek_same (suc p) l ∙ c }

  -- later positions stand in later records
  pub spot_rises : (i j : ℕ) → i < j → j < positions s all → spot s 0 i < spot s 0 j
  spot_rises i j h l =
      let a = spot_holds i (omega arith) in
      let b = spot_holds j l in
      ⊎_elim (λ k. absurd (omega (arith, a.number, b.number, count_grows (spot s 0 j) (spot s 0 i) k))) (λ k. k) (le_or_lt (spot s 0 j) (spot s 0 i))

  -- the head of position i has i positions before it
  pub head_counts : (i : ℕ) → i ≤ positions s all → (moved true s 0 i ≤ all) × (positions s (moved true s 0 i) ≡ i)
  unfolding moved positions
  head_counts zero h = (omega arith, refl)
  head_counts (suc i) h =
      let b = spot_holds i (omega arith) in
      (omega (arith, b.inside), count_position (spot s 0 i) b.plain ∙ ap suc b.number)

  -- a head that has i positions before it finds position i, or the end of the records behind the last
  pub head_finds : (i r : ℕ) → r ≤ all → positions s r ≡ i → i ≤ positions s all → seek s r ≡ spot s 0 i
  head_finds i r h e l =
      let counts = head_counts i l in
      seek_told r (moved true s 0 i) h counts.0 (e ∙ sym counts.1) ∙ sym (spot_seek 0 i)

  pub spot_last : spot s 0 (positions s all) ≡ all
  spot_last =
      let counts = head_counts (positions s all) (omega arith) in
      spot_seek 0 (positions s all) ∙ seek_last (moved true s 0 (positions s all)) counts.0 (omega (arith, counts.1))

  -- the record of position i has i positions before it
  pub spot_counts : (i : ℕ) → i ≤ positions s all → (spot s 0 i ≤ all) × (positions s (spot s 0 i) ≡ i)
  spot_counts i h =
      let counts = head_counts i h in
      let r = moved true s 0 i in
      rw (spot_seek 0 i) (seek_high r counts.0, seek_same r counts.0 ∙ counts.1)
