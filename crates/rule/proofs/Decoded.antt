-- The decoded rule has 128 entries, each as it stands in the bytes; those behind the last one that the bytes hold are blank.
use Prim.Native.Nat.{ℕ, zero, suc, ◌+◌, ◌*◌, ◌≤◌, ◌<◌}
use native.Mathlib.Nat.{le_of_suc-le-suc, eq-or-lt_of_le}
use native.Mathlib.Omega.{arith}
use mathlib.Core.Path.{◌≡◌, refl, sym, ap₂, ◌∙◌}
use mathlib.Core.Logic.{⊎_elim}
use mathlib.Core.List.{List, [], ◌∷◌}
use lib.ListN.{length, get_or, set, length-set, get_or-replicate, length-replicate, get_or-eq_default}
use lib.Seq.{get_or-set_same, get_or-set_other}
use Rattle.mtl.proofs.Bounded.{le_or_lt}
use Rattle.rule.specs.Bytes.{byte}
use Rattle.rule.specs.Entries.{entry_of, first_entries, decoded, blank, entry}
use Rattle.rule.specs.Contract.{filled}
use Rattle.rule.proofs.Laws.{grown_length, grown_at}

pub length_decoded : (s : List ℕ) → length (decoded s) ≡ 128
unfolding first_entries
length_decoded s = grown_length blank (first_entries s) (entry_of s) refl (λ n. refl) 128

pub decoded_at : (s : List ℕ) (k : ℕ) → k < 128 → entry (decoded s) k ≡ entry_of s k
unfolding first_entries
decoded_at s k h = grown_at blank (first_entries s) (entry_of s) refl (λ n. refl) 128 k h

-- lists of one length that agree at every index are the same
same_list : {A : Type 0} (d : A) (l m : List A) → length l ≡ length m → ((k : ℕ) → k < length l → get_or l k d ≡ get_or m k d) → l ≡ m
same_list d [] [] e h = refl
same_list d [] (y ∷ ys) e h = absurd (omega arith)
same_list d (x ∷ xs) [] e h = absurd (omega arith)
same_list d (x ∷ xs) (y ∷ ys) e h = ap₂ ◌∷◌ (h 0 (omega arith)) (same_list d xs ys (omega arith) (λ k l. h (suc k) (omega arith)))

pub length_filled : (s : List ℕ) (n : ℕ) → length (filled s n) ≡ 128
unfolding filled
length_filled s zero = length-replicate 128 blank
length_filled s (suc n) = simp length-set (length_filled s n)

filled_at : (s : List ℕ) (n k : ℕ) → n ≤ 128 → k < n → entry (filled s n) k ≡ entry_of s k
unfolding filled
filled_at s zero k few h = absurd (omega arith)
filled_at s (suc n) k few h =
    ⊎_elim last (λ l. earlier l (filled_at s n k (omega arith) l)) (eq-or-lt_of_le (le_of_suc-le-suc h))
  where
    last : k ≡ n → entry (set (filled s n) n (entry_of s n)) k ≡ entry_of s k
    last e = rw e (get_or-set_same (filled s n) n (entry_of s n) blank (omega (arith, length_filled s n)))

    earlier : k < n → entry (filled s n) k ≡ entry_of s k → entry (set (filled s n) n (entry_of s n)) k ≡ entry_of s k
    earlier l known = get_or-set_other (filled s n) n k (entry_of s n) blank (λ e. omega arith) ∙ known

filled_behind : (s : List ℕ) (n k : ℕ) → n ≤ k → k < 128 → entry (filled s n) k ≡ blank
unfolding filled
filled_behind s zero k h l = get_or-replicate 128 k blank blank l
filled_behind s (suc n) k h l =
    get_or-set_other (filled s n) n k (entry_of s n) blank (λ e. omega arith) ∙ filled_behind s n k (omega arith) l

-- a byte past the end reads as 0
behind : (s : List ℕ) (n k : ℕ) → length s ≤ 8 + n * 10 → n ≤ k → entry_of s k ≡ blank
behind s n k short h =
    let at = 8 + k * 10 in
    simp (
      past at (omega arith),
      past (at + 1) (omega arith),
      past (at + 2) (omega arith),
      past (at + 2 + 1) (omega arith),
      past (at + 2 + 2) (omega arith),
      past (at + 2 + 3) (omega arith),
      past (at + 6) (omega arith),
      past (at + 6 + 1) (omega arith),
      past (at + 6 + 2) (omega arith),
      past (at + 6 + 3) (omega arith),
    )
  where
    past : (i : ℕ) → length s ≤ i → byte s i ≡ 0
    past i l = get_or-eq_default s 0 {n = i} l

-- bytes that end with entry n - 1 are decoded whole by their first n entries
pub decoded_filled : (s : List ℕ) (n : ℕ) → n ≤ 128 → length s ≤ 8 + n * 10 → filled s n ≡ decoded s
decoded_filled s n few short =
    same_list blank (filled s n) (decoded s) (length_filled s n ∙ sym (length_decoded s)) (λ k h. at k (omega (arith, length_filled s n)))
  where
    at : (k : ℕ) → k < 128 → entry (filled s n) k ≡ entry (decoded s) k
    at k h =
        ⊎_elim
        (λ past. filled_behind s n k past h ∙ sym (decoded_at s k h ∙ behind s n k short past))
        (λ within. filled_at s n k few within ∙ sym (decoded_at s k h))
        (le_or_lt n k)
