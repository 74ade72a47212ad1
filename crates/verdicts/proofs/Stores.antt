-- The first bytes of a word, stored at once. Assumes nothing.
use Prim.Native.Nat.{ℕ, zero, suc, ◌+◌, ◌*◌, ◌/◌, ◌%◌, ◌≤◌, ◌<◌, ◌^◌}
use native.Mathlib.Omega.{arith}
use mathlib.Core.List.{List, [], ◌∷◌, ◌++◌, append_assoc}
use mathlib.Core.Logic.{⊎_elim}
use mathlib.Core.Path.{◌≡◌, refl, sym, ap, ◌∙◌}
use lib.ListN.{length, take, drop, length-append}
use lib.Seq.{sets, sets-eq, drop-drop, take_all}
use Rattle.std.proofs.lemmas.List.{take-append-le}
use Rattle.std.specs.Int.{w64, to_le_bytes}
use Rattle.mtl.proofs.Bounded.{le_or_lt}
use Rattle.verdicts.specs.Code.{first_bytes}

pub length_first : (n word : ℕ) → length (first_bytes n word) ≡ n
unfolding first_bytes
length_first zero word = refl
length_first (suc n) word =
    let before = length_first n word in
    let sum = length-append (first_bytes n word) (word / 2 ^ (8 * n) % 256 ∷ []) in
    omega arith

few_bytes : (m n word : ℕ) → n ≤ m → take n (first_bytes m word) ≡ first_bytes n word
unfolding first_bytes
few_bytes zero n word h = let none : n ≡ 0 = omega arith in rw none refl
few_bytes (suc m) n word h =
    let before = first_bytes m word in
    ⊎_elim
    (λ l. let all : suc m ≡ n = omega arith in ap (λ (k : ℕ). take n (first_bytes k word)) all ∙ take_all n (first_bytes n word) (omega (arith, length_first n word)))
    (λ l. take-append-le n before (word / 2 ^ (8 * m) % 256 ∷ []) (omega (arith, length_first m word)) ∙ few_bytes m n word (omega arith))
    (le_or_lt (suc m) n)

all_bytes : (word : ℕ) → to_le_bytes w64 word ≡ first_bytes 8 word
unfolding first_bytes
all_bytes word =
    let rest = drop 1 (to_le_bytes w64 word) in
    let first : word % 256 ≡ word / 1 % 256 = omega arith in
    ap (λ (v : ℕ). v ∷ rest) first

-- a part of the sheet, written over with the first n bytes of a word
pub stored : (sheet : List ℕ) (at n k word : ℕ) (part : List ℕ) → k ≡ n → n ≤ 8 → at + n ≤ length sheet → part ≡ take n (to_le_bytes w64 word) →
    take at sheet ++ (part ++ drop k (drop at sheet)) ≡ sets sheet at (first_bytes n word)
stored sheet at n k word part same few fits told =
    let bytes = first_bytes n word in
    let size = length_first n word in
    let is : part ≡ bytes = told ∙ ap (take n) (all_bytes word) ∙ few_bytes 8 n word few in
    ap (λ (l : List ℕ). take at sheet ++ (l ++ drop k (drop at sheet))) is
    ∙ ap (λ (l : List ℕ). take at sheet ++ (bytes ++ l)) (ap (λ (j : ℕ). drop j (drop at sheet)) (same ∙ sym size) ∙ drop-drop (length bytes) at sheet)
    ∙ sym (sets-eq bytes sheet at (omega arith) ∙ append_assoc (take at sheet) bytes (drop (at + length bytes) sheet))
