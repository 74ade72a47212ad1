-- Verdict bytes and the answers in them. Assumes nothing.
use Prim.Native.Nat.{ℕ, zero, suc, ◌+◌, ◌*◌, ◌/◌, ◌%◌, ◌≤◌, ◌<◌, ◌^◌}
use native.Mathlib.Nat.{pow-suc}
use native.Mathlib.Omega.{arith}
use mathlib.Core.Bool.{Bool, true, false}
use mathlib.Core.List.{List, [], ◌∷◌, ◌++◌}
use mathlib.Core.Logic.{⊎_elim}
use mathlib.Core.Path.{◌≡◌, refl, sym, ap, ap₂, ◌∙◌}
use lib.ListN.{length, get_or, length-append, get_or-append}
use lib.Seq.{get_or_at, ext_get_or}
use lib.Pow.{pow_mono}
use borrow.Author.Tests.{eq-eqb, ne_eqb}
use Rattle.mtl.proofs.Bounded.{le_or_lt}
use Rattle.bits.specs.Packed.{bit, number}
use Rattle.bits.proofs.Laws.{number_lt, bit_rest}
use Rattle.verdicts.specs.Bytes.{byte_of, answers_at, bytes_of}

-- the byte of one answer
pub byte_of_one : (b : Bool) → byte_of (b ∷ []) ≡ number b
unfolding byte_of
byte_of_one b = omega arith

pub byte_of_lt : (bs : List Bool) → byte_of bs < 2 ^ length bs
unfolding byte_of
byte_of_lt [] = omega arith
byte_of_lt (b ∷ bs) = omega (arith, byte_of_lt bs, number_lt b, pow-suc 2 (length bs))

pub length_answers : (words : List ℕ) (i : ℕ) → length (answers_at words i) ≡ length words
unfolding answers_at
length_answers [] i = refl
length_answers (w ∷ words) i = ap suc (length_answers words i)

-- up to eight answers fit into a byte
pub verdict_lt : (words : List ℕ) (i : ℕ) → length words ≤ 8 → byte_of (answers_at words i) < 256
verdict_lt words i few =
    let most : 2 ^ length (answers_at words i) ≤ 2 ^ 8 = pow_mono {j = 8} (rw (length_answers words i) few) in
    omega (arith, byte_of_lt (answers_at words i))

-- THE FIRST n VERDICTS

pub length_bytes : (words : List ℕ) (n : ℕ) → length (bytes_of words n) ≡ n
unfolding bytes_of
length_bytes words zero = refl
length_bytes words (suc n) =
    let e = length_bytes words n in
    let sum = length-append (bytes_of words n) (byte_of (answers_at words n) ∷ []) in
    omega arith

pub byte_at : (words : List ℕ) (n i : ℕ) → i < n → get_or (bytes_of words n) i 0 ≡ byte_of (answers_at words i)
unfolding bytes_of
byte_at words zero i h = absurd (omega arith)
byte_at words (suc n) i h =
    let e = length_bytes words n in
    let v = byte_of (answers_at words n) in
    ⊎_elim
    (λ (l : n ≤ i). let same : i ≡ n = omega arith in rw same (get_or_at (bytes_of words n) v [] 0 n e))
    (λ (l : i < n). get_or-append (bytes_of words n) (v ∷ []) 0 i (omega arith) ∙ byte_at words n i l)
    (le_or_lt n i)

-- THE ANSWERS IN A BYTE

first_bit : (b : Bool) (v : ℕ) → bit (number b + 2 * v) 0 ≡ b
first_bit true v = eq-eqb ((1 + 2 * v) / 2 ^ 0 % 2) 1 (omega arith)
first_bit false v = ne_eqb ((0 + 2 * v) / 2 ^ 0 % 2) 1 (omega arith)

half : (b : Bool) (v : ℕ) → (number b + 2 * v) / 2 ^ 1 ≡ v
half true v = omega arith
half false v = omega arith

next_bit : (b : Bool) (v k : ℕ) → bit (number b + 2 * v) (suc k) ≡ bit v k
next_bit b v k =
    let place : suc k ≡ 1 + k = omega arith in
    ap (bit (number b + 2 * v)) place ∙ sym (bit_rest (number b + 2 * v) 1 k) ∙ ap (λ (w : ℕ). bit w k) (half b v)

-- bit k is the k-th answer
pub bit_of_byte : (bs : List Bool) (k : ℕ) → k < length bs → bit (byte_of bs) k ≡ get_or bs k false
unfolding byte_of
bit_of_byte [] k h = absurd (omega arith)
bit_of_byte (b ∷ bs) zero h = first_bit b (byte_of bs)
bit_of_byte (b ∷ bs) (suc k) h = next_bit b (byte_of bs) k ∙ bit_of_byte bs k (omega arith)

-- which is that of word k
pub answer_at : (words : List ℕ) (i k : ℕ) → k < length words → get_or (answers_at words i) k false ≡ bit (get_or words k 0) i
unfolding answers_at
answer_at [] i k h = absurd (omega arith)
answer_at (w ∷ words) i zero h = refl
answer_at (w ∷ words) i (suc k) h = answer_at words i k (omega arith)

pub bit_of_verdict : (words : List ℕ) (i k : ℕ) → k < length words → bit (byte_of (answers_at words i)) k ≡ bit (get_or words k 0) i
bit_of_verdict words i k h =
    bit_of_byte (answers_at words i) k (omega (arith, length_answers words i)) ∙ answer_at words i k h

-- answers that agree formula by formula
pub answers_are : (words : List ℕ) (i : ℕ) (bs : List Bool) → length bs ≡ length words →
    ((k : ℕ) → k < length words → bit (get_or words k 0) i ≡ get_or bs k false) → answers_at words i ≡ bs
answers_are words i bs long same =
    let size = length_answers words i in
    ext_get_or false (answers_at words i) bs (size ∙ sym long)
    (λ k h. answer_at words i k (omega arith) ∙ same k (omega arith))

-- verdicts that agree position by position
pub bytes_same : (words words' : List ℕ) (n : ℕ) → ((i : ℕ) → i < n → answers_at words i ≡ answers_at words' i) →
    bytes_of words n ≡ bytes_of words' n
unfolding bytes_of
bytes_same words words' zero same = refl
bytes_same words words' (suc n) same =
    ap₂ (λ (l : List ℕ) (bs : List Bool). l ++ (byte_of bs ∷ []))
    (bytes_same words words' n (λ i h. same i (omega arith))) (same n (omega arith))
