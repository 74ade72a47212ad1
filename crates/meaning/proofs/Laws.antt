-- The formulas of a rule taken together, and one by one; a verdict from the words of answers; verdicts on a longer log. Assumes nothing.
use Prim.Native.Nat.{ℕ, zero, suc, ◌-◌, ◌/◌, ◌≤◌, ◌<◌, ◌^◌}
use mathlib.Core.Bool.{Bool, true, false}
use mathlib.Core.Path.{◌≡◌, refl, sym, ap, ap₂, ◌∙◌}
use mathlib.Core.List.{List, [], ◌∷◌, map}
use native.Mathlib.Nat.{div-eq_of_lt}
use native.Mathlib.Omega.{arith}
use lib.Pow.{pow_pos}
use lib.ListN.{length, get_or, take, length-map}
use Rattle.mtl.specs.Formula.{Formula}
use Rattle.mtl.specs.Log.{Log, NeverFalls, Continues}
use Rattle.mtl.specs.Satisfaction.{sat}
use Rattle.mtl.specs.Progress.{settled_to, joint_progress}
use Rattle.mtl.proofs.Closing.{settled_stays}
use Rattle.bits.specs.Packed.{bit, Packed}
use Rattle.bits.proofs.Laws.{packed_not}
use Rattle.rule.specs.Postfix.{formula}
use Rattle.verdicts.specs.Bytes.{byte_of, answers_at}
use Rattle.verdicts.proofs.Bytes.{bit_of_byte}
use Rattle.meaning.specs.Verdicts.{answers_of, columns, verdict}

-- no formula has answered fewer positions than all together
pub joint_le : (fs : List Formula) (L : Log) (k : ℕ) → k < length fs → joint_progress fs L ≤ settled_to (formula fs k) L
unfolding joint_progress
joint_le [] L k h = absurd (omega arith)
joint_le (φ ∷ fs) L zero h = omega arith
joint_le (φ ∷ fs) L (suc k) h = omega (arith, joint_le fs L k (omega arith))

-- what each has answered, all have
pub joint_least : (fs : List Formula) (L : Log) (d : ℕ) → d ≤ L.size → ((k : ℕ) → k < length fs → d ≤ settled_to (formula fs k) L) →
    d ≤ joint_progress fs L
unfolding joint_progress
joint_least [] L d h each = h
joint_least (φ ∷ fs) L d h each =
    omega (arith, each 0 (omega arith), joint_least fs L d h (λ k l. each (suc k) (omega arith)))

-- the answers of the formulas from their words
answers_match : (fs : List Formula) (ws : List ℕ) (f : Formula → Bool) (i : ℕ) → length fs ≤ length ws →
    ((k : ℕ) → k < length fs → f (formula fs k) ≡ bit (get_or ws k 0) i) → map f fs ≡ answers_at (take (length fs) ws) i
unfolding answers_at
answers_match [] ws f i h same = refl
answers_match (φ ∷ fs) [] f i h same = absurd (omega arith)
answers_match (φ ∷ fs) (w ∷ ws) f i h same =
    ap₂ (λ (b : Bool) (bs : List Bool). b ∷ bs) (same 0 (omega arith))
    (answers_match fs ws f i (omega arith) (λ k l. same (suc k) (omega arith)))

-- a word of 64 bits, none of them set
no_bits : (i : ℕ) → bit 0 i ≡ false
no_bits i = let q : ◌≡◌ {A = ℕ} (0 / 2 ^ i) 0 = div-eq_of_lt (pow_pos i) in rw q

pub all_bits : (i : ℕ) → i < 64 → bit (2 ^ 64 - 1) i ≡ true
all_bits i h =
    let none : Packed (λ (j : ℕ). false) 0 64 0 = record { few = omega arith; same = λ j l. sym (no_bits j) } in
    sym ((packed_not (λ (j : ℕ). false) 0 64 0 (omega arith) none).same i h)

yes_alone : (ws : List ℕ) (i : ℕ) → 1 ≤ length ws → bit (get_or ws 0 0) i ≡ true → true ∷ [] ≡ answers_at (take 1 ws) i
unfolding answers_at
yes_alone [] i h e = absurd (omega arith)
yes_alone (w ∷ ws) i h e = ap (λ (b : Bool). b ∷ []) (sym e)

-- the verdict at the i-th position of words of answers
pub verdict_answers : (fs : List Formula) (L : Log) (p i : ℕ) (ws : List ℕ) → length ws ≡ 8 → length fs ≤ 8 → i < 64 →
    ((k : ℕ) → k < length fs → sat (formula fs k) L p ≡ bit (get_or ws k 0) i) → (length fs ≡ 0 → get_or ws 0 0 ≡ 2 ^ 64 - 1) →
    verdict fs L p ≡ byte_of (answers_at (take (columns fs) ws) i)
verdict_answers [] L p i ws long few h each none =
    ap byte_of (yes_alone ws i (omega arith) (ap (λ (w : ℕ). bit w i) (none refl) ∙ all_bits i h))
verdict_answers (φ ∷ fs) L p i ws long few h each none =
    let n : columns (φ ∷ fs) ≡ length (φ ∷ fs) = omega arith in
    ap byte_of (answers_match (φ ∷ fs) ws (λ ψ. sat ψ L p) i (omega arith) each ∙ ap (λ (m : ℕ). answers_at (take m ws) i) (sym n))

-- one answer a formula, and one of an empty rule
pub length_answers : (holds : Formula → Bool) (fs : List Formula) → length (answers_of holds fs) ≡ columns fs
length_answers holds [] = refl
length_answers holds (φ ∷ fs) = omega (arith, length-map (φ ∷ fs) holds)

-- formula k's answer
answer_at : (holds : Formula → Bool) (fs : List Formula) (k : ℕ) → k < length fs → get_or (answers_of holds fs) k false ≡ holds (formula fs k)
answer_at holds [] k h = absurd (omega arith)
answer_at holds (φ ∷ fs) zero h = refl
answer_at holds (φ ∷ []) (suc k) h = absurd (omega arith)
answer_at holds (φ ∷ (ψ ∷ fs)) (suc k) h = answer_at holds (ψ ∷ fs) k (omega arith)

-- is bit k of the verdict
pub verdict_bit : (fs : List Formula) (L : Log) (i k : ℕ) → k < length fs → bit (verdict fs L i) k ≡ sat (formula fs k) L i
verdict_bit fs L i k h =
    let holds : Formula → Bool = λ φ. sat φ L i in
    bit_of_byte (answers_of holds fs) k (omega (arith, length_answers holds fs)) ∙ answer_at holds fs k h

map_same : (fs : List Formula) (K : Log) (i : ℕ) (f g : Formula → Bool) → i < joint_progress fs K →
    ((φ : Formula) → i < settled_to φ K → f φ ≡ g φ) → map f fs ≡ map g fs
unfolding joint_progress
map_same [] K i f g h same = refl
map_same (φ ∷ fs) K i f g h same =
    ap₂ (λ (b : Bool) (bs : List Bool). b ∷ bs) (same φ (omega arith)) (map_same fs K i f g (omega arith) same)

-- at a settled position the answers are those of formulas settled there
pub answers_same : (fs : List Formula) (K : Log) (i : ℕ) (f g : Formula → Bool) → i < joint_progress fs K →
    ((φ : Formula) → i < settled_to φ K → f φ ≡ g φ) → answers_of f fs ≡ answers_of g fs
answers_same [] K i f g h same = refl
answers_same (φ ∷ fs) K i f g h same = map_same (φ ∷ fs) K i f g h same

pub verdict_stays : (fs : List Formula) (K L : Log) → Continues K L → NeverFalls L → (i : ℕ) → i < joint_progress fs K → verdict fs K i ≡ verdict fs L i
verdict_stays fs K L longer falls i h = ap byte_of (answers_same fs K i _ _ h (λ φ l. settled_stays φ K L longer falls i l))
