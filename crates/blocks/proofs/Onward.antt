-- What is done to a block on any words: nothing, one thing after another, and what moves no head. Assumes nothing.
use Prim.Native.Nat.{ℕ, ◌≤◌, ◌<◌}
use native.Mathlib.Omega.{arith}
use mathlib.Core.List.{List}
use mathlib.Core.Path.{◌≡◌, refl, sym, ◌∙◌}
use Rattle.blocks.specs.Block.{word, taken, answered, head, Onward}

-- the heads stay where they are
pub still : {first : ℕ} (b b' : List ℕ) → taken b' ≡ taken b → answered b' ≡ answered b → head b' ≡ head b →
    ((i : ℕ) → first ≤ i → i < 16 → word b' i ≡ word b i) → Onward first b b'
still b b' at answer read same =
    record { heads = record { taken = omega arith; answered = omega arith; head = omega arith }; kept = same }

pub onward_refl : {first : ℕ} (b : List ℕ) → Onward first b b
onward_refl b = still b b refl refl refl (λ i h l. refl)

pub onward_trans : {first : ℕ} {b b' b'' : List ℕ} → Onward first b b' → Onward first b' b'' → Onward first b b''
onward_trans x y =
    let h = x.heads in
    let k = y.heads in
    record {
      heads = record { taken = omega arith; answered = omega arith; head = omega arith };
      kept = λ i l m. y.kept i l m ∙ x.kept i l m;
    }

-- fewer words are kept
pub onward_fewer : {first later : ℕ} {b b' : List ℕ} → first ≤ later → Onward first b b' → Onward later b b'
onward_fewer l x = record { heads = x.heads; kept = λ i h m. x.kept i (omega arith) m }

-- the same 16 words in other lists
pub onward_same : {first : ℕ} (b c b' c' : List ℕ) → ((i : ℕ) → i < 16 → word b i ≡ word c i) → ((i : ℕ) → i < 16 → word b' i ≡ word c' i) →
    Onward first b b' → Onward first c c'
onward_same b c b' c' same same' x =
    let h = x.heads in
    record {
      heads = record {
        taken = omega (arith, same 0 (omega arith), same' 0 (omega arith));
        answered = omega (arith, same 5 (omega arith), same' 5 (omega arith));
        head = omega (arith, same 11 (omega arith), same' 11 (omega arith));
      };
      kept = λ i l m. sym (same' i m) ∙ x.kept i l m ∙ same i m;
    }
