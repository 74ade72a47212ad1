-- The words of a block after a chain of stores at literal indices. Assumes nothing.
use Prim.Native.Nat.{ℕ, zero, suc, ◌+◌, ◌-◌, ◌/◌, ◌≤◌, ◌<◌, ◌^◌, min}
use native.Mathlib.Omega.{arith}
use mathlib.Core.Bool.{Bool, true, false, cond}
use mathlib.Core.List.{List, [], ◌∷◌}
use mathlib.Core.Path.{◌≡◌, refl, ap, ◌∙◌}
use lib.Dec.{eqb}
use lib.ListN.{length, set, length-set}
use lib.Seq.{get_or-set_same, get_or-set_other}
use borrow.Author.Tests.{eqb-true, eqb-false}
use Rattle.mtl.specs.Formula.{Formula}
use Rattle.mtl.specs.Log.{Log}
use Rattle.mtl.specs.Satisfaction.{sat}
use Rattle.mtl.specs.Progress.{settled_to}
use Rattle.mtl.proofs.Closing.{settled_le_size}
use Rattle.bits.proofs.Laws.{packed_none, packed_rest}
use Rattle.window.specs.View.{total}
use Rattle.window.specs.declared.view.View.{View}
use Rattle.blocks.specs.Block.{word, taken, left_count, right_count, answered, head, Onward, Buffer}
use Rattle.blocks.specs.Step.{empty, left_to_do}

-- a store: an index and the word put there
pub record Store : Type 0 where
  pub index : ℕ
  pub value : ℕ

abbrev pub put : ℕ → ℕ → Store
put i v = record { index = i; value = v }

-- the stores in the order of the code, the first first: `stores (put 0 x ∷ put 3 y ∷ []) b` is `set (set b 0 x) 3 y`
abbrev pub stores : List Store → List ℕ → List ℕ
stores [] b = b
stores (w ∷ ws) b = stores ws (set b w.index w.value)

-- word k after them, from the words before
abbrev pub after : List Store → (ℕ → ℕ) → ℕ → ℕ
after [] f k = f k
after (w ∷ ws) f k = after ws (λ j. cond (eqb j w.index) w.value (f j)) k

-- every index lies in a block of so many words
abbrev pub Inside : (size : ℕ) → List Store → Type 0
Inside size [] = Unit {0}
Inside size (w ∷ ws) = (w.index < size) × Inside size ws

word_set : (b : List ℕ) (i v k : ℕ) → i < length b → word (set b i v) k ≡ cond (eqb k i) v (word b k)
word_set b i v k h = at (eqb k i) refl
  where
    at : (t : Bool) → eqb k i ≡ t → word (set b i v) k ≡ cond t v (word b k)
    at true e = rw (eqb-true k i e) (get_or-set_same b i v 0 h)
    at false e = get_or-set_other b i k v 0 (eqb-false k i e)

after_same : (ws : List Store) (f g : ℕ → ℕ) → ((k : ℕ) → f k ≡ g k) → (k : ℕ) → after ws f k ≡ after ws g k
after_same [] f g e k = e k
after_same (w ∷ ws) f g e k = after_same ws _ _ (λ j. ap (cond (eqb j w.index) w.value) (e j)) k

pub word_stores : (ws : List Store) (b : List ℕ) → Inside (length b) ws → (k : ℕ) → word (stores ws b) k ≡ after ws (word b) k
word_stores [] b i k = refl
word_stores (w ∷ ws) b i k =
    word_stores ws (set b w.index w.value) (rw length-set i.1) k ∙
    after_same ws _ _ (λ j. word_set b w.index w.value j i.0) k

-- no index is that of a word from 12 to 15
abbrev Own : List Store → Type 0
Own [] = Unit {0}
Own (w ∷ ws) = ((i : ℕ) → 12 ≤ i → i < 16 → i ≡ w.index → ⊥) × Own ws

stores_keep : (ws : List Store) (b : List ℕ) → Own ws → (i : ℕ) → 12 ≤ i → i < 16 → word (stores ws b) i ≡ word b i
stores_keep [] b own i h l = refl
stores_keep (w ∷ ws) b own i h l =
    stores_keep ws (set b w.index w.value) own.1 i h l ∙
    get_or-set_other b w.index i w.value 0 (own.0 i h l)

-- nothing goes back
abbrev Rising : List Store → List ℕ → Type 0
Rising ws b = (taken b ≤ after ws (word b) 0) × (answered b ≤ after ws (word b) 5) × (head b ≤ after ws (word b) 11)

pub stores_onward : (ws : List Store) (b : List ℕ) → Inside (length b) ws → Own ws → Rising ws b → Onward 12 b (stores ws b)
stores_onward ws b inside own rising =
    let at = word_stores ws b inside in
    record {
      heads = record { taken = rw (at 0) rising.0; answered = rw (at 5) rising.1; head = rw (at 11) rising.2 };
      kept = stores_keep ws b own;
    }

-- what is left of a buffer after n of its positions are taken
pub later : {φ : Formula} {L : Log} {p count bits p' count' bits' : ℕ} (n : ℕ) → n ≤ count → p' ≡ p + n → count' ≡ count - n → bits' ≡ bits / 2 ^ n →
    Buffer φ L p count bits → Buffer φ L p' count' bits'
later {φ = φ} {L = L} {p = p} {count = count} {bits = bits} n h at less rest b =
    let w = b.within in
    record { within = omega arith; packed = rw (at, less, rest) (packed_rest (sat φ L) p count bits n h b.packed) }

-- an empty buffer
pub empty_buffer : (φ : Formula) (L : Log) (p count bits : ℕ) → p ≤ settled_to φ L → count ≡ 0 → Buffer φ L p count bits
empty_buffer φ L p count bits h e = record { within = omega arith; packed = rw e (packed_none (sat φ L) p bits) }

-- a buffer's positions lie within the log
pub fits : {φ : Formula} {L : Log} {p count bits : ℕ} → Buffer φ L p count bits → p + count ≤ L.size
fits {φ = φ} {L = L} b = omega (arith, b.within, settled_le_size φ L)

empty_most : (n : ℕ) → empty n ≤ 1
empty_most zero = omega arith
empty_most (suc n) = omega arith

-- positions taken leave less to do
pub less_to_do : (v : View) (b b' : List ℕ) (n : ℕ) → 0 < n → taken b + n ≤ total v → taken b' ≡ taken b + n → left_to_do v b' < left_to_do v b
less_to_do v b b' n some h e = omega (arith, empty_most (left_count b'), empty_most (right_count b'))

-- what `available` gives: as many of count positions as there is room for, in the log and in one word
pub record Available (at count total n : ℕ) : Type 0 where
  pub most : n ≤ count
  pub few : n ≤ 64
  pub inside : 0 < n → at + n ≤ total
  pub all : count ≤ 64 → at + count ≤ total → n ≡ count

pub available : (at count total n : ℕ) → n ≡ min (min count (total - at)) 64 → Available at count total n
available at count total n e =
    record { most = omega arith; few = omega arith; inside = λ h. omega arith; all = λ h k. omega arith }
