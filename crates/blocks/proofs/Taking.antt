-- An operator's block after positions were taken out of its buffers, whatever else its operator stored. Assumes nothing.
use Prim.Native.Nat.{ℕ, ◌+◌, ◌-◌, ◌/◌, ◌≤◌, ◌<◌, ◌^◌, min}
use native.Mathlib.Omega.{arith}
use mathlib.Core.Bool.{false, false≢true}
use mathlib.Core.List.{List, [], ◌∷◌}
use mathlib.Core.Path.{◌≡◌, sym, ◌∙◌}
use lib.ListN.{length}
use Rattle.mtl.specs.Formula.{Formula}
use Rattle.mtl.specs.Log.{Log}
use Rattle.mtl.specs.Satisfaction.{sat}
use Rattle.mtl.specs.Progress.{settled_to}
use Rattle.bits.specs.Packed.{Packed}
use Rattle.bits.proofs.Laws.{packed_first}
use Rattle.window.specs.View.{total}
use Rattle.window.specs.declared.view.View.{View}
use Rattle.blocks.specs.Block.{taken, left_count, left_bits, right_count, right_bits, kind_of, high_of, cells_of, Onward, InRange, Own, Heads, Buffer, LeftBuffer, RightBuffer, Buffers, Ready, took_right, took_both}
use Rattle.blocks.specs.Step.{Agrees, Moved, has_left}
use Rattle.blocks.proofs.Words.{Store, put, stores_onward, available, later, fits}

-- the stores of take_right and take_both, and more
abbrev pub right_stores : ℕ → List ℕ → List Store → List Store
right_stores n b more = put 0 (taken b + n) ∷ put 3 (right_count b - n) ∷ put 4 (right_bits b / 2 ^ n) ∷ more

abbrev pub both_stores : ℕ → List ℕ → List Store → List Store
both_stores n b more = right_stores n b (put 1 (left_count b - n) ∷ put 2 (left_bits b / 2 ^ n) ∷ more)

pub right_onward : (n : ℕ) (b : List ℕ) → 16 ≤ length b → Onward 12 b (took_right n b)
right_onward n b room = stores_onward (right_stores n b []) b (omega arith) (omega arith) (omega arith)

pub both_onward : (n : ℕ) (b : List ℕ) → 16 ≤ length b → Onward 12 b (took_both n b)
both_onward n b room = stores_onward (both_stores n b []) b (omega arith) (omega arith) (omega arith)

-- `available` gives all of a buffer
pub all_of : {v : View} {s : List ℕ} {φ : Formula} {L : Log} {g p count bits : ℕ} → Agrees v s L g → Buffer φ L p count bits →
    (n : ℕ) → n ≡ min (min count (total v - p)) 64 → n ≡ count
all_of agrees buffer n e =
    let size = agrees.size in
    let few = buffer.packed.few in
    omega (arith, fits buffer)

-- what `available` gives of the smaller of two buffers, where that is anything
pub record Shared (at l r total n : ℕ) : Type 0 where
  pub left : n ≤ l
  pub right : n ≤ r
  pub some : 0 < n
  pub inside : at + n ≤ total

pub shared : (at l r total both n : ℕ) → both ≡ min l r → n ≡ min (min both (total - at)) 64 → (n ≡ 0 → ⊥) → Shared at l r total n
shared at l r total both n e f some =
    let a = available at both total n f in
    let most = a.most in
    let more : 0 < n = omega arith in
    record { left = omega arith; right = omega arith; some = more; inside = a.inside more }

-- the first n of its answers
pub first_of : {φ : Formula} {L : Log} {p count bits : ℕ} (n : ℕ) → n ≤ count → Buffer φ L p count bits → Packed (sat φ L) p n bits
first_of {φ = φ} {L = L} {p = p} {count = count} {bits = bits} n h buffer = packed_first (sat φ L) p count bits n h buffer.packed

-- the words of b' are those of b after n positions were taken
pub record TookRight (n : ℕ) (b b' : List ℕ) : Type 0 where
  pub at : taken b' ≡ taken b + n
  pub count : right_count b' ≡ right_count b - n
  pub bits : right_bits b' ≡ right_bits b / 2 ^ n

pub record TookBoth (n : ℕ) (b b' : List ℕ) : Type 0 where
  pub right : TookRight n b b'
  pub count : left_count b' ≡ left_count b - n
  pub bits : left_bits b' ≡ left_bits b / 2 ^ n

-- φ stands at g' then, if what is its own says so
module _ (φ : Formula) {L : Log} (b : List ℕ) (n g' : ℕ) (b' : List ℕ) (reached : g' ≤ settled_to φ L)
    (range : InRange L.size (cells_of (kind_of φ) (high_of φ)) b') (own : Own φ L g' b') (heads : Heads φ L g' b') where
  -- ψ is the only operand
  pub taken_right : {ψ : Formula} → has_left φ ≡ false → (RightBuffer ψ L b' → Buffers φ L b') → n ≤ right_count b → TookRight n b b' → RightBuffer ψ L b →
      Ready φ L g' b' × Moved φ b b'
  taken_right single whole h took right = (
    record {
      core = record { reached = reached; range = range; own = own; heads = heads };
      buffers = whole (later n h took.at took.count took.bits right);
    },
    record { left = λ e. absurd (false≢true (sym single ∙ e)); right = λ e. omega arith },
  )

  -- ψ and χ are the operands
  pub taken_both : {ψ χ : Formula} → (LeftBuffer ψ L b' × RightBuffer χ L b' → Buffers φ L b') → n ≤ left_count b → n ≤ right_count b → TookBoth n b b' →
      LeftBuffer ψ L b → RightBuffer χ L b → Ready φ L g' b' × Moved φ b b'
  taken_both whole l r took left right =
      let both = took.right in (
        record {
          core = record { reached = reached; range = range; own = own; heads = heads };
          buffers = whole (
            later n l both.at took.count took.bits left,
            later n r both.at both.count both.bits right,
          );
        },
        record { left = λ e. omega arith; right = λ e. omega arith },
      )
