-- What an accepted header says of the bytes, and that the entries decoded once are the rule's.
-- (Cases is named first so that the worked rows are checked before any theorem.)
use Rattle.rule.proofs.Cases
use Prim.Native.Nat.{ℕ, suc, ◌+◌, ◌*◌, ◌≤◌}
use native.Mathlib.Omega.{arith}
use borrow.Author.Tests.{eqb-true, eqb-false, ltb-false, not-false}
use mathlib.Core.Path.{◌≡◌, refl}
use mathlib.Core.Bool.{Bool, true, false, cond, ◌||◌, not}
use mathlib.Core.Logic.{◌⊎◌, inl, inr, ⊎_elim}
use mathlib.Core.List.{List}
use lib.Dec.{eqb, ltb}
use lib.ListN.{length}
use Rattle.rule.specs.Bytes.{byte}
use Rattle.rule.specs.Entries.{version, count, decoded}
use Rattle.rule.specs.Refusal.{first, or_else, unmarked, unknown_version, wrong_size, header_refusal}
use Rattle.rule.specs.declared.decoding.Rule.{Rule}
use Rattle.rule.specs.Measure.{measured}
use Rattle.rule.specs.Contract.{filled, measured_entries}
use Rattle.rule.specs.Decoded.{IsRule}
use Rattle.rule.proofs.Decoded.{decoded_filled}

-- no refusal: neither this one nor a later one
pub first_zero : (n : ℕ) (b : Bool) (other : ℕ) → first (suc n) b other ≡ 0 → (b ≡ false) × (other ≡ 0)
first_zero n true other e = absurd (omega arith)
first_zero n false other e = (refl, e)

pub or_left : (a b : Bool) → a || b ≡ false → a ≡ false
or_left true b e = e
or_left false b e = refl

pub or_right : (a b : Bool) → a || b ≡ false → b ≡ false
or_right true b e = cc
or_right false b e = e

pub before_none : (m n : ℕ) → or_else m n ≡ 0 → (m ≡ 0) × (n ≡ 0)
before_none m n = go (eqb m 0) refl
  where
    go : (b : Bool) → eqb m 0 ≡ b → cond b n m ≡ 0 → (m ≡ 0) × (n ≡ 0)
    go true p q = (eqb-true m 0 p, q)
    go false p q = absurd (eqb-false m 0 p q)

-- an accepted header
pub record Headed (s : List ℕ) : Type 0 where
  pub one_or_two : (version s ≡ 1) ⊎ (version s ≡ 2)
  pub few : count s ≤ 128
  pub size : length s ≡ 8 + count s * 10

pub headed : (s : List ℕ) → header_refusal s ≡ 0 → Headed s
unfolding header_refusal
headed s e =
    let a = first_zero 0 (unmarked s) _ e in
    let b = first_zero 1 (unknown_version s) _ a.1 in
    let d = first_zero 3 (wrong_size s) 0 b.1 in
    let f = or_left (ltb 128 (count s) || not (eqb (byte s 6) 0) || not (eqb (byte s 7) 0)) (not (eqb (length s) (8 + count s * 10))) d.0 in
    record {
      one_or_two = either (eqb (version s) 1) (eqb (version s) 2) refl refl b.0;
      few = ltb-false 128 (count s) (or_left (ltb 128 (count s)) (not (eqb (byte s 6) 0)) (or_left _ (not (eqb (byte s 7) 0)) f));
      size =
          eqb-true (length s) (8 + count s * 10)
          (not-false _
          (or_right (ltb 128 (count s) || not (eqb (byte s 6) 0) || not (eqb (byte s 7) 0)) (not (eqb (length s) (8 + count s * 10))) d.0));
    }
  where
    either : (a b : Bool) → eqb (version s) 1 ≡ a → eqb (version s) 2 ≡ b → not (a || b) ≡ false → (version s ≡ 1) ⊎ (version s ≡ 2)
    either true b p q e = inl (eqb-true (version s) 1 p)
    either false true p q e = inr (eqb-true (version s) 2 q)
    either false false p q e = absurd (let z : ◌≡◌ {A = ℕ} 0 1 = cc in omega arith)

pub headed_decoded : (s : List ℕ) → header_refusal s ≡ 0 → filled s (count s) ≡ decoded s
headed_decoded s e = let h = headed s e in decoded_filled s (count s) h.few (omega (arith, h.size))

pub version_known : (s : List ℕ) → header_refusal s ≡ 0 → version s ≤ 2
version_known s e = ⊎_elim (λ (one : version s ≡ 1). omega arith) (λ (two : version s ≡ 2). omega arith) (headed s e).one_or_two

-- a rule that is decoded: its entries are no more than fit, they are those of the bytes, and the answer by them is the rule's
module _ (s : List ℕ) (r : Rule) (is : IsRule s r) where
  pub few_to_decode : r.count ≤ 128
  few_to_decode = r.few

  pub decoded_once : (r.entries ≡ decoded s) × (r.count ≡ count s)
  decoded_once = (is.entries_are, is.count_is)

  pub measured_once : measured_entries r.version r.entries r.count ≡ measured s
  measured_once = rw (is.version_is, is.entries_are, is.count_is) (simp is.accepted refl)
