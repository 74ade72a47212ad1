-- The verdicts of eight positions, column by column. Assumes nothing.
use Prim.Native.Nat.{ℕ, zero, suc, ◌+◌, ◌*◌, ◌-◌, ◌/◌, ◌%◌, ◌≤◌, ◌<◌, ◌^◌}
use native.Mathlib.Omega.{arith}
use mathlib.Core.List.{List, [], ◌∷◌}
use mathlib.Core.Path.{◌≡◌, sym, ap, ap₂, ◌∙◌}
use lib.ListN.{length, get_or, take, drop, length-drop}
use lib.Seq.{length-take-le, drop-cons, drop-length, get_or-take}
use Rattle.bits.specs.Packed.{bit, number}
use Rattle.bits.proofs.Laws.{bit_mod, bit_rest}
use Rattle.verdicts.specs.Bytes.{byte_of, answers_at}
use Rattle.verdicts.specs.Code.{packed, spread_bits, eight_verdicts}
use Rattle.verdicts.proofs.Packing.{packed_same, packed_twice, packed_zero, packed_lt}
use Rattle.verdicts.proofs.Bytes.{verdict_lt}

pub eight_none : (i : ℕ) → 0 ≡ eight_verdicts [] i
unfolding byte_of answers_at
eight_none i = sym (packed_zero 8)

-- the eight bits from i on are those of a byte
eight_bits : (w i : ℕ) → spread_bits (w / 2 ^ i % 256) ≡ packed (λ r. number (bit w (i + r))) 8
eight_bits w i =
    packed_same (λ r. number (bit (w / 2 ^ i % 256) r)) (λ r. number (bit w (i + r))) 8
    (λ r h. ap number (bit_mod (w / 2 ^ i) 8 r h ∙ bit_rest w i r))

-- one column more, in front of the others
pub eight_more : (w : ℕ) (words : List ℕ) (i : ℕ) → eight_verdicts words i * 2 + spread_bits (w / 2 ^ i % 256) ≡ eight_verdicts (w ∷ words) i
unfolding byte_of answers_at
eight_more w words i =
    let bits = eight_bits w i in
    let twice = packed_twice (λ r. number (bit w (i + r))) (λ r. byte_of (answers_at words (i + r))) 8 in
    omega arith

-- one column alone
pub eight_one : (w i : ℕ) → spread_bits (w / 2 ^ i % 256) ≡ eight_verdicts (w ∷ []) i
eight_one w i =
    let none = eight_none i in
    let more = eight_more w [] i in
    omega arith

pub eight_lt : (words : List ℕ) (i : ℕ) → length words ≤ 8 → eight_verdicts words i < 2 ^ 64
eight_lt words i few = packed_lt (λ r. byte_of (answers_at words (i + r))) 8 (λ r h. verdict_lt words (i + r) few)

-- the columns from j on, of the first `columns` words
abbrev pub from_column : (answers : List ℕ) (columns j : ℕ) → List ℕ
from_column answers columns j = drop j (take columns answers)

pub few_taken : (n : ℕ) (l : List ℕ) → length (take n l) ≤ n
few_taken zero l = omega arith
few_taken (suc n) [] = omega arith
few_taken (suc n) (x ∷ l) = omega (arith, few_taken n l)

-- no column is left behind the last
pub no_column : (answers : List ℕ) (columns : ℕ) → columns ≤ length answers → from_column answers columns columns ≡ []
no_column answers columns all =
    ap (λ (k : ℕ). drop k (take columns answers)) (sym (length-take-le columns answers all)) ∙ drop-length (take columns answers)

module _ (answers : List ℕ) (columns later : ℕ) (all : columns ≤ length answers) (most : columns ≤ 8) (some : 0 < later) (last : later ≤ columns) where
  -- the column before the later ones, and these
  column_more : from_column answers columns (later - 1) ≡ get_or answers (later - 1) 0 ∷ from_column answers columns later
  column_more =
      let long = length-take-le columns answers all in
      let next : suc (later - 1) ≡ later = omega arith in
      drop-cons (take columns answers) (later - 1) 0 (omega arith)
      ∙ ap₂ (λ (w k : ℕ). w ∷ from_column answers columns k) (get_or-take columns answers (later - 1) 0 (omega arith)) next

  few_columns : length (from_column answers columns (later - 1)) ≤ 8
  few_columns = let long = length-take-le columns answers all in simp length-drop (omega arith)

  -- the verdicts with it, from those without
  abbrev pub with_column : (i word : ℕ) → ℕ
  with_column i word = word * 2 + spread_bits (get_or answers (later - 1) 0 / 2 ^ i % 256)

  pub column_in : (i word : ℕ) → word ≡ eight_verdicts (from_column answers columns later) i →
      (with_column i word ≡ eight_verdicts (from_column answers columns (later - 1)) i) × (with_column i word < 2 ^ 64)
  column_in i word e =
      let new : with_column i word ≡ eight_verdicts (from_column answers columns (later - 1)) i =
      ap (with_column i) e
      ∙ eight_more (get_or answers (later - 1) 0) (from_column answers columns later) i
      ∙ ap (λ (ws : List ℕ). eight_verdicts ws i) (sym column_more) in
      (new, rw new (eight_lt (from_column answers columns (later - 1)) i few_columns))
