-- A sheet after verdicts were written into it. Assumes nothing.
use Prim.Native.Nat.{ℕ, zero, suc, ◌+◌, ◌*◌, ◌/◌, ◌%◌, ◌≤◌, ◌<◌, ◌^◌}
use native.Mathlib.Omega.{arith}
use mathlib.Core.Bool.{true, ◌&&◌}
use mathlib.Core.List.{List, [], ◌∷◌, ◌++◌, append_assoc, append-nil}
use mathlib.Core.Path.{◌≡◌, refl, sym, ap, ap₂, ◌∙◌}
use lib.Dec.{eqb}
use lib.ListN.{length, get_or, take, drop, length-append, length-drop, take-append-drop, get_or-append}
use lib.Seq.{length-take-le, take_at, drop_at, drop-drop, get_or-take, get_or-append-add, sets, sets-eq}
use borrow.Author.Tests.{eqb-true}
use Rattle.mtl.proofs.Bounded.{and_iff}
use Rattle.verdicts.specs.Bytes.{byte_of, answers_at, bytes_of}
use Rattle.verdicts.specs.Code.{eight_verdicts, first_bytes}
use Rattle.verdicts.proofs.Packing.{packed_at}
use Rattle.verdicts.proofs.Bytes.{verdict_lt, length_bytes, byte_at}
use Rattle.verdicts.proofs.Stores.{length_first}

-- the sheet with n verdicts from `from` on
abbrev pub written : (from n : ℕ) (words sheet : List ℕ) → List ℕ
written from n words sheet = take from sheet ++ (bytes_of words n ++ drop (from + n) sheet)

pub written_none : (from : ℕ) (words sheet : List ℕ) → sheet ≡ written from 0 words sheet
unfolding bytes_of
written_none from words sheet =
    let none : from + 0 ≡ from = omega arith in
    rw none (sym (take-append-drop from sheet))

module _ (from n : ℕ) (words sheet : List ℕ) (inside : from + n ≤ length sheet) where
  front : length (take from sheet) ≡ from
  front = length-take-le from sheet (omega arith)

  front_bytes : length (take from sheet ++ bytes_of words n) ≡ from + n
  front_bytes = simp (length-append, front, length_bytes) (omega arith)

  pub length_written : length (written from n words sheet) ≡ length sheet
  length_written = simp (length-append, front, length_bytes, length-drop) (omega arith)

  pub take_written : take (from + n) (written from n words sheet) ≡ take from sheet ++ bytes_of words n
  take_written =
      rw (← append_assoc) (take_at (take from sheet ++ bytes_of words n) (drop (from + n) sheet) (from + n) front_bytes)

  pub drop_written : drop (from + n) (written from n words sheet) ≡ drop (from + n) sheet
  drop_written =
      rw (← append_assoc) (drop_at (take from sheet ++ bytes_of words n) (drop (from + n) sheet) (from + n) front_bytes)

  pub written_before : (i : ℕ) → i < from → get_or (written from n words sheet) i 0 ≡ get_or sheet i 0
  written_before i below =
      get_or-append (take from sheet) (bytes_of words n ++ drop (from + n) sheet) 0 i (omega (arith, front)) ∙
      get_or-take from sheet i 0 below

  pub written_at : (i : ℕ) → i < n → get_or (written from n words sheet) (from + i) 0 ≡ byte_of (answers_at words i)
  written_at i below =
      let place : from + i ≡ length (take from sheet) + i = omega (arith, front) in
      ap (λ (k : ℕ). get_or (written from n words sheet) k 0) place ∙
      get_or-append-add (take from sheet) (bytes_of words n ++ drop (from + n) sheet) i 0 ∙
      get_or-append (bytes_of words n) (drop (from + n) sheet) 0 i (omega (arith, length_bytes words n)) ∙
      byte_at words n i below

-- UP TO EIGHT MORE, from the word that has the verdicts of eight positions

bytes_behind : (words : List ℕ) (i m : ℕ) → length words ≤ 8 → m ≤ 8 →
    bytes_of words (i + m) ≡ bytes_of words i ++ first_bytes m (eight_verdicts words i)
unfolding bytes_of first_bytes
bytes_behind words i zero few most =
    let place : i + 0 ≡ i = omega arith in
    ap (bytes_of words) place ∙ sym (append-nil (bytes_of words i))
bytes_behind words i (suc m) few most =
    let place : i + suc m ≡ suc (i + m) = omega arith in
    let found = packed_at (λ r. byte_of (answers_at words (i + r))) 8 m (λ r h. verdict_lt words (i + r) few) most in
    ap (bytes_of words) place
    ∙ ap₂ (λ (l : List ℕ) (v : ℕ). l ++ (v ∷ [])) (bytes_behind words i m few (omega arith)) (sym found)
    ∙ append_assoc (bytes_of words i) (first_bytes m (eight_verdicts words i)) (eight_verdicts words i / 2 ^ (8 * m) % 256 ∷ [])

regroup : (a b c d : List ℕ) → ((a ++ b) ++ c) ++ d ≡ a ++ ((b ++ c) ++ d)
regroup a b c d = simp append_assoc

pub written_behind : (from i m : ℕ) (words sheet sheet' : List ℕ) → length words ≤ 8 → m ≤ 8 → from + (i + m) ≤ length sheet →
    sheet' ≡ written from i words sheet → sets sheet' (from + i) (first_bytes m (eight_verdicts words i)) ≡ written from (i + m) words sheet
written_behind from i m words sheet sheet' few most inside e =
    let bytes = first_bytes m (eight_verdicts words i) in
    let size = length_first m (eight_verdicts words i) in
    let now = written from i words sheet in
    let long = length_written from i words sheet (omega arith) in
    let end : from + i + m ≡ from + (i + m) = omega arith in
    let rest : drop (from + i + m) now ≡ drop (from + (i + m)) sheet =
    sym (drop-drop m (from + i) now)
    ∙ ap (drop m) (drop_written from i words sheet (omega arith))
    ∙ drop-drop m (from + i) sheet
    ∙ ap (λ (k : ℕ). drop k sheet) end in
    ap (λ (s : List ℕ). sets s (from + i) bytes) e
    ∙ sets-eq bytes now (from + i) (omega arith)
    ∙ ap (λ (k : ℕ). take (from + i) now ++ bytes ++ drop (from + i + k) now) size
    ∙ ap₂ (λ (a b : List ℕ). a ++ bytes ++ b) (take_written from i words sheet (omega arith)) rest
    ∙ regroup (take from sheet) (bytes_of words i) bytes (drop (from + (i + m)) sheet)
    ∙ ap (λ (l : List ℕ). take from sheet ++ (l ++ drop (from + (i + m)) sheet)) (sym (bytes_behind words i m few most))

-- the same of a sheet that a call left, and of the word that it was handed
pub written_more : (from i m word : ℕ) (words sheet sheet' sheet'' : List ℕ) → length words ≤ 8 → m ≤ 8 → from + (i + m) ≤ length sheet →
    word ≡ eight_verdicts words i → sheet'' ≡ sets sheet' (from + i) (first_bytes m word) → sheet' ≡ written from i words sheet →
    sheet'' ≡ written from (i + m) words sheet
written_more from i m word words sheet sheet' sheet'' few most inside same stored before =
    stored
    ∙ ap (λ (w : ℕ). sets sheet' (from + i) (first_bytes m w)) same
    ∙ written_behind from i m words sheet sheet' few most inside before

-- A FULL WORD OF ONE COLUMN

pub first_word : (answers : List ℕ) → 1 ≤ length answers → get_or answers 0 0 ∷ [] ≡ take 1 answers
first_word [] some = absurd (omega arith)
first_word (w ∷ answers) some = refl

pub full_word : (columns n : ℕ) → eqb columns 1 && eqb n 64 ≡ true → (columns ≡ 1) × (n ≡ 64)
full_word columns n e =
    let both = (and_iff (eqb columns 1) (eqb n 64)).0 e in
    (eqb-true columns 1 both.0, eqb-true n 64 both.1)
