-- A rule that is encoded from a formula's entries decodes to them, and what `measure` answers for it.
use Prim.Native.Nat.{ℕ, zero, suc, ◌+◌, ◌*◌, ◌≤◌, ◌<◌}
use native.Mathlib.Nat.{not-suc-le-zero, le_of_suc-le-suc}
use native.Mathlib.Omega.{arith}
use borrow.Author.Tests.{le-ltb, eq-eqb}
use mathlib.Core.Path.{◌≡◌, refl, sym, ap, ap₂, ◌∙◌}
use mathlib.Core.Bool.{Bool, false, cond}
use mathlib.Core.List.{List, [], ◌∷◌, ◌++◌}
use mathlib.Core.Option.{some}
use lib.Dec.{eqb}
use lib.ListN.{length, get_or, take, length-append, get_or-append}
use lib.Seq.{get_or-append-add, ext_get_or, get_or-take, length-take-le}
use Rattle.mtl.specs.Formula.{Formula}
use Rattle.mtl.specs.Satisfaction.{any}
use Rattle.mtl.proofs.Bounded.{any_congr}
use Rattle.rule.specs.declared.Entry.{Entry}
use Rattle.rule.specs.Bytes.{byte}
use Rattle.rule.specs.Entries.{entry_of, decoded, blank, entry}
use Rattle.rule.specs.Words.{own, offset, words}
use Rattle.rule.specs.Postfix.{read, left_by, formulas, postfix}
use Rattle.rule.specs.Encoding.{entry_bytes, body, encoded}
use Rattle.rule.specs.Refusal.{misshapen, misshapen_at, misplaced, misplaced_at, over_limit, first, header_refusal, entries_refusal, refusal}
use Rattle.rule.specs.Measure.{reach_of, refused, answer_by, measured}
use Rattle.rule.proofs.Decoded.{length_decoded, decoded_at}
use Rattle.rule.proofs.Flat.{read_postfix}

pub length_body : (es : List Entry) → length (body es) ≡ length es * 10
unfolding body
length_body [] = refl
length_body (e ∷ es) = omega (arith, length-append (entry_bytes e) (body es), length_body es)

-- byte j of entry k
body_at : (es : List Entry) (k j : ℕ) → k < length es → j < 10 → get_or (body es) (k * 10 + j) 0 ≡ get_or (entry_bytes (entry es k)) j 0
unfolding body
body_at [] k j h l = absurd (not-suc-le-zero h)
body_at (e ∷ es) zero j h l =
    let z : 0 * 10 + j ≡ j = omega arith in
    ap (λ (i : ℕ). get_or (entry_bytes e ++ body es) i 0) z ∙ get_or-append (entry_bytes e) (body es) 0 j l
body_at (e ∷ es) (suc k) j h l =
    let z : suc k * 10 + j ≡ 10 + (k * 10 + j) = omega arith in
    ap (λ (i : ℕ). get_or (entry_bytes e ++ body es) i 0) z
    ∙ get_or-append-add (entry_bytes e) (body es) (k * 10 + j) 0
    ∙ body_at es k j (le_of_suc-le-suc h) l

module _ (es : List Entry) where
  byte_at : (i k j : ℕ) → i ≡ 8 + (k * 10 + j) → k < length es → j < 10 → byte (encoded es) i ≡ get_or (entry_bytes (entry es k)) j 0
  unfolding encoded
  byte_at i k j e h l =
      ap (λ (n : ℕ). get_or (encoded es) n 0) e
      ∙ get_or-append-add (0x4B ∷ 0x52 ∷ 0x4C ∷ 0 ∷ 1 ∷ length es ∷ 0 ∷ 0 ∷ []) (body es) (k * 10 + j) 0
      ∙ body_at es k j h l

  pub entry_back : (k : ℕ) → k < length es → entry_of (encoded es) k ≡ entry es k
  entry_back k h =
      let e = entry es k in
      let a = byte_at (8 + k * 10) k 0 (omega arith) h (omega arith) in
      let b = byte_at (8 + k * 10 + 1) k 1 (omega arith) h (omega arith) in
      let c0 = byte_at (8 + k * 10 + 2) k 2 (omega arith) h (omega arith) in
      let c1 = byte_at (8 + k * 10 + 2 + 1) k 3 (omega arith) h (omega arith) in
      let c2 = byte_at (8 + k * 10 + 2 + 2) k 4 (omega arith) h (omega arith) in
      let c3 = byte_at (8 + k * 10 + 2 + 3) k 5 (omega arith) h (omega arith) in
      let d0 = byte_at (8 + k * 10 + 6) k 6 (omega arith) h (omega arith) in
      let d1 = byte_at (8 + k * 10 + 6 + 1) k 7 (omega arith) h (omega arith) in
      let d2 = byte_at (8 + k * 10 + 6 + 2) k 8 (omega arith) h (omega arith) in
      let d3 = byte_at (8 + k * 10 + 6 + 3) k 9 (omega arith) h (omega arith) in
      let low : (entry_of (encoded es) k).low ≡ e.low = omega (arith, c0, c1, c2, c3) in
      let high : (entry_of (encoded es) k).high ≡ e.high = omega (arith, d0, d1, d2, d3) in
      four a b low high
    where
      four : {x y : Entry} → x.kind ≡ y.kind → x.letter ≡ y.letter → x.low ≡ y.low → x.high ≡ y.high → x ≡ y
      four p q r s =
          ap₂ (λ (f : ℕ × ℕ) (g : ℕ × ℕ). record { kind = f.0; letter = f.1; low = g.0; high = g.1 })
          (ap₂ (λ (m n : ℕ). (m, n)) p q) (ap₂ (λ (m n : ℕ). (m, n)) r s)

  module _ (few : length es ≤ 128) where
    decoded_entry : (k : ℕ) → k < length es → entry (decoded (encoded es)) k ≡ entry es k
    decoded_entry k h = decoded_at (encoded es) k (omega arith) ∙ entry_back k h

    pub decoded_back : take (length es) (decoded (encoded es)) ≡ es
    decoded_back =
        let l : length (take (length es) (decoded (encoded es))) ≡ length es =
        length-take-le (length es) (decoded (encoded es)) (omega (arith, length_decoded (encoded es))) in
        ext_get_or blank (take (length es) (decoded (encoded es))) es l
        (λ i h. get_or-take (length es) (decoded (encoded es)) i blank (omega arith) ∙ decoded_entry i (omega arith))

    offset_back : (n : ℕ) → n ≤ length es → offset (decoded (encoded es)) n ≡ offset es n
    unfolding offset
    offset_back zero h = refl
    offset_back (suc n) h = ap₂ (λ (a b : ℕ). a + b) (offset_back n (omega arith)) (ap own (decoded_entry n h))

    any_back : (q : Entry → Bool) → any (length es) (λ k. q (entry (decoded (encoded es)) k)) ≡ any (length es) (λ k. q (entry es k))
    any_back q = any_congr (length es) _ _ (λ k h. ap q (decoded_entry k h))

    -- a rule of version 1: the entries of φ
    module _ (φ : Formula) (is : postfix φ ≡ es) (shaped : any (length es) (misshapen_at es) ≡ false) where
      pub formula_back : formulas 1 (decoded (encoded es)) (length es) ≡ some (φ ∷ [])
      formula_back =
          ap (λ (l : List Entry). left_by 1 (read l (some []))) (decoded_back ∙ sym is) ∙ ap (left_by 1) (read_postfix φ [])

      header_back : header_refusal (encoded es) ≡ 0
      unfolding header_refusal encoded
      header_back =
          simp (le-ltb (length (encoded es)) 8 (omega arith), le-ltb 128 (length es) few, eq-eqb (length (encoded es)) (8 + length es * 10) (omega (arith, length_body es)))

      -- the first of 6 and 8 that applies
      abbrev pub number : ℕ
      number = first 6 (any (length es) (misplaced_at es)) (first 8 (over_limit 1 es (length es)) 0)

      pub refusal_back : refusal (encoded es) ≡ number
      unfolding entries_refusal encoded
      refusal_back =
          simp (header_back)
          (simp (any_back misshapen ∙ shaped, any_back misplaced, formula_back, offset_back (length es) (omega arith)))

      -- "Weigh reads a rule and gives the words that a saved point needs, and the rule's reach"
      pub weighed : measured (encoded es) ≡ cond (eqb number 0) (record { number = 0; words = words 1 es (length es); reach = reach_of (some (φ ∷ [])) }) (refused number)
      unfolding encoded
      weighed =
          ap (λ (m : ℕ). answer_by m 1 (decoded (encoded es)) (length es)) refusal_back
          ∙ ap₂ (λ (w r : ℕ). cond (eqb number 0) (record { number = 0; words = w; reach = r }) (refused number))
          (ap (λ (w : ℕ). 16 + w) (offset_back (length es) (omega arith))) (ap reach_of formula_back)
