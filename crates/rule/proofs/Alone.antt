-- Each formula of an accepted rule is a rule of its own: the version 1 rule made of that formula's entries alone is accepted.
use Prim.Native.Nat.{ℕ, zero, suc, ◌+◌, ◌-◌, ◌≤◌, ◌<◌}
use native.Mathlib.Omega.{arith}
use borrow.Author.Tests.{le-ltb}
use mathlib.Core.Path.{◌≡◌, refl, sym, ap, ◌∙◌}
use mathlib.Core.Bool.{Bool, false}
use mathlib.Core.List.{List, [], ◌∷◌, ◌++◌}
use mathlib.Core.Option.{some}
use lib.ListN.{length, get_or, take}
use lib.Seq.{get_or-append-add, get_or-take, length-take-le}
use Rattle.mtl.specs.Formula.{Formula}
use Rattle.mtl.specs.Satisfaction.{any}
use Rattle.mtl.proofs.Bounded.{any_false_iff}
use Rattle.rule.specs.declared.Entry.{Entry}
use Rattle.rule.specs.Entries.{version, count, decoded, blank, entry}
use Rattle.rule.specs.Words.{own, offset, words, limit}
use Rattle.rule.specs.Postfix.{formulas, postfix, size, formula, start}
use Rattle.rule.specs.Encoding.{encoded, rule_of}
use Rattle.rule.specs.Refusal.{misshapen, misshapen_at, misplaced, misplaced_at, over_limit, header_refusal, entries_refusal, refusal}
use Rattle.rule.specs.Operands.{span}
use Rattle.rule.specs.Accepted.{Stretch, Accepted}
use Rattle.rule.proofs.Headers.{before_none}
use Rattle.rule.proofs.Ranges.{none_below}
use Rattle.rule.proofs.Spans.{header_least, offset_mono}
use Rattle.rule.proofs.Order.{some_size, within_whole}
use Rattle.rule.proofs.Flat.{ends, length_postfix}
use Rattle.rule.proofs.Decoded.{length_decoded}
use Rattle.rule.proofs.Acceptance.{Passed, passed}
use Rattle.rule.proofs.Encoded.{formula_back, refusal_back}

-- a formula's entries, where they stand among the rule's
module _ (t : List Entry) (at : ℕ) (φ : Formula) (s : Stretch t at φ) (fits : at + size φ ≤ length t) where
  same_entry : (i : ℕ) → i < length (postfix φ) → entry (postfix φ) i ≡ entry t (at + i)
  same_entry i h =
      let l : length (postfix φ) ≡ size φ = length_postfix φ in
      let one = some_size φ in
      let j : ℕ = at + size φ - 1 in
      let to_end : suc j ≡ at + size φ = omega arith in
      let from : suc j - span t j ≡ at = omega (arith, s.spans) in
      let cut : take (at + size φ) t ≡ take at t ++ postfix φ =
      ap (λ (n : ℕ). take n t) (sym to_end)
      ∙ ends t φ j (omega arith) s.at_last
      ∙ ap (λ (n : ℕ). take n t ++ postfix φ) from in
      let long : length (take at t) ≡ at = length-take-le at t (omega arith) in
      sym (get_or-append-add (take at t) (postfix φ) i blank)
      ∙ ap (λ (n : ℕ). get_or (take at t ++ postfix φ) (n + i) blank) long
      ∙ ap (λ (l : List Entry). get_or l (at + i) blank) (sym cut)
      ∙ get_or-take (at + size φ) t (at + i) blank (omega arith)

  same_offset : (i : ℕ) → i ≤ length (postfix φ) → offset t at + offset (postfix φ) i ≡ offset t (at + i)
  unfolding offset
  same_offset zero h = let e : at + 0 ≡ at = omega arith in rw e (omega arith)
  same_offset (suc i) h =
      let e : at + suc i ≡ suc (at + i) = omega arith in
      let before = same_offset i (omega arith) in
      let own_is = ap own (same_entry i h) in
      rw e (omega arith)

  -- what no entry of the rule is, none of the formula's is
  none_of : (q : Entry → Bool) (n : ℕ) → at + size φ ≤ n → any n (λ k. q (entry t k)) ≡ false
      → any (length (postfix φ)) (λ k. q (entry (postfix φ) k)) ≡ false
  none_of q n l e =
      let long = length_postfix φ in
      (any_false_iff (length (postfix φ)) (λ k. q (entry (postfix φ) k))).1
      (λ i h. ap q (same_entry i h) ∙ none_below n (λ k. q (entry t k)) e (at + i) (omega arith))

-- the rule of φ is accepted, and is φ
pub record Alone (φ : Formula) : Type 0 where
  pub version_is : version (rule_of φ) ≡ 1
  pub accepted : refusal (rule_of φ) ≡ 0
  pub reads : formulas 1 (decoded (rule_of φ)) (count (rule_of φ)) ≡ some (φ ∷ [])

-- of a formula whose entries are among those of a rule that passed
alone_of : (v : ℕ) (t : List Entry) (n : ℕ) → Passed v t n → n ≤ 128 → n ≤ length t → (at : ℕ) (φ : Formula) → Stretch t at φ → at + size φ ≤ n → Alone φ
unfolding encoded
alone_of v t n p few long at φ s fits =
    let es = postfix φ in
    let l : length es ≡ size φ = length_postfix φ in
    let inside : at + size φ ≤ length t = omega arith in
    let shaped : any (length es) (misshapen_at es) ≡ false = none_of t at φ s inside misshapen n fits p.shapes in
    let placed : any (length es) (misplaced_at es) ≡ false = none_of t at φ s inside misplaced n fits p.places in
    let need : words 1 es (length es) ≤ limit =
    omega (arith, p.fits, header_least v, same_offset t at φ s inside (length es) (omega arith), offset_mono t (at + length es) n (omega arith)) in
    let over : over_limit 1 es (length es) ≡ false = le-ltb limit (words 1 es (length es)) need in
    record {
      version_is = refl;
      accepted = refusal_back es (omega arith) φ refl shaped ∙ simp (placed, over);
      reads = formula_back es (omega arith) φ refl shaped;
    }

-- THEOREM. Of every accepted rule and each of its formulas.
pub alone : (s : List ℕ) (a : Accepted s) → refusal s ≡ 0 → (k : ℕ) → k < length a.the_formulas → Alone (formula a.the_formulas k)
alone s a e k h =
    let v = version s in
    let t = decoded s in
    let n = count s in
    let b = before_none (header_refusal s) (entries_refusal v t n) e in
    alone_of v t n (passed v t n b.1) a.few_entries (omega (arith, a.few_entries, length_decoded s)) (start a.the_formulas k)
    (formula a.the_formulas k) (a.whole.each k h) (within_whole t n a.the_formulas a.whole k h)

-- its formulas are that one
pub alone_formulas : (φ : Formula) → Alone φ → (b : Accepted (rule_of φ)) → b.the_formulas ≡ φ ∷ []
alone_formulas φ one b =
    let r : formulas 1 (decoded (rule_of φ)) (count (rule_of φ)) ≡ some b.the_formulas =
    ap (λ (v : ℕ). formulas v (decoded (rule_of φ)) (count (rule_of φ))) (sym one.version_is) ∙ b.reads in
    cc one.reads
