-- The spans of subformulas, and the words that go with them, from those of the operands.
use Prim.Native.Nat.{ℕ, suc, ◌+◌, ◌*◌, ◌-◌, ◌≤◌, ◌<◌}
use native.Mathlib.Omega.{arith}
use mathlib.Core.Bool.{Bool, true, false, cond}
use mathlib.Core.Path.{◌≡◌, refl, sym, ap, ◌∙◌}
use mathlib.Core.List.{List}
use lib.Dec.{eqb}
use lib.ListN.{get_or}
use Rattle.rule.specs.declared.Entry.{Entry}
use Rattle.rule.specs.Entries.{entry}
use Rattle.rule.specs.Words.{ring_words, own_words, own, offset, header_words}
use Rattle.rule.specs.Operands.{operands, next_span, spans, span, left, Leaf, Unary, Binary}
use Rattle.rule.proofs.Laws.{grows, grown_at}

spans_have : (t : List Entry) (n k : ℕ) → k < n → get_or (spans t n) k 0 ≡ next_span (operands (entry t k).kind) (spans t k) k
unfolding spans
spans_have t n k h =
    grown_at 0 (spans t) (λ (m : ℕ). next_span (operands (entry t m).kind) (spans t m) m) refl (λ m. refl) n k h

span_is : (t : List Entry) (k : ℕ) → span t k ≡ next_span (operands (entry t k).kind) (spans t k) k
span_is t k = spans_have t (suc k) k (omega arith)

-- the spans of the first n entries are the entries' own
spans_at : (t : List Entry) (n k : ℕ) → k < n → get_or (spans t n) k 0 ≡ span t k
spans_at t n k h = spans_have t n k h ∙ sym (span_is t k)

module _ (t : List Entry) (k : ℕ) where
  pub span_leaf : operands (entry t k).kind ≡ 0 → span t k ≡ 1
  span_leaf e = span_is t k ∙ ap (λ (m : ℕ). next_span m (spans t k) k) e

  pub span_unary : operands (entry t k).kind ≡ 1 → 0 < k → span t k ≡ 1 + span t (k - 1)
  span_unary e h =
      span_is t k
      ∙ ap (λ (m : ℕ). next_span m (spans t k) k) e
      ∙ ap (λ (m : ℕ). 1 + m) (spans_at t k (k - 1) (omega arith))

  pub span_binary : operands (entry t k).kind ≡ 2 → span t (k - 1) < k → span t k ≡ 1 + span t (k - 1) + span t (left t k)
  span_binary e h =
      let r : get_or (spans t k) (k - 1) 0 ≡ span t (k - 1) = spans_at t k (k - 1) (omega arith) in
      span_is t k
      ∙ ap (λ (m : ℕ). next_span m (spans t k) k) e
      ∙ ap (λ (m : ℕ). 1 + m + get_or (spans t k) (k - 1 - m) 0) r
      ∙ ap (λ (m : ℕ). 1 + span t (k - 1) + m) (spans_at t k (left t k) (omega arith))

-- "16 for each entry", and more for some
pub own_least : (kind high : ℕ) → 16 ≤ own_words kind high
own_least kind high = least (eqb kind 5) (eqb kind 6)
  where
    least : (b b' : Bool) → 16 ≤ cond b (16 + ring_words high) (cond b' (16 + 2 * (high + 1)) 16)
    least true b' = omega arith
    least false true = omega arith
    least false false = omega arith

-- "16", and 24 of version 2
pub header_least : (version : ℕ) → 16 ≤ header_words version
header_least version = least (eqb version 1)
  where
    least : (b : Bool) → 16 ≤ cond b 16 24
    least true = omega arith
    least false = omega arith

pub header_most : (version : ℕ) → header_words version ≤ 24
header_most version = most (eqb version 1)
  where
    most : (b : Bool) → cond b 16 24 ≤ 24
    most true = omega arith
    most false = omega arith

-- the words of more entries are no fewer
pub offset_mono : (t : List Entry) (i j : ℕ) → i ≤ j → offset t i ≤ offset t j
unfolding offset
offset_mono t = grows (offset t) (λ k. omega arith)

offset_suc : (t : List Entry) (k : ℕ) → offset t (suc k) ≡ offset t k + own (entry t k)
unfolding offset
offset_suc t k = refl

module _ (t : List Entry) (k : ℕ) where
  pub leaf_of : operands (entry t k).kind ≡ 0 → Leaf t k
  leaf_of e =
      let s = span_leaf t k e in
      let i : suc k - span t k ≡ k = omega arith in
      let p = ap (offset t) i in
      record { span_is = s; part_is = omega (arith, offset_suc t k, p) }

  pub unary_of : operands (entry t k).kind ≡ 1 → 0 < k → span t (k - 1) ≤ k → Unary t k
  unary_of e h f =
      let s = span_unary t k e h in
      let i : suc k - span t k ≡ suc (k - 1) - span t (k - 1) = omega arith in
      let j : suc (k - 1) ≡ k = omega arith in
      record {
        below = h;
        span_is = s;
        part_is =
            omega
            (arith, offset_suc t k, ap (offset t) i, ap (offset t) j, offset_mono t (suc (k - 1) - span t (k - 1)) (suc (k - 1)) (omega arith));
      }

  pub binary_of : operands (entry t k).kind ≡ 2 → span t (k - 1) < k → span t (left t k) ≤ suc (left t k) → Binary t k
  binary_of e h f =
      let s = span_binary t k e h in
      let i : suc k - span t k ≡ suc (left t k) - span t (left t k) = omega arith in
      let j : suc (k - 1) ≡ k = omega arith in
      let m : suc (k - 1) - span t (k - 1) ≡ suc (left t k) = omega arith in
      record {
        below = h;
        span_is = s;
        part_is =
            omega (
              arith,
              offset_suc t k,
              ap (offset t) i,
              ap (offset t) j,
              ap (offset t) m,
              offset_mono t (suc (left t k) - span t (left t k)) (suc (left t k)) (omega arith),
              offset_mono t (suc (left t k)) (suc (k - 1)) (omega arith),
            );
      }
