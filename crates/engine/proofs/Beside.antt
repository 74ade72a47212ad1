-- Something is done to the words of one formula of a rule: those of the others stay. The words of the formulas begin at `base`.
use Prim.Native.Nat.{ℕ, suc, ◌+◌, ◌-◌, ◌≤◌, ◌<◌}
use mathlib.Core.Logic.{◌⊎◌, inl, inr, ⊎_elim}
use mathlib.Core.Path.{◌≡◌, refl, sym, ◌∙◌, ap}
use mathlib.Core.List.{List}
use native.Mathlib.Omega.{arith}
use lib.ListN.{length, take, drop, length-take, length-drop}
use lib.Seq.{drop-drop, ext_get_or}
use Rattle.mtl.specs.Formula.{Formula}
use Rattle.mtl.proofs.Bounded.{le_or_lt}
use Rattle.rule.specs.Postfix.{formula}
use Rattle.rule.proofs.Laws.{grows}
use Rattle.engine.specs.State.{needed_words, words_before, formula_words, own_at}
use Rattle.engine.specs.Ask.{part, back}
use Rattle.engine.proofs.Parts.{put_back, back_from, part_back, part_before, drop_back}
use Rattle.engine.proofs.Held.{HeldWords, own_block, held_part, part_beside}

-- WHERE A FORMULA'S WORDS STAND

-- a later formula's words begin no earlier
pub before_grows : (fs : List Formula) (k m : ℕ) → k ≤ m → words_before fs k ≤ words_before fs m
unfolding words_before
before_grows fs = grows (words_before fs) (λ k. omega arith)

pub before_next : (fs : List Formula) (k : ℕ) → words_before fs (suc k) ≡ words_before fs k + needed_words (formula fs k)
unfolding words_before
before_next fs k = refl

-- the words of two formulas lie apart
apart : (fs : List Formula) (k m : ℕ) → (m ≡ k → ⊥) →
    (words_before fs m + needed_words (formula fs m) ≤ words_before fs k) ⊎ (words_before fs k + needed_words (formula fs k) ≤ words_before fs m)
apart fs k m other =
    ⊎_elim
    (λ (h : k ≤ m). inr (omega (arith, before_next fs k, before_grows fs (suc k) m (later h))))
    (λ (h : m < k). inl (omega (arith, before_next fs m, before_grows fs (suc m) k h)))
    (le_or_lt k m)
  where
    later : k ≤ m → suc k ≤ m
    later h = ⊎_elim (λ (l : m ≤ k). absurd (other (omega arith))) (λ (l : k < m). l) (le_or_lt m k)

module _ (fs : List Formula) (base : ℕ) where
  -- the words of formula k, out of all words of the checkpoint
  words_out : (k : ℕ) (ws : List ℕ) → formula_words fs k (drop base ws) ≡ take (needed_words (formula fs k)) (drop (base + words_before fs k) ws)
  words_out k ws = ap (take (needed_words (formula fs k))) (drop-drop (words_before fs k) base ws)

  pub formula_part : (k : ℕ) (ws : List ℕ) → part (base + words_before fs k) (base + words_before fs (suc k)) ws ≡ formula_words fs k (drop base ws)
  formula_part k ws =
      let e : base + words_before fs (suc k) - (base + words_before fs k) ≡ needed_words (formula fs k) = omega (arith, before_next fs k) in
      ap (λ n. take n (drop (base + words_before fs k) ws)) e ∙ sym (words_out k ws)

  -- LENT AND PUT BACK

  module _ (k : ℕ) (ys ws : List ℕ) (inside : base + words_before fs (suc k) ≤ length ws) (size : length ys ≡ needed_words (formula fs k)) where
    back_is : put_back (base + words_before fs k) (base + words_before fs (suc k)) ys ws ≡
        back (base + words_before fs k) (base + words_before fs (suc k)) ys ws
    back_is = back_from (base + words_before fs k) (base + words_before fs (suc k)) ys ws (omega (arith, before_next fs k))

    -- the formula's words are what came back
    pub back_here : formula_words fs k (drop base (put_back (base + words_before fs k) (base + words_before fs (suc k)) ys ws)) ≡ ys
    back_here =
        sym (formula_part k (put_back (base + words_before fs k) (base + words_before fs (suc k)) ys ws)) ∙
        ap (part (base + words_before fs k) (base + words_before fs (suc k))) back_is ∙
        part_back (base + words_before fs k) (base + words_before fs (suc k)) ys ws (omega (arith, before_next fs k)) inside (omega (arith, before_next fs k))

    -- the other formulas' are as they were
    pub back_beside : (m : ℕ) → (m ≡ k → ⊥) →
        formula_words fs m (drop base (put_back (base + words_before fs k) (base + words_before fs (suc k)) ys ws)) ≡ formula_words fs m (drop base ws)
    back_beside m other =
        words_out m (put_back (base + words_before fs k) (base + words_before fs (suc k)) ys ws) ∙
        ap (λ l. take (needed_words (formula fs m)) (drop (base + words_before fs m) l)) back_is ∙
        ⊎_elim
        (λ (h : words_before fs m + needed_words (formula fs m) ≤ words_before fs k).
        part_before (base + words_before fs k) (base + words_before fs (suc k)) ys ws (omega (arith, before_next fs k)) inside (omega (arith, before_next fs k))
        (base + words_before fs m) (needed_words (formula fs m)) (omega arith))
        (λ (h : words_before fs k + needed_words (formula fs k) ≤ words_before fs m).
        ap (take (needed_words (formula fs m)))
        (drop_back (base + words_before fs k) (base + words_before fs (suc k)) ys ws (omega (arith, before_next fs k)) inside (omega (arith, before_next fs k))
        (base + words_before fs m) (omega (arith, before_next fs k))))
        (apart fs k m other) ∙
        sym (words_out m ws)

  -- WORDS 12 AND 13 OF ITS OWN BLOCK WRITTEN

  module _ (k : ℕ) (ws ws' : List ℕ) (held : HeldWords (base + words_before fs k + own_at (formula fs k)) ws ws') where
    -- they are written among the formula's words
    pub held_here : HeldWords (own_at (formula fs k)) (formula_words fs k (drop base ws)) (formula_words fs k (drop base ws'))
    held_here =
        rw (words_out k ws, words_out k ws')
        (held_part (own_at (formula fs k)) (base + words_before fs k) (needed_words (formula fs k)) ws ws' held)

    -- the other formulas' are as they were
    pub held_beside : length ws ≡ length ws' → (m : ℕ) → (m ≡ k → ⊥) → formula_words fs m (drop base ws') ≡ formula_words fs m (drop base ws)
    held_beside long m other =
        let at = base + words_before fs m in
        let size = needed_words (formula fs m) in
        words_out m ws' ∙
        ext_get_or 0 (take size (drop at ws')) (take size (drop at ws))
        (omega (arith, length-take size (drop at ws), length-take size (drop at ws'), length-drop at ws, length-drop at ws'))
        (λ i h. (part_beside (base + words_before fs k + own_at (formula fs k)) at size ws ws' far held).1 i) ∙
        sym (words_out m ws)
      where
        far : (base + words_before fs m + needed_words (formula fs m) ≤ base + words_before fs k + own_at (formula fs k) + 12) ⊎
            (base + words_before fs k + own_at (formula fs k) + 14 ≤ base + words_before fs m)
        far =
            ⊎_elim
            (λ (h : words_before fs m + needed_words (formula fs m) ≤ words_before fs k). inl (omega arith))
            (λ (h : words_before fs k + needed_words (formula fs k) ≤ words_before fs m). inr (omega (arith, own_block (formula fs k))))
            (apart fs k m other)
