-- A whole rule: its formulas stand one after the other, in its entries, and in the words W behind the checkpoint's header.
use Prim.Native.Nat.{ℕ, zero, suc, ◌+◌, ◌-◌, ◌≤◌, ◌<◌}
use mathlib.Core.Logic.{◌⊎◌, inl, inr, ⊎_elim}
use mathlib.Core.Path.{◌≡◌, refl, sym, ◌∙◌, ap, ap₂, subst}
use mathlib.Core.List.{List, []}
use native.Mathlib.Nat.{not-suc-le-zero}
use native.Mathlib.Omega.{arith}
use lib.ListN.{length, take, drop}
use Rattle.mtl.specs.Formula.{Formula}
use Rattle.mtl.specs.Formula.Formula.{letter, not, or, previous, next, since, until}
use Rattle.mtl.specs.Log.{Log, Placed}
use Rattle.mtl.proofs.Bounded.{le_or_lt}
use Rattle.rule.specs.declared.Entry.{Entry}
use Rattle.rule.specs.Entries.{entry}
use Rattle.rule.specs.Words.{own_words, own, offset}
use Rattle.rule.specs.Postfix.{root, size, formula, start}
use Rattle.rule.specs.Operands.{FormulaAt}
use Rattle.rule.specs.Accepted.{WellFormed, Whole}
use Rattle.rule.proofs.Order.{some_size, within_whole}
use Rattle.blocks.specs.Block.{kind_of, high_of, FreshBlock}
use Rattle.engine.specs.State.{needed_words, words_before, formula_words, own_at, State, OnwardFormula}
use Rattle.engine.specs.Layout.{subformula_first}
use Rattle.engine.proofs.Uniform.{all_words}
use Rattle.engine.proofs.Rows.{words_at, fields_of}
use Rattle.engine.proofs.Entries.{part_words, part_ends, Ranged, OnwardEntry, FormulaFrom, fresh_state, state_ranges, entries_formula}

-- the last entry of formula k
abbrev pub last_entry : List Formula → ℕ → ℕ
last_entry fs k = start fs k + size (formula fs k) - 1

-- a subformula's last entry is that of its outermost operator
root_at : (t : List Entry) (k : ℕ) (φ : Formula) → FormulaAt t k φ → entry t k ≡ root φ
unfolding FormulaAt
root_at t k (letter l) e = e
root_at t k (not φ) e = e.0
root_at t k (or φ ψ) e = e.0
root_at t k (previous low high φ) e = e.0
root_at t k (next low high φ) e = e.0
root_at t k (since low high φ ψ) e = e.0
root_at t k (until low high φ ψ) e = e.0

own_of : (φ : Formula) (e : Entry) → e ≡ root φ → own e ≡ own_words (kind_of φ) (high_of φ)
own_of φ e is = let f = fields_of φ in ap own is ∙ ap₂ own_words f.kind f.high

module _ (t : List Entry) (n : ℕ) (ok : WellFormed t n) (fs : List Formula) (whole : Whole t n fs) where
  -- ONE FORMULA

  module _ (k : ℕ) (h : k < length fs) where
    pub last_at : FormulaAt t (last_entry fs k) (formula fs k)
    last_at = (whole.each k h).at_last

    pub last_next : suc (last_entry fs k) ≡ start fs (suc k)
    unfolding start
    last_next = omega (arith, some_size (formula fs k))

    pub last_below : last_entry fs k < n
    last_below = omega (arith, some_size (formula fs k), within_whole t n fs whole k h)

    last_first : subformula_first t (last_entry fs k) ≡ start fs k
    last_first = omega (arith, some_size (formula fs k), (whole.each k h).spans)

    last_words : needed_words (formula fs k) + offset t (start fs k) ≡ offset t (start fs (suc k))
    last_words =
        omega (
          arith,
          words_at t n ok (formula fs k) (last_entry fs k) last_below last_at,
          part_ends t [] (last_entry fs k),
          ap (offset t) last_first,
          ap (offset t) last_next,
        )

  -- the words before formula k are those of the entries before it
  pub formula_offset : (k : ℕ) → k ≤ length fs → offset t (start fs k) ≡ words_before fs k
  unfolding start offset words_before
  formula_offset zero h = refl
  formula_offset (suc k) h = omega (arith, formula_offset k (omega arith), last_words k h)

  -- and those of all entries are those of all formulas
  pub rule_size : offset t n ≡ words_before fs (length fs)
  rule_size = ap (offset t) (sym whole.all) ∙ formula_offset (length fs) (omega arith)

  -- the words of a formula's entries are the formula's
  words_are : (k : ℕ) (h : k < length fs) (W : List ℕ) → part_words t (last_entry fs k) W ≡ formula_words fs k W
  words_are k h W =
      ap₂ (λ w x. take w (drop x W))
      (words_at t n ok (formula fs k) (last_entry fs k) (last_below k h) (last_at k h))
      (ap (offset t) (last_first k h) ∙ formula_offset k (omega arith))

  -- its own block is that of its last entry
  pub own_offset : (k : ℕ) → k < length fs → offset t (last_entry fs k) ≡ words_before fs k + own_at (formula fs k)
  unfolding offset words_before
  own_offset k h =
      omega (
        arith,
        all_words (formula fs k),
        own_of (formula fs k) (entry t (last_entry fs k)) (root_at t (last_entry fs k) (formula fs k) (last_at k h)),
        formula_offset (suc k) h,
        ap (offset t) (last_next k h),
      )

  -- EVERY ENTRY

  -- entry j is one of formula k's
  record Inside (j k : ℕ) : Type 0 where
    below : k < length fs
    from : start fs k ≤ j
    to : j ≤ last_entry fs k

  -- every entry is one of some formula's
  inside_first : (j m : ℕ) → m ≤ length fs → j < start fs m → (k : ℕ) × Inside j k
  unfolding start
  inside_first j zero h l = absurd (not-suc-le-zero l)
  inside_first j (suc m) h l =
      ⊎_elim
      (λ (from : start fs m ≤ j). (m, record { below = h; from = from; to = omega arith }))
      (λ (before : j < start fs m). inside_first j m (omega arith) before)
      (le_or_lt (start fs m) j)

  inside : (j : ℕ) → j < n → (k : ℕ) × Inside j k
  inside j h = inside_first j (length fs) (omega arith) (omega (arith, whole.all))

  -- what holds for every entry of every formula holds for every entry
  by_formula : (P : ℕ → Type 0) → ((k : ℕ) → k < length fs → (j : ℕ) → subformula_first t (last_entry fs k) ≤ j → j ≤ last_entry fs k → P j) →
      (j : ℕ) → j < n → P j
  by_formula P each j h =
      let (k, is) = inside j h in
      each k is.below j (omega (arith, is.from, last_first k is.below)) is.to

  -- THEOREM: the words that open writes have the state of each formula at 0, on every log.
  pub fresh_rule : (W : List ℕ) → offset t n ≤ length W → ((j : ℕ) → j < n → FreshBlock (entry t j).kind (drop (offset t j) W)) →
      (L : Log) (k : ℕ) → k < length fs → State (formula fs k) L 0 (formula_words fs k W)
  fresh_rule W room fresh L k h =
      let b = last_below k h in
      subst (State (formula fs k) L 0) (words_are k h W)
      (fresh_state t n ok W room (formula fs k) (last_entry fs k) b (last_at k h) L (λ j l l'. fresh j (omega arith)))

  -- THEOREM: where the words have the state of each formula, every block is in its ranges.
  pub rule_ranges : (W : List ℕ) (L : Log) (records : ℕ) → Placed L records →
      ((k : ℕ) → k < length fs → (g : ℕ) × State (formula fs k) L g (formula_words fs k W)) → (j : ℕ) → j < n → Ranged t W L.size records j
  rule_ranges W L records placed states =
      by_formula (Ranged t W L.size records) (λ k h.
      let (g, s) = states k h in
      state_ranges t n ok W (formula fs k) (last_entry fs k) (last_below k h) (last_at k h) L records placed g
      (subst (State (formula fs k) L g) (sym (words_are k h W)) s))

  -- THEOREM: where each formula's words have gone on, no head goes back in any entry's block and its words 14 and 15 are kept; words 12
  -- to 15 are where the entry is no formula's last.
  module _ (W W' : List ℕ) (onward : (k : ℕ) → k < length fs → OnwardFormula (formula fs k) (formula_words fs k W) (formula_words fs k W')) where
    blocks : (k : ℕ) (h : k < length fs) → FormulaFrom t W W' (subformula_first t (last_entry fs k)) (last_entry fs k)
    blocks k h =
        entries_formula t n ok W W' (formula fs k) (last_entry fs k) (last_below k h) (last_at k h)
        (rw (words_are k h W, words_are k h W') (onward k h))

    pub rule_onward : (j : ℕ) → j < n → OnwardEntry 14 t W W' j
    rule_onward = by_formula (OnwardEntry 14 t W W') (λ k h j from to. (blocks k h j from to).0)

    -- either entry j is the last of a formula, or its block has words 12 to 15 as before
    pub rule_others : (j : ℕ) → j < n → ((k : ℕ) × (k < length fs) × (j ≡ last_entry fs k)) ⊎ OnwardEntry 12 t W W' j
    rule_others =
        by_formula (λ j. ((k : ℕ) × (k < length fs) × (j ≡ last_entry fs k)) ⊎ OnwardEntry 12 t W W' j)
        (λ k h j from to.
        ⊎_elim
        (λ (last : last_entry fs k ≤ j). inl (k, h, omega arith))
        (λ (before : j < last_entry fs k). inr ((blocks k h j from to).1 (λ e. omega arith)))
        (le_or_lt (last_entry fs k) j))
