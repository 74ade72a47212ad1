-- Where the formulas' words and the answers that they hold stand, one formula behind the other. Assumes nothing.
use Prim.Native.Nat.{ℕ, suc, ◌+◌, ◌-◌, ◌≤◌, ◌<◌}
use mathlib.Core.Path.{◌≡◌, ap, ap₂, ◌∙◌}
use mathlib.Core.List.{List}
use native.Mathlib.Omega.{arith}
use lib.ListN.{length, take, drop}
use lib.Seq.{get_or-take, get_or-drop}
use Rattle.mtl.specs.Formula.{Formula}
use Rattle.rule.specs.Postfix.{formula}
use Rattle.blocks.specs.Block.{word}
use Rattle.engine.specs.State.{needed_words, own_at, words_before}
use Rattle.engine.specs.Ask.{part}
use Rattle.engine.specs.Table.{row_at, RowsOk}
use Rattle.engine.specs.Tops.{top_at, held_at, TopRow}
use Rattle.engine.specs.declared.table.Row.{Row}
use Rattle.engine.specs.declared.tops.Top.{Top as TopPlace}
use Rattle.engine.proofs.Held.{own_block}
use Rattle.engine.proofs.Beside.{before_grows, before_next}
use Rattle.held.specs.Top.{top_count, top_bits, part_of}
use Rattle.held.specs.Code.{plan, Fits, Fitting}
use Rattle.held.proofs.Kept.{same_part}

-- one formula's own block, its last entry's, among the words
pub record Place (base : ℕ) (fs : List Formula) (k size : ℕ) : Type 0 where
  pub next : base + words_before fs (suc k) ≡ base + words_before fs k + needed_words (formula fs k)
  pub inside : base + words_before fs (suc k) ≤ size
  pub block : own_at (formula fs k) + 16 ≤ needed_words (formula fs k)

pub place_of : (base : ℕ) (fs : List Formula) (k size : ℕ) → base + words_before fs (length fs) ≤ size → k < length fs → Place base fs k size
place_of base fs k size all h =
    record {
      next = omega (arith, before_next fs k);
      inside = omega (arith, before_grows fs (suc k) (length fs) h);
      block = own_block (formula fs k);
    }

-- a word of a formula's part
pub part_word : (base : ℕ) (fs : List Formula) (k : ℕ) (ws : List ℕ) (i : ℕ) → i < needed_words (formula fs k) →
    word (part_of base fs k ws) i ≡ word ws (base + words_before fs k + i)
part_word base fs k ws i h =
    get_or-take (needed_words (formula fs k)) (drop (base + words_before fs k) ws) i 0 h ∙ get_or-drop (base + words_before fs k) ws i 0

-- a part is the same where its words are
pub part_same : (base : ℕ) (fs : List Formula) (k : ℕ) (ws ws' : List ℕ) → length ws' ≡ length ws →
    ((i : ℕ) → base + words_before fs k ≤ i → i < base + words_before fs (suc k) → word ws' i ≡ word ws i) →
    part_of base fs k ws' ≡ part_of base fs k ws
part_same base fs k ws ws' long same =
    same_part (base + words_before fs k) (needed_words (formula fs k)) ws ws' long (λ i l h. same i l (omega (arith, before_next fs k)))

module _ {table : List Row} {tops : List TopPlace} {base : ℕ} {fs : List Formula} {size : ℕ} (fits : Fits (plan table tops) base fs size) where
  pub row_of : (k : ℕ) → k < length tops → TopRow table tops base fs k
  row_of k h = fits.laid.each k (omega (arith, fits.laid.number))

  pub place_in : (k : ℕ) → k < length fs → Place base fs k size
  place_in k h = place_of base fs k size (omega (arith, fits.all)) h

  module _ (k : ℕ) (h : k < length fs) where
    row : TopRow table tops base fs k
    row = fits.laid.each k h

    pub lent_part : (ws : List ℕ) → part (top_at tops k).from (top_at tops k).to ws ≡ part_of base fs k ws
    unfolding row
    lent_part ws =
        let n : (top_at tops k).to - (top_at tops k).from ≡ needed_words (formula fs k) = omega (arith, row.from, row.to, (place_in k h).next) in
        ap₂ (λ (m a : ℕ). take m (drop a ws)) n row.from

    pub held_inside : (held_at tops k + 1 < size) × (base + 12 ≤ held_at tops k)
    unfolding row
    held_inside = let p = place_in k h in omega (arith, row.held, p.next, p.inside, p.block)

    pub count_at : (ws : List ℕ) → top_count (formula fs k) (part_of base fs k ws) ≡ word ws (held_at tops k)
    unfolding row
    count_at ws =
        let p = (place_in k h).block in
        let e : base + words_before fs k + (own_at (formula fs k) + 12) ≡ held_at tops k = omega (arith, row.held) in
        part_word base fs k ws (own_at (formula fs k) + 12) (omega arith) ∙ ap (word ws) e

    pub bits_at : (ws : List ℕ) → top_bits (formula fs k) (part_of base fs k ws) ≡ word ws (held_at tops k + 1)
    unfolding row
    bits_at ws =
        let p = (place_in k h).block in
        let e : base + words_before fs k + (own_at (formula fs k) + 13) ≡ held_at tops k + 1 = omega (arith, row.held) in
        part_word base fs k ws (own_at (formula fs k) + 13) (omega arith) ∙ ap (word ws) e

  -- the answers of two formulas stand apart
  pub apart : (j k : ℕ) → j < k → k < length fs → held_at tops j + 2 ≤ held_at tops k
  apart j k l h =
      let r = fits.laid.each j (omega arith) in
      let r' = fits.laid.each k h in
      let p = place_in j (omega arith) in
      omega (arith, r.held, r'.held, p.next, p.block, before_grows fs (suc j) k l)

-- what asking formula k needs of the words, whichever the formulas are
pub may_ask : (table : List Row) (tops : List TopPlace) (k size : ℕ) → k < length tops → Fitting (plan table tops) size →
    ((top_at tops k).entry < 128) × RowsOk table (top_at tops k).entry × ((top_at tops k).from + (row_at table (top_at tops k).entry).words ≡ (top_at tops k).to) ×
    ((top_at tops k).to ≤ size) × (held_at tops k + 1 < size)
may_ask table tops k size h (base, fs, fits) =
    let row = row_of fits k h in
    let inside : k < length fs = omega (arith, fits.laid.number) in
    let p = place_in fits k inside in (
      row.entry,
      row.rows,
      omega (arith, row.from, row.to, row.words, p.next),
      omega (arith, row.to, p.inside),
      (held_inside fits k inside).0,
    )
