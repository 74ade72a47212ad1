-- The rows that `lay_tops` writes say where a rule's formulas stand.
use Prim.Native.Nat.{ℕ, suc, ◌+◌, ◌-◌, ◌≤◌, ◌<◌}
use mathlib.Core.Logic.{⊎_elim}
use mathlib.Core.Path.{◌≡◌, refl, sym, ◌∙◌, ap, subst}
use mathlib.Core.List.{List}
use native.Mathlib.Nat.{not-suc-le-zero}
use native.Mathlib.Omega.{arith}
use lib.ListN.{length, get_or, take, set}
use Rattle.std.proofs.lemmas.List.{length-take-le}
use lib.Seq.{get_or-take, get_or-set_same, get_or-set_other}
use Rattle.mtl.specs.Formula.{Formula}
use Rattle.mtl.proofs.Bounded.{le_or_lt}
use Rattle.rule.specs.declared.Entry.{Entry}
use Rattle.rule.specs.Words.{offset}
use Rattle.rule.specs.Postfix.{formula}
use Rattle.rule.specs.Accepted.{WellFormed}
use Rattle.rule.proofs.Spans.{offset_mono}
use Rattle.engine.specs.State.{needed_words, words_before, own_at}
use Rattle.engine.specs.Table.{row_at, Has}
use Rattle.engine.specs.Layout.{Laid}
use Rattle.engine.specs.declared.table.Row.{Row}
use Rattle.engine.specs.declared.tops.Top.{Top}
use Rattle.engine.specs.Tops.{no_top, top_at, TopRow, Tops, Ended, LaidAs}
use Rattle.engine.proofs.Rows.{words_at, column_is_part, row_ok, has_at}
use Rattle.engine.proofs.Formulas.{last_entry, last_at, last_next, last_below, formula_offset, own_offset}

-- the numbers of row k
pub record Placed (tops : List Top) (base : ℕ) (fs : List Formula) (k : ℕ) : Type 0 where
  pub entry : (top_at tops k).entry ≡ last_entry fs k
  pub from : (top_at tops k).from ≡ base + words_before fs k
  pub to : (top_at tops k).to ≡ base + words_before fs (suc k)
  pub held : (top_at tops k).held ≡ base + words_before fs k + own_at (formula fs k) + 12

-- the same of other places that agree there
moved : {tops tops' : List Top} {base : ℕ} {fs : List Formula} {k : ℕ} → top_at tops' k ≡ top_at tops k → Placed tops base fs k → Placed tops' base fs k
moved same p =
    record {
      entry = ap (λ (x : Top). x.entry) same ∙ p.entry;
      from = ap (λ (x : Top). x.from) same ∙ p.from;
      to = ap (λ (x : Top). x.to) same ∙ p.to;
      held = ap (λ (x : Top). x.held) same ∙ p.held;
    }

-- the rows before k, and where the words of formula k begin
pub record Before (tops : List Top) (base from : ℕ) (fs : List Formula) (k : ℕ) : Type 0 where
  pub begins : from ≡ base + words_before fs k
  pub rows : (j : ℕ) → j < k → Placed tops base fs j

-- the numbers of one turn as the code has them: the last entry, its part's words, and those of its operands
pub record Turn (n : ℕ) (base from : ℕ) (fs : List Formula) (k last all left right : ℕ) : Type 0 where
  pub last_is : last ≡ last_entry fs k
  pub below : last < n
  pub ends : from + all ≡ base + words_before fs (suc k)
  pub fits : from + all ≤ base + 8192
  pub inside : left + right ≤ all
  pub own_is : from + (left + right) ≡ base + words_before fs k + own_at (formula fs k)

module _ {t : List Entry} {n : ℕ} {table : List Row} {ends : List ℕ} {number : ℕ} {fs : List Formula} (laid_as : LaidAs t n table ends number fs) where
  abbrev ok : WellFormed t n
  ok = laid_as.well_formed

  abbrev laid : Laid t n table
  laid = laid_as.rows

  abbrev is : Ended t n ends number fs
  is = laid_as.ended

  module _ (k : ℕ) (h : k < length fs) where
    turn_last : (last : ℕ) → last ≡ get_or ends k 0 - 1 → last ≡ last_entry fs k
    turn_last last e = omega (arith, is.at k h, last_next t n ok fs is.whole k h)

    last_column : (row_at table (last_entry fs k)).words ≡ needed_words (formula fs k)
    last_column =
        column_is_part t n ok table laid (last_entry fs k) (last_below t n ok fs is.whole k h) ∙
        words_at t n ok (formula fs k) (last_entry fs k) (last_below t n ok fs is.whole k h) (last_at t n ok fs is.whole k h)

    pub turn_of : (base from last : ℕ) → from ≡ base + words_before fs k → last ≡ get_or ends k 0 - 1 →
        Turn n base from fs k last (row_at table last).words (row_at table last).left_words (row_at table last).right_words
    unfolding offset words_before
    turn_of base from last begin e =
        let at = turn_last last e in
        let below = last_below t n ok fs is.whole k h in
        let next = last_next t n ok fs is.whole k h in
        let room = offset_mono t (suc (last_entry fs k)) n below in
        let most = ok.within in
        let all = last_column in
        let before = formula_offset t n ok fs is.whole (suc k) h in
        let same = ap (offset t) next in
        let mine = own_offset t n ok fs is.whole k h in
        let a = (laid.rows (last_entry fs k) below).left_is in
        let c = (laid.rows (last_entry fs k) below).right_is in
        let sum = (laid.rows (last_entry fs k) below).words in
        subst (λ x. Turn n base from fs k x (row_at table x).words (row_at table x).left_words (row_at table x).right_words) (sym at)
        record {
          last_is = refl;
          below = below;
          ends = omega arith;
          fits = omega arith;
          inside = omega arith;
          own_is = omega arith;
        }

  -- the row of formula k says where it stands
  top_row : (tops : List Top) (base k : ℕ) → k < length fs → Placed tops base fs k → TopRow table tops base fs k
  top_row tops base k h p =
      let few = laid_as.few in
      let below = last_below t n ok fs is.whole k h in
      let e = p.entry in
      record {
        entry = omega arith;
        rows = λ j l. row_ok t n ok table laid j (omega arith);
        has = subst (Has (formula fs k) table) (sym e) (has_at t n ok table laid (formula fs k) (last_entry fs k) below (last_at t n ok fs is.whole k h));
        words = ap (λ (i : ℕ). (row_at table i).words) e ∙ last_column k h;
        from = p.from;
        to = p.to;
        held = p.held;
      }

  -- THEOREM: after the last formula's turn, every formula has its place.
  pub tops_of : (tops : List Top) (base from : ℕ) → number ≤ length tops → Before tops base from fs number →
      Tops table (take number tops) base fs
  tops_of tops base from room before =
      let e = is.number in
      record {
        number = length-take-le number tops room ∙ e;
        few = is.few;
        each = λ k h.
            let same : top_at (take number tops) k ≡ top_at tops k = get_or-take number tops k no_top (omega arith) in
            top_row (take number tops) base k h (moved same (before.rows k (omega arith)));
      }

-- no turn
pub before_none : (fs : List Formula) (tops : List Top) (base : ℕ) → Before tops base base fs 0
unfolding words_before
before_none fs tops base = record { begins = omega arith; rows = λ j h. absurd (not-suc-le-zero h) }

-- one turn
pub before_next : {n : ℕ} (fs : List Formula) (tops : List Top) (base from k last all left right : ℕ) → k < length tops →
    Before tops base from fs k → Turn n base from fs k last all left right →
    Before (set tops k (record { entry = last; from = from; to = from + all; held = from + (left + right) + 12 })) base (from + all) fs (k + 1)
before_next fs tops base from k last all left right room before turn =
    let place : Top = record { entry = last; from = from; to = from + all; held = from + (left + right) + 12 } in
    let next : k + 1 ≡ suc k = omega arith in
    let same = get_or-set_same tops k place no_top room in
    let here : Placed (set tops k place) base fs k =
    record {
      entry = ap (λ (p : Top). p.entry) same ∙ turn.last_is;
      from = ap (λ (p : Top). p.from) same ∙ before.begins;
      to = ap (λ (p : Top). p.to) same ∙ turn.ends;
      held = ap (λ (p : Top). p.held) same ∙ ap (λ x. x + 12) turn.own_is;
    } in
    record {
      begins = rw next turn.ends;
      rows = λ j l.
          ⊎_elim
          (λ (m : k ≤ j). subst (Placed (set tops k place) base fs) (omega arith) here)
          (λ (m : j < k). moved (get_or-set_other tops k j place no_top (λ e. omega arith)) (before.rows j m))
          (le_or_lt k j);
    }
