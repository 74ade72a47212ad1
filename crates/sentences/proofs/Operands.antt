-- What stands at an entry that answers, and at its operands' entries. Assumes nothing.
use Prim.Native.Nat.{ℕ, ◌-◌, ◌<◌}
use mathlib.Core.Bool.{Bool, true, false, cond}
use mathlib.Core.Logic.{⊎_elim}
use mathlib.Core.Path.{◌≡◌, refl, sym, ◌∙◌, ap}
use mathlib.Core.List.{List}
use native.Mathlib.Omega.{arith}
use Rattle.mtl.specs.Formula.{Formula, unbounded}
use Rattle.window.specs.declared.view.View.{View}
use Rattle.mtl.specs.Formula.Formula.{letter, not, or, previous, next, since, until}
use Rattle.mtl.specs.Log.{Log}
use Rattle.mtl.specs.Progress.{progress, settled_to}
use Rattle.mtl.proofs.Closing.{settled_le_size}
use Rattle.rule.specs.declared.Entry.{Entry}
use Rattle.rule.specs.Entries.{entry}
use Rattle.rule.specs.Postfix.{size}
use Rattle.rule.specs.Operands.{left, FormulaAt}
use Rattle.rule.proofs.Subformulas.{span_size}
use Rattle.blocks.specs.Block.{kind_of}
use Rattle.blocks.specs.Kinds.{takes_left, Fields}
use Rattle.engine.specs.Table.{Has, row_at, kind_at}
use Rattle.engine.specs.declared.table.Row.{Row}
use Rattle.engine.proofs.Rows.{has_at, column_is_part}
use Rattle.search.specs.Scan.{Starts}
use Rattle.search.proofs.Zeros.{zero_state}
use Rattle.sentences.specs.Said.{Answering}

-- the log is open: a formula has answered what its progress says
pub open_settled : (φ : Formula) (L : Log) → L.closed ≡ false → settled_to φ L ≡ progress φ L
unfolding settled_to
open_settled φ L e = rw e refl

-- the columns of the entry at which a formula ends
fields_at : (t : List Row) (k : ℕ) (φ : Formula) → Has φ t k → Fields φ (kind_at t k) (row_at t k).letter (row_at t k).low (row_at t k).high
unfolding Has
fields_at t k (letter c) h = h.fields
fields_at t k (not φ) h = h.0.fields
fields_at t k (or φ ψ) h = h.0.fields
fields_at t k (previous low high φ) h = h.0.fields
fields_at t k (next low high φ) h = h.0.fields
fields_at t k (since low high φ ψ) h = h.0.fields
fields_at t k (until low high φ ψ) h = h.0.fields

module _ (t : List Row) (v : View) (s : List ℕ) (L : Log) where
  module _ (φ : Formula) (k i : ℕ) (an : Answering φ t v s k L i) where
    pub has_here : Has φ t k
    has_here = has_at an.entries an.count an.ruled.well_formed t an.ruled.laid φ k an.below an.formula

    pub fields_here : Fields φ (kind_at t k) (row_at t k).letter (row_at t k).low (row_at t k).high
    fields_here = fields_at t k φ has_here

    pub starts_here : Starts t k φ L
    starts_here ws long none =
        zero_state an.entries an.count an.ruled.well_formed φ k an.below an.formula L ws
        (long ∙ column_is_part an.entries an.count an.ruled.well_formed t an.ruled.laid k an.below) none

    pub inside_here : i < L.size
    inside_here = let a = an.answered in let b = settled_le_size φ L in omega arith

    pub answered_here : i < progress φ L
    answered_here = let e = open_settled φ L an.shown.unclosed in let a = an.answered in omega arith

    kind_here : (entry an.entries k).kind ≡ kind_of φ
    kind_here = sym (an.ruled.laid.rows k an.below).kind ∙ fields_here.kind

    -- the entry's left operand stands where the column says
    left_here : takes_left (kind_of φ) ≡ true → (row_at t k).left ≡ left an.entries k
    left_here takes =
        (an.ruled.laid.rows k an.below).left ∙ ap (λ (b : Bool). cond b (left an.entries k) 0) (ap takes_left kind_here ∙ takes)

  -- an operand answers at its entry, where it has answered
  pub one_answers : (φ χ : Formula) (k i p : ℕ) (an : Answering φ t v s k L i) → FormulaAt an.entries (k - 1) χ → p < settled_to χ L → Answering χ t v s (k - 1) L p
  one_answers φ χ k i p an is h =
      record { entries = an.entries; count = an.count; ruled = an.ruled; below = let b = an.below in omega arith; formula = is; shown = an.shown; answered = h }

  pub left_answers : (φ χ : Formula) (k i p : ℕ) (an : Answering φ t v s k L i) → takes_left (kind_of φ) ≡ true → FormulaAt an.entries (left an.entries k) χ → p < settled_to χ L →
      Answering χ t v s (row_at t k).left L p
  left_answers φ χ k i p an takes is h =
      let e = left_here φ k i an takes in
      record {
        entries = an.entries;
        count = an.count;
        ruled = an.ruled;
        below = let b = an.below in omega arith;
        formula = rw e is;
        shown = an.shown;
        answered = h;
      }

  -- the left operand's entry is the one that the reason names
  pub left_number : (φ χ : Formula) (k i : ℕ) (an : Answering φ t v s k L i) → takes_left (kind_of φ) ≡ true → FormulaAt an.entries (k - 1) χ → (row_at t k).left ≡ k - 1 - size χ
  left_number φ χ k i an takes is = left_here φ k i an takes ∙ ap (λ (m : ℕ). k - 1 - m) (span_size an.entries χ (k - 1) is)

  -- an until has an upper end
  pub until_finite : (low high : ℕ) (φ ψ : Formula) (k i : ℕ) → Answering (until low high φ ψ) t v s k L i → high < unbounded
  until_finite low high φ ψ k i an =
      let χ : Formula = until low high φ ψ in
      let r = an.ruled.well_formed.in_range k an.below in
      let kind = kind_here χ k i an in
      let is = sym (an.ruled.laid.rows k an.below).high ∙ (fields_here χ k i an).high in
      ⊎_elim (λ few. omega arith) (λ endless. let most = endless.2 in omega arith) r.high

  -- the operands of an entry with two, at their entries: the table has them, and zeros stand for them
  pub operands_of : (χ φ ψ : Formula) (k i : ℕ) (an : Answering χ t v s k L i) → takes_left (kind_of χ) ≡ true →
      FormulaAt an.entries (left an.entries k) φ × FormulaAt an.entries (k - 1) ψ →
      (Has φ t (row_at t k).left × Starts t (row_at t k).left φ L) × (Has ψ t (k - 1) × Starts t (k - 1) ψ L)
  operands_of χ φ ψ k i an takes (is-left, is_right) =
      let e = left_here χ k i an takes in
      let ok = an.ruled.well_formed in
      let laid = an.ruled.laid in
      let below = an.below in
      let at_left : left an.entries k < an.count = omega arith in
      let at_right : k - 1 < an.count = omega arith in (
        (
          rw e (has_at an.entries an.count ok t laid φ (left an.entries k) at_left is-left),
          rw e (λ ws long none. zero_state an.entries an.count ok φ (left an.entries k) at_left is-left L ws (long ∙ column_is_part an.entries an.count ok t laid (left an.entries k) at_left) none),
        ),
        (
          has_at an.entries an.count ok t laid ψ (k - 1) at_right is_right,
          λ ws long none. zero_state an.entries an.count ok ψ (k - 1) at_right is_right L ws (long ∙ column_is_part an.entries an.count ok t laid (k - 1) at_right) none,
        ),
      )

pub since_formulas : (low high : ℕ) (φ ψ : Formula) (e : List Entry) (k : ℕ) → FormulaAt e k (since low high φ ψ) → FormulaAt e (left e k) φ × FormulaAt e (k - 1) ψ
unfolding FormulaAt
since_formulas low high φ ψ e k f = (f.2, f.3)

pub until_formulas : (low high : ℕ) (φ ψ : Formula) (e : List Entry) (k : ℕ) → FormulaAt e k (until low high φ ψ) → FormulaAt e (left e k) φ × FormulaAt e (k - 1) ψ
unfolding FormulaAt
until_formulas low high φ ψ e k f = (f.2, f.3)
