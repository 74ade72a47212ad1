-- What the functions of the call promise each other, of the formulas of a rule.
use Rattle.std.specs.Prelude.{ℕ, ◌-◌, ◌≤◌, ◌<◌, Bool, false, cond, ◌≡◌, List, ◌++◌, ◌⊎◌, length, get_or, drop, ltb, Option, Some, None, Result}
use Rattle.mtl.specs.Formula.{Formula}
use Rattle.mtl.specs.Log.{Log}
use Rattle.mtl.specs.Progress.{joint_progress}
use Rattle.rule.specs.declared.Entry.{Entry}
use Rattle.trace.specs.Format.{record_count}
use Rattle.trace.specs.Log.{log_of}
use Rattle.trace.specs.Order.{falls}
use Rattle.window.specs.View.{Views}
use Rattle.window.specs.declared.view.View.{View}
use Rattle.engine.specs.Table.{RowsOk}
use Rattle.engine.specs.Tops.{Ended}
use Rattle.engine.specs.declared.table.Row.{Row}
use Rattle.meaning.specs.Verdicts.{columns}
use Rattle.reasons.specs.Text.{text}
use Rattle.reasons.specs.OfRule.{reason_in}
use Rattle.refusal.specs.declared.Refusal.{Refusal}
use Rattle.explain.specs.Explain.{unexplained_in, answer}
use Rattle.sentences.specs.Said.{Ruled, OpenLog}
use Rattle.telling.specs.Lines.{Wrote}

-- what is lent to the functions that ask all formulas: `ends` has where each formula's entries end
pub record Prepared (t : List Row) (v : View) (s words ends : List ℕ) (number : ℕ) : Type 0 where
  pub few : number ≤ 8
  pub some : (k : ℕ) → k < number → (0 < get_or ends k 0) × (get_or ends k 0 ≤ 128)
  pub rows : (k : ℕ) → k < number → RowsOk t (get_or ends k 0 - 1)
  pub words_room : 8192 ≤ length words
  pub views : Views v s
  pub few_records : record_count s ≤ 1000000

-- the table is that of these formulas, and the view and the records are the log
pub record Represents (t : List Row) (v : View) (s ends : List ℕ) (number : ℕ) (fs : List Formula) (L : Log) : Type 0 where
  pub entries : List Entry
  pub count : ℕ
  pub ruled : Ruled entries count t
  pub ended : Ended entries count ends number fs
  pub shown : OpenLog v s L

-- whether position i is below A, that of all formulas
abbrev pub AllAnswered : (t : List Row) (v : View) (s ends : List ℕ) (number i : ℕ) → Bool → Type 0
AllAnswered t v s ends number i r = (fs : List Formula) (L : Log) → Represents t v s ends number fs L → i < L.size → r ≡ ltb i (joint_progress fs L)

-- the reason of formula k at position i, written from the text's beginning on; or there is none
abbrev pub Reasoned : List Formula → Log → (k i : ℕ) (text₀ : List ℕ) → Option ℕ → List ℕ → Type 0
Reasoned fs L k i text₀ (Some end) text' = (k < columns fs) × (i < joint_progress fs L) × Wrote text₀ 0 (text (reason_in fs k L i)) end text'
Reasoned fs L k i text₀ None text' = (columns fs ≤ k) ⊎ (joint_progress fs L ≤ i)

-- whatever the log, the end lies within the text
abbrev pub EndsInside : (text₀ : List ℕ) → Option ℕ → Type 0
EndsInside text₀ (Some end) = end ≤ length text₀
EndsInside text₀ None = Unit {0}

-- of the formulas whose table this is
abbrev pub Reasons : (t : List Row) (v : View) (s ends : List ℕ) (number k i : ℕ) (text₀ : List ℕ) → Option ℕ → List ℕ → Type 0
Reasons t v s ends number k i text₀ r text' =
    EndsInside text₀ r × ((fs : List Formula) (L : Log) → Represents t v s ends number fs L → Reasoned fs L k i text₀ r text')

-- the same of a rule's entries and the records, whose times never fall
abbrev pub ReasonsOf : (e : List Entry) (n : ℕ) (ends : List ℕ) (number : ℕ) (skips : Bool) (s : List ℕ) (k i : ℕ) (text₀ : List ℕ) → Option ℕ → List ℕ → Type 0
ReasonsOf e n ends number skips s k i text₀ r text' =
    EndsInside text₀ r ×
    ((fs : List Formula) → Ended e n ends number fs → falls s ≡ false → Reasoned fs (log_of skips s) k i text₀ r text')

-- check 27, and the reason copied where it is not met
pub record Copies (fs : List Formula) (L : Log) (k i : ℕ) (lent : List ℕ) (r : Result ℕ Refusal) (lent' : List ℕ) : Type 0 where
  pub answer : answer r ≡ cond (unexplained_in fs L k i (length lent)) (record { number = 27; length = 0 }) (record { number = 0; length = length (text (reason_in fs k L i)) })
  pub bytes : lent' ≡ cond (unexplained_in fs L k i (length lent)) lent (text (reason_in fs k L i) ++ drop (length (text (reason_in fs k L i))) lent)

-- the same of a rule's entries and the records
abbrev pub CopiesOf : (e : List Entry) (n : ℕ) (ends : List ℕ) (number : ℕ) (skips : Bool) (s : List ℕ) (k i : ℕ) (lent : List ℕ) → Result ℕ Refusal → List ℕ → Type 0
CopiesOf e n ends number skips s k i lent r lent' =
    (fs : List Formula) → Ended e n ends number fs → falls s ≡ false → Copies fs (log_of skips s) k i lent r lent'
