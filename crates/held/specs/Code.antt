-- What the functions promise. `base` is the number of the checkpoint's own words, and `most` of a version's formulas; v is the view, s the
-- records, ws the checkpoint's words.
use Rattle.std.specs.Prelude.{ℕ, zero, suc, ◌+◌, ◌-◌, ◌/◌, ◌≤◌, ◌<◌, ◌^◌, ◌≡◌, List, length, get_or, set}
use Rattle.window.specs.declared.view.View.{View}
use Rattle.mtl.specs.Formula.{Formula}
use Rattle.mtl.specs.Log.{Log, NeverFalls}
use Rattle.mtl.specs.Progress.{settled_to, joint_progress}
use Rattle.mtl.specs.Wanted.{wanted}
use Rattle.bits.specs.Packed.{zeros, last_zero}
use Rattle.verdicts.specs.Counts.{later_end}
use Rattle.rule.specs.Postfix.{formula}
use Rattle.blocks.specs.Block.{word}
use Rattle.blocks.specs.Step.{Agrees}
use Rattle.engine.specs.State.{words_before, OnwardFormula}
use Rattle.engine.specs.Tops.{held_at, Tops}
use Rattle.engine.specs.declared.table.Row.{Row}
use Rattle.engine.specs.declared.tops.Top.{Top as TopPlace}
use Rattle.checkpoint.specs.Checkpoint.{given}
use Rattle.held.specs.Top.{top_count, Waiting, part_of, Top}

-- what is made of the rule before it is asked: the rows of its entries, and the places of its formulas
pub record Plan : Type 0 where
  pub table : List Row
  pub tops : List TopPlace

abbrev pub plan : (table : List Row) (tops : List TopPlace) → Plan
plan table tops = record { table = table; tops = tops }

-- the formulas' places in so many words: all of them behind the header
pub record Fits (rule : Plan) (base : ℕ) (fs : List Formula) (size : ℕ) : Type 0 where
  pub laid : Tops rule.table rule.tops base fs
  pub header : 16 ≤ base
  pub all : base + words_before fs (length fs) ≡ size

-- that there are such formulas
abbrev pub Fitting : (rule : Plan) (size : ℕ) → Type 0
Fitting rule size = (base : ℕ) × (fs : List Formula) × Fits rule base fs size

-- asking formula k, where it holds nothing: r is how many answers it holds then
pub record HeldOne (base : ℕ) (fs : List Formula) (v : View) (s : List ℕ) (k : ℕ) (ws : List ℕ) (r : ℕ) (ws' : List ℕ) : Type 0 where
  pub words_length : length ws' ≡ length ws
  pub count : r ≡ top_count (formula fs k) (part_of base fs k ws')
  pub others : (i : ℕ) → ((base + words_before fs k ≤ i) → (i < base + words_before fs (suc k)) → ⊥) → word ws' i ≡ word ws i
  pub onward : OnwardFormula (formula fs k) (part_of base fs k ws) (part_of base fs k ws')
  pub meaning : (L : Log) (d : ℕ) → NeverFalls L → Agrees v s L (wanted fs d) → Waiting (formula fs k) L d (part_of base fs k ws) →
      Waiting (formula fs k) L d (part_of base fs k ws') × (r ≡ 0 → settled_to (formula fs k) L ≡ d)

-- what is promised of formula k by its place, whatever the formulas
abbrev pub HoldsOne : (rule : Plan) (v : View) (s : List ℕ) (k : ℕ) (ws : List ℕ) (r : ℕ) (ws' : List ℕ) → Type 0
HoldsOne rule v s k ws r ws' =
    (base : ℕ) (fs : List Formula) → Fits rule base fs (length ws) → k < length fs → HeldOne base fs v s k ws r ws'

-- asking all formulas: r is the least number of answers held then, as far as one word goes
pub record Held (base : ℕ) (fs : List Formula) (v : View) (s ws : List ℕ) (r : ℕ) (ws' : List ℕ) : Type 0 where
  pub words_length : length ws' ≡ length ws
  pub header : (i : ℕ) → i < base → word ws' i ≡ word ws i
  pub few : r ≤ 64
  pub least : (k : ℕ) → k < length fs → r ≤ top_count (formula fs k) (part_of base fs k ws')
  pub onward : (k : ℕ) → k < length fs → OnwardFormula (formula fs k) (part_of base fs k ws) (part_of base fs k ws')
  pub meaning : (L : Log) (d : ℕ) → NeverFalls L → Agrees v s L (wanted fs d) → Top base fs L d ws →
      Top base fs L d ws' × (d + r ≤ L.size) × (r ≡ 0 → joint_progress fs L ≡ d)

abbrev pub HoldsAll : (rule : Plan) (v : View) (s ws : List ℕ) (r : ℕ) (ws' : List ℕ) → Type 0
HoldsAll rule v s ws r ws' =
    (base : ℕ) (fs : List Formula) → Fits rule base fs (length ws) → Held base fs v s ws r ws'

-- the words of answers that the formulas hold; of an empty rule one word of yes
pub record Answered (tops : List TopPlace) (ws answers : List ℕ) : Type 0 where
  pub long : length answers ≡ 8
  pub each : (k : ℕ) → k < length tops → get_or answers k 0 ≡ word ws (held_at tops k + 1)
  pub none : length tops ≡ 0 → get_or answers 0 0 ≡ 2 ^ 64 - 1

-- n of the answers at `held` given from d on, and the no among them counted at `at` and `late`
abbrev pub taken_answers : (held at late d n : ℕ) → List ℕ → List ℕ
taken_answers held at late d n ws =
    let bits = word ws (held + 1) in
    set (set (set (set ws at (word ws at + zeros n bits)) late (later_end (word ws late) d (last_zero n bits)))
    held (word ws held - n))
    (held + 1) (bits / 2 ^ n)

-- the same of the first k formulas, whose answers stand at `held`
unfoldable pub taken_out : (held : ℕ → ℕ) (most d n k : ℕ) → List ℕ → List ℕ
taken_out held most d n zero ws = ws
taken_out held most d n (suc k) ws = taken_answers (held k) (8 + k) (8 + most + k) d n (taken_out held most d n k ws)

-- all of them, and n verdicts more given
abbrev pub taken_verdicts : (tops : List TopPlace) (most n : ℕ) → List ℕ → List ℕ
taken_verdicts tops most n ws = set (taken_out (held_at tops) most (given ws) n (length tops) ws) 1 (given ws + n)

-- where the formulas' answers stand: behind the counts, one formula behind the other
pub record HeldApart (held : ℕ → ℕ) (most number size : ℕ) : Type 0 where
  pub formulas : number ≤ most
  pub above : (k : ℕ) → k < number → 8 + most + most ≤ held k
  pub apart : (j k : ℕ) → j < k → k < number → held j + 2 ≤ held k
  pub inside : (k : ℕ) → k < number → held k + 1 < size

-- n verdicts can be taken out of every formula's answers, and counted
pub record CanTake (tops : List TopPlace) (most n : ℕ) (ws : List ℕ) : Type 0 where
  pub few : n ≤ 64
  pub small : most ≤ 8
  pub room : 1 < length ws
  pub row : HeldApart (held_at tops) most (length tops) (length ws)
  pub held : (k : ℕ) → k < length tops → n ≤ word ws (held_at tops k)
  pub counted : (k : ℕ) → k < length tops → word ws (8 + k) + n < 2 ^ 64
  pub given : given ws + n < 2 ^ 64
