-- What the functions promise. `base` is the number of the checkpoint's own words, and `most` of a version's formulas; v is the view, s the
-- records, ws the checkpoint's words.
use Rattle.std.specs.Prelude.{ℕ, suc, ◌+◌, ◌-◌, ◌≤◌, ◌<◌, ◌^◌, min, Bool, cond, ◌≡◌, List, length, get_or, drop, set, ltb}
use Rattle.mtl.specs.Formula.{Formula}
use Rattle.mtl.specs.Log.{Log, head_of, Placed, NeverFalls}
use Rattle.mtl.specs.Progress.{joint_progress}
use Rattle.mtl.specs.Wanted.{deepest, wanted, wanted_record}
use Rattle.verdicts.specs.Counts.{noes_in, laid_behind}
use Rattle.rule.specs.declared.Entry.{Entry}
use Rattle.rule.specs.declared.decoding.Rule.{Rule}
use Rattle.rule.specs.declared.measuring.Ends.{Ends}
use Rattle.rule.specs.Words.{offset}
use Rattle.rule.specs.Postfix.{formula}
use Rattle.rule.specs.Accepted.{WellFormed}
use Rattle.trace.specs.Format.{record_count}
use Rattle.trace.specs.Order.{last_time}
use Rattle.window.specs.View.{total, view_of, ViewOf}
use Rattle.window.specs.View.{skips as view_skips}
use Rattle.window.specs.View.{closed as view_closed}
use Rattle.window.specs.Window.{Found}
use Rattle.window.specs.declared.view.View.{View}
use Rattle.blocks.specs.Block.{word}
use Rattle.blocks.specs.Step.{Agrees}
use Rattle.engine.specs.State.{OnwardFormula}
use Rattle.engine.specs.Tops.{Ended}
use Rattle.checkpoint.specs.Checkpoint.{given, seen, last, closed_with, log_kind, kind_of_log, first_wanted, stored_noes}
use Rattle.meaning.specs.Verdicts.{columns, verdict}
use Rattle.held.specs.Top.{part_of, Top}
use Rattle.emit.specs.declared.Emitted.{Emitted}
use Rattle.held.specs.Code.{Plan, Fits}

-- c verdicts from d on: the bytes, and what the words stand for then
pub record Giving (base : ℕ) (fs : List Formula) (L : Log) (d c : ℕ) (ws' sheet' : List ℕ) : Type 0 where
  pub top : Top base fs L (d + c) ws'
  pub bytes : (i : ℕ) → i < c → get_or sheet' i 0 ≡ verdict fs L (d + i)

-- what stays, whatever the words hold: of the header all but the verdicts given and the counts of the rule's formulas; in the formulas'
-- blocks no head goes back, and the words that no operator writes are kept but for the answers held
pub record Frame (base most : ℕ) (fs : List Formula) (ws ws' : List ℕ) : Type 0 where
  pub header : (i : ℕ) → i < 8 → (i ≡ 1 → ⊥) → word ws' i ≡ word ws i
  pub spare : (k : ℕ) → length fs ≤ k → k < most → (word ws' (8 + k) ≡ word ws (8 + k)) × (word ws' (8 + most + k) ≡ word ws (8 + most + k))
  pub onward : (k : ℕ) → k < length fs → OnwardFormula (formula fs k) (part_of base fs k ws) (part_of base fs k ws')

-- `give` writes as many verdicts as the sheet holds, or as there are
pub record Gave (base most : ℕ) (fs : List Formula) (v : View) (s ws sheet : List ℕ) (r : Emitted) (ws' sheet' : List ℕ) : Type 0 where
  pub room : r.count ≤ length sheet
  pub rest : drop r.count sheet' ≡ drop r.count sheet
  pub sheet_length : length sheet' ≡ length sheet
  pub words_length : length ws' ≡ length ws
  pub count : given ws' ≡ given ws + r.count
  pub frame : Frame base most fs ws ws'
  pub noes : (k : ℕ) → k < columns fs → stored_noes most ws' k ≡ laid_behind (stored_noes most ws k) (given ws) (noes_in k sheet' r.count)
  pub meaning : (L : Log) (d : ℕ) → NeverFalls L → Agrees v s L (wanted fs d) → Top base fs L d ws →
      Giving base fs L d r.count ws' sheet' × (r.count ≡ min (joint_progress fs L - d) (length sheet)) ×
      (r.more ≡ ltb (d + r.count) (joint_progress fs L))

abbrev pub GivesVerdicts : (rule : Plan) (most : ℕ) (v : View) (s ws sheet : List ℕ) (r : Emitted) (ws' sheet' : List ℕ) → Type 0
GivesVerdicts rule most v s ws sheet r ws' sheet' =
    (base : ℕ) (fs : List Formula) → Fits rule base fs (length ws) → 8 + most + most ≤ base → Gave base most fs v s ws sheet r ws' sheet'

-- a call's verdicts begin with at most 1,000,000 given and as many counted, so that no count can wrap
pub record Countable (rule : Plan) (most : ℕ) (ws : List ℕ) : Type 0 where
  pub fits : (base : ℕ) × (fs : List Formula) × Fits rule base fs (length ws) × (8 + most + most ≤ base)
  pub formulas : length rule.tops ≤ most
  pub small : (1 ≤ most) × (most ≤ 8)
  pub given : given ws ≤ 1000000
  pub noes : (k : ℕ) → k < most → word ws (8 + k) ≤ 1000000

-- the slice of records, from the first wanted one on, that a call brings of a log, where d verdicts were given: its positions begin with the
-- first still wanted
pub record Brought (fs : List Formula) (s : List ℕ) (skips closed : Bool) (first : ℕ) (L : Log) (d : ℕ) : Type 0 where
  pub placed : Placed L (first + record_count s)
  pub starts : head_of L (wanted fs d) ≤ first
  pub agrees : Agrees (view_of first (wanted fs d) skips closed s) s L (wanted fs d)

-- the view of these records that is handed on
abbrev pub Viewed : (skips closed : Bool) (deep : ℕ) (s ws : List ℕ) (v : View) → Type 0
Viewed skips closed deep s ws v = ViewOf (first_wanted ws) (given ws - deep) skips closed s v

-- what is noted of the log: the last time, the records seen, whether it is closed, its version, and the first record still wanted, the
-- slice's record n
abbrev pub noted : (skips closed : Bool) (s : List ℕ) (n : ℕ) → List ℕ → List ℕ
noted skips closed s n ws =
    let size = first_wanted ws + record_count s in
    set (set (set (set (set ws 3 (last_time s (seen ws - first_wanted ws) (last ws))) 2 size) 5 (cond closed (suc size) 0)) 6 (kind_of_log skips)) 7
    (first_wanted ws + n)

-- it is the one from which on as many positions stand as are still wanted
abbrev pub Notes : (skips : Bool) (deep : ℕ) (v : View) (s ws ws' : List ℕ) → Type 0
Notes skips deep v s ws ws' = (n : ℕ) × Found (view_skips v) s (total v - (given ws - deep)) n × (ws' ≡ noted skips (view_closed v) s n ws)

-- an accepted call on exactly the words that the rule needs
pub record Emits (base most : ℕ) (fs : List Formula) (s : List ℕ) (skips closed : Bool) (ws sheet : List ℕ) (r : Emitted) (ws' sheet' : List ℕ) : Type 0 where
  pub room : r.count ≤ length sheet
  pub rest : drop r.count sheet' ≡ drop r.count sheet
  pub sheet_length : length sheet' ≡ length sheet
  pub words_length : length ws' ≡ length ws
  pub count : given ws' ≡ given ws + r.count
  pub size : seen ws' ≡ first_wanted ws + record_count s
  pub time : last ws' ≡ last_time s (seen ws - first_wanted ws) (last ws)
  pub fits : last ws < 2 ^ 32 → last ws' < 2 ^ 32
  pub ended : closed_with ws' ≡ cond closed (suc (seen ws')) 0
  pub kind : log_kind ws' ≡ kind_of_log skips
  pub first : (first_wanted ws ≤ first_wanted ws') × (first_wanted ws' ≤ seen ws')
  pub noes : (k : ℕ) → k < columns fs → stored_noes most ws' k ≡ laid_behind (stored_noes most ws k) (given ws) (noes_in k sheet' r.count)
  -- what stays, whatever the words hold
  pub header : (word ws' 0 ≡ word ws 0) × (word ws' 4 ≡ word ws 4)
  pub spare : (k : ℕ) → length fs ≤ k → k < most → (word ws' (8 + k) ≡ word ws (8 + k)) × (word ws' (8 + most + k) ≡ word ws (8 + most + k))
  pub onward : (k : ℕ) → k < length fs → OnwardFormula (formula fs k) (part_of base fs k ws) (part_of base fs k ws')
  pub meaning : (L : Log) (d : ℕ) → NeverFalls L → Brought fs s skips closed (first_wanted ws) L d → Top base fs L d ws →
      Giving base fs L d r.count ws' sheet' × (r.count ≡ min (joint_progress fs L - d) (length sheet)) ×
      (r.more ≡ ltb (d + r.count) (joint_progress fs L)) × (first_wanted ws' ≡ wanted_record L (seen ws') (wanted fs (d + r.count)))

-- an accepted rule, as a call decodes it: its entries and how many they are, where each formula ends and how many there are, the most that
-- its version has, the number of the checkpoint's own words, and the paper's k of document 02, paper 2
pub record DecodedRule : Type 0 where
  pub entries : List Entry
  pub count : ℕ
  pub ends : List ℕ
  pub number : ℕ
  pub most : ℕ
  pub base : ℕ
  pub deep : ℕ

-- and the words that it needs
pub record ReadyToEmit (rule : DecodedRule) (s ws : List ℕ) : Type 0 where
  pub few : rule.count ≤ 128
  pub well_formed : WellFormed rule.entries rule.count
  pub the_formulas : List Formula
  pub ended : Ended rule.entries rule.count rule.ends rule.number the_formulas
  pub formulas : rule.number ≤ rule.most
  pub small : (1 ≤ rule.most) × (rule.most ≤ 8)
  pub header : (16 ≤ rule.base) × (rule.base ≤ 24) × (8 + rule.most + rule.most ≤ rule.base)
  pub size : length ws ≡ rule.base + offset rule.entries rule.count
  pub given : given ws ≤ 1000000
  pub noes : (k : ℕ) → k < rule.most → word ws (8 + k) ≤ 1000000
  pub depth : rule.deep ≡ deepest the_formulas
  pub wanted : first_wanted ws ≤ 1000000
  pub records : record_count s ≤ 1000000

-- as a call hands it over
abbrev pub as_decoded : Rule → Ends → (most base deep : ℕ) → DecodedRule
as_decoded rule ends most base deep =
    record {
      entries = rule.entries;
      count = rule.count;
      ends = ends.at;
      number = ends.number;
      most = most;
      base = base;
      deep = deep;
    }

abbrev pub Emission : (rule : DecodedRule) (skips closed : Bool) (s ws sheet : List ℕ) → Emitted → (ws' sheet' : List ℕ) → Type 0
Emission rule skips closed s ws sheet r ws' sheet' =
    (fs : List Formula) → Ended rule.entries rule.count rule.ends rule.number fs → rule.deep ≡ deepest fs →
    Emits rule.base rule.most fs s skips closed ws sheet r ws' sheet'
