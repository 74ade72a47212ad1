-- What one entry says at a position, and what a function has to be lent to say it.
use Rattle.std.specs.Prelude.{ℕ, ◌+◌, ◌-◌, ◌≤◌, ◌<◌, ◌^◌, Bool, true, false, cond, ◌≡◌, Some, None, IfSome, List, length, eqb}
use Rattle.mtl.specs.Formula.{Formula}
use Rattle.mtl.specs.Log.{Log, NeverFalls}
use Rattle.mtl.specs.Satisfaction.{within, sat}
use Rattle.mtl.specs.Progress.{settled_to}
use Rattle.rule.specs.declared.Entry.{Entry}
use Rattle.rule.specs.declared.kind.Kind.{Kind}
use Rattle.rule.specs.Operands.{FormulaAt}
use Rattle.rule.specs.Accepted.{WellFormed}
use Rattle.trace.specs.Format.{record_count}
use Rattle.window.specs.View.{Views}
use Rattle.window.specs.Window.{Keeps}
use Rattle.window.specs.declared.view.View.{View}
use Rattle.window.specs.declared.KeptCopy.{KeptCopy}
use Rattle.blocks.specs.Kinds.{takes_right}
use Rattle.blocks.specs.Step.{Agrees}
use Rattle.engine.specs.Table.{RowsOk, kind_at}
use Rattle.engine.specs.Layout.{Laid}
use Rattle.engine.specs.declared.table.Row.{Row}
use Rattle.reasons.specs.Reason.{Says, since_says, until_says}
use Rattle.reasons.specs.Reason.Says.{stands, not, or, prev, next, prev_none}
use Rattle.search.specs.Times.{WholeLog}
use Rattle.sentences.specs.declared.saying.Follows.{Follows}
use Rattle.sentences.specs.declared.saying.Follows.TheVariants.{Nothing, One, Either}
use Rattle.sentences.specs.declared.saying.Saying.{Saying}
use Rattle.sentences.specs.declared.sentence.Tail.TheVariants.{Left, Time}
use Rattle.sentences.specs.Line.{encode}

-- WHAT ONE ENTRY SAYS

-- behind the gap to the position beside, the operand's sentences follow at that position if the gap is within
abbrev pub behind_gap : (is_within : Bool) (at : ℕ) → Follows
behind_gap is_within at = cond is_within (One at false) (Nothing false)

abbrev pub beside : (says : Says) (is_within : Bool) (at : ℕ) → Saying
beside says is_within at = record { says = encode says; follows = behind_gap is_within at }

-- since and until: nothing follows
abbrev pub alone : Says → Bool → Saying
alone says holds = record { says = encode says; follows = Nothing holds }

-- the same by what the code has
abbrev pub joining : Kind → Follows → Saying
joining kind follows = record { says = record { kind = kind; number = None; tail = None }; follows = follows }

abbrev pub gap_saying : Kind → (low high earlier later at : ℕ) → Saying
gap_saying kind low high earlier later at =
    record { says = record { kind = kind; number = Some (later - earlier); tail = None }; follows = behind_gap (within low high earlier later) at }

abbrev pub found_saying : Kind → (holds : Bool) (j p : ℕ) (left_fails : Bool) → Saying
found_saying kind holds j p left_fails =
    record { says = record { kind = kind; number = Some (cond holds j p); tail = cond holds None (Some (cond left_fails Left Time)) }; follows = Nothing holds }

-- the sentence of a formula at a position, and what follows it: nothing, and whether the formula holds; one operand's sentences, where, and
-- whether the operand's answer is turned; or those of an or's operands
abbrev pub saying_of : Formula → Log → (i : ℕ) → Saying
saying_of (Formula.letter c) L i = record { says = encode (stands c (L.letters i c)); follows = Nothing (L.letters i c) }
saying_of (Formula.not φ) L i = record { says = encode not; follows = One i true }
saying_of (Formula.or φ ψ) L i = record { says = encode or; follows = Either }
saying_of (Formula.previous low high φ) L i =
    cond (eqb i 0) (alone prev_none false)
    (beside (prev (L.time i - L.time (i - 1))) (within low high (L.time (i - 1)) (L.time i)) (i - 1))
saying_of (Formula.next low high φ) L i =
    beside (next (L.time (i + 1) - L.time i)) (within low high (L.time i) (L.time (i + 1))) (i + 1)
saying_of (Formula.since low high φ ψ) L i = alone (since_says low high φ ψ L i) (sat (Formula.since low high φ ψ) L i)
saying_of (Formula.until low high φ ψ) L i = alone (until_says low high φ ψ L i) (sat (Formula.until low high φ ψ) L i)

-- THE FUNCTIONS' PREMISES

-- what is lent to the functions that tell of entry k
pub record Lent (t : List Row) (v : View) (s words : List ℕ) (copy waiting : KeptCopy) (k : ℕ) : Type 0 where
  pub entry : k < 128
  pub rows : RowsOk t k
  pub words_room : 8192 ≤ length words
  pub copy_keeps : Keeps s copy
  pub waiting_keeps : Keeps s waiting
  pub views : Views v s
  pub few : record_count s ≤ 1000000

-- the table is that of an accepted rule's entries
pub record Ruled (e : List Entry) (n : ℕ) (t : List Row) : Type 0 where
  pub well_formed : WellFormed e n
  pub laid : Laid e n t

-- the view and the records are the log, open
pub record OpenLog (v : View) (s : List ℕ) (L : Log) : Type 0 where
  pub whole : WholeLog v s L
  pub falls : NeverFalls L
  pub agrees : Agrees v s L 0
  pub unclosed : L.closed ≡ false

-- entry k of the table is the formula's last, and the formula has answered position i of the log
pub record Answering (φ : Formula) (t : List Row) (v : View) (s : List ℕ) (k : ℕ) (L : Log) (i : ℕ) : Type 0 where
  pub entries : List Entry
  pub count : ℕ
  pub ruled : Ruled entries count t
  pub below : k < count
  pub formula : FormulaAt entries k φ
  pub shown : OpenLog v s L
  pub answered : i < settled_to φ L

-- what is sure of a saying, whatever the log: an entry whose operand follows has one, and only an or has two
abbrev pub Behind : (kind i : ℕ) → Follows → Type 0
Behind kind i (Nothing holds) = Unit {0}
Behind kind i (One at turned) = (at ≤ i + 1) × (takes_right kind ≡ true)
Behind kind i Either = kind ≡ 2

pub record Shape (kind i : ℕ) (r : Saying) : Type 0 where
  pub number : IfSome r.says.number (λ n. n < 2 ^ 32)
  pub behind : Behind kind i r.follows

-- what entry k says, whatever formula ends there
pub record Saids (t : List Row) (v : View) (s : List ℕ) (k i : ℕ) (r : Saying) : Type 0 where
  pub shape : Shape (kind_at t k) i r
  pub meaning : (φ : Formula) (L : Log) → Answering φ t v s k L i → r ≡ saying_of φ L i
