-- Demands 2 and 3 as claims about a whole list of calls. Its steps are the records that the calls' `ensures` name, and nothing
-- here names the inside of a checkpoint. proofs/Truth.antt proves demand 2's claim, proofs/Demand3.antt demand 3's.
use Rattle.std.specs.Prelude.{ℕ, ◌+◌, ◌*◌, ◌-◌, ◌/◌, ◌%◌, ◌≤◌, ◌<◌, ◌^◌, min, Bool, true, false, cond, ◌&&◌, ◌≡◌, ◌↔◌, List, [], ◌∷◌, ◌++◌, length, get_or, take, drop, ltb, Result}
use Rattle.std.proofs.Math.Option.{some}
use Rattle.mtl.specs.Formula.{Formula}
use Rattle.mtl.specs.Log.{Log, Stream, NeverFalls, StreamNeverFalls, Continues, Begins}
use Rattle.mtl.specs.Reading.{HoldsIn, HoldsOn}
use Rattle.trace.specs.Format.{record_count, skips_of, dropped, records_of, total_records, malformed, SameRecord}
use Rattle.trace.specs.Log.{log_of}
use Rattle.verdicts.specs.Counts.{noes_in}
use Rattle.rule.specs.Entries.{version, count, decoded}
use Rattle.rule.specs.Postfix.{formulas}
use Rattle.rule.specs.Measure.{measured}
use Rattle.meaning.specs.Verdicts.{formulas_of, columns, first_records, wanted_after, answered_number, all_verdicts}
use Rattle.monitor.specs.Open.{done, Opens}
use Rattle.monitor.specs.Open.{Answer as OpenAnswer}
use Rattle.monitor.specs.Resume.{Answer, gave, refused_with, Resumes}
use Rattle.monitor.specs.Trim.{Trims}
use Rattle.monitor.specs.Trim.{Answer as TrimAnswer}
use Rattle.monitor.specs.Summary.{counted, TellsNoes, Summarizes}
use Rattle.monitor.specs.Summary.{Answer as SummaryAnswer}
use Rattle.monitor.specs.Status.{StatusFacts, known}
use Rattle.monitor.specs.Status.{told as known_told, answer as standing_of}
use Rattle.monitor.specs.declared.Standing.{Standing}
use Rattle.refusal.specs.declared.Refusal.{Refusal}

-- "One untouched log belongs to the list: a header without fault, then at most 1,000,000 records whose times never fall": the times of
-- all records, service records too. None is dropped.
pub record Untouched (log : List ℕ) : Type 0 where
  pub well_formed : malformed log ≡ false
  pub undropped : dropped log ≡ 0
  pub never_falls : NeverFalls (log_of false (records_of log))

-- an accepted call, as far as the claim speaks of it: whether it is a closing, the records that it brought, the sheet's length, c,
-- "more", and the first c bytes of the sheet as the call left it
pub record Call : Type 0 where
  pub closing : Bool
  pub records : ℕ
  pub room : ℕ
  pub count : ℕ
  pub more : Bool
  pub bytes : List ℕ

-- one with c verdicts, which left the sheet as sheet'
abbrev pub the_call : (closing : Bool) (n : ℕ) (sheet : List ℕ) (c : ℕ) (more : Bool) (sheet' : List ℕ) → Call
the_call closing n sheet c more sheet' =
    record { closing = closing; records = n; room = length sheet; count = c; more = more; bytes = take c sheet' }

-- of the accepted calls, the latest first: "d is the sum of c over the accepted calls before it"
unfoldable pub given_by : List Call → ℕ
given_by [] = 0
given_by (c ∷ older) = given_by older + c.count

-- the records that the last accepted call brought
unfoldable pub brought_by : List Call → ℕ
brought_by [] = 0
brought_by (c ∷ older) = c.records

-- the last accepted call is a closing; every accepted call after a closing is one, since a resume then meets 20 (`not_refused`)
unfoldable pub closed_by : List Call → Bool
closed_by [] = false
closed_by (c ∷ older) = c.closing

-- the records that the first accepted closing brought; 0 where there is none
unfoldable pub closed_at : List Call → ℕ
closed_at [] = 0
closed_at (c ∷ older) = cond (closed_by older) (closed_at older) (cond c.closing c.records 0)

-- the accepted calls before the first closing
unfoldable pub before_closing : List Call → List Call
before_closing [] = []
before_closing (c ∷ older) = cond c.closing (before_closing older) (c ∷ older)

-- "laid end to end in the order of the calls"
unfoldable pub laid : List Call → List ℕ
laid [] = []
laid (c ∷ older) = laid older ++ c.bytes

-- "it brings .. this header and the records from the first on", or "a log trimmed with its point instead, grown and trimmed again at will"
-- (document 02, paper 11): log' stands for the first n records of the untouched log. "The first record wanted is the one that holds the first
-- position still wanted ..; overwriting stops before it" (paper 10), and so does dropping. What stands before it may "hold any bytes; the
-- others stand as in the untouched log."
pub record Brings (log : List ℕ) (first n : ℕ) (log' : List ℕ) : Type 0 where
  pub well_formed : malformed log' ≡ false
  -- "a point may go from 2 to 3 and back"
  pub kind : skips_of log' ≡ skips_of log
  pub size : total_records log' ≡ n
  pub within : n ≤ record_count (records_of log)
  pub kept : dropped log' ≤ first
  pub same : (i : ℕ) → first ≤ i → i < n → SameRecord (records_of log') (i - dropped log') (records_of log) i

-- after the accepted calls h, "no fewer than the accepted call before it brought"
pub record BringsAfter (rule log : List ℕ) (h : List Call) (n : ℕ) (log' : List ℕ) : Type 0 where
  pub no_fewer : brought_by h ≤ n
  pub brings : Brings log (wanted_after rule log (given_by h) (brought_by h)) n log'

-- "Each gets the point as the call before left it": the words p that a call lends are the point's as far as both go. Behind the
-- point any words may stand; if they are fewer than the point's, they are the first of them.
abbrev pub Lends : (point p : List ℕ) → Type 0
Lends point p = take (length point) p ≡ take (length p) point

-- the point after a call that left the words p: those of its words that were not lent are what they were
abbrev pub point_after : (point p : List ℕ) → List ℕ
point_after point p = take (length point) p ++ drop (length p) point

-- one call on the lent words p, after the accepted calls h: the accepted calls up to it, and the words as it left them
pub data OneCall (rule log : List ℕ) (h : List Call) (p : List ℕ) : List Call → List ℕ → Type 0 where
  -- "refused, whatever rule, log and sheet it brought"
  refused : (closing : Bool) (rule' log' sheet : List ℕ) (n : ℕ) (p' sheet' : List ℕ) →
      Resumes closing rule' log' p sheet (refused_with n) p' sheet' → OneCall rule log h p h p'
  -- "or it brings the rule, this header and the records"
  accepted : (closing : Bool) (n : ℕ) (log' sheet : List ℕ) (c : ℕ) (more : Bool) (p' sheet' : List ℕ) →
      BringsAfter rule log h n log' → Resumes closing rule log' p sheet (gave c more) p' sheet' →
      OneCall rule log h p (the_call closing n sheet c more sheet' ∷ h) p'
  -- a trimming, refused or not, whatever rule, log and buffer it brought: "The point keeps its words"
  trimming : (rule' log' out : List ℕ) (a : TrimAnswer) (out' : List ℕ) → Trims rule' log' p out a out' → OneCall rule log h p h p

-- a list of calls: its accepted calls, the latest first, and the point, as many words as weigh gave, as its last call left it
pub data Calls (rule log : List ℕ) : List Call → List ℕ → Type 0 where
  -- "The list starts from the point as open left it for the rule"
  opened : (lent p : List ℕ) → Opens rule lent done p → Calls rule log [] (take (measured rule).words p)
  -- "any number of them", each on words of any number
  and_then : {h h' : List Call} {point : List ℕ} → Calls rule log h point →
      (p p' : List ℕ) → Lends point p → OneCall rule log h p h' p' → Calls rule log h' (point_after point p')

-- "Each accepted call's c and its 'more' or 'caught up' are as above, with this d and the A of the untouched records up to its last."
pub record AsPromised (rule log : List ℕ) (d : ℕ) (c : Call) : Type 0 where
  pub count : c.count ≡ min (answered_number c.closing rule log c.records - d) c.room
  pub more : c.more ≡ ltb (d + c.count) (answered_number c.closing rule log c.records)
  pub bytes : length c.bytes ≡ c.count

-- each of the accepted calls, with the verdicts given before it
unfoldable pub Each : (rule log : List ℕ) → List Call → Type 0
Each rule log [] = Unit {0}
Each rule log (c ∷ older) = AsPromised rule log (given_by older) c × Each rule log older

-- "they are all A of them exactly when that call gave 'caught up'. Before the first accepted call nothing is written.": the
-- accepted calls' bytes are none then, and a refused call keeps its sheet by `Resumes`
unfoldable pub AllWhenCaughtUp : (rule log : List ℕ) → List Call → Type 0
AllWhenCaughtUp rule log [] = laid [] ≡ []
AllWhenCaughtUp rule log (c ∷ older) = (laid (c ∷ older) ≡ all_verdicts c.closing rule log c.records) ↔ (c.more ≡ false)

-- "One run is a carry on from a fresh point with a sheet of A bytes", or "a closing where the last accepted call is one": its answer
-- and its sheet, for the first n records
pub record OneRun (closing : Bool) (rule log : List ℕ) (n : ℕ) (a : Answer) (sheet' : List ℕ) : Type 0 where
  pub lent : List ℕ
  pub fresh : List ℕ
  pub opens : Opens rule lent done fresh
  pub brought : List ℕ
  pub brings : Brings log 0 n brought
  pub sheet : List ℕ
  pub room : length sheet ≡ answered_number closing rule log n
  pub left : List ℕ
  pub resumes : Resumes closing rule brought fresh sheet a left sheet'

-- What a verdict byte says, where Holds says which formulas hold. Of an empty rule, "every position is yes"; of several formulas, "bit k
-- of the verdict byte is formula k's answer, in rule order from 0" (document 02, paper 8): the lowest bit is the first formula's, and the
-- bits above it say the same of the others.
abbrev pub ByteSays : (Formula → Type 0) → List Formula → ℕ → Type 0
ByteSays Holds [] byte = byte ≡ 1
ByteSays Holds (φ ∷ []) byte = (byte ≡ 1) ↔ Holds φ
ByteSays Holds (φ ∷ (ψ ∷ fs)) byte = ((byte % 2 ≡ 1) ↔ Holds φ) × ByteSays Holds (ψ ∷ fs) (byte / 2)

-- DEMAND 2, for every list. "Verdicts are those of metric temporal logic as documents 000 and 002 define it, on the log and on
-- every accepted lengthening of it"
pub record Demand2 (rule log : List ℕ) (h : List Call) : Type 0 where
  -- the rule's entries are these formulas: one, or none where it has no entry; of version 2 one to eight
  pub reads : formulas (version rule) (decoded rule) (count rule) ≡ some (formulas_of rule)
  -- "each byte 1 for yes or 0 for no", of several formulas each bit; no byte has "a bit beyond" them
  pub no_bit_beyond : (i : ℕ) → i < length (laid h) → get_or (laid h) i 0 < 2 ^ columns (formulas_of rule)
  -- byte i of those before the first closing says of each formula whether it holds at position i of the records brought, however they
  -- are lengthened: by any number of records, none among them,
  pub on_log : (L : Log) → Continues (first_records false log (brought_by (before_closing h))) L → NeverFalls L →
      (i : ℕ) → i < length (laid (before_closing h)) → ByteSays (λ φ. HoldsIn L φ i) (formulas_of rule) (get_or (laid h) i 0)
  -- or to an infinite stream
  pub on_stream : (σ : Stream) → Begins σ (first_records false log (brought_by (before_closing h))) → StreamNeverFalls σ →
      (i : ℕ) → i < length (laid (before_closing h)) → ByteSays (λ φ. HoldsOn σ φ i) (formulas_of rule) (get_or (laid h) i 0)
  -- "A closing's verdicts are compared with that log alone": every byte, with the records that the last accepted call brought
  pub as_it_ends : (i : ℕ) → i < length (laid h) →
      ByteSays (λ φ. HoldsIn (first_records (closed_by h) log (brought_by h)) φ i) (formulas_of rule) (get_or (laid h) i 0)

-- what `status` tells after the accepted calls h
abbrev pub facts_after : (rule log : List ℕ) → List Call → StatusFacts
facts_after rule log h =
    record { given = given_by h; seen = brought_by h; wanted = wanted_after rule log (given_by h) (brought_by h); closed = closed_by h }

-- "any words behind them are kept": those behind the words that weigh gave, and how many there are
pub record Keeps (rule words words' : List ℕ) : Type 0 where
  pub behind : drop (measured rule).words words' ≡ drop (measured rule).words words
  pub number : length words' ≡ length words

-- the number with which a call is refused that brings rule and log as it should: "a call that brings rule and log as it should can
-- still meet 20 or 21", a resume 20 exactly after an accepted closing, and a closing 21 exactly where it brings more records than the
-- first accepted one
abbrev pub expected_refusal : (closing closed : Bool) (at n : ℕ) → ℕ
expected_refusal false closed at n = cond closed 20 0
expected_refusal true closed at n = cond (closed && ltb at n) 21 0

-- the records of the untouched log from the first n on up to m: what a log that stands for n of them grows by
abbrev pub grown_by : (log : List ℕ) (n m : ℕ) → List ℕ
grown_by log n m = take (8 * (m - n)) (drop (8 * n) (records_of log))

-- the number of a trimming that brings rule and log as it should: 23 for version 1, and 25 where the buffer is short
abbrev pub expected_trim_refusal : (skips : Bool) (lent size : ℕ) → ℕ
expected_trim_refusal skips lent size = cond skips (cond (ltb lent size) 25 0) 23

-- after the accepted calls h, the length of a log of n records when it is trimmed: 16 bytes and the records from the first wanted on
abbrev pub trimmed_length : (rule log : List ℕ) (h : List Call) (n : ℕ) → ℕ
trimmed_length rule log h n = 16 + 8 * (n - wanted_after rule log (given_by h) (brought_by h))

-- a trimming, after the accepted calls h, of a log that stands for the first n records
pub record TrimmedAfter (rule log : List ℕ) (h : List Call) (n : ℕ) (p out : List ℕ) (a : TrimAnswer) (out' : List ℕ) : Type 0 where
  pub number : a.number ≡ expected_trim_refusal (skips_of log) (length out) (trimmed_length rule log h n)
  pub written : a.number ≡ 0 → a.written ≡ trimmed_length rule log h n
  -- "From then on demand 3's list may bring a log trimmed with its point instead, grown": what was written, as it is and with more records
  pub brings : a.number ≡ 0 → (m : ℕ) → n ≤ m → m ≤ record_count (records_of log) →
      BringsAfter rule log h m (take a.written out' ++ grown_by log n m)
  -- trimmed again with nothing new wanted it is what it was
  pub again : a.number ≡ 0 → (out₂ : List ℕ) (a₂ : TrimAnswer) (out₂' : List ℕ) →
      Trims rule (take a.written out') p out₂ a₂ out₂' → a₂.number ≡ 0 → take a₂.written out₂' ≡ take a.written out'

-- a log that could be brought before the last accepted call can be brought after it, what was trimmed before it too, if it has its records
unfoldable pub StillBrings : (rule log : List ℕ) → List Call → Type 0
StillBrings rule log [] = Unit {0}
StillBrings rule log (c ∷ older) =
    (n : ℕ) (log' : List ℕ) → c.records ≤ n → BringsAfter rule log older n log' → BringsAfter rule log (c ∷ older) n log'

-- DEMAND 3, for every list
pub record Demand3 (rule log : List ℕ) (h : List Call) (point : List ℕ) : Type 0 where
  -- 1. the bytes laid end to end are the first verdicts of the untouched log as far as the last accepted call brought it, closed where
  -- that call is a closing
  pub first : laid h ≡ take (length (laid h)) (all_verdicts (closed_by h) rule log (brought_by h))
  -- 2. and all of them exactly when that call said caught up
  pub all : AllWhenCaughtUp rule log h
  -- 3. each accepted call's c and "more"
  pub each : Each rule log h
  -- 4. "A call that brings rule and log in this way is not refused." but with 20 or 21, the point being whole in the words that it lends
  pub not_refused : (p : List ℕ) → Lends point p → length point ≤ length p →
      (closing : Bool) (n : ℕ) (log' sheet : List ℕ) → BringsAfter rule log h n log' →
      (a : Answer) (p' sheet' : List ℕ) → Resumes closing rule log' p sheet a p' sheet' →
      a.number ≡ expected_refusal closing (closed_by h) (closed_at h) n
  -- with fewer words it meets 9, whatever they, the log and the sheet hold
  pub too_few : (p : List ℕ) → length p < length point →
      (closing : Bool) (log' sheet : List ℕ) (a : Answer) (p' sheet' : List ℕ) → Resumes closing rule log' p sheet a p' sheet' → a ≡ refused_with 9
  -- 5. "A point of exactly the words that weigh gave is enough for every list": the point has that many, and open takes them;
  pub size : length point ≡ (measured rule).words
  pub enough : (words : List ℕ) (a : OpenAnswer) (fresh : List ℕ) → length words ≡ (measured rule).words → Opens rule words a fresh → a ≡ done
  -- "and any words behind them are kept", by open and by each call of a list, accepted or refused
  pub open_keeps : (words : List ℕ) (a : OpenAnswer) (fresh : List ℕ) → Opens rule words a fresh → Keeps rule words fresh
  pub call_keeps : (p p' : List ℕ) (h' : List Call) → OneCall rule log h p h' p' → Keeps rule p p'
  -- 6. one run "writes just these", and so the bytes of 1 are its first bytes
  pub one_run : (closing : Bool) (n : ℕ) (a : Answer) (sheet' : List ℕ) → OneRun closing rule log n a sheet' →
      (a ≡ gave (answered_number closing rule log n) false) × (sheet' ≡ all_verdicts closing rule log n)
  -- 7. of document 02, papers 7 and 8: `summary` of the point, whole in the words lent, is not refused, and gives of each formula "what
  -- tally and a scan give over all verdict bytes written from that point, laid end to end"
  pub summary : (p : List ℕ) → Lends point p → length point ≤ length p →
      (nos latest : List ℕ) (a : SummaryAnswer) (nos' latest' : List ℕ) → Summarizes rule p nos latest a nos' latest' →
      (a ≡ counted (columns (formulas_of rule))) ×
      TellsNoes 0 (columns (formulas_of rule)) (λ k. noes_in k (laid h) (length (laid h))) nos latest nos' latest'
  -- 8. `status` of the point, whole in the words lent, is not refused: given is the sum of c, seen and closed are those of the last
  -- accepted call, and wanted is the record from which `BringsAfter` asks the log to stand
  pub status : (p : List ℕ) → Lends point p → length point ≤ length p →
      (r : Result Standing Refusal) → standing_of r ≡ known rule p → standing_of r ≡ known_told (facts_after rule log h)
  -- 9. of document 02, paper 11: a trimming that brings rule and log as it should, the point being whole in the words that it lends
  pub trims : (p : List ℕ) → Lends point p → length point ≤ length p →
      (n : ℕ) (log' out : List ℕ) → BringsAfter rule log h n log' →
      (a : TrimAnswer) (out' : List ℕ) → Trims rule log' p out a out' → TrimmedAfter rule log h n p out a out'
  -- 10. "each carrying on or closing gives the sheet and answer that the log never trimmed would give at that call": two logs that may be
  -- brought, trimmed or not
  pub alike : (p : List ℕ) → Lends point p → length point ≤ length p →
      (closing : Bool) (n : ℕ) (log₁ log₂ sheet : List ℕ) → BringsAfter rule log h n log₁ → BringsAfter rule log h n log₂ →
      (a₁ : Answer) (p₁ sheet₁ : List ℕ) → Resumes closing rule log₁ p sheet a₁ p₁ sheet₁ →
      (a₂ : Answer) (p₂ sheet₂ : List ℕ) → Resumes closing rule log₂ p sheet a₂ p₂ sheet₂ →
      (a₁ ≡ a₂) × (sheet₁ ≡ sheet₂)
  -- the log never trimmed, as far as it had grown, is one of them
  pub untrimmed : (u more : List ℕ) → log ≡ u ++ more → Untouched u → brought_by h ≤ record_count (records_of u) →
      BringsAfter rule log h (record_count (records_of u)) u
  -- 11. "grown and trimmed again at will": no call takes away what may be brought
  pub still : StillBrings rule log h
