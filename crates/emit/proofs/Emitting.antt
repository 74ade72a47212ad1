-- One accepted call on exactly the words that its rule needs: where its formulas stand, the view of its records, and the header once the log
-- is noted.
use Prim.Native.Nat.{ℕ, suc, ◌+◌, ◌-◌, ◌≤◌, ◌<◌}
use mathlib.Core.Bool.{Bool, cond}
use mathlib.Core.Path.{◌≡◌, refl, sym, ap, ap₂, ◌∙◌}
use mathlib.Core.List.{List, [], ◌∷◌}
use native.Mathlib.Omega.{arith}
use lib.ListN.{length, get_or, set, length-set}
use lib.Seq.{get_or-set_other}
use Rattle.mtl.specs.Formula.{Formula}
use Rattle.mtl.specs.Log.{Log, head_of}
use Rattle.mtl.specs.Wanted.{deepest, wanted, wanted_record}
use Rattle.verdicts.specs.Counts.{latest_of}
use Rattle.verdicts.proofs.Noes.{noes}
use Rattle.rule.specs.declared.Entry.{Entry}
use Rattle.trace.specs.Format.{record_count}
use Rattle.trace.specs.Order.{last_time}
use Rattle.trace.specs.Positions.{place, before}
use Rattle.window.specs.View.{total, view_of, ViewOf}
use Rattle.window.specs.View.{skips as view_skips}
use Rattle.window.specs.Window.{Found}
use Rattle.trace.proofs.Laws.{last_time_bound}
use Rattle.window.proofs.Reading.{wanted_shown}
use Rattle.window.proofs.Slices.{served_before, served_shows}
use Rattle.window.specs.declared.view.View.{View}
use Rattle.blocks.specs.Block.{word}
use Rattle.blocks.specs.Step.{Agrees}
use Rattle.blocks.proofs.Words.{Store, put, after, word_stores}
use Rattle.engine.specs.Tops.{Tops, Ended}
use Rattle.engine.specs.declared.table.Row.{Row}
use Rattle.engine.specs.declared.tops.Top.{Top as TopPlace}
use Rattle.engine.proofs.Formulas.{rule_size}
use Rattle.checkpoint.specs.Checkpoint.{given, seen, last, first_wanted, kind_of_log, stored_noes}
use Rattle.held.specs.Top.{part_of, Top}
use Rattle.held.specs.Code.{plan, Fits}
use Rattle.emit.specs.Code.{Gave, Viewed, noted, Notes, ReadyToEmit, Emits}
use Rattle.emit.specs.declared.Emitted.{Emitted}
use Rattle.held.proofs.Places.{part_same}

-- the formulas of the rule have all words behind the header
pub fits_of : (t : List Entry) (n : ℕ) (ends : List ℕ) (number most base deep : ℕ) (s ws : List ℕ) (table : List Row) (tops : List TopPlace) →
    ReadyToEmit (record { entries = t; count = n; ends = ends; number = number; most = most; base = base; deep = deep }) s ws → (fs : List Formula) → Ended t n ends number fs → Tops table tops base fs →
    Fits (plan table tops) base fs (length ws)
fits_of t n ends number most base deep s ws table tops ready fs ended laid =
    record {
      laid = laid;
      header = ready.header.0;
      all = omega (arith, ready.size, rule_size t n ready.well_formed fs ended.whole);
    }

-- THE VIEW

module _ (skips closed : Bool) (s : List ℕ) (first q : ℕ) (L : Log) (v : View) (made : ViewOf first q skips closed s v) where
  -- where no service record lies in the slice, none is passed over, and it tells the same log
  viewed_agrees : (g : ℕ) → Agrees (view_of first q skips closed s) s L g → Agrees v s L g
  viewed_agrees g agrees =
      record {
        ends = agrees.ends ∙ sym made.closed;
        size = made.total ∙ agrees.size;
        shows = λ i low high. rw (made.skips, made.first) (served_shows skips s first L i (agrees.shows i low high));
      }

  -- the record found is the first still wanted
  found_wanted : (q' n : ℕ) → head_of L q ≤ first → q ≤ q' → q' ≤ L.size → Agrees v s L q → Found (view_skips v) s (total v - q') n →
      first + n ≡ wanted_record L (first + record_count s) q'
  found_wanted q' n starts later inside agrees found =
      let size = agrees.size in
      let here : q + before (view_skips v) s (record_count s) ≡ L.size = rw (made.skips, served_before skips s) (sym (made.total) ∙ size) in
      let there : q + (q' - q) ≡ q' = omega arith in
      ap (λ (m : ℕ). first + m) (found.at (omega arith) ∙ ap (place (view_skips v) s 0) (omega arith)) ∙
      sym (wanted_shown (view_skips v) s first L q starts here (λ i low high. rw (made.first) at (agrees.shows i low high)) (q' - q) (omega arith)) ∙
      ap (wanted_record L (first + record_count s)) there

-- THE HEADER

module _ (skips closed : Bool) (s : List ℕ) (n : ℕ) (ws : List ℕ) (room : 16 ≤ length ws) where
  abbrev ws' : List ℕ
  ws' = noted skips closed s n ws

  abbrev size : ℕ
  size = first_wanted ws + record_count s

  abbrev noting : List Store
  noting =
      put 3 (last_time s (seen ws - first_wanted ws) (last ws)) ∷ put 2 size ∷ put 5 (cond closed (suc size) 0) ∷ put 6 (kind_of_log skips) ∷
      put 7 (first_wanted ws + n) ∷ []

  noted_word : (k : ℕ) → word ws' k ≡ after noting (word ws) k
  noted_word = word_stores noting ws (omega arith)

  length_noted : length ws' ≡ length ws
  length_noted = simp length-set

  -- the words behind word 7
  noted_high : (i : ℕ) → 8 ≤ i → word ws' i ≡ word ws i
  noted_high i high =
      get_or-set_other (set (set (set (set ws 3 _) 2 size) 5 _) 6 _) 7 i _ 0 (λ e. omega arith) ∙
      get_or-set_other (set (set (set ws 3 _) 2 size) 5 _) 6 i _ 0 (λ e. omega arith) ∙
      get_or-set_other (set (set ws 3 _) 2 size) 5 i _ 0 (λ e. omega arith) ∙
      get_or-set_other (set ws 3 _) 2 i size 0 (λ e. omega arith) ∙
      get_or-set_other ws 3 i _ 0 (λ e. omega arith)

  noted_noes : (most k : ℕ) → stored_noes most ws' k ≡ stored_noes most ws k
  noted_noes most k = ap₂ (λ (c a : ℕ). noes c (latest_of a)) (noted_high (8 + k) (omega arith)) (noted_high (8 + most + k) (omega arith))

  noted_part : (base : ℕ) (fs : List Formula) (k : ℕ) → 16 ≤ base → part_of base fs k ws' ≡ part_of base fs k ws
  noted_part base fs k high = part_same base fs k ws ws' length_noted (λ i l m. noted_high i (omega arith))

  top_noted : (base : ℕ) (fs : List Formula) (L : Log) (d : ℕ) → 16 ≤ base → Top base fs L d ws → Top base fs L d ws'
  top_noted base fs L d high top =
      record { at = noted_word 1 ∙ top.at; within = top.within; each = λ k h. rw (noted_part base fs k high) (top.each k h) }

-- THE CALL

pub emitted : {table : List Row} {tops : List TopPlace} {base most : ℕ} {fs : List Formula} (skips closed : Bool) (s ws sheet : List ℕ) (v : View) (out : Emitted) (ws₁ sheet₁ ws₂ : List ℕ) →
    Fits (plan table tops) base fs (length ws) → ((i : ℕ) → get_or s i 0 < 256) → Viewed skips closed (deepest fs) s ws v →
    Gave base most fs v s ws sheet out ws₁ sheet₁ → Notes skips (deepest fs) v s ws₁ ws₂ → Emits base most fs s skips closed ws sheet out ws₂ sheet₁
emitted {base = base} {most = most} {fs = fs} skips closed s ws sheet v out ws₁ sheet₁ ws₂ fits byte made gave (n, found, is) =
    let header = fits.header in
    let wide : 16 ≤ length ws₁ = omega (arith, gave.words_length, fits.all) in
    let at = noted_word skips closed s n ws₁ wide in
    let frame = gave.frame in
    let first_same : first_wanted ws₁ ≡ first_wanted ws = frame.header 7 (omega arith) (λ e. omega arith) in
    let seen_same : seen ws₁ ≡ seen ws = frame.header 2 (omega arith) (λ e. omega arith) in
    let last_same : last ws₁ ≡ last ws = frame.header 3 (omega arith) (λ e. omega arith) in
    let ending : ws₂ ≡ noted skips closed s n ws₁ = rw (made.closed) at is in
    let time : last ws₂ ≡ last_time s (seen ws - first_wanted ws) (last ws) = rw (ending, at 3, first_same, seen_same, last_same) refl in
    let size : seen ws₂ ≡ first_wanted ws + record_count s = rw (ending, at 2, first_same) refl in
    let next : first_wanted ws₂ ≡ first_wanted ws + n = rw (ending, at 7, first_same) refl in
    record {
      room = gave.room;
      rest = gave.rest;
      sheet_length = gave.sheet_length;
      words_length = ap length ending ∙ length_noted skips closed s n ws₁ wide ∙ gave.words_length;
      count = rw ending (at 1 ∙ gave.count);
      size = size;
      time = time;
      fits = λ small. rw time (last_time_bound s (seen ws - first_wanted ws) (last ws) byte small);
      ended = rw (size, ending) (at 5 ∙ rw first_same refl);
      kind = rw ending (at 6);
      first = let low = found.bounded in (omega arith, omega arith);
      noes = λ k h. rw ending (noted_noes skips closed s n ws₁ wide most k) ∙ gave.noes k h;
      header = rw ending (at 0 ∙ frame.header 0 (omega arith) (λ e. omega arith), at 4 ∙ frame.header 4 (omega arith) (λ e. omega arith));
      spare = λ k late h.
          let (x, y) = frame.spare k late h in
          rw ending (noted_high skips closed s n ws₁ wide (8 + k) (omega arith) ∙ x, noted_high skips closed s n ws₁ wide (8 + most + k) (omega arith) ∙ y);
      onward = λ k h. rw (ending, noted_part skips closed s n ws₁ wide base fs k header) (frame.onward k h);
      meaning = λ L d never brought top.
          let d_is : given ws ≡ d = top.at in
          let viewed : ViewOf (first_wanted ws) (wanted fs d) skips closed s v = rw d_is at made in
          let agrees = viewed_agrees skips closed s (first_wanted ws) (wanted fs d) L v viewed (wanted fs d) brought.agrees in
          let (giving, count, more) = gave.meaning L d never agrees top in
          let there : given ws₁ ≡ d + out.count = giving.top.at in
          let wants = found_wanted skips closed s (first_wanted ws) (wanted fs d) L v viewed (wanted fs (d + out.count)) n brought.starts (omega arith)
          (let w = giving.top.within in omega arith) agrees (rw there at found) in (
            record { top = rw ending (top_noted skips closed s n ws₁ wide base fs L (d + out.count) header giving.top); bytes = giving.bytes },
            count,
            more,
            rw (next, size) wants,
          );
    }
