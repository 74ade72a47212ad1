-- The verdicts of one call, portion by portion: what holds between two portions, and what holds at the end.
use Prim.Native.Nat.{ℕ, zero, suc, ◌+◌, ◌-◌, ◌≤◌, ◌<◌, ◌^◌, min, zero-le}
use mathlib.Core.Bool.{false}
use mathlib.Core.Logic.{⊎_elim}
use mathlib.Core.Option.{none}
use mathlib.Core.Path.{◌≡◌, refl, sym, ap, ap₂, ◌∙◌}
use mathlib.Core.List.{List}
use native.Mathlib.Omega.{arith}
use borrow.Author.Tests.{lt-ltb, le-ltb}
use lib.Dec.{ltb}
use lib.ListN.{length, get_or, take, drop, length-take}
use lib.Seq.{drop-drop, get_or-take}
use Rattle.mtl.specs.Formula.{Formula}
use Rattle.window.specs.declared.view.View.{View}
use Rattle.mtl.specs.Log.{Log, NeverFalls}
use Rattle.mtl.specs.Progress.{joint_progress}
use Rattle.mtl.specs.Wanted.{wanted}
use Rattle.mtl.proofs.Bounded.{le_or_lt}
use Rattle.bits.specs.Packed.{bit, zeros, last_zero}
use Rattle.verdicts.specs.Counts.{Noes, count_of, latest_no, noes_in, laid_behind, latest_of}
use Rattle.verdicts.proofs.Tallies.{count_le}
use Rattle.verdicts.proofs.Noes.{noes, noes_of_bits, behind_none, behind_behind, noes_written}
use Rattle.verdicts.proofs.Written.{written, length_written, drop_written, written_before, written_at}
use Rattle.rule.specs.Postfix.{formula}
use Rattle.blocks.specs.Block.{word}
use Rattle.blocks.specs.Step.{Agrees}
use Rattle.engine.proofs.Onward.{formula_refl, formula_trans}
use Rattle.engine.proofs.Uniform.{agrees_later}
use Rattle.checkpoint.specs.Checkpoint.{given, stored_noes}
use Rattle.meaning.specs.Verdicts.{columns}
use Rattle.held.specs.Top.{top_count, part_of, Top}
use Rattle.held.specs.Code.{plan, Fits, Held, Answered, taken_verdicts, CanTake}
use Rattle.emit.specs.Code.{Giving, Frame, Gave}
use Rattle.meaning.proofs.Laws.{joint_least, all_bits, verdict_answers}
use Rattle.held.proofs.Places.{count_at, bits_at}
use Rattle.held.proofs.TakingOut.{its_row, length_all, now_given, now_header, now_spare, now_noes, now_onward, top_taken_out}
use Rattle.engine.specs.declared.table.Row.{Row}
use Rattle.engine.specs.declared.tops.Top.{Top as TopPlace}

-- NOTHING COUNTED IN A WORD OF YES

no_zeros : (n : ℕ) → n ≤ 64 → (zeros n (2 ^ 64 - 1) ≡ 0) × (last_zero n (2 ^ 64 - 1) ≡ 0)
unfolding zeros last_zero
no_zeros zero h = (refl, refl)
no_zeros (suc n) h =
    let (z, l) = no_zeros n (omega arith) in
    let b = all_bits n (omega arith) in
    (rw b (omega arith), rw b l)

yes_noes : (n : ℕ) → n ≤ 64 → noes_of_bits n (2 ^ 64 - 1) ≡ noes 0 none
yes_noes n h = let (z, l) = no_zeros n h in ap₂ (λ (c a : ℕ). noes c (latest_of a)) z l

-- PORTIONS

frame_none : (base most : ℕ) (fs : List Formula) (ws : List ℕ) → Frame base most fs ws ws
frame_none base most fs ws =
    record { header = λ i low ne. refl; spare = λ k late h. (refl, refl); onward = λ k h. formula_refl (formula fs k) (part_of base fs k ws) }

pub frame_then : (base most : ℕ) (fs : List Formula) (ws ws' ws'' : List ℕ) → Frame base most fs ws ws' → Frame base most fs ws' ws'' →
    Frame base most fs ws ws''
frame_then base most fs ws ws' ws'' a b =
    record {
      header = λ i low ne. b.header i low ne ∙ a.header i low ne;
      spare = λ k late h.
          let (x, y) = a.spare k late h in
          let (x', y') = b.spare k late h in
          (x' ∙ x, y' ∙ y);
      onward = λ k h.
          formula_trans (formula fs k) (part_of base fs k ws) (part_of base fs k ws') (part_of base fs k ws'') (a.onward k h) (b.onward k h);
    }

-- asking touches no header
pub frame_held : {base most : ℕ} {fs : List Formula} {v : View} {s : List ℕ} {ws : List ℕ} {r : ℕ} {ws' : List ℕ} → 8 + most + most ≤ base →
    Held base fs v s ws r ws' → Frame base most fs ws ws'
frame_held room held =
    record {
      header = λ i low ne. held.header i (omega arith);
      spare = λ k late h. (held.header _ (omega arith), held.header _ (omega arith));
      onward = held.onward;
    }

-- nor counts anything
pub noes_held : {base most : ℕ} {fs : List Formula} {v : View} {s : List ℕ} {ws : List ℕ} {r : ℕ} {ws' : List ℕ} → 8 + most + most ≤ base →
    Held base fs v s ws r ws' → (k : ℕ) → k < most → stored_noes most ws' k ≡ stored_noes most ws k
noes_held {most = most} room held k h =
    ap₂ (λ (c a : ℕ). noes c (latest_of a)) (held.header (8 + k) (omega arith)) (held.header (8 + most + k) (omega arith))

-- as many verdicts as there are or as have room, and whether there are more, from what is held then
counted : (base : ℕ) (fs : List Formula) (L : Log) (d c room r : ℕ) (ws' : List ℕ) → c ≤ room → (0 < r → room ≤ c) →
    ((k : ℕ) → k < length fs → r ≤ top_count (formula fs k) (part_of base fs k ws')) →
    Top base fs L (d + c) ws' → d + c + r ≤ L.size → (r ≡ 0 → joint_progress fs L ≡ d + c) →
    (c ≡ min (joint_progress fs L - d) room) × (ltb 0 r ≡ ltb (d + c) (joint_progress fs L))
counted base fs L d c room r ws' fits full least top size short =
    ⊎_elim
    (λ (some : 0 < r).
    let ahead : d + c < joint_progress fs L =
    joint_least fs L (suc (d + c)) (omega arith) (λ k h. let w = (top.each k h).buffer.within in omega (arith, least k h)) in
    (omega (arith, full some), lt-ltb 0 r some ∙ sym (lt-ltb (d + c) (joint_progress fs L) ahead)))
    (λ (zero : r < 1).
    let is_open = short (omega arith) in
    (omega arith, le-ltb 0 r (omega arith) ∙ sym (le-ltb (d + c) (joint_progress fs L) (omega arith))))
    (le_or_lt 1 r)

-- after `done` verdicts
pub record Going (base most : ℕ) (fs : List Formula) (v : View) (s ws sheet : List ℕ) (done : ℕ) (ws' sheet' : List ℕ) : Type 0 where
  pub room : done ≤ length sheet
  pub rest : drop done sheet' ≡ drop done sheet
  pub sheet_length : length sheet' ≡ length sheet
  pub words_length : length ws' ≡ length ws
  pub count : given ws' ≡ given ws + done
  pub frame : Frame base most fs ws ws'
  pub noes : (k : ℕ) → k < columns fs → stored_noes most ws' k ≡ laid_behind (stored_noes most ws k) (given ws) (noes_in k sheet' done)
  pub meaning : (L : Log) (d : ℕ) → NeverFalls L → Agrees v s L (wanted fs d) → Top base fs L d ws → Giving base fs L d done ws' sheet'

pub going_none : (base most : ℕ) (fs : List Formula) (v : View) (s ws sheet : List ℕ) → Going base most fs v s ws sheet 0 ws sheet
unfolding count_of latest_no
going_none base most fs v s ws sheet =
    record {
      room = zero-le;
      rest = refl;
      sheet_length = refl;
      words_length = refl;
      count = omega arith;
      frame = frame_none base most fs ws;
      noes = λ k h. behind_none (stored_noes most ws k) (given ws);
      meaning = λ L d never agrees top.
          let still : d + 0 ≡ d = omega arith in
          record { top = rw still top; bytes = λ i below. absurd (omega arith) };
    }

-- no more of them are no
pub counted_so_far : {base most : ℕ} {fs : List Formula} {v : View} {s ws sheet : List ℕ} {done : ℕ} {ws' sheet' : List ℕ} →
    Going base most fs v s ws sheet done ws' sheet' → (k : ℕ) → k < columns fs → word ws' (8 + k) ≤ word ws (8 + k) + done
counted_so_far {done = done} {sheet' = sheet'} going k h =
    omega (arith, ap (λ (x : Noes). x.count) (going.noes k h), count_le k sheet' false done)

module _ {table : List Row} {tops : List TopPlace} {base most : ℕ} {fs : List Formula} {v : View} {s ws sheet : List ℕ} {done : ℕ} {ws₁ sheet₁ : List ℕ} {r : ℕ} {ws₂ : List ℕ}
    (fits : Fits (plan table tops) base fs (length ws)) (counts : 8 + most + most ≤ base) (few : length tops ≤ most) (some : 1 ≤ most)
    (going : Going base most fs v s ws sheet done ws₁ sheet₁) (held : Held base fs v s ws₁ r ws₂) where
  fits_now : Fits (plan table tops) base fs (length ws₂)
  fits_now = rw (held.words_length, going.words_length) fits

  most_columns : (k : ℕ) → k < columns fs → k < most
  most_columns k h = omega (arith, fits.laid.number)

  module _ (n : ℕ) (answers : List ℕ) (within : n ≤ r) (inside : done + n ≤ length sheet)
      (answered : Answered tops ws₂ answers) where
    abbrev ws₃ : List ℕ
    ws₃ = taken_verdicts tops most n ws₂

    abbrev rows : List ℕ
    rows = take (columns fs) answers

    abbrev sheet₂ : List ℕ
    sheet₂ = written done n rows sheet₁

    length_rows : length rows ≡ columns fs
    length_rows = omega (arith, length-take (columns fs) answers, answered.long, fits.laid.few)

    inside₁ : done + n ≤ length sheet₁
    inside₁ = omega (arith, going.sheet_length)

    few_bits : n ≤ 64
    few_bits = omega (arith, held.few)

    row_at : (k : ℕ) → k < columns fs → get_or rows k 0 ≡ get_or answers k 0
    row_at k h = get_or-take (columns fs) answers k 0 h

    -- the no of this portion, formula by formula; an empty rule has none
    noes_taken_out : (k : ℕ) → k < columns fs → stored_noes most ws₃ k ≡ laid_behind (stored_noes most ws₂ k) (given ws₂) (noes_of_bits n (get_or answers k 0))
    noes_taken_out k h =
        ⊎_elim
        (λ (none : length tops ≤ k).
        let empty : (length tops) ≡ 0 = omega (arith, fits.laid.number) in
        let first : k ≡ 0 = omega (arith, fits.laid.number) in
        let (c, a) = now_spare most n ws₂ fits_now counts few k none (most_columns k h) in
        ap₂ (λ (c a : ℕ). noes c (latest_of a)) c a ∙ behind_none (stored_noes most ws₂ k) (given ws₂) ∙
        ap (laid_behind (stored_noes most ws₂ k) (given ws₂))
        (sym (ap (λ (b : ℕ). noes_of_bits n b) (ap (λ (i : ℕ). get_or answers i 0) first ∙ answered.none empty) ∙ yes_noes n few_bits)))
        (λ (one : k < length tops).
        now_noes most n ws₂ fits_now counts few k one ∙
        ap (λ (b : ℕ). laid_behind (stored_noes most ws₂ k) (given ws₂) (noes_of_bits n b)) (sym (answered.each k one)))
        (le_or_lt (length tops) k)

    noes_portion : (k : ℕ) → k < columns fs → stored_noes most ws₃ k ≡ laid_behind (stored_noes most ws k) (given ws) (noes_in k sheet₂ (done + n))
    noes_portion k h =
        let at : given ws₂ ≡ given ws + done = held.header 1 (omega (arith, fits.header)) ∙ going.count in
        let bits = get_or answers k 0 in
        let new : noes_in k sheet₂ (done + n) ≡ laid_behind (noes_in k sheet₁ done) done (noes_of_bits n bits) =
        noes_written k done n rows sheet₁ (omega (arith, length_rows)) inside₁ ∙
        ap (λ (b : ℕ). laid_behind (noes_in k sheet₁ done) done (noes_of_bits n b)) (row_at k h) in
        noes_taken_out k h ∙
        ap₂ (λ (x : Noes) (d : ℕ). laid_behind x d (noes_of_bits n bits)) (noes_held counts held k (most_columns k h) ∙ going.noes k h) at ∙
        behind_behind (stored_noes most ws k) (noes_in k sheet₁ done) (given ws) done (zeros n bits) (latest_of (last_zero n bits)) ∙
        ap (laid_behind (stored_noes most ws k) (given ws)) (sym new)

    taken_out_frame : Frame base most fs ws₂ ws₃
    taken_out_frame =
        record {
          header = now_header most n ws₂ fits_now counts few;
          spare = λ k late h. now_spare most n ws₂ fits_now counts few k (omega (arith, fits.laid.number)) h;
          onward = now_onward most n ws₂ fits_now counts few;
        }

    -- one portion more
    pub portion_more : Going base most fs v s ws sheet (done + n) ws₃ sheet₂
    portion_more =
        record {
          room = inside;
          rest =
              drop_written done n rows sheet₁ inside₁ ∙
              sym (drop-drop n done sheet₁) ∙
              ap (λ (l : List ℕ). drop n l) going.rest ∙
              drop-drop n done sheet;
          sheet_length = length_written done n rows sheet₁ inside₁ ∙ going.sheet_length;
          words_length = length_all most n ws₂ fits_now counts few ∙ held.words_length ∙ going.words_length;
          count = omega (arith, now_given most n ws₂ fits_now counts few, held.header 1 (omega (arith, fits.header)), going.count);
          frame =
              frame_then base most fs ws ws₁ ws₃ going.frame
              (frame_then base most fs ws₁ ws₂ ws₃ (frame_held counts held) taken_out_frame);
          noes = noes_portion;
          meaning = λ L d never agrees top.
              let so_far = going.meaning L d never agrees top in
              let (next, size, short) = held.meaning L (d + done) never (agrees_later agrees (omega arith)) so_far.top in
              let top_column : d + done + n ≡ d + (done + n) = omega arith in
              record {
                top = rw top_column at (top_taken_out most n ws₂ fits_now counts few L (d + done) (λ k h. omega (arith, held.least k h)) (omega arith) next);
                bytes = λ i below.
                    ⊎_elim
                    (λ (late : done ≤ i).
                    let top_column : done + (i - done) ≡ i = omega arith in
                    let there : d + done + (i - done) ≡ d + i = omega arith in
                    rw top_column at (written_at done n rows sheet₁ inside₁ (i - done) (omega arith)) ∙
                    sym (rw there at
                    (verdict_answers fs L (d + done + (i - done)) (i - done) answers answered.long fits.laid.few (omega (arith, few_bits))
                    (λ k h.
                    (next.each k h).buffer.packed.same (i - done) (omega (arith, held.least k h)) ∙
                    ap (λ (b : ℕ). bit b (i - done)) (bits_at fits_now k h ws₂ ∙ sym (answered.each k (omega (arith, fits.laid.number)))))
                    (λ e. answered.none (omega (arith, fits.laid.number))))))
                    (λ (early : i < done). written_before done n rows sheet₁ inside₁ i early ∙ so_far.bytes i early)
                    (le_or_lt done i);
              };
        }

  -- a portion can be taken
  pub takeable : (n : ℕ) → n ≤ r → done + n ≤ length sheet → length sheet < 2 ^ 63 → most ≤ 8 → given ws ≤ 1000000 →
      ((k : ℕ) → k < most → word ws (8 + k) ≤ 1000000) → CanTake tops most n ws₂
  takeable n within inside short small given noes =
      let at : word ws₂ 1 ≡ word ws 1 + done = held.header 1 (omega (arith, fits.header)) ∙ going.count in
      record {
        few = omega (arith, held.few);
        small = small;
        room = omega (arith, held.words_length, going.words_length, fits.header, fits.all);
        row = its_row most n ws₂ fits_now counts few;
        held = λ k h.
            let b : k < length fs = omega (arith, fits.laid.number) in
            omega (arith, held.least k b, count_at fits_now k b ws₂);
        counted = λ k h.
            let b : k < columns fs = omega (arith, fits.laid.number) in
            omega (arith, held.header (8 + k) (omega arith), counted_so_far going k b, noes k (omega arith));
        given = omega arith;
      }

  -- the sheet is full, or nothing more is settled
  pub gave : (0 < r → length sheet ≤ done) → Gave base most fs v s ws sheet (record { count = done; more = ltb 0 r }) ws₂ sheet₁
  gave full =
      record {
        room = going.room;
        rest = going.rest;
        sheet_length = going.sheet_length;
        words_length = held.words_length ∙ going.words_length;
        count = held.header 1 (omega (arith, fits.header)) ∙ going.count;
        frame = frame_then base most fs ws ws₁ ws₂ going.frame (frame_held counts held);
        noes = λ k h. noes_held counts held k (most_columns k h) ∙ going.noes k h;
        meaning = λ L d never agrees top.
            let so_far = going.meaning L d never agrees top in
            let (next, size, short) = held.meaning L (d + done) never (agrees_later agrees (omega arith)) so_far.top in
            let (count, more) = counted base fs L d done (length sheet) r ws₂ going.room full held.least next size short in
            (record { top = next; bytes = so_far.bytes }, count, more);
      }
