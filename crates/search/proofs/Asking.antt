-- The answers of one entry, asked from cleared words on, batch by batch. Assumes nothing.
use Prim.Native.Nat.{ℕ, ◌+◌, ◌-◌, ◌≤◌, ◌<◌, min}
use mathlib.Core.Bool.{Bool}
use mathlib.Core.Bool.{not as negate}
use mathlib.Core.Path.{◌≡◌, refl}
use mathlib.Core.List.{List}
use native.Mathlib.Omega.{arith}
use lib.ListN.{length, get_or}
use Rattle.mtl.specs.Formula.{Formula}
use Rattle.window.specs.declared.view.View.{View}
use Rattle.mtl.specs.Log.{Log, NeverFalls}
use Rattle.mtl.specs.Satisfaction.{sat}
use Rattle.mtl.specs.Progress.{run, settled_to}
use Rattle.bits.specs.Packed.{Packed}
use Rattle.bits.proofs.Laws.{packed_first}
use Rattle.blocks.specs.Step.{Agrees}
use Rattle.engine.specs.Table.{Has, row_at}
use Rattle.engine.specs.State.{State}
use Rattle.engine.specs.Answer.{first_read, Answers}
use Rattle.std.specs.Prelude.{Some, None}
use Rattle.engine.specs.declared.table.Row.{Row}
use Rattle.reasons.specs.Search.{first_where, after_last}
use Rattle.search.specs.Scan.{sought, Starts, Scans}

agrees_later : (v : View) (s : List ℕ) (L : Log) (g : ℕ) → Agrees v s L 0 → Agrees v s L g
agrees_later v s L g a = record { ends = a.ends; size = a.size; shows = λ i b h. a.shows i (omega arith) h }

-- what is known when `done` positions are passed; the words stand for the next while there is one to ask for
abbrev pub Going : (t : List Row) (v : View) (s : List ℕ) (k : ℕ) (want : Bool) (from to : ℕ) (ws : List ℕ) (done first after : ℕ) → Type 0
Going t v s k want from to ws done first after =
    (φ : Formula) (L : Log) → Has φ t k → NeverFalls L → Agrees v s L 0 → Starts t k φ L →
    (done < to → State φ L done ws) × (done ≤ settled_to φ L) × (first ≡ first_where done (sought want from (sat φ L))) ×
    (after ≡ after_last done (λ (q : ℕ). negate (sat φ L q)))

module _ (t : List Row) (v : View) (s : List ℕ) (k : ℕ) (want : Bool) (from to : ℕ) where
  pub going_none : (ws : List ℕ) → length ws ≡ (row_at t k).words → ((i : ℕ) → get_or ws i 0 ≡ 0) → Going t v s k want from to ws 0 0 0
  unfolding run after_last
  going_none ws long zeros φ L has falls agrees starts = (λ h. starts ws long zeros, omega arith, refl, refl)

  module _ (ws : List ℕ) (done first after : ℕ) (going : Going t v s k want from to ws done first after) where
    -- as far as the answers were asked for
    pub going_end : done ≤ to → to ≤ done → Scans t v s k want from to (record { done = done; first = first; after = after })
    going_end few all φ L has falls agrees starts =
        let (state, most, found, last) = going φ L has falls agrees starts in
        let n : min to (settled_to φ L) ≡ done = omega arith in
        rw n (record { all = refl; found = found; last = last })

    module _ (more : done < to) where
      pub going_open : (ws' : List ℕ) → Answers t v s k ws None ws' → Scans t v s k want from to (record { done = done; first = first; after = after })
      going_open ws' answers φ L has falls agrees starts =
          let (state, most, found, last) = going φ L has falls agrees starts in
          let (ends, after-it) = answers.1 φ L done has falls (agrees_later v s L (first_read φ done) agrees) (state more) in
          let n : min to (settled_to φ L) ≡ done = omega arith in
          rw n (record { all = refl; found = found; last = last })

      module _ (bits count n : ℕ) (ws' : List ℕ) (answers : Answers t v s k ws (Some (record { bits = bits; count = count })) ws') (taken : n ≡ min (min count (to - done)) 64) where
        -- a batch has an answer
        pub going_some : n ≡ 0 → Scans t v s k want from to (record { done = done; first = first; after = after })
        going_some none φ L has falls agrees starts =
            let (state, most, found, last) = going φ L has falls agrees starts in
            let (batch, after-it) = answers.1 φ L done has falls (agrees_later v s L (first_read φ done) agrees) (state more) in
            let some = batch.some in
            absurd (omega arith)

        pub going_on : (first' after' : ℕ) →
            ((f : ℕ → Bool) → Packed f done n bits → first ≡ first_where done (sought want from f) → first' ≡ first_where (done + n) (sought want from f)) →
            ((f : ℕ → Bool) → Packed f done n bits → after ≡ after_last done (λ (q : ℕ). negate (f q)) → after' ≡ after_last (done + n) (λ (q : ℕ). negate (f q))) →
            Going t v s k want from to ws' (done + n) first' after'
        going_on first' after' finds lasts φ L has falls agrees starts =
            let (state, most, found, last) = going φ L has falls agrees starts in
            let (batch, after-it) = answers.1 φ L done has falls (agrees_later v s L (first_read φ done) agrees) (state more) in
            let packed = batch.buffer.packed in
            let few = packed.few in
            let within = batch.buffer.within in
            let part = packed_first (sat φ L) done count bits n (omega arith) packed in (
              λ h. let whole : n ≡ count = omega arith in rw whole after-it,
              omega arith,
              finds (sat φ L) part found,
              lasts (sat φ L) part last,
            )
