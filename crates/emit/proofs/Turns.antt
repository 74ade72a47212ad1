-- The turns of the loops that give verdicts, whatever the (length tops) of formulas: what holds between two turns, what a turn needs, and the end.
use Prim.Native.Nat.{ℕ, ◌+◌, ◌-◌, ◌≤◌, ◌<◌, ◌^◌, min, max, zero-le}
use mathlib.Core.Path.{◌≡◌, refl, ap, ◌∙◌}
use mathlib.Core.List.{List}
use native.Mathlib.Omega.{arith}
use lib.Dec.{ltb}
use lib.ListN.{length, take}
use Rattle.mtl.specs.Formula.{Formula}
use Rattle.window.specs.declared.view.View.{View}
use Rattle.verdicts.proofs.Written.{written}
use Rattle.engine.specs.Tops.{held_at}
use Rattle.engine.specs.declared.table.Row.{Row}
use Rattle.engine.specs.declared.tops.Top.{Top as TopPlace}
use Rattle.meaning.specs.Verdicts.{columns}
use Rattle.held.specs.Code.{plan, Fits, Fitting, Held, HoldsAll, Answered, taken_verdicts, CanTake}
use Rattle.emit.specs.Code.{GivesVerdicts, Countable}
use Rattle.held.proofs.Places.{held_inside}
use Rattle.emit.proofs.Giving.{Going, going_none, portion_more, takeable, gave}

-- `done` verdicts are given, and the rest of the sheet is as it was
pub record Underway (table : List Row) (tops : List TopPlace) (most : ℕ) (v : View) (s ws sheet : List ℕ) (done : ℕ) (ws₁ sheet₁ : List ℕ) : Type 0 where
  pub words_length : length ws₁ ≡ length ws
  pub sheet_length : length sheet₁ ≡ length sheet
  pub room : done ≤ length sheet
  pub going : (base : ℕ) (fs : List Formula) → Fits (plan table tops) base fs (length ws) → 8 + most + most ≤ base →
      Going base most fs v s ws sheet done ws₁ sheet₁

pub underway_none : (table : List Row) (tops : List TopPlace) (most : ℕ) (v : View) (s ws sheet : List ℕ) → Underway table tops most v s ws sheet 0 ws sheet
underway_none table tops most v s ws sheet =
    record { words_length = refl; sheet_length = refl; room = zero-le; going = λ base fs fits counts. going_none base most fs v s ws sheet }

module _ {table : List Row} {tops : List TopPlace} {most : ℕ} {v : View} {s ws sheet : List ℕ} {done : ℕ} {ws₁ sheet₁ : List ℕ}
    (able : Countable (plan table tops) most ws) (under : Underway table tops most v s ws sheet done ws₁ sheet₁) where
  pub fitting : Fitting (plan table tops) (length ws₁)
  fitting = let f = able.fits in (f.0, f.1, rw under.words_length f.2)

  module _ {r : ℕ} {ws₂ : List ℕ} (holds : HoldsAll (plan table tops) v s ws₁ r ws₂) where
    held : (base : ℕ) (fs : List Formula) → Fits (plan table tops) base fs (length ws) → Held base fs v s ws₁ r ws₂
    held base fs fits = holds base fs (rw under.words_length fits)

    pub ended : (0 < r → length sheet ≤ done) → GivesVerdicts (plan table tops) most v s ws sheet (record { count = done; more = ltb 0 r }) ws₂ sheet₁
    ended full base fs fits counts =
        gave fits counts able.formulas able.small.0 (under.going base fs fits counts) (held base fs fits) full

    -- the answers' places
    pub copyable : (length tops ≤ 8) × ((k : ℕ) → k < length tops → held_at tops k + 1 < length ws₂)
    copyable =
        let f = able.fits in
        let h = held f.0 f.1 f.2 in (
          omega (arith, able.formulas, able.small.1),
          λ k b. omega (arith, (held_inside f.2 k (omega (arith, f.2.laid.number))).0, h.words_length, under.words_length),
        )

    -- a turn takes what is held, as far as it has room and goes into one word
    module _ (n : ℕ) (is : n ≡ min (min r (length sheet₁ - done)) 64) (short : length sheet < 2 ^ 63) where
      pub writable : (done + n ≤ length sheet₁) × (n ≤ 64)
      writable = omega (arith, under.sheet_length, under.room)

      inside : done + n ≤ length sheet
      inside = omega (arith, writable, under.sheet_length)

      pub fewer : 0 < n → length sheet - (done + n) < length sheet - done
      fewer some = omega (arith, inside)

      pub countable : done + n < 2 ^ 64
      countable = omega (arith, inside)

      pub takes_out : CanTake tops most n ws₂
      takes_out =
          let f = able.fits in
          takeable f.2 f.3 able.formulas able.small.0 (under.going f.0 f.1 f.2 f.3) (held f.0 f.1 f.2) n (omega arith) inside
          short able.small.1 able.given able.noes

      -- n verdicts more
      pub turned : (answers : List ℕ) (c : ℕ) → c ≡ max 1 (length tops) → Answered tops ws₂ answers → (ws₃ sheet₂ : List ℕ) →
          ws₃ ≡ taken_verdicts tops most n ws₂ → sheet₂ ≡ written done n (take c answers) sheet₁ →
          Underway table tops most v s ws sheet (done + n) ws₃ sheet₂
      turned answers c is_columns answered ws₃ sheet₂ taken_out wrote =
          let next : (base : ℕ) (fs : List Formula) → Fits (plan table tops) base fs (length ws) → 8 + most + most ≤ base →
          Going base most fs v s ws sheet (done + n) ws₃ sheet₂ =
          λ base fs fits counts.
          let same : c ≡ columns fs = is_columns ∙ ap (max 1) fits.laid.number in
          rw (taken_out, wrote, same)
          (portion_more fits counts able.formulas able.small.0 (under.going base fs fits counts) (held base fs fits) n answers (omega arith) inside answered) in
          let f = able.fits in
          let g = next f.0 f.1 f.2 f.3 in
          record { words_length = g.words_length; sheet_length = g.sheet_length; room = inside; going = next }
