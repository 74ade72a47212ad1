-- A log that is shown whole: the record of a position, and the first position whose time is not below a bound. Assumes nothing.
use Prim.Native.Nat.{ℕ, ◌-◌, ◌≤◌, ◌<◌}
use mathlib.Core.Bool.{Bool, false}
use mathlib.Core.Path.{◌≡◌, sym, ◌∙◌, ap}
use mathlib.Core.List.{List}
use native.Mathlib.Omega.{arith}
use lib.Dec.{leb}
use borrow.Author.Tests.{le-leb}
use Rattle.mtl.specs.Log.{Log}
use Rattle.mtl.proofs.Bounded.{leb_iff}
use Rattle.trace.specs.Format.{record_count, time_at}
use Rattle.trace.specs.Positions.{place, before}
use Rattle.window.specs.View.{total, skips}
use Rattle.window.specs.Window.{Found}
use Rattle.window.specs.declared.view.View.{View}
use Rattle.search.specs.Times.{WholeLog, first_record, first_time}
use Rattle.search.proofs.Finding.{first_most, none_before, first_holds, first_unique}

module _ (v : View) (s : List ℕ) (L : Log) (whole : WholeLog v s L) where
  pub found_place : (i n r : ℕ) → i < L.size → n ≡ total v - i → Found (skips v) s n r → (r ≡ L.place i) × (r < record_count s)
  found_place i n r h e found =
      let all = whole.all in
      let size = whole.size in
      let back : before (skips v) s (record_count s) - n ≡ i = omega arith in
      let here : r ≡ L.place i = found.at (omega arith) ∙ ap (place (skips v) s 0) back ∙ whole.place i h in
      let inside = whole.inside i h in
      (here, omega arith)

  -- the positions before the first record whose time is not below the bound are those whose times are
  pub counted_time : (bound : ℕ) → before (skips v) s (first_record s bound) ≡ first_time L bound
  counted_time bound =
      let r = first_record s bound in
      let late : ℕ → Bool = λ (i : ℕ). leb bound (time_at s i) in
      let most = first_most (record_count s) late in
      let n = before (skips v) s r in
      let below : (i : ℕ) → i < n → leb bound (L.time i) ≡ false = λ i h.
      let (inside, earlier) = whole.counted r i most h in
      ap (leb bound) (sym (whole.time i inside)) ∙ none_before (record_count s) late (L.place i) earlier in
      let few : n ≤ L.size =
      let past : L.size < n → ⊥ = λ h. let (inside, earlier) = whole.counted r L.size most h in omega arith in omega arith in
      sym (first_unique L.size (λ (q : ℕ). leb bound (L.time q)) n few below
      (λ h.
      let behind = whole.beyond r n most (omega arith) h in
      let inside = whole.inside n h in
      let here = (leb_iff bound (time_at s r)).0 (first_holds (record_count s) late (omega arith)) in
      let later = whole.keeps r (L.place n) behind inside in
      le-leb bound (L.time n) (let e = whole.time n h in omega arith)))
