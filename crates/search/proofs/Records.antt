-- The log that the records are is shown whole by the view of all records. Assumes nothing.
use Prim.Native.Nat.{ℕ, suc, ◌+◌, ◌*◌, ◌≤◌, ◌<◌}
use mathlib.Core.Bool.{Bool, true, false}
use mathlib.Core.Path.{◌≡◌, refl, sym, ◌∙◌, ap}
use mathlib.Core.List.{List}
use native.Mathlib.Nat.{zero-add}
use native.Mathlib.Omega.{arith}
use lib.ListN.{get_or}
use Rattle.trace.specs.Format.{record_count}
use Rattle.trace.specs.Positions.{place, positions, before}
use Rattle.window.specs.View.{total, skips, served, ViewOf}
use Rattle.trace.specs.Log.{log_of}
use Rattle.trace.proofs.Laws.{Keeps}
use Rattle.trace.proofs.Counting.{count_position, count_grows, spot_holds}
use Rattle.trace.proofs.Positions.{log_placed, wanted_counts}
use Rattle.trace.proofs.Parts.{Cut}
use Rattle.window.proofs.Slices.{served_before, served_place, served_shows, slice_shows}
use Rattle.window.specs.declared.view.View.{View}
use Rattle.blocks.specs.Step.{Agrees}
use Rattle.search.specs.Times.{WholeLog}

before_grows : (b : Bool) (s : List ℕ) (m n : ℕ) → m ≤ n → before b s m ≤ before b s n
before_grows true s m n h = count_grows s m n h
before_grows false s m n h = h

before_next : (b : Bool) (s : List ℕ) (i : ℕ) → i < before b s (record_count s) → before b s (suc (place b s 0 i)) ≡ suc i
before_next true s i h = let at = spot_holds s i h in count_position s (place true s 0 i) at.plain ∙ ap suc at.number
before_next false s i h = omega arith

-- the view of all records, open
abbrev pub WholeView : (skips : Bool) → (s : List ℕ) (v : View) → Type 0
WholeView skips s v = ViewOf 0 0 skips false s v

-- it tells of all positions
size_told : (b : Bool) (s : List ℕ) (v : View) → WholeView b s v → total v ≡ (log_of b s).size
size_told b s v made = made.total ∙ zero-add (before b s (record_count s))

module _ (b : Bool) (s : List ℕ) (v : View) (made : WholeView b s v) (keeps : Keeps s) where
  flag : skips v ≡ served b s
  flag = made.skips

  size : before (served b s) s (record_count s) ≡ before b s (record_count s)
  size = served_before b s

  pub whole_log : WholeLog v s (log_of b s)
  whole_log =
      record {
        size = size_told b s v made;
        all = rw flag size;
        place = λ i h. rw flag (served_place b s i (omega arith));
        inside = (log_placed b s).below;
        time = λ i h. refl;
        letters = λ i k h. refl;
        counted = λ r i most h.
            let few : i < before (served b s) s r = rw flag at h in
            let all = before_grows (served b s) s r (record_count s) most in
            let inside : i < before b s (record_count s) = omega (arith, size) in
            let (fits, number) = wanted_counts (served b s) s i (omega arith) in
            let same = served_place b s i (omega arith) in
            let not_behind : r ≤ place (served b s) s 0 i → ⊥ = λ l. let more = before_grows (served b s) s r (place (served b s) s 0 i) l in omega arith in
            (inside, omega arith);
        beyond = λ r i most h inside.
            let few : before (served b s) s r ≤ i = rw flag at h in
            let same = served_place b s i (omega arith) in
            let next = before_next (served b s) s i (omega (arith, size)) in
            let not_before : place (served b s) s 0 i < r → ⊥ = λ l. let more = before_grows (served b s) s (suc (place (served b s) s 0 i)) r l in omega arith in
            omega arith;
        keeps = keeps;
      }

all_of : (s : List ℕ) → Cut s s 0
all_of s =
    record {
      part = record { inside = omega arith; same = λ i h b few. ap (λ (k : ℕ). get_or s (k * 8 + b) 0) (sym (zero-add i)) };
      whole = omega arith;
    }

nothing_before : (b : Bool) (s : List ℕ) → before b s 0 ≡ 0
unfolding positions
nothing_before true s = refl
nothing_before false s = refl

pub whole_agrees : (b : Bool) (s : List ℕ) (v : View) → WholeView b s v → Agrees v s (log_of b s) 0
whole_agrees b s v made =
    record {
      ends = sym (made.closed);
      size = size_told b s v made;
      shows = λ i low high.
          rw (made.skips, made.first)
          (served_shows b s 0 (log_of b s) i (slice_shows b s s 0 (all_of s) i (let none = nothing_before b s in omega arith) high));
    }
