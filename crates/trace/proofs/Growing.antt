-- GROWING: records added behind change no position before them, and no count. Assumes nothing.
use Prim.Native.Nat.{ℕ, ◌≤◌, ◌<◌}
use native.Mathlib.Omega.{arith}
use native.Mathlib.Nat.{zero-add}
use mathlib.Core.Bool.{Bool, true, false, false≢true}
use mathlib.Core.List.{List}
use mathlib.Core.Path.{◌≡◌, refl, sym, ap, ◌∙◌}
use lib.ListN.{take}
use Rattle.mtl.specs.Log.{Continues}
use Rattle.trace.specs.Format.{record_count, time_at, has_letter}
use Rattle.trace.specs.Positions.{spot, place, positions, before}
use Rattle.trace.specs.Log.{log_of}
use Rattle.trace.proofs.Counting.{one_record, count_grows, spot_holds}
use Rattle.trace.proofs.Positions.{log_placed}
use Rattle.trace.proofs.Parts.{Part, prefix_part, time_part, letter_part, before_part}

-- u begins with the records s
module _ (u s : List ℕ) (part : Part u s 0) where
  positions_stay : (n : ℕ) → n ≤ record_count s → positions s n ≡ positions u n
  unfolding positions
  positions_stay n h = sym (ap (positions u) (sym (zero-add n)) ∙ before_part u s 0 part true n h ∙ zero-add (positions s n))

  pub before_stays : (skips : Bool) (n : ℕ) → n ≤ record_count s → before skips s n ≡ before skips u n
  before_stays true n h = positions_stay n h
  before_stays false n h = refl

  service_stays : (i : ℕ) → i < record_count s → has_letter s 31 i ≡ has_letter u 31 i
  service_stays i h = letter_part u s 0 part 31 i h ∙ ap (has_letter u 31) (zero-add i)

  pub size_grows : (skips : Bool) → before skips s (record_count s) ≤ before skips u (record_count u)
  size_grows true = let more = part.inside in omega (arith, positions_stay (record_count s) (omega arith), count_grows u (record_count s) (record_count u) (omega arith))
  size_grows false = omega (arith, part.inside)

  pub place_stays : (skips : Bool) (i : ℕ) → i < before skips s (record_count s) → place skips s 0 i ≡ place skips u 0 i
  place_stays true i h =
      let p = spot s 0 i in
      let a = spot_holds s i h in
      let b = spot_holds u i (omega (arith, size_grows true)) in
      let in_s = a.inside in
      let more = part.inside in
      one_record u p (spot u 0 i) (omega arith) b.inside (sym (service_stays p in_s) ∙ a.plain) b.plain
      (sym (positions_stay p (omega arith)) ∙ a.number ∙ sym b.number)
  place_stays false i h = refl

  -- THEOREM: the longer log continues the shorter
  pub grown_continues : (skips : Bool) → Continues (log_of skips s) (log_of skips u)
  grown_continues skips =
      record {
        longer = size_grows skips;
        same = λ i low h.
            let p = place skips s 0 i in
            let stays = place_stays skips i h in
            let inside = (log_placed skips s).below i h in
            record {
              time = time_part u s 0 part p inside ∙ ap (time_at u) (zero-add p ∙ stays);
              letters = λ k. letter_part u s 0 part k p inside ∙ ap (has_letter u k) (zero-add p ∙ stays);
              place = stays;
            };
        ended = λ e. absurd (false≢true e);
      }

-- a log's first bytes are a log that the whole continues
pub prefix_continues : (skips : Bool) (u : List ℕ) (n : ℕ) → Continues (log_of skips (take n u)) (log_of skips u)
prefix_continues skips u n = grown_continues u (take n u) (prefix_part u n) skips
