-- KEPT COPIES: what a copy keeps, after it was gathered and after it is found again. Assumes nothing.
use Prim.Native.Nat.{ℕ, ◌+◌, ◌-◌, ◌<◌}
use native.Mathlib.Omega.{arith}
use native.Mathlib.Nat.{zero-add}
use mathlib.Core.Bool.{true, ◌&&◌}
use mathlib.Core.List.{List}
use mathlib.Core.Path.{◌≡◌, sym}
use lib.Dec.{leb, ltb, eqb}
use borrow.Author.Tests.{ltb-true, leb-true, eqb-true}
use Rattle.mtl.proofs.Bounded.{and_iff}
use Rattle.bits.specs.Packed.{Packed}
use Rattle.bits.proofs.Laws.{packed_same}
use Rattle.trace.specs.Format.{has_letter}
use Rattle.trace.specs.Positions.{place}
use Rattle.trace.proofs.Laws.{same_letter}
use Rattle.window.specs.Window.{letter_at, is_kept, Lettered, BehindSome, Holds, Keeps, Held}
use Rattle.window.specs.declared.Kept.{Kept}
use Rattle.window.specs.declared.KeptCopy.{KeptCopy}

-- what a copy says it keeps from this record on, it has
pub found : (s : List ℕ) (copy : KeptCopy) (at n : ℕ) → Keeps s copy → is_kept copy at n ≡ true → Held s at n copy.bytes copy.kept
found s copy at n keeps e =
    let count = copy.kept.count in
    let parts = (and_iff (ltb 0 count) (eqb copy.from at && leb n count)).0 e in
    let rest = (and_iff (eqb copy.from at) (leb n count)).0 parts.1 in
    let here = eqb-true copy.from at rest.0 in
    let enough = leb-true n count rest.1 in
    let holds : Holds s at copy.bytes copy.kept = rw here at (keeps.holds (ltb-true 0 count parts.0)) in
    record {
      enough = enough;
      onward = holds.onward;
      bounded = holds.bounded;
      counted = λ inside. holds.counted;
      shows = λ inside i h. holds.at i (omega arith);
    }

-- a letter read from a copy, and the head behind
pub lettered_held : (s : List ℕ) (letter at n : ℕ) (copy : List ℕ) (r : Kept) (bits end : ℕ) → 0 < n → Held s at n copy r → Packed (has_letter copy letter) 0 n bits →
    BehindSome s at r.end n (r.count - n) end → Lettered true s letter at n (record { bits = bits; end = end })
lettered_held s letter at n copy r bits end some held packed behind =
    record {
      answers = λ inside.
          packed_same (has_letter copy letter) (letter_at true s letter at) 0 0 n bits
          (λ i h. rw (zero-add i) (sym (same_letter copy s letter i (place true s at i) (held.shows inside i h))))
          packed;
      onward = behind.onward;
      bounded = behind.bounded;
      end = λ inside.
          let all : n + (r.count - n) ≡ r.count = omega (arith, held.enough) in
          behind.at some inside (rw all (held.counted inside));
    }
