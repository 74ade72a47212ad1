-- What is known of an accepted call.
use Prim.Native.Nat.{ℕ, ◌+◌, ◌*◌, ◌≤◌}
use mathlib.Core.Bool.{Bool, true, false, ◌&&◌, ◌||◌, not, true≢false}
use mathlib.Core.List.{List}
use mathlib.Core.Path.{◌≡◌, refl, ◌∙◌}
use native.Mathlib.Omega.{arith}
use lib.Dec.{ltb, eqb}
use lib.ListN.{length}
use borrow.Author.Tests.{ltb-false, eq-eqb}
use Rattle.std.specs.Prelude.{Ok}
use Rattle.mtl.specs.Formula.{unbounded}
use Rattle.rule.specs.Refusal.{first}
use Rattle.rule.proofs.Headers.{or_left, or_right}
use Rattle.trace.specs.Making.{log_header, records_bytes, put, log_length}
use Rattle.trace.proofs.Making.{put_log}
use Rattle.worst.specs.Written.{worst_time, worst_events}
use Rattle.worst.specs.Refusal.{interval_fault, no_room, worst_refusal}
use Rattle.worst.specs.Call.{WritesWorst}

neither : (a b : Bool) → first 6 a (first 19 b 0) ≡ 0 → (a ≡ false) × (b ≡ false)
neither true b e = absurd (omega arith)
neither false true e = absurd (omega arith)
neither false false e = (refl, refl)

-- refusal 6 of an until: a, high above 3,600 and not without end, or without end
at_most : (a above endless : Bool) → a || (above && not endless) || (endless && true) ≡ false → above ≡ false
at_most a false endless e = refl
at_most a true true e = absurd (true≢false (or_right (a || false) true e))
at_most a true false e = absurd (true≢false (or_right a true (or_left (a || true) false e)))

-- the call writes the log
pub record Accepted (low high n lent : ℕ) : Type 0 where
  pub zero : worst_refusal low high n lent ≡ 0
  pub finite : high ≤ 3600
  pub few : n ≤ 1000000
  pub room : log_length n ≤ lent

module _ (low high n lent : ℕ) where
  high_le : interval_fault low high ≡ false → high ≤ 3600
  high_le f = ltb-false 3600 high (at_most (ltb 3600 low || ltb high low) (ltb 3600 high) (eqb high unbounded) f)

  pub accepted : worst_refusal low high n lent ≡ 0 → Accepted low high n lent
  accepted z =
      let (f, r) = neither (interval_fault low high) (no_room n lent) z in
      record {
        zero = z;
        finite = high_le f;
        few = ltb-false 1000000 n (or_left (ltb 1000000 n) (ltb lent (log_length n)) r);
        room = ltb-false lent (log_length n) (or_right (ltb 1000000 n) (ltb lent (log_length n)) r);
      }

-- the log is written
pub writes_log : (low high n : ℕ) (log log' : List ℕ) → Accepted low high n (length log) →
    log' ≡ put (put log 0 (log_header 1)) 8 (records_bytes (worst_time high) worst_events n) → WritesWorst low high n log (Ok (8 + n * 8)) log'
writes_log low high n log log' a is =
    let z = eq-eqb (worst_refusal low high n (length log)) 0 a.zero in
    record { answer = simp z; bytes = simp z (is ∙ put_log (worst_time high) worst_events log n a.room) }
