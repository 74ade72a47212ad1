-- The invariant of `trace::letter_group`.
use Prim.Native.Nat.{ℕ, ◌+◌, ◌*◌, ◌-◌, ◌%◌, ◌^◌, ◌≤◌, ◌<◌}
use mathlib.Core.Bool.{Bool}
use mathlib.Core.Path.{◌≡◌}
use Rattle.bits.specs.Packed.{Packed}
use Rattle.trace.specs.Format.{has_letter}
use Rattle.trace.proofs.letter_group.Given as goal

-- of the n positions from `from` on, those behind the first i, with their bits s places up
pub record Answered (f : ℕ → Bool) (from n s i word : ℕ) : Type 0 where
  pub inside : i ≤ n
  pub answers : ℕ
  pub small : answers < 2 ^ (n - i)
  pub packed : Packed f (from + i) (n - i) answers
  pub told : word ≡ answers * 2 ^ s

abbrev pub invariant-loop-i : goal.invariant-loop-i
invariant-loop-i l = Answered (has_letter l.records l.letter) l.from l.n (l.letter % 8) l.i l.answers
