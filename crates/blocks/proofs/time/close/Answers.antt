-- `blocks::time::close` meets its contract. The loop's invariant: the first i positions are answered, one bit each.
-- Assumes nothing.
use Prim.Native.Nat.{ℕ, ◌+◌, ◌*◌, ◌-◌, ◌/◌, ◌%◌, ◌^◌, ◌≤◌, ◌<◌}
use native.Mathlib.Omega.{arith}
use mathlib.Core.Bool.{Bool}
use mathlib.Core.Bool.{not as negate}
use mathlib.Core.List.{List}
use mathlib.Core.Path.{◌≡◌, sym, ap, ◌∙◌}
use lib.ListN.{get_or}
use borrow.Author.Tests.{le-leb}
use Rattle.bits.specs.Packed.{Packed}
use Rattle.bits.proofs.Laws.{Pushed, pushed_none, grown, grown_fits, bit_not}
use Rattle.bits.proofs.Filling.{zero_bit}
use Rattle.trace.specs.Format.{time_at}
use Rattle.trace.proofs.Laws.{time_bound}
use Rattle.blocks.specs.Near.{close_after}
use Rattle.blocks.proofs.time.close.Goals as goal

-- no 32-bit time lies farther than the largest of them
module _ (s : List ℕ) (byte : (k : ℕ) → get_or s k 0 < 256) (far n : ℕ) (most : 4294967295 ≤ far) (few : n ≤ 64) where
  every : Packed (close_after far (time_at s)) 0 n 18446744073709551615
  every = record {
    few = few;
    same = λ i h.
        le-leb (time_at s (0 + i + 1) - time_at s (0 + i)) far (omega (arith, time_bound s byte (0 + i + 1)))
        ∙ sym (bit_not 64 0 i (omega arith) (omega arith) ∙ ap negate (zero_bit i));
  }

-- a group behind the i answers that are there
module _ (f : ℕ → Bool) (i m v w : ℕ) (few : i + m ≤ 64) (group : (v < 2 ^ m) × Packed f i m v) (so_far : Pushed f 0 i w) where
  start : 0 + i ≡ i
  start = omega arith

  on : Pushed f 0 (i + m) (w + v * 2 ^ i % 2 ^ 64)
  on = grown f 0 i m v w few (rw start group) so_far

  on_fits : w + v * 2 ^ i % 2 ^ 64 < 2 ^ 64
  on_fits = grown_fits f 0 i m v w few (rw start group) so_far

pub returns-then-far-ge4294967295 : goal.returns-then-far-ge4294967295
returns-then-far-ge4294967295 c =
    let a = c.args in
    every a.window.now (λ k. (c.type_inv.window k).fits) a.far a.n (omega arith) (omega arith)

pub loop-group-init : goal.loop-group-init
loop-group-init c = let a = c.args in pushed_none (close_after a.far (time_at a.window.now)) 0

pub overflow_add-answers : goal.overflow_add-answers
overflow_add-answers c =
    let a = c.args in
    let l = c.loop-group in
    let g = c.close_group in
    record { fits = on_fits (close_after a.far (time_at a.window.now)) (l.group * 8) 8 g.result l.answers (omega arith) g.ensures l.invariant }

pub loop-group-preserved : goal.loop-group-preserved
loop-group-preserved c =
    let a = c.args in
    let l = c.loop-group in
    let g = c.close_group in
    let next : l.group * 8 + 8 ≡ (l.group + 1) * 8 = omega arith in
    rw next at (on (close_after a.far (time_at a.window.now)) (l.group * 8) 8 g.result l.answers (omega arith) g.ensures l.invariant)

-- the groups end where the rest begins
behind : (n g : ℕ) → g ≡ n / 8 → g * 8 ≡ n - n % 8
behind n g e = omega arith

pub overflow_add-answers-then-rest-ne0 : goal.overflow_add-answers-then-rest-ne0
overflow_add-answers-then-rest-ne0 c =
    let a = c.args in
    let l = c.loop-group in
    let g = c.close_group-then-rest-ne0 in
    record {
      fits = on_fits (close_after a.far (time_at a.window.now)) (a.n - a.n % 8) (a.n % 8) g.result l.answers (omega arith) g.ensures
          (rw (behind a.n l.group (omega arith)) at l.invariant);
    }

pub returns-then-rest-ne0 : goal.returns-then-rest-ne0
returns-then-rest-ne0 c =
    let a = c.args in
    let l = c.loop-group in
    let g = c.close_group-then-rest-ne0 in
    let all : a.n - a.n % 8 + a.n % 8 ≡ a.n = omega arith in
    rw all
    at (on (close_after a.far (time_at a.window.now)) (a.n - a.n % 8) (a.n % 8) g.result l.answers (omega arith) g.ensures
    (rw (behind a.n l.group (omega arith)) at l.invariant)).packed

pub returns-else-rest-ne0 : goal.returns-else-rest-ne0
returns-else-rest-ne0 c =
    let l = c.loop-group in
    let all : l.group * 8 ≡ c.args.n = omega arith in
    rw all at l.invariant.packed
