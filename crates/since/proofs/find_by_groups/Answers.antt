-- `since::find_by_groups` meets its contract. The loop's invariant: the first i positions are answered, one bit each.
use Prim.Native.Nat.{ℕ, ◌+◌, ◌-◌, ◌*◌, ◌/◌, ◌%◌}
use native.Mathlib.Omega.{arith}
use mathlib.Core.Path.{◌≡◌}
use Rattle.bits.proofs.Laws.{pushed_none}
use Rattle.trace.specs.Format.{time_at}
use Rattle.bits.proofs.Laws.{grown, grown_fits}
use Rattle.since.specs.Old.{old_enough}
use Rattle.since.proofs.Runs.{group_behind}
use Rattle.since.proofs.find_by_groups.Goals as goal

pub loop-group-init : goal.loop-group-init
loop-group-init c = let a = c.args in pushed_none (old_enough a.low (time_at a.window.now) a.marks a.first) 0

pub find_group-requires : goal.find_group-requires
find_group-requires c =
    let small = c.newest_marked-last.ensures.1 (omega arith) in
    omega arith

pub overflow_add-answers : goal.overflow_add-answers
overflow_add-answers c =
    let l = c.loop-group in
    let a = c.args in
    let group = group_behind a.low (time_at a.window.now) a.marks a.first (l.group * 8) 8 c.newest_marked-last.result c.find_group.result c.newest_marked-last.ensures.0 c.find_group.ensures in
    record { fits = grown_fits (old_enough a.low (time_at a.window.now) a.marks a.first) 0 (l.group * 8) 8 c.find_group.result l.answers (omega arith) group l.invariant }

pub loop-group-preserved : goal.loop-group-preserved
loop-group-preserved c =
    let l = c.loop-group in
    let a = c.args in
    let group = group_behind a.low (time_at a.window.now) a.marks a.first (l.group * 8) 8 c.newest_marked-last.result c.find_group.result c.newest_marked-last.ensures.0 c.find_group.ensures in
    let next : l.group * 8 + 8 ≡ (l.group + 1) * 8 = omega arith in
    rw next at (grown (old_enough a.low (time_at a.window.now) a.marks a.first) 0 (l.group * 8) 8 c.find_group.result l.answers (omega arith) group l.invariant)

-- the groups end where the rest begins
behind : (n g : ℕ) → g ≡ n / 8 → g * 8 ≡ n - n % 8
behind n g e = omega arith

pub find_group-requires-then-rest-ne0 : goal.find_group-requires-then-rest-ne0
find_group-requires-then-rest-ne0 c =
    let small = c.newest_marked-last-then-rest-ne0.ensures.1 (omega arith) in
    omega arith

pub overflow_add-answers-then-rest-ne0 : goal.overflow_add-answers-then-rest-ne0
overflow_add-answers-then-rest-ne0 c =
    let l = c.loop-group in
    let a = c.args in
    let last = c.newest_marked-last-then-rest-ne0 in
    let f = c.find_group-then-rest-ne0 in
    let group = group_behind a.low (time_at a.window.now) a.marks a.first (a.n - a.n % 8) (a.n % 8) last.result f.result last.ensures.0 f.ensures in
    record {
      fits = grown_fits (old_enough a.low (time_at a.window.now) a.marks a.first) 0 (a.n - a.n % 8) (a.n % 8) f.result l.answers (omega arith) group
          (rw (behind a.n l.group (omega arith)) at l.invariant);
    }

pub returns-then-rest-ne0 : goal.returns-then-rest-ne0
returns-then-rest-ne0 c =
    let l = c.loop-group in
    let a = c.args in
    let last = c.newest_marked-last-then-rest-ne0 in
    let f = c.find_group-then-rest-ne0 in
    let group = group_behind a.low (time_at a.window.now) a.marks a.first (a.n - a.n % 8) (a.n % 8) last.result f.result last.ensures.0 f.ensures in
    let all : a.n - a.n % 8 + a.n % 8 ≡ a.n = omega arith in
    rw all
    at (grown (old_enough a.low (time_at a.window.now) a.marks a.first) 0 (a.n - a.n % 8) (a.n % 8) f.result l.answers (omega arith) group
    (rw (behind a.n l.group (omega arith)) at l.invariant)).packed

pub returns-else-rest-ne0 : goal.returns-else-rest-ne0
returns-else-rest-ne0 c =
    let l = c.loop-group in
    let all : l.group * 8 ≡ c.args.n = omega arith in
    rw all at l.invariant.packed
