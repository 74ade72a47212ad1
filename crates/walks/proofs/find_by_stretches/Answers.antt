-- `walks::find_by_stretches` meets its contract: from `end` on the word says which positions are late, and the one before `end` leads on.
-- Assumes nothing.
use Prim.Native.Nat.{ℕ, ◌-◌, ◌≤◌, ◌<◌}
use native.Mathlib.Omega.{arith}
use mathlib.Core.Bool.{true, false, cond}
use mathlib.Core.Logic.{⊎_elim}
use mathlib.Core.Path.{◌≡◌, refl, sym, ap, ◌∙◌}
use lib.Dec.{eqb}
use borrow.Author.Tests.{eq-eqb, ne_eqb}
use Rattle.mtl.proofs.Bounded.{le_or_lt, true_and_false}
use Rattle.bits.specs.Packed.{bit, Packed}
use Rattle.bits.proofs.Zeros.{last_is_zero, zero_before}
use Rattle.trace.specs.Format.{time_at}
use Rattle.walks.specs.Settle.{Rising, latest_right, is_late, Words}
use Rattle.walks.proofs.Leads.{UpTo, leads_up_to}
use Rattle.walks.proofs.Stretches.{stretched_none, stretched_more, stretched_all}
use Rattle.walks.proofs.find_by_stretches.Goals as goal
use Rattle.walks.proofs.find_by_stretches.Goals.{After-find_last_zero-from, After-test, then-from-eq0, else-from-eq0}

-- a stretch ends before the last position, which does not lead on, and one that leads on stands before its end
ends_inside : (leads n end : ℕ) → 0 < n → bit leads (n - 1) ≡ false → end ≤ n → UpTo leads n end → (end < n) × (0 < end → (bit leads (end - 1) ≡ true) × (bit leads end ≡ false))
ends_inside leads n end some off most (on, behind) =
    let inside : end < n =
    ⊎_elim
    (λ l. let same : end - 1 ≡ n - 1 = omega arith in absurd (true_and_false (on (omega arith)) (ap (bit leads) same ∙ off)))
    (λ l. l)
    (le_or_lt n end) in
    (inside, λ h. (on h, behind end (omega arith) inside))

-- a stretch has a position
shorter : (c : After-find_last_zero-from) → c.find_last_zero-from.result < c.loop-end.end
shorter c =
    let l = c.loop-end in
    let some = c.loop-end-test.true in
    rw c.find_last_zero-from.ensures.0 (zero_before l.end c.args.leads some (l.invariant.1 some).0)

pub loop-end-init : goal.loop-end-init
loop-end-init c =
    let a = c.args in
    let pre = c.requires in
    let up_to_lem = leads_up_to a.leads a.n pre.3 (omega arith) c.find_last_zero-end.ensures in
    let (inside, stands) = ends_inside a.leads a.n _ pre.2 pre.5 c.find_last_zero-end.ensures.1 up_to_lem in (
      inside,
      stands,
      λ left right positive few w rising. rw c.time-latest.ensures.0 (stretched_none a.low (time_at a.ahead.now) left right a.n positive few w pre.2 up_to_lem),
    )

pub find_last_zero-from-requires : goal.find_last_zero-from-requires
find_last_zero-from-requires c = omega (arith, c.loop-end.invariant.0)

pub time-to-requires : goal.time-to-requires
time-to-requires c = omega (arith, c.loop-end.invariant.0)

pub find_met-met-requires : goal.find_met-met-requires
find_met-met-requires c = let l = c.loop-end in (omega arith, c.find_last_zero-from.ensures.1, omega (arith, l.invariant.0))

pub ones_between-requires : goal.ones_between-requires
ones_between-requires c = let met = c.find_met-met.ensures in omega (arith, met.within, c.loop-end.invariant.0, c.find_last_zero-from.ensures.1)

pub find_last_zero-end-requires-in-loop-end : goal.find_last_zero-end-requires-in-loop-end
find_last_zero-end-requires-in-loop-end c = let l = c.loop-end in omega (arith, l.invariant.0, c.find_last_zero-from.ensures.1)

pub loop-end-smaller : goal.loop-end-smaller
loop-end-smaller c = omega (arith, shorter (goal.at.loop-end-smaller c).After-find_last_zero-from, c.find_last_zero-end-in-loop-end.ensures.1)

pub loop-end-preserved : goal.loop-end-preserved
loop-end-preserved c =
    let l = c.loop-end in
    let some = c.loop-end-test.true in
    let a = c.args in
    let less = shorter (goal.at.loop-end-preserved c).After-find_last_zero-from in
    let begin = c.find_last_zero-from.ensures in
    let few_from : c.find_last_zero-from.result ≤ 64 = omega (arith, l.invariant.0, c.requires.3) in
    let up_to_lem = leads_up_to a.leads c.find_last_zero-from.result few_from (omega arith) c.find_last_zero-end-in-loop-end.ensures in
    let most = c.find_last_zero-end-in-loop-end.ensures.1 in
    let latest : c.if-from-eq0.latest ≡ cond (eqb c.find_last_zero-from.result 0) c.time-to.result l.latest =
    elim c.if-from-eq0.branch [
      | then-from-eq0 w ↦ w.latest-is ∙ rw (eq-eqb c.find_last_zero-from.result 0 w.if-from-eq0.true) refl
      | else-from-eq0 w ↦ w.latest-is ∙ rw (ne_eqb c.find_last_zero-from.result 0 w.if-from-eq0.false) refl
    ] in
    let off : 0 < c.find_last_zero-from.result → bit a.leads (c.find_last_zero-from.result - 1) ≡ false = rw begin.0 (last_is_zero l.end a.leads) in (
      omega (arith, l.invariant.0),
      λ h.
          ⊎_elim
          (λ same.
          let e : c.find_last_zero-end-in-loop-end.result - 1 ≡ c.find_last_zero-from.result - 1 = omega arith in
          absurd (true_and_false (up_to_lem.0 h) (ap (bit a.leads) e ∙ off (omega arith))))
          (λ below. (up_to_lem.0 h, up_to_lem.1 c.find_last_zero-end-in-loop-end.result (omega arith) below))
          (le_or_lt c.find_last_zero-from.result c.find_last_zero-end-in-loop-end.result),
      λ left right positive few w rising.
          rw (latest, c.time-to.ensures.0)
          (stretched_more a.low (time_at a.ahead.now) left right a.n positive few w rising some l.invariant.0 (l.invariant.1 some).1 (l.invariant.1 some).0 (l.invariant.2 left right positive few w rising)
          c.ones_between.result
          begin.0
          begin.1
          (rw c.time-to.ensures.0 at c.find_met-met.ensures)
          c.ones_between.ensures
          up_to_lem
          most),
    )

-- the loop's end: no stretch is left
all : (c : After-test) →
    let a = c.args in
    let time = time_at a.ahead.now in
    (left right : ℕ) → Words left right a.n a.own a.leads → Rising time a.n →
    Packed (is_late a.low time left right a.n) 0 a.n c.loop-end.bits × (cond (bit a.own 0) c.loop-end.latest 0 ≡ latest_right time left right a.n 0)
all c left right w rising =
    let l = c.loop-end in
    let a = c.args in
    stretched_all a.low (time_at a.ahead.now) left right a.n c.requires.0 c.requires.3 w c.requires.2 (omega arith) (l.invariant.2 left right c.requires.0 c.requires.3 w rising)

pub returns-then-test : goal.returns-then-test
returns-then-test c left right w rising =
    let (packed, latest) = all (goal.at.returns-then-test c).After-test left right w rising in
    (packed, rw (sym c.test.ensures ∙ c.if-test.true) at latest)

pub returns-else-test : goal.returns-else-test
returns-else-test c left right w rising =
    let (packed, latest) = all (goal.at.returns-else-test c).After-test left right w rising in
    (packed, rw (sym c.test.ensures ∙ c.if-test.false) at latest)
