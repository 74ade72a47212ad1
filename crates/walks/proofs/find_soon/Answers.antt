-- `walks::find_soon` meets its contract. The loop's invariant: all positions but the first i are looked at. Assumes nothing.
use Prim.Native.Nat.{ℕ, suc, ◌+◌, ◌*◌, ◌-◌, ◌≤◌, ◌<◌, ◌^◌}
use native.Mathlib.Nat.{lt_of_lt_of_le}
use native.Mathlib.Omega.{arith}
use mathlib.Core.Bool.{cond}
use mathlib.Core.Path.{◌≡◌, refl, sym, ap, ◌∙◌}
use lib.Dec.{leb}
use lib.Pow.{pow-add, pow_mono}
use Rattle.bits.specs.Packed.{bit, number}
use Rattle.bits.proofs.Laws.{number_lt, packed_none, packed_front}
use Rattle.trace.specs.Format.{time_at}
use Rattle.walks.specs.Settle.{first_right, is_soon}
use Rattle.walks.proofs.Far.{first_of_none, first_of_more}
use Rattle.walks.proofs.find_soon.Invariants.{Looked}
use Rattle.walks.proofs.find_soon.Goals as goal
use Rattle.walks.proofs.find_soon.Goals.{After-time-now, then-test, else-test}

module _ (high : ℕ) (time : ℕ → ℕ) (right n : ℕ) where
  none_yet : Looked high time right n n 8589934592 0
  none_yet =
      let e : n - n ≡ 0 = omega arith in
      record {
        inside = omega arith;
        small = rw e (omega arith);
        is_next = rw e (sym (first_of_none time right n));
        packed = rw e (packed_none (is_soon high time right n) n 0);
      }

  bound : (i next bits : ℕ) → 0 < i → n ≤ 64 → Looked high time right n i next bits → bits * 2 + 1 < 2 ^ 64
  bound i next bits h few done =
      let most : n - i ≤ 63 = omega arith in
      let l : bits < 2 ^ 63 = lt_of_lt_of_le done.small (pow_mono most) in
      omega arith

  -- position i - 1 in front of them
  more : (i next bits next' : ℕ) → 0 < i → n ≤ 64 → next' ≡ cond (bit right (i - 1)) (time (i - 1)) next → Looked high time right n i next bits →
      Looked high time right n (i - 1) next' (bits * 2 + number (leb next' (time (i - 1) + high)))
  more i next bits next' h few e done =
      let inside = done.inside in
      let x = leb next' (time (i - 1) + high) in
      let one : n - (i - 1) ≡ (n - i) + 1 = omega arith in
      let longer : suc (n - i) ≡ n - (i - 1) = omega arith in
      let after : i ≡ suc (i - 1) = omega arith in
      let behind : (i - 1) + 1 ≡ i = omega arith in
      let is : next' ≡ first_right time right (n - (i - 1)) (i - 1) =
      e
      ∙ ap (λ (q : ℕ). cond (bit right (i - 1)) (time (i - 1)) q) (done.is_next ∙ ap (first_right time right (n - i)) after)
      ∙ sym (first_of_more time right (n - i) (i - 1))
      ∙ ap (λ (d : ℕ). first_right time right d (i - 1)) longer in
      record {
        inside = omega arith;
        small = rw one (omega (arith, done.small, pow-add 2 (n - i) 1, number_lt x));
        is_next = is;
        packed =
            rw one
            (packed_front (is_soon high time right n) (i - 1) (n - i) bits x (omega arith)
            (ap (λ (q : ℕ). leb q (time (i - 1) + high)) (sym is))
            (rw behind done.packed));
      }

fits : (c : After-time-now) → c.loop-i.bits * 2 + 1 < 2 ^ 64
fits c =
    let l = c.loop-i in
    let a = c.args in
    bound a.high (time_at a.ahead.now) a.right a.n l.i l.next l.bits (omega arith) (omega arith) l.invariant

pub loop-i-init : goal.loop-i-init
loop-i-init c = let a = c.args in none_yet a.high (time_at a.ahead.now) a.right a.n

pub overflow_mul-bits : goal.overflow_mul-bits
overflow_mul-bits c = record { fits = omega (arith, fits (goal.at.overflow_mul-bits c).After-time-now) }

pub overflow_add-bits : goal.overflow_add-bits
overflow_add-bits c =
    let a = c.args in
    record { fits = omega (arith, fits (goal.at.overflow_add-bits c).After-time-now, c.flag.ensures, number_lt (leb c.if-test.next (c.time-now.result + a.high))) }

pub loop-i-preserved : goal.loop-i-preserved
loop-i-preserved c =
    let l = c.loop-i in
    let a = c.args in
    rw (c.flag.ensures, c.time-now.ensures.0)
    (more a.high (time_at a.ahead.now) a.right a.n l.i l.next l.bits c.if-test.next (omega arith) (omega arith)
    (elim c.if-test.branch [
      | then-test w ↦ w.next-is ∙ rw (sym c.test.ensures ∙ w.if-test.true, c.time-now.ensures.0) refl
      | else-test w ↦ w.next-is ∙ rw (sym c.test.ensures ∙ w.if-test.false) refl
    ])
    l.invariant)

pub returns : goal.returns
returns c =
    let l = c.loop-i in
    let a = c.args in
    let e : l.i ≡ 0 = omega arith in
    let all : a.n - l.i ≡ a.n = omega arith in
    (rw (all, e) at l.invariant.packed, rw (all, e) at l.invariant.is_next)
