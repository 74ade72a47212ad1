-- Which of a second's six steps may change places: each two of the first four leave the same kiosk in either order, and so do the
-- last two. Assumes nothing but, where the head goes off, a switch-off time above 0, as every accepted one is.
use Prim.Native.Nat.{ℕ, ◌+◌, ◌-◌, ◌<◌}
use native.Mathlib.Omega.{arith}
use mathlib.Core.Bool.{Bool, true, false, cond, ◌&&◌}
use mathlib.Core.Path.{◌≡◌, refl}
use lib.Dec.{leb, ltb}
use borrow.Author.Tests.{lt-leb}
use Rattle.simulation.specs.Kiosk.{is_off, is_warming, is_free, is_printing, is_due, with_head, end_print, join, end_warming, switch_off, begin_print, begin_warming, second_of}
use Rattle.simulation.specs.declared.Settings.{Settings}
use Rattle.simulation.specs.declared.kiosk.Kiosk.{Kiosk}
use Rattle.simulation.specs.declared.kiosk.Head.{Head}
use Rattle.simulation.specs.declared.kiosk.Head.TheVariants.{Off, Warming, Idle, Printing}

-- what is false of two heads is false of the one that a test takes
neither : (is : Head → Bool) (c : Bool) (x y : Head) → is x ≡ false → is y ≡ false → is (cond c x y) ≡ false
neither is true x y e f = e
neither is false x y e f = f

module _ (s : Settings) (now draw : ℕ) (k : Kiosk) where
  -- the second in which the customer joins before the print ends
  abbrev pub customer_first : Kiosk
  customer_first =
      let k₁ = join s.gap draw k in
      let k₂ = end_print s.print now k₁ in
      let k₃ = end_warming s.warmup now k₂ in
      let k₄ = switch_off s.switchoff now k₃ in
      let k₅ = begin_print now k₄ in
      begin_warming now k₅

  -- it leaves the kiosk that the paper's order leaves, and so has the same letters
  pub same_second : customer_first ≡ second_of s now draw k
  unfolding end_print join second_of
  same_second = refl

  pub customer_print : join s.gap draw (end_print s.print now k) ≡ end_print s.print now (join s.gap draw k)
  unfolding join end_print
  customer_print = refl

  pub customer_warming : join s.gap draw (end_warming s.warmup now k) ≡ end_warming s.warmup now (join s.gap draw k)
  unfolding join end_warming
  customer_warming = refl

  pub customer_off : join s.gap draw (switch_off s.switchoff now k) ≡ switch_off s.switchoff now (join s.gap draw k)
  unfolding join switch_off
  customer_off = refl

  -- the others by what the head does

  print_warming_at : (h : Head) → end_print s.print now (end_warming s.warmup now (with_head k h)) ≡ end_warming s.warmup now (end_print s.print now (with_head k h))
  unfolding end_print end_warming
  print_warming_at Off = refl
  print_warming_at (Warming t) = simp (neither is_printing (leb (t + s.warmup) now) (Idle now) (Warming t) refl refl)
  print_warming_at (Idle t) = refl
  print_warming_at (Printing t) = simp (neither is_warming (leb (t + s.print) now) (Idle now) (Printing t) refl refl)

  pub print_warming : end_print s.print now (end_warming s.warmup now k) ≡ end_warming s.warmup now (end_print s.print now k)
  print_warming = print_warming_at k.head

  begins_at : (h : Head) → begin_print now (begin_warming now (with_head k h)) ≡ begin_warming now (begin_print now (with_head k h))
  unfolding begin_print begin_warming
  begins_at Off = let all : k.waiting - 0 ≡ k.waiting = omega arith in simp (all, neither is_free (ltb 0 k.waiting) (Warming now) Off refl refl)
  begins_at (Warming t) = refl
  begins_at (Idle t) = simp (neither is_off (ltb 0 k.waiting) (Printing now) (Idle t) refl refl)
  begins_at (Printing t) = refl

  pub begins : begin_print now (begin_warming now k) ≡ begin_warming now (begin_print now k)
  begins = begins_at k.head

  module _ (some : 0 < s.switchoff) where
    abbrev goes : Head → Bool
    goes h = is_free h && is_due s.switchoff now h

    -- a head that becomes idle in this second is not due to go off in it
    stays : goes (Idle now) ≡ false
    stays = lt-leb (now + s.switchoff) now (omega arith)

    print_off_at : (h : Head) → end_print s.print now (switch_off s.switchoff now (with_head k h)) ≡ switch_off s.switchoff now (end_print s.print now (with_head k h))
    unfolding end_print switch_off
    print_off_at Off = refl
    print_off_at (Warming t) = refl
    print_off_at (Idle t) = simp (neither is_printing (leb (t + s.switchoff) now) Off (Idle t) refl refl)
    print_off_at (Printing t) = simp (neither goes (leb (t + s.print) now) (Idle now) (Printing t) stays refl)

    pub print_off : end_print s.print now (switch_off s.switchoff now k) ≡ switch_off s.switchoff now (end_print s.print now k)
    print_off = print_off_at k.head

    warming_off_at : (h : Head) → end_warming s.warmup now (switch_off s.switchoff now (with_head k h)) ≡ switch_off s.switchoff now (end_warming s.warmup now (with_head k h))
    unfolding end_warming switch_off
    warming_off_at Off = refl
    warming_off_at (Warming t) = simp (neither goes (leb (t + s.warmup) now) (Idle now) (Warming t) stays refl)
    warming_off_at (Idle t) = simp (neither is_warming (leb (t + s.switchoff) now) Off (Idle t) refl refl)
    warming_off_at (Printing t) = refl

    pub warming_off : end_warming s.warmup now (switch_off s.switchoff now k) ≡ switch_off s.switchoff now (end_warming s.warmup now k)
    warming_off = warming_off_at k.head
