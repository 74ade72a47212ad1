-- What holds of the kiosk after every second: nobody is lost. Assumes nothing.
-- (Examples is named first so that the worked run is checked before any theorem.)
use Rattle.simulation.specs.Examples
use Prim.Native.Nat.{ℕ, zero, suc, ◌+◌, ◌≤◌}
use mathlib.Core.Bool.{Bool, true, false, cond, ◌&&◌}
use mathlib.Core.Path.{◌≡◌, refl, sym, ap, ◌∙◌}
use native.Mathlib.Omega.{arith}
use lib.Dec.{ltb}
use borrow.Author.Tests.{lt-ltb}
use Rattle.bits.specs.Packed.{number}
use Rattle.bits.proofs.Laws.{number_lt}
use Rattle.simulation.specs.Generator.{xorshift}
use Rattle.simulation.specs.Kiosk.{is_off, is_warming, is_free, is_printing, is_due, end_print, join, end_warming, switch_off, begin_print, begin_warming, second_of, run_after, kiosk_after}
use Rattle.simulation.specs.Arrivals.{customers}
use Rattle.simulation.specs.declared.Settings.{Settings}
use Rattle.simulation.specs.declared.kiosk.Kiosk.{Kiosk}
use Rattle.simulation.specs.declared.kiosk.Head.{Head}
use Rattle.simulation.specs.declared.kiosk.Head.TheVariants.{Off, Warming, Idle, Printing}

-- the head goes from one state to another only where neither or both print

ended_head : (h : Head) (b : Bool) (now : ℕ) → number (is_printing h && b) + number (is_printing (cond (is_printing h && b) (Idle now) h)) ≡ number (is_printing h)
ended_head Off b now = refl
ended_head (Warming t) b now = refl
ended_head (Idle t) b now = refl
ended_head (Printing t) true now = refl
ended_head (Printing t) false now = refl

warmed_head : (h : Head) (b : Bool) (now : ℕ) → is_printing (cond (is_warming h && b) (Idle now) h) ≡ is_printing h
warmed_head Off b now = refl
warmed_head (Warming t) true now = refl
warmed_head (Warming t) false now = refl
warmed_head (Idle t) b now = refl
warmed_head (Printing t) b now = refl

off_head : (h : Head) (b : Bool) → is_printing (cond (is_free h && b) Off h) ≡ is_printing h
off_head Off b = refl
off_head (Warming t) b = refl
off_head (Idle t) true = refl
off_head (Idle t) false = refl
off_head (Printing t) b = refl

printing_head : (h : Head) (b : Bool) (now : ℕ) → number (is_printing (cond (is_free h && b) (Printing now) h)) ≡ number (is_free h && b) + number (is_printing h)
printing_head Off b now = refl
printing_head (Warming t) b now = refl
printing_head (Idle t) true now = refl
printing_head (Idle t) false now = refl
printing_head (Printing t) b now = refl

warming_head : (h : Head) (b : Bool) (now : ℕ) → is_printing (cond (is_off h && b) (Warming now) h) ≡ is_printing h
warming_head Off true now = refl
warming_head Off false now = refl
warming_head (Warming t) b now = refl
warming_head (Idle t) b now = refl
warming_head (Printing t) b now = refl

-- nobody is served who does not wait
pub served : (free : Bool) (w : ℕ) → number (free && ltb 0 w) ≤ w
served false w = omega arith
served true zero = omega arith
served true (suc w) = rw (lt-ltb 0 (suc w) (omega arith)) (omega arith)

-- step by step

end_print_kept : (time now : ℕ) (k : Kiosk) → customers (end_print time now k) ≡ customers k
unfolding end_print
end_print_kept time now k = let e = ended_head k.head (is_due time now k.head) now in omega arith

join_kept : (gap draw : ℕ) (k : Kiosk) → customers (join gap draw k) ≡ customers k + number (join gap draw k).joined
unfolding join
join_kept gap draw k = omega arith

end_warming_kept : (time now : ℕ) (k : Kiosk) → customers (end_warming time now k) ≡ customers k
unfolding end_warming
end_warming_kept time now k = rw (warmed_head k.head (is_due time now k.head) now)

switch_off_kept : (time now : ℕ) (k : Kiosk) → customers (switch_off time now k) ≡ customers k
unfolding switch_off
switch_off_kept time now k = rw (off_head k.head (is_due time now k.head))

begin_print_kept : (now : ℕ) (k : Kiosk) → customers (begin_print now k) ≡ customers k
unfolding begin_print
begin_print_kept now k =
    let e = printing_head k.head (ltb 0 k.waiting) now in
    let some = served (is_free k.head) k.waiting in
    omega arith

begin_warming_kept : (now : ℕ) (k : Kiosk) → customers (begin_warming now k) ≡ customers k
unfolding begin_warming
begin_warming_kept now k = rw (warming_head k.head (ltb 0 k.waiting) now)

module _ (s : Settings) (now draw : ℕ) (k : Kiosk) where
  abbrev k₁ : Kiosk
  k₁ = end_print s.print now k

  abbrev k₂ : Kiosk
  k₂ = join s.gap draw k₁

  abbrev k₃ : Kiosk
  k₃ = end_warming s.warmup now k₂

  abbrev k₄ : Kiosk
  k₄ = switch_off s.switchoff now k₃

  abbrev k₅ : Kiosk
  k₅ = begin_print now k₄

  joined_is : (second_of s now draw k).joined ≡ k₂.joined
  unfolding second_of begin_warming begin_print switch_off end_warming
  joined_is = refl

  -- who comes in a second is who joins in it
  pub second_customers : customers (second_of s now draw k) ≡ customers k + number (second_of s now draw k).joined
  unfolding second_of
  second_customers =
      begin_warming_kept now k₅
      ∙ begin_print_kept now k₄
      ∙ switch_off_kept s.switchoff now k₃
      ∙ end_warming_kept s.warmup now k₂
      ∙ join_kept s.gap draw k₁
      ∙ ap (λ (n : ℕ). n + number k₂.joined) (end_print_kept s.print now k)
      ∙ ap (λ (b : Bool). customers k + number b) (sym joined_is)

-- one a second at most
pub few_customers : (s : Settings) (seed n : ℕ) → customers (kiosk_after s seed n) ≤ n
unfolding run_after
few_customers s seed zero = omega arith
few_customers s seed (suc n) =
    let draw = xorshift (run_after s seed n).state in
    let k = kiosk_after s seed n in
    omega (arith, few_customers s seed n, second_customers s n draw k, number_lt (second_of s n draw k).joined)
