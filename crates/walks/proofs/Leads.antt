-- The latest right that left leads to, by words: one from which left leads on has that of the next, and any other none but its own.
use Prim.Native.Nat.{ℕ, zero, suc, ◌+◌, ◌-◌, ◌%◌, ◌/◌, ◌≤◌, ◌<◌, ◌^◌, max}
use native.Mathlib.Nat.{mod-lt}
use native.Mathlib.Omega.{arith}
use mathlib.Core.Bool.{Bool, true, false, cond, ◌&&◌, ◌||◌, true≢false}
use mathlib.Core.Bool.{not as negate}
use mathlib.Core.Logic.{⊎_elim}
use mathlib.Core.Path.{◌≡◌, refl, sym, ◌∙◌, ap}
use lib.Bits.{bit_and}
use lib.Dec.{leb}
use lib.Pow.{pow_pos}
use borrow.Author.Tests.{lt-leb, lt-ltb}
use Rattle.mtl.proofs.Bounded.{and_iff, true_or_false, true_and_false, le_or_lt}
use Rattle.bits.specs.Packed.{bit, FilledDown, last_zero}
use Rattle.bits.proofs.Laws.{bit_of_and, bit_not, bit_rest, bit_mod}
use Rattle.bits.proofs.Filling.{no_bit}
use Rattle.bits.proofs.Zeros.{last_is_zero, one_behind_last}
use Rattle.walks.specs.Settle.{next_of, Rising, latest_right, is_late, Words}
use Rattle.walks.proofs.Logic.{neither}
use Rattle.walks.proofs.LatestRight.{latest_of_none, latest_of_more}
use Rattle.walks.proofs.Log.{Rises}

-- as the code makes them
abbrev pub leads : (left own : ℕ) → ℕ
leads left own = bit_and left (own / 2 ^ 1)

module _ (left right n own : ℕ) (few : n ≤ 64) (small : own < 2 ^ 64) (filled : FilledDown left (right % 2 ^ n) own) where
  behind : (d i : ℕ) → i + d ≡ 64 → n ≤ i → bit own i ≡ false
  behind zero i e h = no_bit 64 own i small (omega arith)
  behind (suc d) i e h =
      filled i (omega arith)
      ∙ rw (no_bit n (right % 2 ^ n) i (mod-lt right (pow_pos n)) h, behind d (suc i) (omega arith) (omega arith)) (by (bit left i))
    where
      by : (l : Bool) → false || (l && false) ≡ false
      by true = refl
      by false = refl

  leads_on : (i : ℕ) → bit (leads left own) i ≡ bit left i && bit own (suc i)
  leads_on i =
      let e : 1 + i ≡ suc i = omega arith in
      bit_of_and left (own / 2 ^ 1) i ∙ ap (λ (x : Bool). bit left i && x) (bit_rest own 1 i ∙ ap (bit own) e)

  pub words_are : Words left right n own (leads left own)
  words_are = record {
    none = λ i h l. behind (64 - i) i (omega arith) h;
    here = λ i h.
        filled i (omega arith)
        ∙ ap (λ (x : Bool). x || (bit left i && bit own (suc i))) (bit_mod right n i h)
        ∙ ap (λ (x : Bool). bit right i || x) (sym (leads_on i));
    led = leads_on;
  }

module _ (time : ℕ → ℕ) (left right n : ℕ) {own on : ℕ} (few : n ≤ 64) (w : Words left right n own on) where
  abbrev pub right_from : ℕ → ℕ
  right_from i = latest_right time left right (n - i) i

  more : (i : ℕ) → i < n → right_from i ≡ max (cond (bit left i) (right_from (suc i)) 0) (cond (bit right i) (time i) 0)
  more i h =
      let e : n - i ≡ suc (n - suc i) = omega arith in
      ap (λ (d : ℕ). latest_right time left right d i) e ∙ latest_of_more time left right (n - suc i) i

  -- where left does not lead on, there is none but its own
  alone : (i : ℕ) → i < n → (bit own (suc i) ≡ false → right_from (suc i) ≡ 0) → bit on i ≡ false → right_from i ≡ cond (bit right i) (time i) 0
  alone i h next e = more i h ∙ by (bit left i) refl
    where
      by : (l : Bool) → bit left i ≡ l → max (cond l (right_from (suc i)) 0) (cond (bit right i) (time i) 0) ≡ cond (bit right i) (time i) 0
      by true is =
          let off : bit own (suc i) ≡ false = ap (λ (x : Bool). x && bit own (suc i)) (sym is) ∙ sym (w.led i) ∙ e in
          let z = next off in
          omega arith
      by false is = omega arith

  nothing : (d i : ℕ) → i + d ≡ n → bit own i ≡ false → right_from i ≡ 0
  nothing zero i e off = let z : n - i ≡ 0 = omega arith in ap (λ (d : ℕ). latest_right time left right d i) z ∙ latest_of_none time left right i
  nothing (suc d) i e off =
      let (r, l) = neither (bit right i) (bit on i) (sym (w.here i (omega arith)) ∙ off) in
      alone i (omega arith) (λ o. nothing d (suc i) (omega arith) o) l ∙ ap (λ (x : Bool). cond x (time i) 0) r

  pub right_from_none : (i : ℕ) → i ≤ n → bit own i ≡ false → right_from i ≡ 0
  right_from_none i h off = nothing (n - i) i (omega arith) off

  pub right_alone : (i : ℕ) → i < n → bit on i ≡ false → right_from i ≡ cond (bit right i) (time i) 0
  right_alone i h off = alone i h (λ o. right_from_none (suc i) (omega arith) o) off

  -- its own is then the latest, if it has one
  pub own_right : (i : ℕ) → i < n → bit on i ≡ false → bit own i ≡ true → right_from i ≡ time i
  own_right i h off here = right_alone i h off ∙ ap (λ (x : Bool). cond x (time i) 0) (by (bit right i) (sym (w.here i h) ∙ here))
    where
      by : (r : Bool) → r || bit on i ≡ true → r ≡ true
      by true e = refl
      by false e = absurd (true_and_false e off)

  pub not_late : (low : ℕ) → 0 < low → (i : ℕ) → i < n → bit on i ≡ false → is_late low time left right n i ≡ false
  not_late low positive i h off = ap (leb (time i + low)) (right_alone i h off) ∙ by (bit right i)
    where
      by : (r : Bool) → leb (time i + low) (cond r (time i) 0) ≡ false
      by true = lt-leb (time i + low) (time i) (omega arith)
      by false = lt-leb (time i + low) 0 (omega arith)

  -- one that leads on is not the last
  pub leads_inside : (i : ℕ) → i < n → bit on i ≡ true → (bit left i ≡ true) × (bit own (suc i) ≡ true) × (suc i < n)
  leads_inside i h led =
      let (l, o) = (and_iff (bit left i) (bit own (suc i))).0 (sym (w.led i) ∙ led) in
      (l, o, ⊎_elim (λ le. absurd (true_and_false o (w.none (suc i) le (omega arith)))) (λ lt. lt) (le_or_lt n (suc i)))

  module _ (rising : Rising time n) where
    at_least : (d i : ℕ) → i + d ≡ n → bit own i ≡ true → time i ≤ right_from i
    at_least zero i e o = absurd (true_and_false o (w.none i (omega arith) (omega arith)))
    at_least (suc d) i e o =
        ⊎_elim
        (λ led.
        let (l, o', below) = leads_inside i (omega arith) led in
        let m = at_least d (suc i) (omega arith) o' in
        let r = rising i (suc i) (omega arith) below in
        let s = more i (omega arith) ∙ ap (λ (x : Bool). max (cond x (right_from (suc i)) 0) (cond (bit right i) (time i) 0)) l in
        omega arith)
        (λ off. let s = own_right i (omega arith) off o in omega arith)
        (true_or_false (bit on i))

    -- one that leads on has the latest right of the next
    pub same_right : (i : ℕ) → i < n → bit on i ≡ true → right_from i ≡ right_from (suc i)
    same_right i h led =
        let (l, o, below) = leads_inside i h led in
        let m = at_least (n - suc i) (suc i) (omega arith) o in
        let r = rising i (suc i) (omega arith) below in
        more i h ∙ ap (λ (x : Bool). max (cond x (right_from (suc i)) 0) (cond (bit right i) (time i) 0)) l ∙ by (bit right i) (omega arith)
      where
        by : (r : Bool) → time i ≤ right_from (suc i) → max (right_from (suc i)) (cond r (time i) 0) ≡ right_from (suc i)
        by true m = omega arith
        by false m = omega arith

-- `end` is the place behind the last of a word's first n bits that is 1
abbrev pub UpTo : (word n end : ℕ) → Type 0
UpTo word n end = (0 < end → bit word (end - 1) ≡ true) × ((i : ℕ) → end ≤ i → i < n → bit word i ≡ false)

pub leads_up_to : (word n : ℕ) → n ≤ 64 → word < 2 ^ 64 → {end : ℕ} → (end ≡ last_zero n (2 ^ 64 - 1 - word)) × (end ≤ n) → UpTo word n end
leads_up_to word n few small {end} (e, inside) = (
  λ h.
      turn (bit word (end - 1))
      (sym (bit_not 64 word (end - 1) small (omega (arith, inside))) ∙ ap (λ (k : ℕ). bit (2 ^ 64 - 1 - word) (k - 1)) e ∙ last_is_zero n (2 ^ 64 - 1 - word) (omega arith)),
  λ i h l. turned (bit word i) (sym (bit_not 64 word i small (omega arith)) ∙ one_behind_last n (2 ^ 64 - 1 - word) i (omega arith) l),
)
  where
    turn : (b : Bool) → negate b ≡ false → b ≡ true
    turn true e = refl
    turn false e = absurd (true≢false e)

    turned : (b : Bool) → negate b ≡ true → b ≡ false
    turned true e = absurd (true≢false (sym e))
    turned false e = refl

-- the times of those to take, without the one behind them
pub rising_next : (time : ℕ → ℕ) (n after : ℕ) {start : ℕ → ℕ} {lead : ℕ} → Rises start (next_of time n after) lead n → Rising time n
rising_next time n after rises i j h l = rw (lt-ltb i n (omega arith), lt-ltb j n l) at (rises.own i j h l)
