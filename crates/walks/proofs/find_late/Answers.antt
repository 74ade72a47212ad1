-- `walks::find_late` meets its contract. The loop's invariant: all positions but the first i are looked at. Assumes nothing.
use Prim.Native.Nat.{ℕ, suc, ◌+◌, ◌*◌, ◌-◌, ◌/◌, ◌≤◌, ◌<◌, ◌^◌}
use native.Mathlib.Nat.{lt_of_lt_of_le}
use native.Mathlib.Omega.{arith}
use mathlib.Core.Bool.{Bool, true, false, cond}
use mathlib.Core.Logic.{⊎_elim}
use mathlib.Core.Path.{◌≡◌, refl, sym, ap, ◌∙◌}
use lib.Bits.{and_le_l}
use lib.Dec.{leb}
use lib.Pow.{pow-add, pow_mono, pow_pos}
use borrow.Author.Tests.{lt-leb}
use Rattle.mtl.proofs.Bounded.{le_or_lt, true_or_false}
use Rattle.bits.specs.Packed.{bit, number, Packed}
use Rattle.bits.proofs.Laws.{number_lt, packed_front}
use Rattle.bits.proofs.Filling.{zero_bit}
use Rattle.trace.specs.Format.{time_at}
use Rattle.walks.specs.Settle.{Rising, latest_right, is_late, Words}
use Rattle.walks.proofs.Leads.{leads, words_are, UpTo, leads_up_to, leads_inside, right_from_none, own_right, not_late, same_right}
use Rattle.walks.proofs.find_late.Invariants.{Seen, Looked}
use Rattle.walks.proofs.find_late.Goals as goal
use Rattle.walks.proofs.find_late.Goals.{After-fill_down-own, After-find_last_zero-end, After-test-2, After-time-now, then-not-test, else-not-test}

module _ (low : ℕ) (time : ℕ → ℕ) (left right n own leads : ℕ) (positive : 0 < low) (some : 0 < n) (few : n ≤ 64)
    (w : Words left right n own leads) where
  -- the last that leads on is not the last of all
  end_inside : (end : ℕ) → end ≤ n → (0 < end → bit leads (end - 1) ≡ true) → end < n
  end_inside end most on =
      ⊎_elim
      (λ l.
      let next : suc (end - 1) ≡ end = omega arith in
      let (l', o, below) = leads_inside time left right n few w (end - 1) (omega arith) (on (omega arith)) in
      omega arith)
      (λ l. l)
      (le_or_lt n end)

  none_yet : (end : ℕ) → end < n → ((i : ℕ) → end ≤ i → i < n → bit leads i ≡ false) → Looked low time left right n own end (time end) 0
  none_yet end below off =
      record {
        inside = below;
        small = pow_pos (n - end);
        seen = λ rising.
            record {
              is_latest = λ o. sym (own_right time left right n few w end below (off end (omega arith) below) o);
              packed = record {
                few = omega arith;
                same = λ i h. not_late time left right n few w low positive (end + i) (omega arith) (off (end + i) (omega arith) (omega arith)) ∙ sym (zero_bit i);
              };
            };
      }

  bound : (i latest bits : ℕ) → 0 < i → Looked low time left right n own i latest bits → bits * 2 + 1 < 2 ^ 64
  bound i latest bits h done =
      let inside = done.inside in
      let most : n - i ≤ 63 = omega arith in
      let l : bits < 2 ^ 63 = lt_of_lt_of_le done.small (pow_mono most) in
      omega arith

  -- position i - 1 in front of them
  module _ (i latest bits latest' : ℕ) (h : 0 < i) (done : Looked low time left right n own i latest bits)
      (e : latest' ≡ cond (bit leads (i - 1)) latest (time (i - 1))) (rising : Rising time n) where
    abbrev Right : Bool → Type 0
    Right v = (bit own (i - 1) ≡ true → latest' ≡ latest_right time left right (n - (i - 1)) (i - 1)) × (is_late low time left right n (i - 1) ≡ v)

    by : (on : Bool) → bit leads (i - 1) ≡ on → Right (leb (time (i - 1) + low) latest')
    by true on =
        let inside = done.inside in
        let next : suc (i - 1) ≡ i = omega arith in
        let (l, o, below) = leads_inside time left right n few w (i - 1) (omega arith) on in
        let is : latest' ≡ latest_right time left right (n - (i - 1)) (i - 1) =
        e
        ∙ ap (λ (x : Bool). cond x latest (time (i - 1))) on
        ∙ (done.seen rising).is_latest (rw next at o)
        ∙ sym (same_right time left right n few w rising (i - 1) (omega arith) on ∙ ap (λ (k : ℕ). latest_right time left right (n - k) k) next) in
        (λ _. is, ap (leb (time (i - 1) + low)) (sym is))
    by false off =
        let inside = done.inside in
        let is : latest' ≡ time (i - 1) = e ∙ ap (λ (x : Bool). cond x latest (time (i - 1))) off in (
          λ o. is ∙ sym (own_right time left right n few w (i - 1) (omega arith) off o),
          not_late time left right n few w low positive (i - 1) (omega arith) off ∙ sym (lt-leb (time (i - 1) + low) latest' (omega arith)),
        )

    one_more : Seen low time left right n own (i - 1) latest' (bits * 2 + number (leb (time (i - 1) + low) latest'))
    one_more =
        let inside = done.inside in
        let one : n - (i - 1) ≡ (n - i) + 1 = omega arith in
        let behind : (i - 1) + 1 ≡ i = omega arith in
        let r = by (bit leads (i - 1)) refl in
        record {
          is_latest = r.0;
          packed =
              rw one
              (packed_front (is_late low time left right n) (i - 1) (n - i) bits (leb (time (i - 1) + low) latest') (omega arith) r.1
              (rw behind (done.seen rising).packed));
        }

  more : (i latest bits latest' : ℕ) → 0 < i → latest' ≡ cond (bit leads (i - 1)) latest (time (i - 1)) → Looked low time left right n own i latest bits →
      Looked low time left right n own (i - 1) latest' (bits * 2 + number (leb (time (i - 1) + low) latest'))
  more i latest bits latest' h e done =
      let inside = done.inside in
      let one : n - (i - 1) ≡ (n - i) + 1 = omega arith in
      record {
        inside = omega arith;
        small = rw one (omega (arith, done.small, pow-add 2 (n - i) 1, number_lt (leb (time (i - 1) + low) latest')));
        seen = λ rising. one_more i latest bits latest' h done e rising;
      }

-- the words of those that lead on
words_of : (f : After-fill_down-own) →
    let a = f.args in
    Words a.left a.right a.n f.fill_down-own.result (leads a.left f.fill_down-own.result)
words_of f =
    let a = f.args in
    words_are a.left a.right a.n f.fill_down-own.result (omega arith) (omega arith) (rw f.first_bits.ensures at f.fill_down-own.ensures)

-- the last does not
last_off : (f : After-fill_down-own) →
    let a = f.args in bit (leads a.left f.fill_down-own.result) (a.n - 1) ≡ false
last_off f =
    let a = f.args in
    ⊎_elim
    (λ on.
    let (l, o, below) = leads_inside (time_at a.ahead.now) a.left a.right a.n (omega arith) (words_of f) (a.n - 1) (omega arith) on in
    absurd (omega arith))
    (λ off. off)
    (true_or_false (bit (leads a.left f.fill_down-own.result) (a.n - 1)))

-- the words of those that lead on
words_of_2 : (f : After-find_last_zero-end) →
    let a = f.args in
    Words a.left a.right a.n f.fill_down-own.result (leads a.left f.fill_down-own.result)
words_of_2 f =
    let a = f.args in
    words_are a.left a.right a.n f.fill_down-own.result (omega arith) (omega arith) (rw f.first_bits.ensures at f.fill_down-own.ensures)

words : (z : After-find_last_zero-end) →
    let a = z.args in
    Words a.left a.right a.n z.fill_down-own.result (leads a.left z.fill_down-own.result)
words z = words_of_2 z

-- the last of them
up_to : (z : After-find_last_zero-end) →
    let f = z in
    let a = f.args in
    UpTo (leads a.left f.fill_down-own.result) a.n z.find_last_zero-end.result
up_to z =
    let f = z in
    let a = f.args in
    leads_up_to (leads a.left f.fill_down-own.result) a.n (omega arith) (omega (arith, and_le_l a.left (f.fill_down-own.result / 2 ^ 1))) z.find_last_zero-end.ensures

inside : (z : After-find_last_zero-end) → z.find_last_zero-end.result < z.args.n
inside z =
    let a = z.args in
    end_inside a.low (time_at a.ahead.now) a.left a.right a.n z.fill_down-own.result (leads a.left z.fill_down-own.result) (omega arith) (omega arith) (omega arith) (words z)
    z.find_last_zero-end.result
    z.find_last_zero-end.ensures.1
    (up_to z).0

-- the words of those that lead on
words_of_3 : (f : After-time-now) →
    let a = f.args in
    Words a.left a.right a.n f.fill_down-own.result (leads a.left f.fill_down-own.result)
words_of_3 f =
    let a = f.args in
    words_are a.left a.right a.n f.fill_down-own.result (omega arith) (omega arith) (rw f.first_bits.ensures at f.fill_down-own.ensures)

words_2 : (z : After-time-now) →
    let a = z.args in
    Words a.left a.right a.n z.fill_down-own.result (leads a.left z.fill_down-own.result)
words_2 z = words_of_3 z

-- what is known in a turn
fits : (c : After-time-now) → c.loop-i.bits * 2 + 1 < 2 ^ 64
fits c =
    let l = c.loop-i in
    let a = c.args in
    bound a.low (time_at a.ahead.now) a.left a.right a.n c.fill_down-own.result (leads a.left c.fill_down-own.result) (omega arith) (omega arith) (omega arith) (words_2 c)
    l.i
    l.latest
    l.bits
    (omega arith)
    l.invariant

pub find_by_stretches-requires : goal.find_by_stretches-requires
find_by_stretches-requires c =
    let pre = c.requires in
    (pre.0, pre.1, pre.2, pre.3, pre.4, last_off (goal.at.find_by_stretches-requires c).After-fill_down-own)

pub returns-then-count_zeros-le-FEW_STRETCHES : goal.returns-then-count_zeros-le-FEW_STRETCHES
returns-then-count_zeros-le-FEW_STRETCHES c rising =
    let a = c.args in
    c.find_by_stretches.ensures a.left a.right (words_of (goal.at.returns-then-count_zeros-le-FEW_STRETCHES c).After-fill_down-own) rising

pub time-latest-requires : goal.time-latest-requires
time-latest-requires z = omega (arith, inside (goal.at.time-latest-requires z).After-find_last_zero-end)

pub loop-i-init : goal.loop-i-init
loop-i-init c =
    let a = c.args in
    rw c.time-latest.ensures.0
    (none_yet a.low (time_at a.ahead.now) a.left a.right a.n c.fill_down-own.result (leads a.left c.fill_down-own.result) (omega arith) (omega arith) (omega arith) (words (goal.at.loop-i-init c).After-find_last_zero-end)
    c.find_last_zero-end.result
    (inside (goal.at.loop-i-init c).After-find_last_zero-end)
    (up_to (goal.at.loop-i-init c).After-find_last_zero-end).1)

pub overflow_mul-bits : goal.overflow_mul-bits
overflow_mul-bits c = record { fits = omega (arith, fits (goal.at.overflow_mul-bits c).After-time-now) }

pub overflow_add-bits : goal.overflow_add-bits
overflow_add-bits c =
    let a = c.args in
    record { fits = omega (arith, fits (goal.at.overflow_add-bits c).After-time-now, c.flag.ensures, number_lt (leb (c.time-now.result + a.low) c.if-not-test.latest)) }

pub loop-i-preserved : goal.loop-i-preserved
loop-i-preserved c =
    let l = c.loop-i in
    let a = c.args in
    let by_leads = λ (x : Bool). cond x l.latest (time_at a.ahead.now (l.i - 1)) in
    rw (c.flag.ensures, c.time-now.ensures.0)
    (more a.low (time_at a.ahead.now) a.left a.right a.n c.fill_down-own.result (leads a.left c.fill_down-own.result) (omega arith) (omega arith) (omega arith) (words (goal.at.loop-i-preserved c).After-find_last_zero-end)
    l.i
    l.latest
    l.bits
    c.if-not-test.latest
    (omega arith)
    (elim c.if-not-test.branch [
      | then-not-test w ↦ w.latest-is ∙ c.time-now.ensures.0 ∙ sym (ap by_leads (sym c.test.ensures ∙ w.if-not-test.true))
      | else-not-test w ↦ w.latest-is ∙ sym (ap by_leads (sym c.test.ensures ∙ w.if-not-test.false))
    ])
    l.invariant)

-- the loop's end: all are looked at
all : (c : After-test-2) →
    let a = c.args in
    let time = time_at a.ahead.now in
    Rising time a.n →
    Packed (is_late a.low time a.left a.right a.n) 0 a.n c.loop-i.bits × (bit c.fill_down-own.result 0 ≡ true → c.loop-i.latest ≡ latest_right time a.left a.right a.n 0)
all c rising =
    let l = c.loop-i in
    let a = c.args in
    let time = time_at a.ahead.now in
    let e : l.i ≡ 0 = omega arith in
    let whole : a.n - 0 ≡ a.n = omega arith in
    let seen = rw e at (l.invariant.seen rising) in
    (rw whole at seen.packed, rw whole at seen.is_latest)

pub returns-then-test : goal.returns-then-test
returns-then-test c rising =
    let (packed, latest) = all (goal.at.returns-then-test c).After-test-2 rising in
    (packed, latest (sym c.test-2.ensures ∙ c.if-test.true))

pub returns-else-test : goal.returns-else-test
returns-else-test c rising =
    let a = c.args in
    let whole : a.n - 0 ≡ a.n = omega arith in
    let none = right_from_none (time_at a.ahead.now) a.left a.right a.n (omega arith) (words (goal.at.returns-else-test c).After-find_last_zero-end) 0 (omega arith) (sym c.test-2.ensures ∙ c.if-test.false) in
    let (packed, latest) = all (goal.at.returns-else-test c).After-test-2 rising in
    (packed, sym (rw whole at none))
