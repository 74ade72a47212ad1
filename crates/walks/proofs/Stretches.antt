-- Stretches of positions that lead on: each has the right of the one behind the stretch, and those that lie low before it are the first.
use Prim.Native.Nat.{ℕ, zero, suc, ◌+◌, ◌-◌, ◌≤◌, ◌<◌}
use native.Mathlib.Omega.{arith}
use mathlib.Core.Bool.{Bool, true, false, cond, ◌&&◌, ◌||◌}
use mathlib.Core.Logic.{⊎_elim}
use mathlib.Core.Path.{◌≡◌, refl, sym, ap, ◌∙◌}
use lib.Bits.{bit_or}
use lib.Dec.{leb, ltb, eqb}
use borrow.Author.Tests.{le-leb, lt-leb, le-ltb, lt-ltb, eq-eqb, ne_eqb}
use Rattle.mtl.proofs.Bounded.{le_or_lt}
use Rattle.bits.specs.Packed.{bit, last_zero, Packed, OnesBetween}
use Rattle.bits.proofs.Laws.{bit_of_or}
use Rattle.bits.proofs.Filling.{zero_bit}
use Rattle.bits.proofs.Zeros.{one_behind_last}
use Rattle.walks.specs.Settle.{Rising, latest_right, is_late, Words, LastMet}
use Rattle.walks.proofs.Leads.{UpTo, leads_inside, own_right, not_late, same_right, right_from_none}

or_none : (x y : Bool) → x || (y && false) ≡ x
or_none true y = refl
or_none false true = refl
or_none false false = refl

module _ (low : ℕ) (time : ℕ → ℕ) (left right n : ℕ) {own leads : ℕ} (positive : 0 < low) (few : n ≤ 64) (w : Words left right n own leads) where
  abbrev right_of : ℕ → ℕ
  right_of i = latest_right time left right (n - i) i

  -- from `end` on the word says which are late, and `latest` is the first one's once all are looked at
  pub record Stretched (end latest bits : ℕ) : Type 0 where
    pub behind : (i : ℕ) → end ≤ i → i < n → bit bits i ≡ is_late low time left right n i
    pub before : (i : ℕ) → i < end → bit bits i ≡ false
    pub first : 0 < end → latest ≡ time 0
    pub last : end ≡ 0 → bit own 0 ≡ true → latest ≡ right_of 0

  -- where the first does not lead on, its own right is the latest
  alone : 0 < n → bit leads 0 ≡ false → bit own 0 ≡ true → time 0 ≡ right_of 0
  alone some off o = sym (own_right time left right n few w 0 some off o)

  pub stretched_none : 0 < n → {end : ℕ} → UpTo leads n end → Stretched end (time 0) 0
  stretched_none some {end} (on, off) =
      record {
        behind = λ i a h. zero_bit i ∙ sym (not_late time left right n few w low positive i h (off i a h));
        before = λ i h. zero_bit i;
        first = λ h. refl;
        last = λ e o. alone some (off 0 (omega arith) some) o;
      }

  -- one stretch more
  module _ (rising : Rising time n) {end latest bits : ℕ} (some : 0 < end) (inside : end < n) (off_end : bit leads end ≡ false) (on_end : bit leads (end - 1) ≡ true)
      (so_far : Stretched end latest bits) {from met next : ℕ} (word : ℕ) (start : from ≡ last_zero end leads) (below : from ≤ end)
      (found : LastMet low (time end) time from end met) (ones : OnesBetween from met word) (up_to_lem : UpTo leads from next) (most : next ≤ from) where
    on : (j : ℕ) → from ≤ j → j < end → bit leads j ≡ true
    on j a h = one_behind_last end leads j (omega arith) h

    -- they all have the right of the one behind the stretch
    along : (d i : ℕ) → i + d ≡ end → from ≤ i → right_of i ≡ right_of end
    along zero i e a = let same : i ≡ end = omega arith in ap right_of same
    along (suc d) i e a = same_right time left right n few w rising i (omega arith) (on i a (omega arith)) ∙ along d (suc i) (omega arith) (omega arith)

    right_is : (i : ℕ) → from ≤ i → i < end → right_of i ≡ time end
    right_is i a h =
        let (l, o, b) = leads_inside time left right n few w (end - 1) (omega arith) on_end in
        let same : suc (end - 1) ≡ end = omega arith in
        along (end - i) i (omega arith) a ∙ own_right time left right n few w end inside off_end (ap (bit own) (sym same) ∙ o)

    bit_is : (i : ℕ) → i < 64 → bit (bit_or bits word) i ≡ bit bits i || (leb from i && ltb i met)
    bit_is i h = bit_of_or bits word i ∙ ap (λ (x : Bool). bit bits i || x) (ones i h)

    later : (i : ℕ) → met ≤ i → i < n → bit (bit_or bits word) i ≡ bit bits i
    later i a h = bit_is i (omega arith) ∙ rw (le-ltb i met a) (or_none (bit bits i) (leb from i))

    earlier : (i : ℕ) → i < from → bit (bit_or bits word) i ≡ false
    earlier i a = bit_is i (omega arith) ∙ rw (so_far.before i (omega arith), lt-leb from i a) refl

    yes : (i : ℕ) → from ≤ i → i < met → bit (bit_or bits word) i ≡ true
    yes i a h =
        let within = found.within in
        bit_is i (omega arith) ∙ rw (so_far.before i (omega arith), le-leb from i a, lt-ltb i met h) refl

    stretch : (i : ℕ) → from ≤ i → i < end → bit (bit_or bits word) i ≡ is_late low time left right n i
    stretch i a h =
        let r = right_is i a h in
        let within = found.within in
        ⊎_elim
        (λ out.
        let t = found.after i out h in
        later i out (omega arith) ∙ so_far.before i h ∙ sym (lt-leb (time i + low) (right_of i) (omega arith)))
        (λ in_it.
        let t = found.there (omega arith) in
        let s = rising i (met - 1) (omega arith) (omega arith) in
        yes i a in_it ∙ sym (le-leb (time i + low) (right_of i) (omega arith)))
        (le_or_lt met i)

    pub stretched_more : Stretched next (cond (eqb from 0) (time end) latest) (bit_or bits word)
    stretched_more =
        let within = found.within in
        record {
          behind = λ i a h.
              ⊎_elim
              (λ past. later i (omega arith) h ∙ so_far.behind i past h)
              (λ here.
              ⊎_elim
              (λ in_it. stretch i in_it here)
              (λ out. earlier i out ∙ sym (not_late time left right n few w low positive i h (up_to_lem.1 i a out)))
              (le_or_lt from i))
              (le_or_lt end i);
          before = λ i h. earlier i (omega arith);
          first = λ h. rw (ne_eqb from 0 (λ e. omega arith)) (so_far.first some);
          last = λ e o.
              ⊎_elim
              (λ none. let zero : from ≡ 0 = omega arith in rw (eq-eqb from 0 zero) (sym (right_is 0 (omega arith) some)))
              (λ more. rw (ne_eqb from 0 (λ z. omega arith)) (so_far.first some ∙ alone (omega arith) (up_to_lem.1 0 (omega arith) more) o))
              (le_or_lt from 0);
        }

  pub stretched_all : 0 < n → {end latest bits : ℕ} → end ≡ 0 → Stretched end latest bits →
      Packed (is_late low time left right n) 0 n bits × (cond (bit own 0) latest 0 ≡ latest_right time left right n 0)
  stretched_all some {end} {latest} {bits} none so_far = (
    record {
      few = few;
      same = λ i h. let e : 0 + i ≡ i = omega arith in ap (is_late low time left right n) e ∙ sym (so_far.behind i (omega arith) h);
    },
    by (bit own 0) refl,
  )
    where
      whole : right_of 0 ≡ latest_right time left right n 0
      whole = let e : n - 0 ≡ n = omega arith in ap (λ (d : ℕ). latest_right time left right d 0) e

      by : (x : Bool) → bit own 0 ≡ x → cond x latest 0 ≡ latest_right time left right n 0
      by true o = so_far.last none o ∙ whole
      by false o = sym (right_from_none time left right n few w 0 (omega arith) o) ∙ whole
