-- MARKS: what a view says of where service records lie, and how it is made. Assumes nothing.
use Prim.Native.Nat.{ℕ, suc, ◌+◌, ◌-◌, ◌*◌, ◌/◌, ◌%◌, ◌^◌, ◌≤◌, ◌<◌, min}
use native.Mathlib.Omega.{arith}
use mathlib.Core.Bool.{Bool, true, false, ◌||◌}
use mathlib.Core.Bool.{not as negate}
use mathlib.Core.List.{List}
use mathlib.Core.Logic.{inl, inr, ⊎_elim}
use mathlib.Core.Path.{◌≡◌, refl, ap, ◌∙◌}
use lib.Bits.{bit_or}
use lib.Dec.{leb, ltb, eqb}
use lib.ListN.{length, get_or, set, length-set}
use lib.Pow.{shl-shr}
use lib.Seq.{get_or-set_same, get_or-set_other}
use borrow.Author.Tests.{eqb-true, eqb-false, lt-ltb, not-true}
use Rattle.mtl.proofs.Bounded.{le_or_lt, true_or_false, true_and_false, false_iff, or_iff, leb_iff, any_false_iff}
use Rattle.bits.specs.Packed.{bit}
use Rattle.bits.proofs.Laws.{bit_of_or}
use Rattle.trace.specs.Format.{record_count}
use Rattle.trace.specs.Positions.{is_service, positions}
use Rattle.window.specs.View.{skips, block_marked, BlockMarks, MarkedToo, Views, ViewOf}
use Rattle.window.specs.Window.{some_service, dense}
use Rattle.window.specs.declared.view.View.{View}
use Rattle.trace.proofs.Counting.{count_service, count_most}
use Rattle.window.proofs.Windows.{clear_dense}

-- A BLOCK IS MARKED

by_bit : (v : List ℕ) (block : ℕ) → bit (get_or v (block / 64) 0) (block % 64) ≡ true → block_marked v block ≡ true
by_bit v block one = (or_iff (leb 3968 block) (bit (get_or v (block / 64) 0) (block % 64))).1 (inr one)

power_bit : (k : ℕ) → bit (2 ^ k) k ≡ true
power_bit k = let one : 2 ^ k ≡ 1 * 2 ^ k = omega arith in ap (λ (w : ℕ). eqb (w % 2) 1) (ap (λ (w : ℕ). w / 2 ^ k) one ∙ shl-shr 1 k)

module _ (v : List ℕ) (block : ℕ) (long : length v ≡ 62) where
  abbrev old : ℕ
  old = get_or v (block / 64) 0

  abbrev power : ℕ
  power = 2 ^ (block % 64)

  abbrev new : ℕ
  new = bit_or old power

  abbrev v' : List ℕ
  v' = set v (block / 64) new

  pub mark_set : (needed : Bool) → block < 3968 → MarkedToo v block needed v'
  mark_set needed low =
      record {
        long = length-set v (block / 64) new ∙ long;
        this = λ e. by_bit v' block (rw stored (bit_of_or old power (block % 64) ∙ (or_iff (bit old (block % 64)) (bit power (block % 64))).1 (inr (power_bit (block % 64)))));
        kept = λ b e.
            ⊎_elim
            (λ far. (or_iff (leb 3968 b) (bit (get_or v' (b / 64) 0) (b % 64))).1 (inl far))
            (λ one. by_bit v' b (stays b one))
            ((or_iff (leb 3968 b) (bit (get_or v (b / 64) 0) (b % 64))).0 e);
      }
    where
      stored : get_or v' (block / 64) 0 ≡ new
      stored = get_or-set_same v (block / 64) new 0 (omega arith)

      stays : (b : ℕ) → bit (get_or v (b / 64) 0) (b % 64) ≡ true → bit (get_or v' (b / 64) 0) (b % 64) ≡ true
      stays b one =
          ⊎_elim
          (λ same.
          let e = eqb-true (b / 64) (block / 64) same in
          rw (e, stored) (bit_of_or old power (b % 64) ∙ (or_iff (bit old (b % 64)) (bit power (b % 64))).1 (inl (rw e at one))))
          (λ other. rw (get_or-set_other v (block / 64) (b / 64) new 0 (eqb-false (b / 64) (block / 64) other)) one)
          (true_or_false (eqb (b / 64) (block / 64)))

-- WINDOWS WITHOUT MARKS

-- a few records lie in the block of the first of them or in that of the record behind them
pub none_marked : (v s : List ℕ) (from n : ℕ) → from + n ≤ record_count s → n ≤ 65 → BlockMarks v s →
    block_marked v (from / 256) || block_marked v ((from + n) / 256) ≡ false → some_service s from n ≡ false
none_marked v s from n inside few marks none =
    (any_false_iff n (λ (i : ℕ). is_service s (from + i))).1
    (λ i h.
    (false_iff (is_service s (from + i))).1
    (λ service.
    let here = marks (from + i) (omega arith) service in
    true_and_false
    ((or_iff (block_marked v (from / 256)) (block_marked v ((from + n) / 256))).1
    (⊎_elim
    (λ l. let e : (from + i) / 256 ≡ from / 256 = omega arith in inl (rw e at here))
    (λ l. let e : (from + i) / 256 ≡ (from + n) / 256 = omega arith in inr (rw e at here))
    (le_or_lt ((from + i) / 256) (from / 256))))
    none))

-- so they are read without another look, where they are there and service records are passed over or not
module _ (v : View) (s : List ℕ) (from n : ℕ) (few : n ≤ 65) (views : Views v s) (a b : Bool) (first : a ≡ block_marked v.marks (from / 256)) (last : b ≡ block_marked v.marks ((from + n) / 256)) where
  pub clear : leb (from + n) (record_count s) ≡ true → negate (skips v) || negate (a || b) ≡ true → dense (skips v) s from n ≡ true
  clear fits e =
      clear_dense (skips v) s from n fits
      (λ kind.
      let none = not-true (a || b) (rw kind at e) in
      none_marked v.marks s from n ((leb_iff (from + n) (record_count s)).0 fits) few (views.marks kind) (rw (first, last) at none))

  pub not_clear : negate (skips v) || negate (a || b) ≡ false → skips v ≡ true
  not_clear e = by (skips v) refl
    where
      by : (kind : Bool) → skips v ≡ kind → skips v ≡ true
      by true kind = kind
      by false kind = absurd (true_and_false refl (rw kind at e))

-- ALL BLOCKS

-- where as many positions as records are counted, no record is a service record
all_counted : (s : List ℕ) (from n i : ℕ) → positions s from + n ≤ positions s (from + n) → from ≤ i → i < from + n → is_service s i ≡ true → ⊥
all_counted s from n i all low high service =
    let most = count_most s from i low in
    let rest = count_most s (suc i) (from + n) high in
    let here = count_service s i service in
    omega arith

-- the first blocks are marked, and their positions counted
pub record Marking (s : List ℕ) (found blocks : ℕ) (marks : List ℕ) : Type 0 where
  pub long : length marks ≡ 62
  pub counted : found ≡ positions s (min (blocks * 256) (record_count s))
  pub marked : (i : ℕ) → i < min (blocks * 256) (record_count s) → is_service s i ≡ true → block_marked marks (i / 256) ≡ true

module _ (s marks : List ℕ) where
  pub marking_none : length marks ≡ 62 → Marking s 0 0 marks
  unfolding positions
  marking_none long =
      let none : 0 ≡ min (0 * 256) (record_count s) = omega arith in
      record { long = long; counted = ap (positions s) none; marked = λ i h. absurd (omega arith) }

  pub marking_on : (found block n here : ℕ) (marks' : List ℕ) → Marking s found block marks → block * 256 < record_count s → n ≡ min (record_count s - block * 256) 256 →
      positions s (block * 256) + here ≡ positions s (block * 256 + n) → MarkedToo marks block (ltb here n) marks' → Marking s (found + here) (block + 1) marks'
  marking_on found block n here marks' so_far more size counts this =
      let from = block * 256 in
      let first : min from (record_count s) ≡ from = omega arith in
      let next : from + n ≡ min ((block + 1) * 256) (record_count s) = omega arith in
      record {
        long = this.long;
        counted = ap (λ (m : ℕ). m + here) (so_far.counted ∙ ap (positions s) first) ∙ counts ∙ ap (positions s) next;
        marked = λ i h service.
            ⊎_elim
            (λ low.
            let e : block ≡ i / 256 = omega arith in
            let fewer = ⊎_elim (λ all. absurd (all_counted s from n i (omega arith) low (omega arith) service)) (λ l. l) (le_or_lt n here) in
            rw (← e) (this.this (lt-ltb here n fewer)))
            (λ before. this.kept (i / 256) (so_far.marked i (omega arith) service))
            (le_or_lt from i);
      }

  -- positions before a block, which is there
  pub counted_at : (found block : ℕ) → Marking s found block marks → block * 256 < record_count s → found ≡ positions s (block * 256)
  counted_at found block so_far more = let first : min (block * 256) (record_count s) ≡ block * 256 = omega arith in so_far.counted ∙ ap (positions s) first

-- THE VIEW

-- what is told of a view that was made
module _ {from q : ℕ} {skipping ended : Bool} {s : List ℕ} {v : View} (made : ViewOf from q skipping ended s v) where
  pub made_views : from + record_count s < 2 ^ 32 → Views v s
  made_views few = record { numbered = rw made.first few; marks = made.marks }
