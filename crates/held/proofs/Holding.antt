-- What asking one formula does to the words, and asking all of them, one after the other.
use Prim.Native.Nat.{ℕ, zero, suc, ◌+◌, ◌-◌, ◌≤◌, ◌<◌, min}
use mathlib.Core.Bool.{Bool, true, false}
use mathlib.Core.Logic.{◌⊎◌, inl, inr, ⊎_elim}
use mathlib.Core.Path.{◌≡◌, refl, sym, ap, ◌∙◌}
use mathlib.Core.List.{List, [], ◌∷◌, ◌++◌}
use native.Mathlib.Omega.{arith}
use lib.ListN.{length, get_or, take, drop, set, length-set, length-append, length-take, length-drop, get_or-append, get_or-eq_default}
use lib.Seq.{length-take-le, get_or-take, get_or-drop, get_or-set_same, get_or-set_other}
use Rattle.mtl.specs.Formula.{Formula, largest}
use Rattle.mtl.specs.Log.{Log, NeverFalls}
use Rattle.mtl.specs.Progress.{settled_to, joint_progress}
use Rattle.mtl.specs.Wanted.{depth, deepest, wanted}
use Rattle.mtl.proofs.Bounded.{le_or_lt}
use Rattle.mtl.proofs.Joint.{joint_le_size}
use Rattle.rule.specs.Postfix.{formula}
use Rattle.window.specs.View.{total}
use Rattle.window.specs.declared.view.View.{View}
use Rattle.blocks.specs.Block.{word}
use Rattle.blocks.specs.Step.{Agrees, Batched}
use Rattle.blocks.proofs.Words.{empty_buffer}
use Rattle.engine.specs.State.{needed_words, own_at, words_before, State, OnwardAll, OnwardFormula}
use Rattle.engine.proofs.Onward.{formula_refl, formula_trans, all_formula}
use Rattle.engine.specs.Answer.{first_read}
use Rattle.engine.specs.Ask.{back, stored, Asks, Fills}
use Rattle.engine.specs.Tops.{top_at, held_at}
use Rattle.engine.specs.declared.table.Row.{Row}
use Rattle.engine.specs.declared.tops.Top.{Top as TopPlace}
use Rattle.engine.proofs.Parts.{part_back, drop_back}
use Rattle.engine.proofs.Held.{HeldWords, held_state, formula_held}
use Rattle.engine.proofs.Beside.{before_grows}
use Rattle.engine.proofs.Uniform.{agrees_later}
use Rattle.checkpoint.specs.Checkpoint.{given}
use Rattle.held.specs.Top.{top_count, top_bits, part_of, Top}
use Rattle.held.specs.Code.{plan, Fits, HeldOne, Held}
use Rattle.held.proofs.Kept.{kept_own}
use Rattle.meaning.proofs.Laws.{joint_le, joint_least}
use Rattle.held.proofs.Places.{Place, part_word, part_same, lent_part, place_in, held_inside, count_at, bits_at}

deepest_le : (fs : List Formula) (k : ℕ) → k < length fs → depth (formula fs k) ≤ deepest fs
unfolding largest
deepest_le [] k h = absurd (omega arith)
deepest_le (φ ∷ fs) zero h = omega arith
deepest_le (φ ∷ fs) (suc k) h = omega (arith, deepest_le fs k (omega arith))

-- what a formula's entries may read is wanted
reads_wanted : (fs : List Formula) (k d : ℕ) → k < length fs → wanted fs d ≤ first_read (formula fs k) d
reads_wanted fs k d h = omega (arith, deepest_le fs k h)

same_or_not : (j k : ℕ) → (j ≡ k) ⊎ (j ≡ k → ⊥)
same_or_not j k =
    ⊎_elim (λ (l : j ≤ k). ⊎_elim (λ (m : k ≤ j). inl (omega arith)) (λ (m : j < k). inr (λ e. omega arith)) (le_or_lt k j))
    (λ (l : k < j). inr (λ e. omega arith)) (le_or_lt j k)

-- ONE FORMULA

-- nothing to do where it holds something
pub already : {table : List Row} {tops : List TopPlace} {base : ℕ} {fs : List Formula} (v : View) (s : List ℕ) (k : ℕ) (ws : List ℕ) (r : ℕ) →
    Fits (plan table tops) base fs (length ws) → k < length fs → r ≡ word ws (held_at tops k) → 0 < r → HeldOne base fs v s k ws r ws
already {base = base} {fs = fs} v s k ws r fits h is some =
    record {
      words_length = refl;
      count = is ∙ sym (count_at fits k h ws);
      others = λ i away. refl;
      onward = formula_refl (formula fs k) (part_of base fs k ws);
      meaning = λ L d never agrees waits. (waits, λ z. absurd (omega arith));
    }

-- a part put back: the words before and behind it
module _ (from to : ℕ) (ys ws : List ℕ) (ordered : from ≤ to) (inside : to ≤ length ws) (kept : length ys ≡ to - from) where
  pub length_back : length (back from to ys ws) ≡ length ws
  length_back = simp (length-append, length-take-le from ws (omega arith), kept, length-drop) (omega arith)

  pub word_back : (i : ℕ) → (from ≤ i → i < to → ⊥) → word (back from to ys ws) i ≡ word ws i
  word_back i away =
      ⊎_elim
      (λ (l : from ≤ i).
      ⊎_elim
      (λ (m : to ≤ i).
      let sum : i + 0 ≡ i = omega arith in
      ap (word (back from to ys ws)) (sym sum) ∙ sym (get_or-drop i (back from to ys ws) 0 0) ∙
      ap (λ (l : List ℕ). get_or l 0 0) (drop_back from to ys ws ordered inside kept i m) ∙ get_or-drop i ws 0 0 ∙ ap (word ws) sum)
      (λ (m : i < to). absurd (away l m))
      (le_or_lt to i))
      (λ (l : i < from).
      get_or-append (take from ws) (ys ++ drop to ws) 0 i (omega (arith, length-take-le from ws (omega arith))) ∙ get_or-take from ws i 0 l)
      (le_or_lt from i)

-- formula k of formulas that fit, with its own words replaced by ys
module _ {table : List Row} {tops : List TopPlace} {base : ℕ} {fs : List Formula} (v : View) (s : List ℕ) (k : ℕ) (ws : List ℕ)
    (fits : Fits (plan table tops) base fs (length ws)) (h : k < length fs) (empty : word ws (held_at tops k) ≡ 0) where
  abbrev φ : Formula
  φ = formula fs k

  abbrev from : ℕ
  from = (top_at tops k).from

  abbrev to : ℕ
  to = (top_at tops k).to

  abbrev slot : ℕ
  slot = held_at tops k

  from_is : from ≡ base + words_before fs k
  from_is = (fits.laid.each k h).from

  to_is : to ≡ base + words_before fs (suc k)
  to_is = (fits.laid.each k h).to

  slot_is : slot ≡ base + words_before fs k + own_at φ + 12
  slot_is = (fits.laid.each k h).held

  its_place : Place base fs k (length ws)
  its_place = place_in fits k h

  ordered : from ≤ to
  ordered = let p = its_place in omega (arith, from_is, to_is, p.next)

  inside : to ≤ length ws
  inside = let p = its_place in omega (arith, to_is, p.inside)

  span : to - from ≡ needed_words φ
  span = let p = its_place in omega (arith, from_is, to_is, p.next)

  module _ (ys : List ℕ) (kept : length ys ≡ to - from) where
    abbrev asked : List ℕ
    asked = back from to ys ws

    asked_part : part_of base fs k asked ≡ ys
    asked_part = sym (lent_part fits k h asked) ∙ part_back from to ys ws ordered inside kept

    -- it is open: it holds nothing still
    asked_open : (r : ℕ) → r ≡ word asked slot → OnwardAll φ (part_of base fs k ws) ys →
        ((L : Log) (d : ℕ) → NeverFalls L → Agrees v s L (wanted fs d) → State φ L d (part_of base fs k ws) → (settled_to φ L ≡ d) × State φ L d ys) →
        HeldOne base fs v s k ws r asked
    asked_open r is goes means =
        let none : top_count φ ys ≡ 0 = kept_own φ (part_of base fs k ws) ys goes 12 (omega arith) (omega arith) ∙ count_at fits k h ws ∙ empty in
        let long = length_back from to ys ws ordered inside kept in
        let same_fits : Fits (plan table tops) base fs (length asked) = rw long fits in
        record {
          words_length = long;
          count = is ∙ sym (count_at same_fits k h asked);
          others = λ i away. word_back from to ys ws ordered inside kept i (λ l m. away (omega (arith, from_is)) (omega (arith, to_is)));
          onward = rw asked_part (all_formula φ (part_of base fs k ws) ys goes);
          meaning = λ L d never agrees waits.
              let still : d + top_count φ (part_of base fs k ws) ≡ d = omega (arith, count_at fits k h ws, empty) in
              let here : d + top_count φ ys ≡ d = omega arith in
              let (is_open, next) = means L d never agrees (rw still at waits.state) in (
                rw asked_part (record { buffer = empty_buffer φ L d (top_count φ ys) (top_bits φ ys) (omega (arith, is_open)) none; state = rw here next }),
                λ z. is_open,
              );
        }

    module _ (bits count : ℕ) where
      abbrev filled : List ℕ
      filled = stored asked slot bits count

      length_filled : length filled ≡ length ws
      length_filled = simp length-set (length_back from to ys ws ordered inside kept)

      filled_fits : Fits (plan table tops) base fs (length filled)
      filled_fits = rw length_filled fits

      within : slot + 1 < length asked
      within = omega (arith, length_back from to ys ws ordered inside kept, (held_inside fits k h).0)

      filled_count : word filled slot ≡ count
      filled_count =
          get_or-set_other (set asked slot count) (slot + 1) slot bits 0 (λ e. omega arith) ∙ get_or-set_same asked slot count 0 (omega (arith, within))

      filled_bits : word filled (slot + 1) ≡ bits
      filled_bits = get_or-set_same (set asked slot count) (slot + 1) bits 0 (simp length-set within)

      filled_other : (i : ℕ) → (i ≡ slot → ⊥) → (i ≡ slot + 1 → ⊥) → word filled i ≡ word asked i
      filled_other i ne ne' = get_or-set_other (set asked slot count) (slot + 1) i bits 0 ne' ∙ get_or-set_other asked slot i count 0 ne

      -- its words are ys but for the answers held
      part_filled : (i : ℕ) → (i ≡ own_at φ + 12 → ⊥) → (i ≡ own_at φ + 13 → ⊥) → word (part_of base fs k filled) i ≡ word ys i
      part_filled i ne ne' =
          ⊎_elim
          (λ (l : needed_words φ ≤ i).
          get_or-eq_default (part_of base fs k filled) 0 {n = i} (omega (arith, length-take (needed_words φ) (drop (base + words_before fs k) filled))) ∙
          sym (get_or-eq_default ys 0 {n = i} (omega (arith, kept, span))))
          (λ (l : i < needed_words φ).
          part_word base fs k filled i l ∙
          filled_other (base + words_before fs k + i) (λ e. ne (omega (arith, slot_is))) (λ e. ne' (omega (arith, slot_is))) ∙
          sym (part_word base fs k asked i l) ∙ ap (λ (l : List ℕ). word l i) asked_part)
          (le_or_lt (needed_words φ) i)

      length_filled_part : length (part_of base fs k filled) ≡ length ys
      length_filled_part =
          let p = its_place in
          omega (arith, length-take (needed_words φ) (drop (base + words_before fs k) filled), length-drop (base + words_before fs k) filled, length_filled, kept, span, p.next, p.inside)

      held_words : HeldWords (own_at φ) ys (part_of base fs k filled)
      held_words = record { room = omega (arith, length_filled_part); same = part_filled }

      -- it has answered
      asked_filled : (r : ℕ) → r ≡ word filled slot → 1 ≤ count → OnwardAll φ (part_of base fs k ws) ys →
          ((L : Log) (d : ℕ) → NeverFalls L → Agrees v s L (wanted fs d) → State φ L d (part_of base fs k ws) →
          Batched φ L d bits count × State φ L (d + count) ys) →
          HeldOne base fs v s k ws r filled
      asked_filled r is some goes means =
          record {
            words_length = length_filled;
            count = is ∙ sym (count_at filled_fits k h filled);
            others = λ i away.
                let p = its_place in
                filled_other i (λ e. away (omega (arith, slot_is)) (omega (arith, slot_is, p.next, p.block))) (λ e. away (omega (arith, slot_is)) (omega (arith, slot_is, p.next, p.block))) ∙
                word_back from to ys ws ordered inside kept i (λ l m. away (omega (arith, from_is)) (omega (arith, to_is)));
            onward = formula_trans φ (part_of base fs k ws) ys (part_of base fs k filled) (all_formula φ (part_of base fs k ws) ys goes)
                (formula_held φ ys (part_of base fs k filled) held_words);
            meaning = λ L d never agrees waits.
                let still : d + top_count φ (part_of base fs k ws) ≡ d = omega (arith, count_at fits k h ws, empty) in
                let (gives, next) = means L d never agrees (rw still at waits.state) in
                let n : top_count φ (part_of base fs k filled) ≡ count = count_at filled_fits k h filled ∙ filled_count in
                let b : top_bits φ (part_of base fs k filled) ≡ bits = bits_at filled_fits k h filled ∙ filled_bits in (
                  record {
                    buffer = rw (n, b) gives.buffer;
                    state = rw n (held_state φ L (d + count) ys (part_of base fs k filled) held_words next);
                  },
                  λ z. absurd (omega (arith, is, filled_count)),
                );
          }

  -- what asking promises
  asked_by : (b : Bool) (r : ℕ) (ws' : List ℕ) → r ≡ word ws' slot → Asks table v s (top_at tops k).entry from to slot ws b ws' →
      HeldOne base fs v s k ws r ws'
  asked_by true r ws' is (ys, kept, goes, (bits, count, some, e, means)) =
      let has = (fits.laid.each k h).has in
      rw e (asked_filled ys kept bits count r (rw e at is) some (rw (lent_part fits k h ws) at (goes φ has))
      (λ L d never agrees state. means φ L d has never (agrees_later agrees (reads_wanted fs k d h)) (rw (lent_part fits k h ws) state)))
  asked_by false r ws' is (ys, kept, goes, (e, means)) =
      let has = (fits.laid.each k h).has in
      rw e (asked_open ys kept r (rw e at is) (rw (lent_part fits k h ws) at (goes φ has))
      (λ L d never agrees state. means φ L d has never (agrees_later agrees (reads_wanted fs k d h)) (rw (lent_part fits k h ws) state)))

-- what it holds already, or what asking promises
pub filled_holds : {table : List Row} {tops : List TopPlace} {base : ℕ} {fs : List Formula} (v : View) (s : List ℕ) (k : ℕ) (ws : List ℕ) (b : Bool) (r : ℕ) (ws' : List ℕ) →
    Fits (plan table tops) base fs (length ws) → k < length fs → r ≡ word ws' (held_at tops k) →
    Fills table v s (top_at tops k).entry (top_at tops k).from (top_at tops k).to (held_at tops k) ws b ws' → HeldOne base fs v s k ws r ws'
filled_holds {tops = tops} v s k ws b r ws' fits h is fills =
    ⊎_elim
    (λ le. let e : word ws (held_at tops k) ≡ 0 = omega arith in asked_by v s k ws fits h e b r ws' is (fills.none e))
    (λ some.
    let kept = fills.some some in
    let same : r ≡ word ws (held_at tops k) = rw kept.1 at is in
    rw kept.1 (already v s k ws r fits h same (omega arith)))
    (le_or_lt (word ws (held_at tops k)) 0)

-- ALL FORMULAS

-- after the first n of them were asked
pub record Asked (base : ℕ) (fs : List Formula) (v : View) (s : List ℕ) (ws : List ℕ) (n r : ℕ) (ws' : List ℕ) : Type 0 where
  pub words_length : length ws' ≡ length ws
  pub header : (i : ℕ) → i < base → word ws' i ≡ word ws i
  pub few : r ≤ 64
  pub least : (k : ℕ) → k < n → k < length fs → r ≤ top_count (formula fs k) (part_of base fs k ws')
  pub onward : (k : ℕ) → k < length fs → OnwardFormula (formula fs k) (part_of base fs k ws) (part_of base fs k ws')
  pub meaning : (L : Log) (d : ℕ) → NeverFalls L → Agrees v s L (wanted fs d) → Top base fs L d ws →
      Top base fs L d ws' × (d + r ≤ L.size) × (r ≡ 0 → joint_progress fs L ≡ d)

pub asked_none : (base : ℕ) (fs : List Formula) (v : View) (s : List ℕ) (ws : List ℕ) (r : ℕ) → r ≡ min (total v - given ws) 64 →
    Asked base fs v s ws 0 r ws
asked_none base fs v s ws r is =
    record {
      words_length = refl;
      header = λ i h. refl;
      few = omega arith;
      least = λ k none h. absurd (omega arith);
      onward = λ k h. formula_refl (formula fs k) (part_of base fs k ws);
      meaning = λ L d never agrees top.
          let at = top.at in
          let size = agrees.size in
          let within = top.within in (
            top,
            omega arith,
            λ z. let all = joint_least fs L d within (λ k h. let w = (top.each k h).buffer.within in omega arith) in
                omega (arith, joint_le_size fs L),
          );
    }

module _ {base : ℕ} {fs : List Formula} {v : View} {s : List ℕ} {ws : List ℕ} {n r : ℕ} {ws₁ : List ℕ}
    (header : 16 ≤ base) (so_far : Asked base fs v s ws n r ws₁) where
  -- another formula's part
  other_part : (k : ℕ) (q : ℕ) (ws₂ : List ℕ) → k < length fs → n < length fs → (k ≡ n → ⊥) → HeldOne base fs v s n ws₁ q ws₂ →
      part_of base fs k ws₂ ≡ part_of base fs k ws₁
  other_part k q ws₂ h h' ne one =
      part_same base fs k ws₁ ws₂ one.words_length
      (λ i l m. one.others i (λ l' m'.
      ⊎_elim (λ (x : n ≤ k). omega (arith, before_grows fs (suc n) k (omega arith))) (λ (x : k < n). omega (arith, before_grows fs (suc k) n x)) (le_or_lt n k)))

  pub one_more : (q : ℕ) (ws₂ : List ℕ) → n < length fs → HeldOne base fs v s n ws₁ q ws₂ → Asked base fs v s ws (n + 1) (min r q) ws₂
  one_more q ws₂ h one =
      record {
        words_length = one.words_length ∙ so_far.words_length;
        header = λ i low. one.others i (λ l m. omega arith) ∙ so_far.header i low;
        few = let f = so_far.few in omega arith;
        least = λ k below inside.
            ⊎_elim
            (λ (l : n ≤ k). let same : k ≡ n = omega arith in rw same (omega (arith, one.count)))
            (λ (l : k < n). rw (other_part k q ws₂ inside h (λ e. omega arith) one) (omega (arith, so_far.least k l inside)))
            (le_or_lt n k);
        onward = λ k inside.
            ⊎_elim
            (λ (e : k ≡ n). rw e (formula_trans (formula fs n) (part_of base fs n ws) (part_of base fs n ws₁) (part_of base fs n ws₂) (so_far.onward n h) one.onward))
            (λ (ne : k ≡ n → ⊥). rw (other_part k q ws₂ inside h ne one) (so_far.onward k inside))
            (same_or_not k n);
        meaning = λ L d never agrees top.
            let (before, size, short) = so_far.meaning L d never agrees top in
            let (waits, is_open) = one.meaning L d never agrees (before.each n h) in
            let top' : Top base fs L d ws₂ =
            record {
              at = one.others 1 (λ l m. omega arith) ∙ before.at;
              within = before.within;
              each = λ k inside.
                  ⊎_elim
                  (λ (e : k ≡ n). rw e waits)
                  (λ (ne : k ≡ n → ⊥). rw (other_part k q ws₂ inside h ne one) (before.each k inside))
                  (same_or_not k n);
            } in (
              top',
              omega arith,
              λ z.
                  ⊎_elim
                  (λ (e : r ≡ 0). short e)
                  (λ (ne : r ≡ 0 → ⊥).
                  let none : q ≡ 0 = omega (arith, ne) in
                  let all = joint_least fs L d top.within (λ k inside. let w = (top.each k inside).buffer.within in omega arith) in
                  omega (arith, is_open none, joint_le fs L n h))
                  (same_or_not r 0),
            );
      }

module _ {base : ℕ} {fs : List Formula} {v : View} {s : List ℕ} {ws : List ℕ} {n r : ℕ} {ws' : List ℕ} (a : Asked base fs v s ws n r ws') where
  held_by : ((k : ℕ) → k < length fs → r ≤ top_count (formula fs k) (part_of base fs k ws')) → Held base fs v s ws r ws'
  held_by least =
      record { words_length = a.words_length; header = a.header; few = a.few; least = least; onward = a.onward; meaning = a.meaning }

  -- all of them
  pub all_asked : length fs ≤ n → Held base fs v s ws r ws'
  all_asked all = held_by (λ k h. a.least k (omega arith) h)

  -- nothing is settled, whoever was asked
  pub none_settled : r ≡ 0 → Held base fs v s ws r ws'
  none_settled none = held_by (λ k h. omega arith)
