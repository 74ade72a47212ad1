-- One step of the letter, not, or, previous and next over their block's words, as the code leaves them. Assumes nothing.
use Prim.Native.Nat.{ℕ, ◌+◌, ◌-◌, ◌≤◌, ◌<◌, ◌^◌}
use native.Mathlib.Nat.{zero-add, le_refl}
use native.Mathlib.Omega.{arith}
use mathlib.Core.Bool.{Bool, true, false, ◌&&◌, ◌||◌, false≢true}
use mathlib.Core.List.{List, [], ◌∷◌}
use mathlib.Core.Logic.{inl, inr, ⊎_elim}
use mathlib.Core.Path.{◌≡◌, refl, sym, ap, ◌∙◌}
use lib.Bits.{bit_and, bit_or}
use lib.Dec.{leb, ltb}
use lib.ListN.{length, set}
use borrow.Author.Tests.{leb-true, leb-false, ltb-true, ltb-false, lt-ltb, le-ltb}
use Rattle.mtl.specs.Formula.{Formula}
use Rattle.mtl.specs.Formula.Formula.{letter, not, or, previous, next}
use Rattle.mtl.specs.Log.{Log, head_of}
use Rattle.mtl.specs.Satisfaction.{sat}
use Rattle.mtl.specs.Progress.{settled_to}
use Rattle.mtl.proofs.Bounded.{or_iff}
use Rattle.mtl.proofs.Closing.{
  settled_closed,
  by_closed,
  settled_le_size,
  settled_letter,
  settled_not,
  settled_previous,
  settled_or,
  settled_next,
}
use Rattle.bits.specs.Packed.{Packed}
use Rattle.bits.proofs.Laws.{packed_none, packed_push, packed_same, packed_not, packed_or, packed_and}
use Rattle.trace.specs.Format.{time_at}
use Rattle.window.specs.View.{slice_first, total, skips, in_slice}
use Rattle.window.specs.Window.{window_of, Lettered, Opened, Passed}
use Rattle.window.specs.declared.Letters.{Letters}
use Rattle.window.specs.declared.Window.{Window}
use Rattle.window.specs.declared.view.View.{View}
use Rattle.window.specs.declared.KeptCopy.{KeptCopy}
use Rattle.trace.proofs.Laws.{neither}
use Rattle.blocks.specs.Block.{taken, left_count, left_bits, right_count, right_bits, answered, head, Onward, Core, Own, Heads, RightBuffer, Buffers, Ready, took_right, took_both}
use Rattle.blocks.specs.Near.{near_after}
use Rattle.blocks.specs.Step.{Agrees, Stepped, Moved, has_left, left_to_do}
use Rattle.blocks.specs.declared.Step.TheVariants.{Batch, Again}
use Rattle.blocks.proofs.Words.{Store, put, stores, word_stores, stores_onward, less_to_do, fits}
use Rattle.blocks.proofs.Taking.{right_stores, both_stores, first_of, taken_right, taken_both}
use Rattle.blocks.proofs.Reading.{read_time, read_letters, letters_end, head_passed}
use Rattle.operators.specs.Neighbour.{Gaps, TookNear}

-- the stores of a letter that has read n positions, its head behind them being h
abbrev read_stores : (n h : ℕ) → List ℕ → List Store
read_stores n h b = put 0 (taken b + n) ∷ put 11 h ∷ []

pub read_onward : (n h : ℕ) (b : List ℕ) → 16 ≤ length b → head b ≤ h → Onward 12 b (stores (read_stores n h b) b)
read_onward n h b room later = stores_onward (read_stores n h b) b (omega arith) (omega arith) (omega arith)

-- the stores of a previous or a next that has taken n positions for as many answers
abbrev answered_stores : (n h : ℕ) → List ℕ → List Store
answered_stores n h b = right_stores n b (put 11 h ∷ put 5 (answered b + n) ∷ [])

pub answered_onward : (n h : ℕ) (b : List ℕ) → 16 ≤ length b → head b ≤ h → Onward 12 b (stores (answered_stores n h b) b)
answered_onward n h b room later = stores_onward (answered_stores n h b) b (omega arith) (omega arith) (omega arith)

module _ (v : View) (b : List ℕ) (room : 16 ≤ length b) (n : ℕ) (some : 0 < n) where
  right_at : taken (took_right n b) ≡ taken b + n
  right_at = word_stores (right_stores n b []) b (omega arith) 0

  pub right_less : taken b + n ≤ total v → left_to_do v (took_right n b) < left_to_do v b
  right_less inside = less_to_do v b (took_right n b) n some inside right_at

  module _ (L : Log) (g : ℕ) where
    pub letter_batch : {s : List ℕ} → Agrees v s L g → (k : ℕ) → taken b + n ≤ total v → {r : Letters} →
        Lettered (skips v) s k (in_slice (slice_first v) (head b)) n r → Ready (letter k) L g b →
        Stepped (letter k) L g b (Batch (record { bits = r.bits; count = n })) (stores (read_stores n (slice_first v + r.end) b) b)
    unfolding sat
    letter_batch agrees k inside {r} lettered ready =
        let all = settled_letter L k in
        let at = word_stores (read_stores n (slice_first v + r.end) b) b (omega arith) in
        let core = ready.core in
        let range = core.range in
        let size = agrees.size in
        let own = core.own in
        let from : g ≤ taken b = omega arith in
        let within : taken b + n ≤ L.size = omega arith in (
          record {
            some = some;
            buffer = record { within = omega arith; packed = rw own at (read_letters agrees (taken b) core.heads from within lettered) };
          },
          record {
            core = record {
              reached = omega arith;
              range = omega (arith, at 0, at 1, at 3, at 5, at 6, at 7, at 8, at 9, at 10);
              own = omega (arith, at 0);
              heads = at 11 ∙ letters_end agrees (taken b) core.heads from within lettered some ∙ ap (head_of L) (sym (at 0));
            };
            buffers = tt;
          },
          record { left = λ e. absurd (false≢true e); right = λ e. absurd (false≢true e) },
        )

    -- not stores nothing more, nor does next at position 0; φ is either, and ψ its operand
    right_ready : (φ ψ : Formula) → has_left φ ≡ false → (RightBuffer ψ L (took_right n b) → Buffers φ L (took_right n b)) → Core φ L g b →
        RightBuffer ψ L b → n ≤ right_count b → (g' : ℕ) → g' ≤ settled_to φ L → Own φ L g' (took_right n b) → Heads φ L g' (took_right n b) →
        Ready φ L g' (took_right n b) × Moved φ b (took_right n b)
    right_ready φ ψ single whole core right h g' reached own heads =
        let at = word_stores (right_stores n b []) b (omega arith) in
        let range = core.range in
        let most = fits right in
        taken_right φ b n g' (took_right n b) reached (omega (arith, at 0, at 1, at 3, at 5, at 6, at 7, at 8, at 9, at 10)) own heads single whole h
        (record { at = at 0; count = at 3; bits = at 4 })
        right

    pub not_batch : (φ : Formula) → n ≤ right_count b → right_bits b < 2 ^ 64 → Ready (not φ) L g b →
        Stepped (not φ) L g b (Batch (record { bits = 2 ^ 64 - 1 - right_bits b; count = n })) (took_right n b)
    unfolding sat
    not_batch φ h word ready =
        let all = settled_not L φ in
        let core = ready.core in
        let head = core.own in
        let right = ready.buffers in
        let still = word_stores (right_stores n b []) b (omega arith) 11 in
        let moved = right_ready (not φ) φ refl (λ x. x) core right h (g + n) (omega arith) (omega (arith, right_at)) (still ∙ core.heads) in (
          record {
            some = some;
            buffer = record { within = omega arith; packed = rw head at (packed_not (sat φ L) (taken b) n (right_bits b) word (first_of n h right)) };
          },
          moved.0,
          moved.1,
        )

    pub or_batch : (φ ψ : Formula) → n ≤ left_count b → n ≤ right_count b → Ready (or φ ψ) L g b →
        Stepped (or φ ψ) L g b (Batch (record { bits = bit_or (left_bits b) (right_bits b); count = n })) (took_both n b)
    unfolding sat
    or_batch φ ψ l r ready =
        let all = settled_or L φ ψ in
        let at = word_stores (both_stores n b []) b (omega arith) in
        let core = ready.core in
        let range = core.range in
        let head = core.own in
        let left = ready.buffers.0 in
        let right = ready.buffers.1 in
        let most = settled_le_size φ L in
        let moved =
        taken_both (or φ ψ) b n (g + n) (took_both n b) (omega arith)
        (omega (arith, at 0, at 1, at 3, at 5, at 6, at 7, at 8, at 9, at 10))
        (omega (arith, at 0))
        (at 11 ∙ core.heads)
        (λ x. x) l r
        (record { right = record { at = at 0; count = at 3; bits = at 4 }; count = at 1; bits = at 2 })
        left right
        in (
          record {
            some = some;
            buffer = record {
              within = omega arith;
              packed = rw head at (packed_or (sat φ L) (sat ψ L) (taken b) n (left_bits b) (right_bits b) (first_of n l left) (first_of n r right));
            };
          },
          moved.0,
          moved.1,
        )

    module _ (low high : ℕ) (φ : Formula) (h : n ≤ right_count b) where
      -- χ at g + i is the operand's answer at the i-th position that is taken, if the position behind p + i lies in the interval after it
      near_packed : (χ : Formula) (p : ℕ) {bits : ℕ} {b' : List ℕ} → Gaps low high L p b n bits b' → RightBuffer φ L b →
          ((i : ℕ) → i < n → sat χ L (g + i) ≡ near_after low high L.time (p + i) && sat φ L (taken b + i)) → Packed (sat χ L) g n bits
      near_packed χ p {bits} gaps right same =
          let operand : ℕ → Bool = λ i. sat φ L (taken b + i) in
          let held = packed_same (sat φ L) operand (taken b) 0 n (right_bits b) (λ i l. ap operand (zero-add i)) (first_of n h right) in
          packed_same (λ i. near_after low high L.time (p + i) && operand i) (sat χ L) 0 g n bits (λ i l. rw (zero-add i) (same i l)) (gaps.answers operand held)

      pub previous_batch : {s : List ℕ} {bits : ℕ} {b' : List ℕ} → TookNear low high v s b n bits b' → Agrees v s L (g - 1) → 0 < answered b → answered b + n ≤ total v →
          Ready (previous low high φ) L g b → Stepped (previous low high φ) L g b (Batch (record { bits = bits; count = n })) (stores (answered_stores n (head b') b) b)
      unfolding sat
      previous_batch {bits = bits} {b' = b'} took agrees past inside ready =
          let all = settled_previous L low high φ in
          let at = word_stores (answered_stores n (head b') b) b (omega arith) in
          let core = ready.core in
          let range = core.range in
          let own = core.own in
          let size = agrees.size in
          let right = ready.buffers in
          let gaps = took.gaps L (g - 1) agrees (core.heads ∙ ap (head_of L) own.1) (omega arith) in
          let to : g + n ≤ settled_to (previous low high φ) L = omega arith in
          let same : (i : ℕ) → i < n → sat (previous low high φ) L (g + i) ≡ near_after low high L.time (g - 1 + i) && sat φ L (taken b + i) =
          λ i l.
          let before : g + i - 1 ≡ taken b + i = omega arith in
          let here : g + i ≡ g - 1 + i + 1 = omega arith in
          let slice_first : taken b + i ≡ g - 1 + i = omega arith in
          rw (lt-ltb 0 (g + i) (omega arith), before, here, slice_first)
          in
          let moved =
          taken_right
          (previous low high φ)
          b
          n
          (g + n)
          (stores (answered_stores n (head b') b) b)
          to
          (omega (arith, at 0, at 1, at 3, at 5, at 6, at 7, at 8, at 9, at 10))
          (omega (arith, at 5), omega (arith, at 0))
          (at 11 ∙ gaps.head ∙ ap (λ (p : ℕ). head_of L (p + n)) (sym own.1) ∙ ap (head_of L) (sym (at 0)))
          refl
          (λ x. x)
          h
          (record { at = at 0; count = at 3; bits = at 4 })
          right
          in (
            record { some = some; buffer = record { within = to; packed = near_packed (previous low high φ) (g - 1) gaps right same } },
            moved.0,
            moved.1,
          )

      -- an answer of the operand at i + 1 answers i
      next_reaches : (i : ℕ) → i + 1 ≤ settled_to φ L → i ≤ settled_to (next low high φ) L
      next_reaches i l =
          by_closed L
          (λ c. omega (arith, settled_closed (next low high φ) L c, settled_le_size φ L))
          (λ o. omega (arith, settled_next L o low high φ))

      -- with positions to take, the operand's answer at `taken` answers the position before
      trails : Ready (next low high φ) L g b → g ≡ taken b - 1
      trails ready =
          let inside = fits ready.buffers in
          ⊎_elim (λ e. e) (λ e. let past = e.1 in absurd (omega arith)) ready.core.own.1

      -- position 0 is passed over
      pub next_pass : taken b ≡ 0 → n ≡ 1 → Ready (next low high φ) L g b → Stepped (next low high φ) L g b Again (took_right n b)
      next_pass slice_first one ready =
          let still = word_stores (right_stores n b []) b (omega arith) 5 in
          let unread = word_stores (right_stores n b []) b (omega arith) 11 in
          right_ready (next low high φ) φ refl (λ x. x) ready.core ready.buffers h g ready.core.reached
          (still ∙ ready.core.own.0, inl (omega (arith, right_at, trails ready)))
          (unread ∙ ready.core.heads ∙ ap (head_of L) (omega (arith, right_at)))

      pub next_batch : {s : List ℕ} {bits : ℕ} {b' : List ℕ} → TookNear low high v s b n bits b' → Agrees v s L g → 0 < taken b → taken b + n ≤ total v →
          Ready (next low high φ) L g b → Stepped (next low high φ) L g b (Batch (record { bits = bits; count = n })) (stores (answered_stores n (head b') b) b)
      unfolding sat
      next_batch {bits = bits} {b' = b'} took agrees past inside ready =
          let own = trails ready in
          let at = word_stores (answered_stores n (head b') b) b (omega arith) in
          let size = agrees.size in
          let gaps = took.gaps L g agrees (ready.core.heads ∙ ap (head_of L) (sym own)) (omega arith) in
          let range = ready.core.range in
          let next_is = ready.core.own.0 in
          let right = ready.buffers in
          let to = next_reaches (g + n) (omega (arith, right.within)) in
          let same : (i : ℕ) → i < n → sat (next low high φ) L (g + i) ≡ near_after low high L.time (g + i) && sat φ L (taken b + i) =
          λ i l.
          let behind : taken b + i ≡ g + i + 1 = omega arith in
          rw (behind, lt-ltb (g + i + 1) L.size (omega arith))
          in
          let moved =
          taken_right
          (next low high φ)
          b
          n
          (g + n)
          (stores (answered_stores n (head b') b) b)
          to
          (omega (arith, at 0, at 1, at 3, at 5, at 6, at 7, at 8, at 9, at 10))
          (omega (arith, at 5), inl (omega (arith, at 0)))
          (at 11 ∙ gaps.head ∙ ap (head_of L) (omega (arith, at 0)))
          refl
          (λ x. x)
          h
          (record { at = at 0; count = at 3; bits = at 4 })
          right
          in (
            record { some = some; buffer = record { within = to; packed = near_packed (next low high φ) g gaps right same } },
            moved.0,
            moved.1,
          )

-- n answers taken through a window of one position more
module _ (low high : ℕ) (v : View) (s b : List ℕ) (n : ℕ) (room : 16 ≤ length b) (w : Window) (copy : KeptCopy)
    (opened : Opened (skips v) s (in_slice (slice_first v) (head b)) (n + 1) w copy) where
  pub took_near : (near e : ℕ) → Packed (near_after low high (time_at (window_of w s copy))) 0 n near → Passed v s (head b) n w e →
      TookNear low high v s b n (bit_and near (right_bits b)) (set (took_right n b) 11 e)
  took_near near e packed passed =
      let at = word_stores (right_stores n b (put 11 e ∷ [])) b (omega arith) 11 in
      let is_near = near_after low high (time_at (window_of w s copy)) in
      record {
        words = ap (set (took_right n b) 11) (sym at);
        onward = rw at passed.onward;
        gaps = λ L p agrees stands fewer.
            let inside : p + (n + 1) ≤ L.size = omega arith in
            let reads = read_time agrees p stands (le_refl p) inside opened in
            record {
              answers = λ operand held.
                  packed_same
                  (λ i. is_near i && operand i)
                  (λ i. near_after low high L.time (p + i) && operand i)
                  0 0 n _
                  (λ i l.
                  let next : p + (0 + i) + 1 ≡ p + (0 + i + 1) = omega arith in
                  rw (next, reads (0 + i) (omega arith), reads (0 + i + 1) (omega arith)))
                  (packed_and is_near operand 0 n near (right_bits b) packed held);
              head = at ∙ head_passed agrees p stands (le_refl p) inside opened n e (omega arith) passed;
            };
      }

-- χ, a previous or a next, answers position g with no, whatever its operand φ holds
module _ (b : List ℕ) (room : 16 ≤ length b) (χ φ : Formula) (L : Log) (g : ℕ) (single : has_left χ ≡ false) (ready : Ready χ L g b)
    (right : RightBuffer φ L b) (v : ℕ) (whole : RightBuffer φ L (set b 5 v) → Buffers χ L (set b 5 v)) where
  answered_no : answered b ≤ v → v ≤ L.size → g + 1 ≤ settled_to χ L → Own χ L (g + 1) (set b 5 v) → Heads χ L (g + 1) (set b 5 v) → sat χ L (g + 0) ≡ false →
      Stepped χ L g b (Batch (record { bits = 0; count = 1 })) (set b 5 v)
  answered_no later inside reached own heads none =
      let at = word_stores (put 5 v ∷ []) b (omega arith) in
      let range = ready.core.range in
      let moved =
      taken_right
      χ
      b
      0
      (g + 1)
      (set b 5 v)
      reached
      (omega (arith, at 0, at 1, at 3, at 5, at 6, at 7, at 8, at 9, at 10))
      own
      heads
      single
      whole
      (omega arith)
      (record { at = omega (arith, at 0); count = omega (arith, at 3); bits = omega (arith, at 4) })
      right
      in (
        record {
          some = omega arith;
          buffer = record { within = reached; packed = packed_push (sat χ L) g 0 0 false (omega arith) (omega arith) none (packed_none _ g 0) };
        },
        moved.0,
        moved.1,
      )

-- a previous and a next go on where the next position to answer, g, lies in the log, and what is taken fits what is answered
pub not_open : (total g x y : ℕ) → leb total g || ltb x y ≡ false → (g < total) × (y ≤ x)
not_open total g x y e = let (some, fit) = (neither (leb total g) (ltb x y)).0 e in (leb-false total g some, ltb-false x y fit)

-- a previous is open where no position is left; no later position than its own is taken
pub previous_open : (v : View) (b : List ℕ) {s : List ℕ} (low high : ℕ) (φ : Formula) (L : Log) (g : ℕ) → Agrees v s L (g - 1) → Ready (previous low high φ) L g b →
    leb (total v) (answered b) || ltb (answered b) (taken b) ≡ true → settled_to (previous low high φ) L ≡ g
previous_open v b low high φ L g agrees ready e =
    let size = agrees.size in
    let own = ready.core.own in
    let reached = ready.core.reached in
    ⊎_elim
    (λ none. let all = leb-true (total v) (answered b) none in omega (arith, settled_le_size (previous low high φ) L))
    (λ ahead. let less = ltb-true (answered b) (taken b) ahead in absurd (omega arith))
    ((or_iff (leb (total v) (answered b)) (ltb (answered b) (taken b))).0 e)

-- position 0 of a previous is no
pub previous_first : (v : View) (b : List ℕ) → 16 ≤ length b → 0 < total v → answered b ≡ 0 → {s : List ℕ} (low high : ℕ) (φ : Formula) (L : Log) (g : ℕ) →
    Agrees v s L (g - 1) → Ready (previous low high φ) L g b → Stepped (previous low high φ) L g b (Batch (record { bits = 0; count = 1 })) (set b 5 1)
unfolding sat
previous_first v b room some slice_first low high φ L g agrees ready =
    let at = word_stores (put 5 1 ∷ []) b (omega arith) in
    let own = ready.core.own in
    let size = agrees.size in
    answered_no b room (previous low high φ) φ L g refl ready ready.buffers 1 (λ x. x) (omega arith) (omega arith)
    (omega (arith, settled_previous L low high φ))
    (omega (arith, at 5), omega (arith, at 0))
    (at 11 ∙ ready.core.heads ∙ ap (head_of L) (sym (at 0)))
    (rw (le-ltb 0 (g + 0) (omega arith)))

-- next, where no position is left, at the end of a closed log, and before it
module _ (v : View) (b : List ℕ) (room : 16 ≤ length b) {s : List ℕ} (low high : ℕ) (φ : Formula) (L : Log) (g : ℕ) (agrees : Agrees v s L g)
    (ready : Ready (next low high φ) L g b) where
  pub next_none : leb (total v) (answered b) || ltb (taken b) (answered b) ≡ true → settled_to (next low high φ) L ≡ g
  next_none e =
      let size = agrees.size in
      let own = ready.core.own.0 in
      let reached = ready.core.reached in
      let most = settled_le_size (next low high φ) L in
      ⊎_elim
      (λ none. let all = leb-true (total v) (answered b) none in omega arith)
      (λ behind.
      let less = ltb-true (taken b) (answered b) behind in
      absurd (⊎_elim (λ t. omega arith) (λ t. let all = t.1 in let last = t.2 in omega arith) ready.core.own.1))
      ((or_iff (leb (total v) (answered b)) (ltb (taken b) (answered b))).0 e)

  -- the last position of a closed log is no
  pub next_end : L.closed ≡ true → answered b < total v → taken b ≡ total v →
      Stepped (next low high φ) L g b (Batch (record { bits = 0; count = 1 })) (set b 5 (answered b + 1))
  unfolding sat
  next_end c left all =
      let size = agrees.size in
      let head = ready.core.own.0 in
      let at = word_stores (put 5 (answered b + 1) ∷ []) b (omega arith) in
      let last : g + 1 ≡ L.size = ⊎_elim (λ e. omega arith) (λ e. let past = e.2 in absurd (omega arith)) ready.core.own.1 in
      let here : g + 0 ≡ g = omega arith in
      answered_no b room (next low high φ) φ L g refl ready ready.buffers (answered b + 1) (λ x. x) (omega arith) (omega arith)
      (omega (arith, settled_closed (next low high φ) L c))
      (omega (arith, at 5), inr (c, omega (arith, at 0), last))
      (at 11 ∙ ready.core.heads ∙ ap (λ (t : ℕ). head_of L (t - 1)) (sym (at 0)))
      (rw (here, le-ltb (g + 1) L.size (omega arith)))

  -- the operand is asked before the end alone: if it has no more answers, next has none
  pub next_right : (L.closed ≡ true → taken b ≡ total v → ⊥) → settled_to φ L ≡ taken b → settled_to (next low high φ) L ≡ g
  next_right before e =
      let size = agrees.size in
      by_closed L
      (λ c. absurd (before c (omega (arith, settled_closed φ L c))))
      (λ o. ⊎_elim (λ t. omega (arith, settled_next L o low high φ)) (λ t. absurd (false≢true (sym o ∙ t.0))) ready.core.own.1)
