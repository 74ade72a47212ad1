-- The positions that a since takes in one step: from the ring's turns, one for each, to the step's promise.
use Prim.Native.Nat.{ℕ, zero, suc, ◌+◌, ◌-◌, ◌/◌, ◌≤◌, ◌<◌, ◌^◌, min}
use native.Mathlib.Nat.{zero-add, add-zero}
use native.Mathlib.Numerals.{add-one}
use native.Mathlib.Omega.{arith}
use mathlib.Core.Bool.{Bool}
use mathlib.Core.List.{List, [], ◌∷◌}
use mathlib.Core.Path.{◌≡◌, refl, sym, ap, ◌∙◌}
use lib.ListN.{length, get_or, set, length-set}
use borrow.Author.Tests.{ne_eqb}
use Rattle.mtl.specs.Formula.{Formula}
use Rattle.mtl.specs.Formula.Formula.{since}
use Rattle.mtl.specs.Log.{Log, NeverFalls, head_of}
use Rattle.mtl.specs.Satisfaction.{sat, since_at}
use Rattle.mtl.specs.Progress.{settled_to}
use Rattle.mtl.proofs.Closing.{settled_since}
use Rattle.bits.specs.Packed.{bit, with_bit, Packed}
use Rattle.bits.proofs.Laws.{with_bit_lt, packed_none, packed_push, packed_same}
use Rattle.rule.specs.Words.{ring_words}
use Rattle.trace.specs.Format.{time_at}
use Rattle.window.specs.View.{slice_first, total, skips, in_slice}
use Rattle.window.specs.Window.{window_of, Opened, Passed}
use Rattle.window.specs.declared.Window.{Window}
use Rattle.window.proofs.Reading.{shown_time_bound}
use Rattle.window.specs.declared.view.View.{View}
use Rattle.window.specs.declared.KeptCopy.{KeptCopy}
use Rattle.blocks.specs.Block.{word, taken, left_count, left_bits, right_count, right_bits, head, Onward, Ready, took_both}
use Rattle.blocks.specs.Ring.{Ring, Rings, Witnesses, Turns, turned, turns, reaches, reached, Shown, Takes}
use Rattle.blocks.specs.Step.{Agrees, Stepped, Steps}
use Rattle.blocks.specs.declared.Step.TheVariants.{Batch, Left, Right, Open}
use Rattle.blocks.proofs.Words.{put, word_stores, after, fits, Available}
use Rattle.blocks.proofs.Taking.{both_stores, first_of, taken_both}
use Rattle.blocks.proofs.Reading.{read_time, head_passed}
use Rattle.since.proofs.Witnesses.{turn_keeps, oldest_decides}
use Rattle.since.proofs.Shown.{next, falls_here, time_small}
use Rattle.ring.proofs.Cells.{ring_kept, followed}

-- the loop of `turn_all`: after i turns block b has become d, and `answers` has what they answer
module _ (low high : ℕ) (at : ℕ → ℕ) (left right : ℕ) (b : List ℕ) where
  pub record Turning (i answers : ℕ) (d : List ℕ) : Type 0 where
    pub small : answers < 2 ^ i
    pub turns : Turns low high at left right i b answers d

  pub turning_none : Turning 0 0 b
  unfolding turns
  turning_none =
      record {
        small = omega arith;
        turns = record {
          rings = record { others = λ i h n9 n10. refl; ring = λ qs r. r };
          packed = λ qs r. packed_none _ 0 0;
        };
      }

  pub turning_next : (i answers : ℕ) (d : List ℕ) → Turning i answers d → i < 64 →
      (cells : ℕ) → cells ≡ ring_words high → (now : ℕ) → now ≡ at i →
      (l r holds : Bool) → l ≡ bit left i → r ≡ bit right i → (e : List ℕ) → Rings cells (turned cells high l r now) d e →
      ((qs : List ℕ) → Ring cells d qs → holds ≡ reaches low now (turned cells high l r now qs)) →
      Turning (i + 1) (with_bit answers i holds) e
  unfolding turns
  turning_next i answers d t few cells ec now en l r holds el er e turn verdict =
      let here = turned (ring_words high) high (bit left i) (bit right i) (at i) in
      let rings : Rings (ring_words high) here d e = rw (ec, en, el, er) at turn in
      let says : (qs : List ℕ) → Ring (ring_words high) d qs → holds ≡ reaches low (at i) (here qs) = rw (ec, en, el, er) at verdict in
      record {
        small = with_bit_lt answers i holds t.small;
        turns = record {
          rings = rw (add-one i) (followed t.turns.rings rings);
          packed = λ qs ring.
              let reached_here = reached low (ring_words high) high at left right qs in
              packed_push reached_here 0 i answers holds few t.small
              (ap reached_here (zero-add i) ∙ sym (says _ (t.turns.rings.ring qs ring)))
              (t.turns.packed qs ring);
        };
      }

module _ (low high : ℕ) (time : ℕ → ℕ) (left right : ℕ → Bool) (g n : ℕ) (at : ℕ → ℕ) (v w : ℕ) (shown : Shown time left right g n at v w)
    (times : List ℕ) (alive : Witnesses low high time left right g times) where
  abbrev pub after_turns : ℕ → List ℕ
  after_turns i = turns (ring_words high) high at v w i times

  module _ (i : ℕ) (h : i < n) where
    pub keeps : (qs : List ℕ) → Witnesses low high time left right (g + i) qs →
        Witnesses low high time left right (g + suc i) (turned (ring_words high) high (bit v i) (bit w i) (at i) qs)
    keeps qs here =
        rw (next g i, ← shown.left_word.same i h, ← shown.right_word.same i h, ← shown.same i h)
        (turn_keeps low high time left right (g + i) (falls_here shown i h) (time_small shown i h) qs here)

    decides : Witnesses low high time left right (g + suc i) (after_turns (suc i)) →
        since_at low high time left right (g + i) ≡ reached low (ring_words high) high at v w times i
    decides here =
        rw (← shown.same i h) (sym (oldest_decides low high time left right (g + i) (falls_here shown i h) (time_small shown i h) _ (rw (next g i) at here)))

  pub keep : (i : ℕ) → i ≤ n → Witnesses low high time left right (g + i) (after_turns i)
  unfolding turns
  keep zero h = rw (add-zero g) alive
  keep (suc i) h = keeps i h _ (keep i (omega arith))

  -- THEOREM: their turns keep the times of the witnesses, and answer since at each of them.
  turns_answer : (answers : ℕ) → Packed (reached low (ring_words high) high at v w times) 0 n answers →
      Witnesses low high time left right (g + n) (after_turns n) × Packed (since_at low high time left right) g n answers
  turns_answer answers packed =
      let answer = reached low (ring_words high) high at v w times in (
        keep n (omega arith),
        packed_same answer (since_at low high time left right) 0 g n answers
            (λ i h. decides i h (keep (suc i) h) ∙ ap answer (sym (zero-add i)))
            packed,
      )

pub turns_take : {low high : ℕ} {at : ℕ → ℕ} {left right n : ℕ} {b : List ℕ} {answers : ℕ} {d : List ℕ} → Turns low high at left right n b answers d →
    Takes low high at left right n b answers d
turns_take {low} {high} {at} {left} {right} {n} {b} {answers} {d} t =
    record {
      others = t.rings.others;
      takes = λ time lefts rights g times shown ring alive.
          let (later, packed) = turns_answer low high time lefts rights g n at left right shown times alive answers (t.packed times ring) in
          ((_, t.rings.ring times ring, later), packed);
    }

module _ (low high : ℕ) (v : View) (s b : List ℕ) where
  pub since_left : (φ ψ : Formula) → Steps (since low high φ ψ) v s b Left b
  since_left φ ψ L g falls agrees ready = (
    refl,
    λ e. let h = ready.core.reached in let at = ready.core.own.at in omega (arith, settled_since L φ ψ low high),
  )

  pub since_right : (φ ψ : Formula) → Steps (since low high φ ψ) v s b Right b
  since_right φ ψ L g falls agrees ready = (
    refl,
    λ e. let h = ready.core.reached in let at = ready.core.own.at in omega (arith, settled_since L φ ψ low high),
  )

  -- n positions are taken: as many as both buffers have
  module _ (n : ℕ) (some_left : 0 < left_count b) (some_right : 0 < right_count b) (room : 16 ≤ length b)
      (av : Available (taken b) (min (left_count b) (right_count b)) (total v) n) where
    -- no buffer reaches past the log
    pub since_open : n ≡ 0 → (φ ψ : Formula) → Steps (since low high φ ψ) v s b Open b
    since_open none φ ψ L g falls agrees ready =
        let size = agrees.size in
        let inside = fits ready.buffers.0 in
        let all = av.all (omega (arith, ready.buffers.0.packed.few)) (omega arith) in
        absurd (omega arith)

    -- a window of them is open, and d is the block after their turns
    module _ (some : 0 < n) (w : Window) (copy : KeptCopy) (opened : Opened (skips v) s (in_slice (slice_first v) (head b)) n w copy)
        (d : List ℕ) (long : length d ≡ length b) (answers : ℕ)
        (turn : Takes low high (time_at (window_of w s copy)) (left_bits b) (right_bits b) n b answers d) where
      turned_word : (i : ℕ) → i < 9 → word d i ≡ word b i
      turned_word i h = turn.others i (omega arith) (omega arith) (omega arith)

      -- what the taking requires
      pub takable : taken b + n < 2 ^ 64 → (16 ≤ length d) × (n ≤ left_count d) × (n ≤ right_count d) × (taken d + n < 2 ^ 64)
      takable fit =
          let most = av.most in
          omega (arith, turned_word 0 (omega arith), turned_word 1 (omega arith), turned_word 3 (omega arith))

      -- the head has passed them
      module _ (r : ℕ) (pass : Passed v s (head b) n w r) where
        -- the block behind the taking, the head moved behind the window
        abbrev pub passed : List ℕ
        passed = set (took_both n d) 11 (r)

        words : (i : ℕ) → word passed i ≡ after (both_stores n d (put 11 (r) ∷ [])) (word d) i
        words = word_stores (both_stores n d (put 11 (r) ∷ [])) d (omega arith)

        -- the words that the taking does not write, and those that the turns do not write either
        behind : (i : ℕ) → 4 < i → (i ≡ 11 → ⊥) → word passed i ≡ word d i
        behind i h n11 =
            words i ∙ rw (ne_eqb i 0 (omega arith), ne_eqb i 1 (omega arith), ne_eqb i 2 (omega arith), ne_eqb i 3 (omega arith), ne_eqb i 4 (omega arith), ne_eqb i 11 n11) refl

        kept : (i : ℕ) → (4 < i) × (i < 16) × (i ≡ 9 → ⊥) × (i ≡ 10 → ⊥) × (i ≡ 11 → ⊥) → word passed i ≡ word b i
        kept i (h, k, n9, n10, n11) = behind i h n11 ∙ turn.others i k n9 n10

        at_passed : taken passed ≡ taken b + n
        at_passed = omega (arith, words 0, turned_word 0 (omega arith))

        pub since_onward : Onward 12 b passed
        since_onward =
            record {
              heads = record {
                taken = omega (arith, at_passed);
                answered = omega (arith, kept 5 (omega arith));
                head = omega (arith, words 11, pass.onward);
              };
              kept = λ i h l. kept i (omega arith);
            }

        module _ (byte : (i : ℕ) → get_or s i 0 < 256) (φ ψ : Formula) (L : Log) (falls : NeverFalls L) (agrees : Agrees v s L (taken b)) (ready : Ready (since low high φ ψ) L (taken b) b) where
          within_settled : taken b + n ≤ settled_to (since low high φ ψ) L
          within_settled =
              let most = av.most in
              omega (arith, ready.buffers.0.within, ready.buffers.1.within, settled_since L φ ψ low high)

          heads : head b ≡ head_of L (taken b)
          heads = ready.core.heads

          inside_log : taken b + n ≤ L.size
          inside_log = omega (arith, agrees.size, av.inside some)

          time_here : (i : ℕ) → i < n → time_at (window_of w s copy) i ≡ L.time (taken b + i)
          time_here = read_time agrees (taken b) heads (omega arith) inside_log opened

          at_taken : Stepped (since low high φ ψ) L (taken b) b (Batch (record { bits = answers; count = n })) passed
          unfolding sat
          at_taken =
              let core = ready.core in
              let own = core.own in
              let range = core.range in
              let left = ready.buffers.0 in
              let right = ready.buffers.1 in
              let most = av.most in
              let inside = fits left in
              let at = at_passed in
              let count_left : left_count passed ≡ left_count b - n = omega (arith, words 1, turned_word 1 (omega arith)) in
              let count_right : right_count passed ≡ right_count b - n = omega (arith, words 3, turned_word 3 (omega arith)) in
              let shown : Shown L.time (sat φ L) (sat ψ L) (taken b) n (time_at (window_of w s copy)) (left_bits b) (right_bits b) =
              record {
                falls = λ i j h k. falls i j h (omega arith);
                small = λ i h. omega (arith, time_here i h, shown_time_bound byte (agrees.shows (taken b + i) (omega arith) (omega (arith, inside_log))));
                same = λ i h. sym (time_here i h);
                left_word = first_of n (omega arith) left;
                right_word = first_of n (omega arith) right;
              } in
              let (held, answer) = turn.takes L.time (sat φ L) (sat ψ L) (taken b) own.times shown own.ring own.alive in
              let ring = ring_kept (ring_words high) d passed held.0 (simp length-set) (λ i h n11. behind i (omega arith) n11) held.1 in
              let start = ring.start in
              let count = ring.count in
              let cells = ring.fits in
              let moved =
              taken_both (since low high φ ψ) b n (taken b + n) passed within_settled
              (omega (arith, kept 5 (omega arith), kept 6 (omega arith), kept 7 (omega arith), kept 8 (omega arith)))
              (record { at = at; times = held.0; ring = ring; alive = held.2 })
              (words 11 ∙ head_passed agrees (taken b) heads (omega arith) inside_log opened n r (omega arith) pass ∙ ap (head_of L) (sym at))
              (λ x. x) (omega arith) (omega arith)
              (record {
                right = record {
                  at = at;
                  count = count_right;
                  bits = words 4 ∙ ap (λ (x : ℕ). x / 2 ^ n) (turned_word 4 (omega arith));
                };
                count = count_left;
                bits = words 2 ∙ ap (λ (x : ℕ). x / 2 ^ n) (turned_word 2 (omega arith));
              })
              left right
              in (record { some = some; buffer = record { within = within_settled; packed = answer } }, moved.0, moved.1)

        pub since_batch : ((i : ℕ) → get_or s i 0 < 256) → (φ ψ : Formula) → Steps (since low high φ ψ) v s b (Batch (record { bits = answers; count = n })) passed
        since_batch byte φ ψ L g falls agrees ready =
            let at = ready.core.own.at in rw (← at) (at_taken byte φ ψ L falls (rw (← at) at agrees) (rw (← at) at ready))
