-- A batch stored in an operand's buffer: the operator's block still stands where it stood.
use Prim.Native.Nat.{ℕ, ◌+◌, ◌≤◌}
use mathlib.Core.Path.{◌≡◌, ◌∙◌}
use mathlib.Core.List.{List}
use native.Mathlib.Omega.{arith}
use lib.Dec.{lit≤}
use lib.ListN.{length, set, length-set}
use lib.Seq.{get_or-set_same, get_or-set_other}
use Rattle.mtl.specs.Formula.{Formula}
use Rattle.mtl.specs.Formula.Formula.{letter, not, or, previous, next, since, until}
use Rattle.mtl.specs.Log.{Log}
use Rattle.blocks.specs.Block.{word, taken, Onward, Own, Ready}
use Rattle.blocks.specs.Step.{Batched}
use Rattle.blocks.proofs.Onward.{still}
use Rattle.engine.specs.Ask.{stored}
use Rattle.engine.proofs.Parts.{Side, other, by_side, slot}
use Rattle.engine.proofs.Parts.Side.{on_left, on_right}
use Rattle.engine.proofs.Uniform.{of, Buffered, buffered, all_buffered}
use Rattle.engine.proofs.Heads.{heads_same}

-- the buffers may have changed, the block's other words have not
pub record Rebuffered (b b' : List ℕ) : Type 0 where
  pub size : length b' ≡ length b
  pub at : taken b' ≡ taken b
  pub rest : (i : ℕ) → 5 ≤ i → word b' i ≡ word b i

own_kept : (φ : Formula) (L : Log) (g : ℕ) (b b' : List ℕ) → Rebuffered b b' → Own φ L g b → Own φ L g b'
own_kept (letter k) L g b b' e o = e.at ∙ o
own_kept (not φ) L g b b' e o = e.at ∙ o
own_kept (or φ ψ) L g b b' e o = e.at ∙ o
own_kept (previous low high φ) L g b b' e o = (e.rest 5 (lit≤ tt) ∙ o.0, e.at ∙ o.1)
own_kept (next low high φ) L g b b' e o = (e.rest 5 (lit≤ tt) ∙ o.0, rw e.at o.1)
own_kept (since low high φ ψ) L g b b' e o =
    record {
      at = e.at ∙ o.at;
      times = o.times;
      ring =
          record {
            room = omega (arith, e.size, o.ring.room);
            start = omega (arith, e.rest 9 (lit≤ tt), o.ring.start);
            count = e.rest 10 (lit≤ tt) ∙ o.ring.count;
            fits = o.ring.fits;
            at = λ i lt. rw (e.rest 9 (lit≤ tt)) (e.rest _ (omega arith) ∙ o.ring.at i lt);
          };
      alive = o.alive;
    }
own_kept (until low high φ ψ) L g b b' e o = (
  e.rest 5 (lit≤ tt) ∙ o.0,
  rw (e.at, e.rest 6 (lit≤ tt), e.rest 7 (lit≤ tt), e.rest 8 (lit≤ tt)) o.1,
)

-- a block with other buffers
abbrev Counted : List ℕ → Side → Type 0
Counted b side = word b (slot side) ≤ 64

counted : (φ : Formula) (L : Log) (g : ℕ) (b : List ℕ) → Ready φ L g b → (side : Side) → Counted b side
counted φ L g b r =
    by_side (Counted b) on_left r.core.range.left_count r.core.range.right_count

rebuffered : (φ : Formula) (L : Log) (g : ℕ) (b b' : List ℕ) → Rebuffered b b' → Ready φ L g b →
    ((side : Side) → Counted b' side) → ((side : Side) → Buffered φ L b' side) → Ready φ L g b'
rebuffered φ L g b b' e r counts buffers =
    let range = r.core.range in
    record {
      core =
          record {
            reached = r.core.reached;
            range =
                record {
                  at = rw e.at range.at;
                  left_count = counts on_left;
                  right_count = counts on_right;
                  answered = rw (e.rest 5 (lit≤ tt)) range.answered;
                  last_left = rw (e.rest 6 (lit≤ tt)) range.last_left;
                  last_right = rw (e.rest 7 (lit≤ tt)) range.last_right;
                  last_time = rw (e.rest 8 (lit≤ tt)) range.last_time;
                  start = rw (e.rest 9 (lit≤ tt)) range.start;
                  count = rw (e.rest 10 (lit≤ tt)) range.count;
                };
            own = own_kept φ L g b b' e r.core.own;
            heads = heads_same φ L g b b' e.at (e.rest 11 (lit≤ tt)) (e.rest 16 (lit≤ tt)) r.core.heads;
          };
      buffers = all_buffered φ L b' buffers;
    }

-- the buffers are words 1 to 4 and do not overlap
record Slots (side : Side) : Type 0 where
  low : 1 ≤ slot side
  high : slot side ≤ 3
  first : slot (other side) ≡ slot side → ⊥
  second : slot (other side) ≡ slot side + 1 → ⊥
  third : slot (other side) + 1 ≡ slot side → ⊥

slots : (side : Side) → Slots side
slots on_left =
    record { low = lit≤ tt; high = lit≤ tt; first = λ e. omega arith; second = λ e. omega arith; third = λ e. omega arith }
slots on_right =
    record { low = lit≤ tt; high = lit≤ tt; first = λ e. omega arith; second = λ e. omega arith; third = λ e. omega arith }

-- the words of a block b after a batch is stored in a buffer of it
module _ (side : Side) (b : List ℕ) (room : 16 ≤ length b) (bits n : ℕ) where
  stored_other : (i : ℕ) → (i ≡ slot side → ⊥) → (i ≡ slot side + 1 → ⊥) → word (stored b (slot side) bits n) i ≡ word b i
  stored_other i ne ne' =
      get_or-set_other (set b (slot side) n) (slot side + 1) i bits 0 ne' ∙ get_or-set_other b (slot side) i n 0 ne

  pub stored_at : taken (stored b (slot side) bits n) ≡ taken b
  stored_at =
      let s = slots side in
      stored_other 0 (λ e. omega arith) (λ e. omega arith)

  pub stored_onward : Onward 12 b (stored b (slot side) bits n)
  stored_onward =
      let s = slots side in
      still b (stored b (slot side) bits n) stored_at (stored_other 5 (λ e. omega arith) (λ e. omega arith)) (stored_other 11 (λ e. omega arith) (λ e. omega arith))
      (λ i h l. stored_other i (λ e. omega arith) (λ e. omega arith))

  pub stored_count : word (stored b (slot side) bits n) (slot side) ≡ n
  stored_count =
      let s = slots side in
      get_or-set_other (set b (slot side) n) (slot side + 1) (slot side) bits 0 (λ e. omega arith) ∙
      get_or-set_same b (slot side) n 0 (omega arith)

  stored_bits : word (stored b (slot side) bits n) (slot side + 1) ≡ bits
  stored_bits =
      let s = slots side in
      get_or-set_same (set b (slot side) n) (slot side + 1) bits 0 (simp length-set (omega arith))

  pub stored_count_other : word (stored b (slot side) bits n) (slot (other side)) ≡ word b (slot (other side))
  stored_count_other = stored_other (slot (other side)) (slots side).first (slots side).second

  stored_bits_other : word (stored b (slot side) bits n) (slot (other side) + 1) ≡ word b (slot (other side) + 1)
  stored_bits_other =
      let s = slots side in
      stored_other (slot (other side) + 1) s.third (λ e. s.first (omega arith))

  pub ready_filled : (φ : Formula) (L : Log) (g : ℕ) → Ready φ L g b → Batched (of side φ) L (taken b) bits n →
      Ready φ L g (stored b (slot side) bits n)
  ready_filled φ L g r gives =
      let s = slots side in
      let b' = stored b (slot side) bits n in
      rebuffered
      φ
      L
      g
      b
      b'
      (record {
        size = simp length-set;
        at = stored_at;
        rest = λ i ge. stored_other i (λ e. omega arith) (λ e. omega arith);
      })
      r
      (by_side
      (Counted b')
      side
      (rw stored_count gives.buffer.packed.few)
      (rw stored_count_other (counted φ L g b r (other side))))
      (by_side
      (Buffered φ L b')
      side
      (λ e. rw (stored_at, stored_count, stored_bits) gives.buffer)
      (λ e.
      rw (stored_at, stored_count_other, stored_bits_other) (buffered φ L b r.buffers (other side) e)))
