-- Words 12 and 13 of a formula's own block, which hold what it has answered and was not given yet: the state does not look at them.
use Prim.Native.Nat.{ℕ, ◌+◌, ◌≤◌, ◌<◌}
use mathlib.Core.Bool.{Bool, true, false}
use mathlib.Core.Logic.{◌⊎◌, inl, ⊎_elim}
use mathlib.Core.Path.{◌≡◌, refl, sym, ◌∙◌}
use mathlib.Core.List.{List}
use native.Mathlib.Omega.{arith}
use lib.ListN.{length, get_or, take, drop, set, length-take, length-drop, length-set, get_or-eq_default}
use lib.Seq.{get_or-take, get_or-drop, get_or-set_other}
use Rattle.mtl.specs.Formula.{Formula}
use Rattle.mtl.specs.Formula.Formula.{letter, not, or, previous, next, since, until}
use Rattle.mtl.specs.Log.{Log}
use Rattle.mtl.proofs.Bounded.{le_or_lt}
use Rattle.rule.proofs.Spans.{own_least}
use Rattle.blocks.specs.Ring.{Ring}
use Rattle.blocks.specs.Block.{word, kind_of, high_of, InRange, Own, Buffers, Ready}
use Rattle.blocks.specs.Step.{has_left, has_right, left_of, right_of}
use Rattle.blocks.proofs.Onward.{still}
use Rattle.engine.specs.State.{needed_words, left_words, right_words, own_at, Parts, Absent, State, OnwardParts, OnwardNone, OnwardAll, OnwardOperand, OnwardFormula}
use Rattle.engine.proofs.Uniform.{all_words}
use Rattle.engine.proofs.Heads.{heads_same}

-- a formula's own block has 16 words and more
pub own_block : (φ : Formula) → own_at φ + 16 ≤ needed_words φ
own_block φ = omega (arith, all_words φ, own_least (kind_of φ) (high_of φ))

-- ONE BLOCK

-- a block before and after something was written to its words 12 and 13
pub record HeldBlock (b b' : List ℕ) : Type 0 where
  pub room : length b ≤ length b'
  pub same : (i : ℕ) → (i ≡ 12 → ⊥) → (i ≡ 13 → ⊥) → word b' i ≡ word b i

module _ (b b' : List ℕ) (held : HeldBlock b b') where
  low_same : (i : ℕ) → i < 12 → word b' i ≡ word b i
  low_same i h = held.same i (λ e. omega arith) (λ e. omega arith)

  range_held : (size cells : ℕ) → InRange size cells b → InRange size cells b'
  range_held size cells r =
      omega (
        arith,
        low_same 0 (omega arith),
        low_same 1 (omega arith),
        low_same 3 (omega arith),
        low_same 5 (omega arith),
        low_same 6 (omega arith),
        low_same 7 (omega arith),
        low_same 8 (omega arith),
        low_same 9 (omega arith),
        low_same 10 (omega arith),
      )

  ring_held : (cells : ℕ) (times : List ℕ) → Ring cells b times → Ring cells b' times
  ring_held cells times r =
      let s = low_same 9 (omega arith) in
      record {
        room = let l = held.room in let l' = r.room in omega arith;
        start = rw s r.start;
        count = low_same 10 (omega arith) ∙ r.count;
        fits = r.fits;
        at = λ i h. rw s (held.same _ (λ e. omega arith) (λ e. omega arith) ∙ r.at i h);
      }

  own_held : (φ : Formula) (L : Log) (g : ℕ) → Own φ L g b → Own φ L g b'
  own_held (letter k) L g o = low_same 0 (omega arith) ∙ o
  own_held (not φ) L g o = low_same 0 (omega arith) ∙ o
  own_held (or φ ψ) L g o = low_same 0 (omega arith) ∙ o
  own_held (previous low high φ) L g o = (low_same 5 (omega arith) ∙ o.0, low_same 0 (omega arith) ∙ o.1)
  own_held (next low high φ) L g o = (low_same 5 (omega arith) ∙ o.0, rw (low_same 0 (omega arith)) o.1)
  own_held (since low high φ ψ) L g o =
      record {
        at = low_same 0 (omega arith) ∙ o.at;
        times = o.times;
        ring = ring_held _ _ o.ring;
        alive = o.alive;
      }
  own_held (until low high φ ψ) L g o = (
    low_same 5 (omega arith) ∙ o.0,
    rw (low_same 0 (omega arith), low_same 6 (omega arith), low_same 7 (omega arith), low_same 8 (omega arith)) o.1,
  )

  buffers_held : (φ : Formula) (L : Log) → Buffers φ L b → Buffers φ L b'
  buffers_held (letter k) L s = tt
  buffers_held (not φ) L s = rw (low_same 0 (omega arith), low_same 3 (omega arith), low_same 4 (omega arith)) s
  buffers_held (or φ ψ) L s =
      rw (low_same 0 (omega arith), low_same 1 (omega arith), low_same 2 (omega arith), low_same 3 (omega arith), low_same 4 (omega arith)) s
  buffers_held (previous low high φ) L s = rw (low_same 0 (omega arith), low_same 3 (omega arith), low_same 4 (omega arith)) s
  buffers_held (next low high φ) L s = rw (low_same 0 (omega arith), low_same 3 (omega arith), low_same 4 (omega arith)) s
  buffers_held (since low high φ ψ) L s =
      rw (low_same 0 (omega arith), low_same 1 (omega arith), low_same 2 (omega arith), low_same 3 (omega arith), low_same 4 (omega arith)) s
  buffers_held (until low high φ ψ) L s =
      rw (low_same 0 (omega arith), low_same 1 (omega arith), low_same 2 (omega arith), low_same 3 (omega arith), low_same 4 (omega arith)) s

  pub ready_held : (φ : Formula) (L : Log) (g : ℕ) → Ready φ L g b → Ready φ L g b'
  ready_held φ L g r =
      record {
        core = record {
          reached = r.core.reached;
          range = range_held _ _ r.core.range;
          own = own_held φ L g r.core.own;
          heads = heads_same φ L g b b' (low_same 0 (omega arith)) (low_same 11 (omega arith)) (held.same 16 (λ e. omega arith) (λ e. omega arith)) r.core.heads;
        };
        buffers = buffers_held φ L r.buffers;
      }

-- ALL WORDS OF A SUBFORMULA

-- the words before and after something was written to words 12 and 13 of the block that stands `at` them
pub record HeldWords (at : ℕ) (ws ws' : List ℕ) : Type 0 where
  pub room : length ws ≤ length ws'
  pub same : (i : ℕ) → (i ≡ at + 12 → ⊥) → (i ≡ at + 13 → ⊥) → get_or ws' i 0 ≡ get_or ws i 0

pub held_refl : (at : ℕ) (ws : List ℕ) → HeldWords at ws ws
held_refl at ws = record { room = omega arith; same = λ i h h'. refl }

pub held_trans : (at : ℕ) (ws ws' ws'' : List ℕ) → HeldWords at ws ws' → HeldWords at ws' ws'' → HeldWords at ws ws''
held_trans at ws ws' ws'' x y =
    record {
      room = let a = x.room in let b = y.room in omega arith;
      same = λ i h h'. y.same i h h' ∙ x.same i h h';
    }

-- a store to one of the two words
pub held_set : (at i v : ℕ) (ws : List ℕ) → (i ≡ at + 12) ⊎ (i ≡ at + 13) → HeldWords at ws (set ws i v)
held_set at i v ws is =
    record {
      room = omega (arith, length-set ws i v);
      same = λ j h h'. get_or-set_other ws i j v 0 (⊎_elim (λ e f. h (f ∙ e)) (λ e f. h' (f ∙ e)) is);
    }

-- a part that has the same words
abbrev pub SamePart : List ℕ → List ℕ → Type 0
SamePart us us' = (length us ≤ length us') × ((i : ℕ) → get_or us' i 0 ≡ get_or us i 0)

same_held : (at : ℕ) (us us' : List ℕ) → SamePart us us' → HeldWords at us us'
same_held at us us' same = record { room = same.0; same = λ i h h'. same.1 i }

-- a part of the words
module _ (from size : ℕ) (ws ws' : List ℕ) (room : length ws ≤ length ws') where
  part_room : length (take size (drop from ws)) ≤ length (take size (drop from ws'))
  part_room = omega (arith, length-take size (drop from ws), length-take size (drop from ws'), length-drop from ws, length-drop from ws')

  -- its word i is the same if that word of the whole is
  part_word : (i : ℕ) → (i < size → get_or ws' (from + i) 0 ≡ get_or ws (from + i) 0) →
      get_or (take size (drop from ws')) i 0 ≡ get_or (take size (drop from ws)) i 0
  part_word i same =
      ⊎_elim
      (λ (h : size ≤ i). get_or-eq_default (take size (drop from ws')) 0 {n = i} (omega (arith, length-take size (drop from ws'))) ∙
      sym (get_or-eq_default (take size (drop from ws)) 0 {n = i} (omega (arith, length-take size (drop from ws)))))
      (λ (h : i < size). get_or-take size (drop from ws') i 0 h ∙ get_or-drop from ws' i 0 ∙ same h ∙
      sym (get_or-take size (drop from ws) i 0 h ∙ get_or-drop from ws i 0))
      (le_or_lt size i)

-- one that ends before the two words, or begins behind them
pub part_beside : (at from size : ℕ) (ws ws' : List ℕ) → (from + size ≤ at + 12) ⊎ (at + 14 ≤ from) → HeldWords at ws ws' →
    SamePart (take size (drop from ws)) (take size (drop from ws'))
part_beside at from size ws ws' apart held = (
  part_room from size ws ws' held.room,
  λ i. part_word from size ws ws' held.room i (λ h.
      held.same (from + i) (λ e. ⊎_elim (λ a. omega arith) (λ a. omega arith) apart) (λ e. ⊎_elim (λ a. omega arith) (λ a. omega arith) apart)),
)

-- one that has them
pub held_part : (at from size : ℕ) (ws ws' : List ℕ) → HeldWords (from + at) ws ws' →
    HeldWords at (take size (drop from ws)) (take size (drop from ws'))
held_part at from size ws ws' held =
    record {
      room = part_room from size ws ws' held.room;
      same = λ i h h'. part_word from size ws ws' held.room i (λ l. held.same (from + i) (λ e. h (omega arith)) (λ e. h' (omega arith)));
    }

block_held : (at : ℕ) (ws ws' : List ℕ) → HeldWords at ws ws' → HeldBlock (drop at ws) (drop at ws')
block_held at ws ws' held =
    record {
      room = let r = held.room in omega (arith, length-drop at ws, length-drop at ws');
      same = λ i h h'.
          get_or-drop at ws' i 0 ∙ held.same (at + i) (λ e. h (omega arith)) (λ e. h' (omega arith)) ∙ sym (get_or-drop at ws i 0);
    }

parts_held : (φ : Formula) (L : Log) (g : ℕ) (Left Right : ℕ → List ℕ → Type 0) (a c : ℕ) (ws ws' : List ℕ) → HeldWords (a + c) ws ws' →
    ((p : ℕ) (us us' : List ℕ) → SamePart us us' → Left p us → Left p us') →
    ((p : ℕ) (us us' : List ℕ) → SamePart us us' → Right p us → Right p us') →
    Parts (Ready φ L g) Left Right a c ws → Parts (Ready φ L g) Left Right a c ws'
parts_held φ L g Left Right a c ws ws' held left right s =
    let h = block_held (a + c) ws ws' held in
    let b = drop (a + c) ws in
    let b' = drop (a + c) ws' in
    record {
      own = ready_held b b' h φ L g s.own;
      left =
          left _ (take a ws) (take a ws') (part_beside (a + c) 0 a ws ws' (inl (omega arith)) held)
          (rw (low_same b b' h 0 (omega arith), low_same b b' h 1 (omega arith)) s.left);
      right =
          right _ (take c (drop a ws)) (take c (drop a ws')) (part_beside (a + c) a c ws ws' (inl (omega arith)) held)
          (rw (low_same b b' h 0 (omega arith), low_same b b' h 3 (omega arith)) s.right);
    }

absent_held : (p : ℕ) (us us' : List ℕ) → SamePart us us' → Absent p us → Absent p us'
absent_held p us us' same x = x

-- THEOREM: whatever words 12 and 13 of the formula's own block hold, the words stand for the formula where they stood before.
pub held_state : (φ : Formula) (L : Log) (g : ℕ) (ws ws' : List ℕ) → HeldWords (own_at φ) ws ws' → State φ L g ws → State φ L g ws'
unfolding State
held_state (letter k) L g ws ws' held s = parts_held (letter k) L g Absent Absent 0 0 ws ws' held absent_held absent_held s
held_state (not φ) L g ws ws' held s =
    parts_held (not φ) L g Absent (State φ L) 0 (needed_words φ) ws ws' held absent_held
    (λ p us us' same. held_state φ L p us us' (same_held (own_at φ) us us' same)) s
held_state (or φ ψ) L g ws ws' held s =
    parts_held (or φ ψ) L g (State φ L) (State ψ L) (needed_words φ) (needed_words ψ) ws ws' held
    (λ p us us' same. held_state φ L p us us' (same_held (own_at φ) us us' same))
    (λ p us us' same. held_state ψ L p us us' (same_held (own_at ψ) us us' same)) s
held_state (previous low high φ) L g ws ws' held s =
    parts_held (previous low high φ) L g Absent (State φ L) 0 (needed_words φ) ws ws' held absent_held
    (λ p us us' same. held_state φ L p us us' (same_held (own_at φ) us us' same)) s
held_state (next low high φ) L g ws ws' held s =
    parts_held (next low high φ) L g Absent (State φ L) 0 (needed_words φ) ws ws' held absent_held
    (λ p us us' same. held_state φ L p us us' (same_held (own_at φ) us us' same)) s
held_state (since low high φ ψ) L g ws ws' held s =
    parts_held (since low high φ ψ) L g (State φ L) (State ψ L) (needed_words φ) (needed_words ψ) ws ws' held
    (λ p us us' same. held_state φ L p us us' (same_held (own_at φ) us us' same))
    (λ p us us' same. held_state ψ L p us us' (same_held (own_at ψ) us us' same)) s
held_state (until low high φ ψ) L g ws ws' held s =
    parts_held (until low high φ ψ) L g (State φ L) (State ψ L) (needed_words φ) (needed_words ψ) ws ws' held
    (λ p us us' same. held_state φ L p us us' (same_held (own_at φ) us us' same))
    (λ p us us' same. held_state ψ L p us us' (same_held (own_at ψ) us us' same)) s

pub state_held : (φ : Formula) (L : Log) (g : ℕ) (ws ws' : List ℕ) → length ws ≤ length ws' →
    ((i : ℕ) → (i ≡ own_at φ + 12 → ⊥) → (i ≡ own_at φ + 13 → ⊥) → get_or ws' i 0 ≡ get_or ws i 0) →
    State φ L g ws → State φ L g ws'
state_held φ L g ws ws' room same = held_state φ L g ws ws' (record { room = room; same = same })

-- NO HEAD GOES BACK

parts_same : (Left Right : List ℕ → List ℕ → Type 0) (a c : ℕ) (ws ws' : List ℕ) → SamePart ws ws' →
    ((us us' : List ℕ) → SamePart us us' → Left us us') → ((us us' : List ℕ) → SamePart us us' → Right us us') → OnwardParts 12 Left Right a c ws ws'
parts_same Left Right a c ws ws' same left right =
    let held = same_held (a + c) ws ws' same in
    let at : (i : ℕ) → word (drop (a + c) ws') i ≡ word (drop (a + c) ws) i =
    λ i. get_or-drop (a + c) ws' i 0 ∙ same.1 (a + c + i) ∙ sym (get_or-drop (a + c) ws i 0) in
    record {
      own = still (drop (a + c) ws) (drop (a + c) ws') (at 0) (at 5) (at 11) (λ i h l. at i);
      left = left _ _ (part_beside (a + c) 0 a ws ws' (inl (omega arith)) held);
      right = right _ _ (part_beside (a + c) a c ws ws' (inl (omega arith)) held);
    }

none_same : (us us' : List ℕ) → SamePart us us' → OnwardNone us us'
none_same us us' same = tt

-- the same words
all_same : (φ : Formula) (ws ws' : List ℕ) → SamePart ws ws' → OnwardAll φ ws ws'
unfolding OnwardAll
all_same (letter k) ws ws' same = parts_same OnwardNone OnwardNone 0 0 ws ws' same none_same none_same
all_same (not φ) ws ws' same = parts_same OnwardNone (OnwardAll φ) 0 (needed_words φ) ws ws' same none_same (all_same φ)
all_same (or φ ψ) ws ws' same = parts_same (OnwardAll φ) (OnwardAll ψ) (needed_words φ) (needed_words ψ) ws ws' same (all_same φ) (all_same ψ)
all_same (previous low high φ) ws ws' same = parts_same OnwardNone (OnwardAll φ) 0 (needed_words φ) ws ws' same none_same (all_same φ)
all_same (next low high φ) ws ws' same = parts_same OnwardNone (OnwardAll φ) 0 (needed_words φ) ws ws' same none_same (all_same φ)
all_same (since low high φ ψ) ws ws' same = parts_same (OnwardAll φ) (OnwardAll ψ) (needed_words φ) (needed_words ψ) ws ws' same (all_same φ) (all_same ψ)
all_same (until low high φ ψ) ws ws' same = parts_same (OnwardAll φ) (OnwardAll ψ) (needed_words φ) (needed_words ψ) ws ws' same (all_same φ) (all_same ψ)

operand_same : (b : Bool) (φ : Formula) (us us' : List ℕ) → SamePart us us' → OnwardOperand b φ us us'
operand_same true φ us us' same = all_same φ us us' same
operand_same false φ us us' same = tt

-- THEOREM: whatever is written to words 12 and 13 of the formula's own block, no head goes back in any block, words 14 and 15 of every
-- block are kept, and all four of every other block.
pub formula_held : (φ : Formula) (ws ws' : List ℕ) → HeldWords (own_at φ) ws ws' → OnwardFormula φ ws ws'
formula_held φ ws ws' held =
    let a = left_words φ in
    let c = right_words φ in
    let b = drop (a + c) ws in
    let b' = drop (a + c) ws' in
    let block = block_held (a + c) ws ws' held in
    record {
      own = still b b' (low_same b b' block 0 (omega arith)) (low_same b b' block 5 (omega arith)) (low_same b b' block 11 (omega arith)) (λ i h l. block.same i (λ e. omega arith) (λ e. omega arith));
      left = operand_same (has_left φ) (left_of φ) (take a ws) (take a ws') (part_beside (a + c) 0 a ws ws' (inl (omega arith)) held);
      right =
          operand_same (has_right φ) (right_of φ) (take c (drop a ws)) (take c (drop a ws')) (part_beside (a + c) a c ws ws' (inl (omega arith)) held);
    }
