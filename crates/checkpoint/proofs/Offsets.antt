-- Where the blocks of a rule's entries stand, and how many words each has.
use Prim.Native.Nat.{ℕ, zero-le, ◌+◌, ◌-◌, ◌≤◌, ◌<◌}
use native.Mathlib.Numerals.{add-one}
use native.Mathlib.Omega.{arith}
use mathlib.Core.Bool.{Bool, true, false, cond, ◌||◌}
use mathlib.Core.Path.{◌≡◌, refl, ap, ◌∙◌}
use mathlib.Core.List.{List}
use lib.Dec.{eqb}
use lib.ListN.{drop}
use lib.Seq.{get_or-drop}
use borrow.Author.Tests.{eq-eqb}
use Rattle.mtl.specs.Satisfaction.{any}
use Rattle.rule.specs.declared.Entry.{Entry}
use Rattle.rule.specs.Entries.{entry}
use Rattle.rule.specs.Words.{own, header_words, offset}
use Rattle.rule.specs.Postfix.{most_formulas}
use Rattle.rule.proofs.Spans.{own_least, offset_mono}
use Rattle.blocks.specs.Block.{word, cells_of}
use Rattle.checkpoint.specs.Checkpoint.{block_at}

-- behind the 16 words of a since stand its ring's cells
pub since_cells : (e : Entry) → e.kind ≡ 5 → own e - 16 ≡ cells_of e.kind e.high
since_cells e h = rw (eq-eqb e.kind 5 h) (omega arith)

-- behind those of an until stand words for both its heads
pub until_words : (e : Entry) → e.kind ≡ 6 → 18 ≤ own e
until_words e h = rw h (omega arith)

-- a word of the block of entry k
pub in_block : (base : ℕ) (t : List Entry) (ws : List ℕ) (k i : ℕ) → word (drop (offset t k) (drop base ws)) i ≡ word ws (block_at base t k + i)
in_block base t ws k i =
    get_or-drop (offset t k) (drop base ws) i 0 ∙ get_or-drop base ws (offset t k + i) 0 ∙ ap (word ws) (omega arith)

-- the counts of no and the latest of each formula lie among the checkpoint's own words
pub noes_within : (version : ℕ) → 8 + most_formulas version + most_formulas version ≤ header_words version
noes_within version = go (eqb version 1)
  where
    go : (b : Bool) → 8 + cond b 1 8 + cond b 1 8 ≤ cond b 16 24
    go true = omega arith
    go false = omega arith

module _ (base : ℕ) (t : List Entry) where
  offset_more : (k : ℕ) → offset t (k + 1) ≡ offset t k + own (entry t k)
  unfolding offset
  offset_more k = ap (offset t) (add-one k)

  -- a block begins where the one before it ends
  block_next : (k : ℕ) → block_at base t k + own (entry t k) ≡ block_at base t (k + 1)
  block_next k = omega (arith, offset_more k)

  -- the words of each entry lie among those of all
  pub block_within : (n k : ℕ) → k < n → block_at base t k + own (entry t k) ≤ block_at base t n
  block_within n k h = omega (arith, block_next k, offset_mono t (k + 1) n (omega arith))

  pub block_fits : (n k : ℕ) → k < n → block_at base t k + 16 ≤ block_at base t n
  block_fits n k h = omega (arith, block_within n k h, own_least (entry t k).kind (entry t k).high)

-- a walk over the first n blocks has come to block k, which begins at `at`
pub record Walk (base : ℕ) (t : List Entry) (n at k : ℕ) : Type 0 where
  pub most : k ≤ n
  pub begins : at ≡ block_at base t k

pub walk_start : (base : ℕ) (t : List Entry) (n : ℕ) → Walk base t n base 0
unfolding offset
walk_start base t n = record { most = zero-le; begins = omega arith }

module _ {base : ℕ} {t : List Entry} {n at k : ℕ} (walk : Walk base t n at k) (here : k < n) where
  -- the block at hand lies within the words
  pub walk_room : at + 16 ≤ block_at base t n
  walk_room = rw walk.begins (block_fits base t n k here)

  -- and so do all of its own words, behind which the walk goes on
  pub walk_on : (own_words : ℕ) → own_words ≡ own (entry t k) →
      Walk base t n (at + own_words) (k + 1) × (at + own_words ≤ block_at base t n)
  walk_on w e = (
    record { most = omega arith; begins = rw (e, walk.begins) (block_next base t k) },
    rw (e, walk.begins) (block_within base t n k here),
  )

-- a walk that does not go on has passed all of them
pub walk_ends : {base : ℕ} {t : List Entry} {n at k : ℕ} → Walk base t n at k → (k < n → ⊥) → k ≡ n
walk_ends walk h = let most_formulas = walk.most in omega arith

pub any_more : (n : ℕ) (p : ℕ → Bool) → any (n + 1) p ≡ any n p || p n
unfolding any
any_more n p = rw add-one refl
