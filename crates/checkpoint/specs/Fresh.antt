-- What a fresh checkpoint is, the promise of `fresh::write`, and the copies in it.
use Rattle.std.specs.Prelude.{ℕ, zero, suc, ◌+◌, ◌<◌, ◌≡◌, List, set}
use Rattle.rule.specs.declared.Entry.{Entry}
use Rattle.rule.specs.Entries.{entry}
use Rattle.rule.specs.Words.{header_words}
use Rattle.blocks.specs.Block.{word}
use Rattle.checkpoint.specs.Checkpoint.{format, copy_start, block_at, copy_head, copy_ends}

-- the words of a fresh checkpoint: nothing given, seen or held, and each entry's copy in its block
pub record Fresh (version : ℕ) (t : List Entry) (n : ℕ) (ws : List ℕ) : Type 0 where
  pub first_word : word ws 0 ≡ format
  pub start : word ws 4 ≡ copy_start version n
  pub header : (i : ℕ) → 0 < i → i < header_words version → (i ≡ 4 → ⊥) → word ws i ≡ 0
  pub blocks : (k : ℕ) → k < n → (i : ℕ) → i < 14 → word ws (block_at (header_words version) t k + i) ≡ 0
  pub waiting : (k : ℕ) → k < n → (entry t k).kind ≡ 6 → word ws (block_at (header_words version) t k + 16) ≡ 0
  pub heads : (k : ℕ) → k < n → word ws (block_at (header_words version) t k + 14) ≡ copy_head (entry t k)
  pub ends : (k : ℕ) → k < n → word ws (block_at (header_words version) t k + 15) ≡ copy_ends (entry t k)

-- the copies of the first n entries, written into their blocks, the first of which begins at `base`
unfoldable pub copies : (base : ℕ) → List Entry → ℕ → List ℕ → List ℕ
copies base t zero ws = ws
copies base t (suc n) ws =
    set (set (copies base t n ws) (block_at base t n + 14) (copy_head (entry t n))) (block_at base t n + 15) (copy_ends (entry t n))
