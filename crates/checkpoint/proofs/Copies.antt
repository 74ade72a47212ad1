-- The words of a fresh checkpoint, once the entries' copies are written, and the words that refusal 10 looks at.
use Prim.Native.Nat.{ℕ, zero, suc, ◌+◌, ◌≤◌, ◌<◌}
use native.Mathlib.Nat.{not-suc-le-zero}
use native.Mathlib.Numerals.{add-one}
use native.Mathlib.Omega.{arith}
use mathlib.Core.Bool.{false}
use mathlib.Core.Logic.{⊎_elim}
use mathlib.Core.Path.{◌≡◌, refl, ap, subst, ◌∙◌}
use mathlib.Core.List.{List}
use lib.ListN.{length, set, replicate, length-set, length-replicate, get_or-replicate}
use lib.Seq.{get_or-set_same, get_or-set_other}
use borrow.Author.Tests.{eq-eqb}
use Rattle.mtl.proofs.Bounded.{le_or_lt, any_congr, any_false_iff}
use Rattle.rule.specs.declared.Entry.{Entry}
use Rattle.rule.specs.Entries.{entry}
use Rattle.rule.specs.Words.{own, header_words, words}
use Rattle.rule.proofs.Spans.{header_least, own_least, offset_mono}
use Rattle.blocks.specs.Block.{word}
use Rattle.checkpoint.specs.Checkpoint.{format, copy_start, block_at, copy_head, copy_ends, copy_differs, foreign}
use Rattle.checkpoint.specs.Fresh.{Fresh, copies}
use Rattle.checkpoint.proofs.Offsets.{until_words, block_within, block_fits}

-- an entry's copy, written into the block that begins at `at`
abbrev stored : (b : List ℕ) (at : ℕ) (e : Entry) → List ℕ
stored b at e = set (set b (at + 14) (copy_head e)) (at + 15) (copy_ends e)

module _ (b : List ℕ) (at : ℕ) (e : Entry) where
  stored_keeps : (i : ℕ) → (i ≡ at + 14 → ⊥) → (i ≡ at + 15 → ⊥) → word (stored b at e) i ≡ word b i
  stored_keeps i h h' =
      get_or-set_other (set b (at + 14) (copy_head e)) (at + 15) i (copy_ends e) 0 h' ∙ get_or-set_other b (at + 14) i (copy_head e) 0 h

  stored_head : at + 16 ≤ length b → word (stored b at e) (at + 14) ≡ copy_head e
  stored_head room =
      get_or-set_other (set b (at + 14) (copy_head e)) (at + 15) (at + 14) (copy_ends e) 0 (omega arith) ∙
      get_or-set_same b (at + 14) (copy_head e) 0 (omega arith)

  stored_ends : at + 16 ≤ length b → word (stored b at e) (at + 15) ≡ copy_ends e
  stored_ends room =
      let l = length-set b (at + 14) (copy_head e) in get_or-set_same (set b (at + 14) (copy_head e)) (at + 15) (copy_ends e) 0 (omega arith)

module _ (base : ℕ) (t : List Entry) (ws : List ℕ) where
  pub copies_more : (n : ℕ) → copies base t (n + 1) ws ≡ stored (copies base t n ws) (block_at base t n) (entry t n)
  unfolding copies
  copies_more n = ap (λ (m : ℕ). copies base t m ws) (add-one n)

  pub copies_length : (n : ℕ) → length (copies base t n ws) ≡ length ws
  unfolding copies
  copies_length zero = refl
  copies_length (suc n) = simp length-set (copies_length n)

  -- a word that is in no copy is kept
  copies_keep : (n i : ℕ) → ((k : ℕ) → k < n → (i ≡ block_at base t k + 14 → ⊥) × (i ≡ block_at base t k + 15 → ⊥)) →
      word (copies base t n ws) i ≡ word ws i
  unfolding copies
  copies_keep zero i out = refl
  copies_keep (suc n) i out =
      let o = out n (omega arith) in
      stored_keeps (copies base t n ws) (block_at base t n) (entry t n) i o.0 o.1 ∙ copies_keep n i (λ k l. out k (omega arith))

  -- word j of a block is what a store of its entry's copy makes it: a later entry's copy stands behind the block
  copies_has : (j : ℕ) → j < 16 → (value : Entry → ℕ) →
      ((b : List ℕ) (at : ℕ) (e : Entry) → at + 16 ≤ length b → word (stored b at e) (at + j) ≡ value e) →
      (n k : ℕ) → k < n → block_at base t n ≤ length ws → word (copies base t n ws) (block_at base t k + j) ≡ value (entry t k)
  unfolding copies
  copies_has j inside value here zero k h room = absurd (not-suc-le-zero h)
  copies_has j inside value here (suc n) k h room =
      let b = copies base t n ws in
      ⊎_elim
      (λ (l : n ≤ k).
      let same : n ≡ k = omega arith in
      subst (λ (x : ℕ). word (stored b (block_at base t n) (entry t n)) (block_at base t x + j) ≡ value (entry t x)) same
      (here b (block_at base t n) (entry t n) (omega (arith, block_fits base t (suc n) n (omega arith), copies_length n))))
      (λ (l : k < n).
      let f = block_fits base t n k l in
      stored_keeps b (block_at base t n) (entry t n) (block_at base t k + j) (omega arith) (omega arith) ∙
      copies_has j inside value here n k l (omega (arith, offset_mono t n (suc n) (omega arith))))
      (le_or_lt n k)

-- a word of a block is no other word of its own or of another's first 16
apart : (base : ℕ) (t : List Entry) (k k' i j : ℕ) → i < own (entry t k) → j < 16 → (i ≡ j → ⊥) → block_at base t k + i ≡ block_at base t k' + j → ⊥
apart base t k k' i j h l differ e =
    ⊎_elim
    (λ (a : k' ≤ k).
    ⊎_elim
    (λ (b : k ≤ k'). let s : block_at base t k ≡ block_at base t k' = ap (block_at base t) (omega arith) in differ (omega arith))
    (λ (b : k' < k). omega (arith, block_fits base t k k' b))
    (le_or_lt k k'))
    (λ (a : k < k'). omega (arith, block_within base t k' k a))
    (le_or_lt k' k)

module _ (version : ℕ) (t : List Entry) (n m : ℕ) (room : words version t n ≤ m) where
  abbrev base : ℕ
  base = header_words version

  abbrev headed : List ℕ
  headed = set (set (replicate m 0) 0 format) 4 (copy_start version n)

  headed_length : length headed ≡ m
  headed_length = simp (length-set, length-replicate)

  -- zeros, the format's number, the rule's version and number of entries, and the copies are a fresh checkpoint
  pub fresh_words : Fresh version t n (copies (header_words version) t n (set (set (replicate m 0) 0 format) 4 (copy_start version n)))
  fresh_words =
      let l = headed_length in
      let least = header_least version in
      let zero_word : ℕ = 0 in
      let z = length-replicate m zero_word in
      let s = length-set (replicate m 0) 0 format in
      let outside : (i : ℕ) → i < base → word (copies base t n headed) i ≡ word headed i =
      λ i h. copies_keep base t headed n i (λ k b. (omega arith, omega arith))
      in
      let zeros : (i : ℕ) → (i ≡ 0 → ⊥) → (i ≡ 4 → ⊥) → i < m → word headed i ≡ 0 =
      λ i h h' b. get_or-set_other (set (replicate m 0) 0 format) 4 i (copy_start version n) 0 h' ∙ get_or-set_other (replicate m 0) 0 i format 0 h ∙ get_or-replicate m i 0 0 b
      in
      let clear : (k i : ℕ) → k < n → i < own (entry t k) → (i ≡ 14 → ⊥) → (i ≡ 15 → ⊥) → word (copies base t n headed) (block_at base t k + i) ≡ 0 =
      λ k i h inside ne ne'.
      let b = block_within base t n k h in
      copies_keep base t headed n (block_at base t k + i) (λ k' l'. (apart base t k k' i 14 inside (omega arith) ne, apart base t k k' i 15 inside (omega arith) ne'))
      ∙ zeros (block_at base t k + i) (omega arith) (omega arith) (omega arith)
      in
      record {
        first_word =
            outside 0 (omega arith) ∙ get_or-set_other (set (replicate m 0) 0 format) 4 0 (copy_start version n) 0 (omega arith) ∙ get_or-set_same (replicate m 0) 0 format 0 (omega arith);
        start = outside 4 (omega arith) ∙ get_or-set_same (set (replicate m 0) 0 format) 4 (copy_start version n) 0 (omega arith);
        header = λ i h h' ne. outside i (omega arith) ∙ zeros i (omega arith) ne (omega arith);
        blocks = λ k h i h'. clear k i h (omega (arith, own_least (entry t k).kind (entry t k).high)) (omega arith) (omega arith);
        waiting = λ k h is. clear k 16 h (omega (arith, until_words (entry t k) is)) (omega arith) (omega arith);
        heads = λ k h. copies_has base t headed 14 (omega arith) copy_head stored_head n k h (omega arith);
        ends = λ k h. copies_has base t headed 15 (omega arith) copy_ends stored_ends n k h (omega arith);
      }

-- REFUSAL 10

-- a fresh checkpoint has its rule's copy
pub fresh_own : (version : ℕ) (t : List Entry) (n : ℕ) (ws : List ℕ) → Fresh version t n ws → foreign version t n ws ≡ false
fresh_own version t n ws f =
    rw (
      eq-eqb (word ws 0) format f.first_word,
      eq-eqb (word ws 4) (copy_start version n) f.start,
      (any_false_iff n (copy_differs (header_words version) t ws)).1 (λ k h. rw (eq-eqb _ _ (f.heads k h), eq-eqb _ _ (f.ends k h))),
    )

module _ (version : ℕ) (t : List Entry) (n : ℕ) (p q : List ℕ) where
  -- the number in the first word, the rule's version and number of entries, and their copies
  pub foreign_same : word p 0 ≡ word q 0 → word p 4 ≡ word q 4 →
      ((k i : ℕ) → k < n → 14 ≤ i → i < 16 →
      word p (block_at (header_words version) t k + i) ≡ word q (block_at (header_words version) t k + i)) →
      foreign version t n p ≡ foreign version t n q
  foreign_same first start copies =
      rw (
        first,
        start,
        any_congr n (copy_differs (header_words version) t p) (copy_differs (header_words version) t q)
            (λ k h. rw (copies k 14 h (omega arith) (omega arith), copies k 15 h (omega arith) (omega arith))),
      )

  -- they all lie in the words that the entries need
  pub foreign_within : ((i : ℕ) → i < words version t n → word p i ≡ word q i) → foreign version t n p ≡ foreign version t n q
  foreign_within same =
      let least = header_least version in
      foreign_same (same 0 (omega arith)) (same 4 (omega arith))
      (λ k i h l m. same (block_at (header_words version) t k + i) (omega (arith, block_fits (header_words version) t n k h)))
