-- Words that are kept: those of a formula's own block that no operator writes, and those of a part. Assumes nothing.
use Prim.Native.Nat.{ℕ, ◌+◌, ◌≤◌, ◌<◌}
use mathlib.Core.Path.{◌≡◌, sym, ◌∙◌}
use mathlib.Core.List.{List}
use native.Mathlib.Omega.{arith}
use lib.ListN.{length, take, drop, length-take, length-drop}
use lib.Seq.{get_or-take, get_or-drop, ext_get_or}
use Rattle.mtl.specs.Formula.{Formula}
use Rattle.blocks.specs.Block.{word}
use Rattle.engine.specs.State.{own_at, OnwardAll}
use Rattle.engine.proofs.Onward.{all_own}

-- words 12 to 15 of its own block, where the engine keeps them
pub kept_own : (φ : Formula) (ws ws' : List ℕ) → OnwardAll φ ws ws' → (i : ℕ) → 12 ≤ i → i < 16 → word ws' (own_at φ + i) ≡ word ws (own_at φ + i)
kept_own φ ws ws' s i l h = sym (get_or-drop (own_at φ) ws' i 0) ∙ (all_own φ ws ws' s).kept i l h ∙ get_or-drop (own_at φ) ws i 0

-- a part of words that are the same there
pub same_part : (a n : ℕ) (ws ws' : List ℕ) → length ws' ≡ length ws → ((i : ℕ) → a ≤ i → i < a + n → word ws' i ≡ word ws i) →
    take n (drop a ws') ≡ take n (drop a ws)
same_part a n ws ws' long same =
    let l = length-take n (drop a ws) in
    let l' = length-take n (drop a ws') in
    let m = length-drop a ws in
    let m' = length-drop a ws' in
    ext_get_or 0 (take n (drop a ws')) (take n (drop a ws)) (omega arith)
    (λ i h.
    get_or-take n (drop a ws') i 0 (omega arith) ∙ get_or-drop a ws' i 0 ∙ same (a + i) (omega arith) (omega arith) ∙
    sym (get_or-drop a ws i 0) ∙ sym (get_or-take n (drop a ws) i 0 (omega arith)))
