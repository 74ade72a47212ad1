-- The point in the words that a call lends: it stands for the same wherever it is lent, and what a call leaves of it. Assumes nothing.
use Prim.Native.Nat.{ℕ, ◌+◌, ◌≤◌, ◌<◌}
use mathlib.Core.Path.{◌≡◌, sym, ◌∙◌, ap, ap₂, subst}
use mathlib.Core.Logic.{⊎_map}
use mathlib.Core.List.{List, ◌++◌, append-nil}
use native.Mathlib.Omega.{arith}
use lib.ListN.{length, get_or, take, drop, take-append-drop, drop_of_length-le}
use lib.Seq.{get_or-take, length-take-le, take_all}
use Rattle.mtl.specs.Log.{Log}
use Rattle.mtl.specs.Progress.{joint_progress}
use Rattle.rule.specs.Entries.{version, count, decoded}
use Rattle.rule.specs.Postfix.{most_formulas}
use Rattle.rule.specs.Words.{header_words}
use Rattle.rule.specs.Refusal.{refusal}
use Rattle.rule.proofs.Spans.{header_least}
use Rattle.blocks.specs.Block.{word}
use Rattle.checkpoint.specs.Checkpoint.{no_count, after_latest, need, block_at}
use Rattle.verdicts.specs.Counts.{latest_of}
use Rattle.checkpoint.proofs.Offsets.{block_fits, noes_within}
use Rattle.checkpoint.proofs.Copies.{foreign_within}
use Rattle.meaning.specs.Verdicts.{formulas_of}
use Rattle.held.specs.Top.{Top}
use Rattle.meaning.proofs.Laws.{joint_least}
use Rattle.monitor.specs.Stands.{Stands}
use Rattle.monitor.proofs.Meaning.{few_columns}
use Rattle.calls.specs.Calls.{Lends, point_after}

-- words that hold the point whole begin with it
pub lent_whole : (point p : List ℕ) → Lends point p → length point ≤ length p → take (length point) p ≡ point
lent_whole point p lends enough = lends ∙ take_all (length p) point enough

-- a call that changes nothing leaves the point
pub after_unchanged : (point p : List ℕ) → Lends point p → point_after point p ≡ point
after_unchanged point p lends = ap (λ ws. ws ++ drop (length p) point) lends ∙ take-append-drop (length p) point

-- of words that hold the point whole the first are the point
pub after_whole : (point p : List ℕ) → length point ≤ length p → point_after point p ≡ take (length point) p
after_whole point p enough =
    ap (λ ws. take (length point) p ++ ws) (drop_of_length-le point enough) ∙ append-nil (take (length point) p)

-- the first words of two lists
same_word : (m : ℕ) (p q : List ℕ) → take m p ≡ take m q → (i : ℕ) → i < m → word q i ≡ word p i
same_word m p q e i l = sym (get_or-take m q i 0 l) ∙ ap (λ ws. get_or ws i 0) (sym e) ∙ get_or-take m p i 0 l

-- the header's words are among those that a rule needs
pub same_header : (rule p q : List ℕ) → take (need rule) p ≡ take (need rule) q → (i : ℕ) → i < 16 → word q i ≡ word p i
same_header rule p q e i l = same_word (need rule) p q e i (omega (arith, header_least (version rule)))

-- the point's words are the first of those lent, and of those that it was taken out of
pub same_lent : (rule point p : List ℕ) → length point ≡ need rule → Lends point p → length point ≤ length p → take (need rule) point ≡ take (need rule) p
same_lent rule point p size lends enough =
    take_all (need rule) point (omega arith) ∙ sym (lent_whole point p lends enough) ∙ ap (λ k. take k p) size

pub same_alone : (rule p : List ℕ) → need rule ≤ length p → take (need rule) p ≡ take (need rule) (take (need rule) p)
same_alone rule p enough =
    let size = length-take-le (need rule) p enough in
    sym (take_all (need rule) (take (need rule) p) (omega arith))

module _ (rule : List ℕ) (fine : refusal rule ≡ 0) (K : Log) (n d : ℕ) where
  -- every verdict given is settled
  pub given_settled : (p : List ℕ) → Stands rule K n d p → d ≤ joint_progress (formulas_of rule) K
  given_settled p stands =
      joint_least (formulas_of rule) K d stands.top.within (λ k h. omega (arith, (stands.top.each k h).buffer.within))

  -- a checkpoint stands for what its need's words say
  pub stands_on : (p q : List ℕ) → take (need rule) p ≡ take (need rule) q → need rule ≤ length q → Stands rule K n d p → Stands rule K n d q
  stands_on p q e enough stands =
      record {
        enough = enough;
        own = foreign_within (version rule) (decoded rule) (count rule) q p same ∙ stands.own;
        size = header 2 (omega arith) ∙ stands.size;
        placed = stands.placed;
        closed = header 5 (omega arith) ∙ stands.closed;
        wanted = header 7 (omega arith) ∙ stands.wanted;
        top = subst (Top (header_words (version rule)) (formulas_of rule) K d) e stands.top;
        noes = λ k l. ap₂ (λ c a. record { count = c; latest = latest_of a }) (counted k (omega (arith, few_columns rule fine))) (latest k (omega (arith, few_columns rule fine))) ∙ stands.noes k l;
        in_range = record {
          few = stands.in_range.few;
          fits = omega (arith, header 3 (omega arith), stands.in_range.fits);
          kind = rw (header 5 (omega arith), header 6 (omega arith)) stands.in_range.kind;
          unused = λ k lo hi. let (count, after) = stands.in_range.unused k lo hi in (counted k hi ∙ count, latest k hi ∙ after);
          spare = λ j h. ⊎_map (λ last. last) (λ none. in_block j h ∙ none) (stands.in_range.spare j h);
        };
      }
    where
      same : (i : ℕ) → i < need rule → word q i ≡ word p i
      same i l = same_word (need rule) p q e i l

      header : (i : ℕ) → i < 16 → word q i ≡ word p i
      header = same_header rule p q e

      counted : (k : ℕ) → k < most_formulas (version rule) → no_count q k ≡ no_count p k
      counted k l = same (8 + k) (omega (arith, noes_within (version rule)))

      latest : (k : ℕ) → k < most_formulas (version rule) → after_latest (most_formulas (version rule)) q k ≡ after_latest (most_formulas (version rule)) p k
      latest k l = same (8 + most_formulas (version rule) + k) (omega (arith, noes_within (version rule)))

      in_block : (j : ℕ) → j < count rule → word q (block_at (header_words (version rule)) (decoded rule) j + 12) ≡ word p (block_at (header_words (version rule)) (decoded rule) j + 12)
      in_block j l =
          same (block_at (header_words (version rule)) (decoded rule) j + 12)
          (omega (arith, block_fits (header_words (version rule)) (decoded rule) (count rule) j l))
