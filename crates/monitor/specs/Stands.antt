-- A checkpoint stands for a rule, the log that it has seen, and the number of verdicts given. What the inside of a checkpoint means
-- is said here, in emit's Top and in the engine alone.
use Rattle.std.specs.Prelude.{ℕ, suc, ◌+◌, ◌≤◌, ◌<◌, ◌^◌, true, false, cond, ◌≡◌, List, ◌⊎◌, length, take}
use Rattle.mtl.specs.Log.{Log, Placed}
use Rattle.mtl.specs.Wanted.{wanted, wanted_record}
use Rattle.verdicts.specs.Counts.{noes_in}
use Rattle.rule.specs.Entries.{version, count, decoded}
use Rattle.rule.specs.Postfix.{most_formulas, start}
use Rattle.rule.specs.Words.{header_words}
use Rattle.blocks.specs.Block.{word}
use Rattle.checkpoint.specs.Checkpoint.{seen, last, closed_with, log_kind, first_wanted, no_count, after_latest, stored_noes, need, block_at, foreign, kind_in_range}
use Rattle.meaning.specs.Verdicts.{formulas_of, columns, verdicts}
use Rattle.held.specs.Top.{Top}

-- what no verdict needs and refusal 11 alone looks at: of n records seen, the words that a call has left are in range
pub record WordsInRange (rule : List ℕ) (n : ℕ) (p : List ℕ) : Type 0 where
  pub few : n ≤ 1000000
  pub fits : last p < 2 ^ 32
  pub kind : kind_in_range (log_kind p) n (closed_with p) ≡ true
  -- where the rule has no formula k, both words of its counts are 0
  pub unused : (k : ℕ) → columns (formulas_of rule) ≤ k → k < most_formulas (version rule) →
      (no_count p k ≡ 0) × (after_latest (most_formulas (version rule)) p k ≡ 0)
  -- an entry is a formula's last, or holds no answers
  pub spare : (j : ℕ) → j < count rule →
      ((k : ℕ) × (k < length (formulas_of rule)) × (suc j ≡ start (formulas_of rule) (suc k))) ⊎
      (word p (block_at (header_words (version rule)) (decoded rule) j + 12) ≡ 0)

-- the checkpoint's words stand for the rule, which they have a copy of, the n records that were seen, the log that they are, closed or
-- open, and d verdicts given
pub record Stands (rule : List ℕ) (L : Log) (n d : ℕ) (p : List ℕ) : Type 0 where
  pub enough : need rule ≤ length p
  pub own : foreign (version rule) (decoded rule) (count rule) p ≡ false
  pub size : seen p ≡ n
  pub placed : Placed L n
  pub closed : closed_with p ≡ cond L.closed (suc n) 0
  pub wanted : first_wanted p ≡ wanted_record L n (wanted (formulas_of rule) d)
  pub top : Top (header_words (version rule)) (formulas_of rule) L d (take (need rule) p)
  -- of the verdicts given, for each formula
  pub noes : (k : ℕ) → k < columns (formulas_of rule) → stored_noes (most_formulas (version rule)) p k ≡ noes_in k (verdicts (formulas_of rule) L d) d
  pub in_range : WordsInRange rule n p
