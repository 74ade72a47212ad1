-- The formulas of an accepted rule: they are its entries, at most as many as its version allows, and where each stands in the words.
-- Assumes nothing.
use Prim.Native.Nat.{ℕ, ◌+◌, ◌≤◌, ◌<◌}
use mathlib.Core.Bool.{Bool, true, false, cond}
use mathlib.Core.Path.{◌≡◌, sym, ap, subst, ◌∙◌}
use mathlib.Core.List.{List}
use mathlib.Core.Option.{some}
use native.Mathlib.Omega.{arith}
use lib.Dec.{eqb}
use lib.ListN.{length, take, drop}
use lib.Seq.{drop-drop}
use Rattle.mtl.specs.Formula.{Formula}
use Rattle.rule.specs.declared.Entry.{Entry}
use Rattle.rule.specs.declared.measuring.Ends.{Ends}
use Rattle.rule.specs.Entries.{version, count, decoded}
use Rattle.rule.specs.Postfix.{most_formulas, formulas, formulas_or, formula}
use Rattle.rule.specs.Refusal.{refusal}
use Rattle.rule.specs.Accepted.{WellFormed, Whole}
use Rattle.rule.specs.Contract.{EndsOf}
use Rattle.rule.proofs.Acceptance.{accepted}
use Rattle.blocks.specs.Block.{word}
use Rattle.engine.specs.State.{needed_words, words_before, own_at, formula_words}
use Rattle.engine.specs.Tops.{Ended}
use Rattle.engine.proofs.Formulas.{last_entry, own_offset}
use Rattle.engine.proofs.Held.{own_block}
use Rattle.checkpoint.specs.Checkpoint.{block_at}
use Rattle.meaning.specs.Verdicts.{formulas_of, columns}
use Rattle.held.specs.Top.{top_count, part_of}
use Rattle.held.proofs.Places.{part_word}

-- a rule of either version may have a formula, and none has more than eight
most_by : (b : Bool) → (1 ≤ cond b 1 8) × (cond b 1 8 ≤ 8)
most_by true = omega arith
most_by false = omega arith

pub most_few : (version : ℕ) → (1 ≤ most_formulas version) × (most_formulas version ≤ 8)
most_few version = most_by (eqb version 1)

module _ (rule : List ℕ) (fine : refusal rule ≡ 0) where
  pub rule_reads : formulas (version rule) (decoded rule) (count rule) ≡ some (formulas_of rule)
  rule_reads = let reads = (accepted rule fine).reads in reads ∙ ap some (sym (ap formulas_or reads))

  -- an accepted rule's entries are its formulas
  pub rule_whole : Whole (decoded rule) (count rule) (formulas_of rule)
  rule_whole =
      let a = accepted rule fine in
      subst (Whole (decoded rule) (count rule)) (sym (ap formulas_or a.reads)) a.whole

  pub few_formulas : length (formulas_of rule) ≤ most_formulas (version rule)
  few_formulas =
      let a = accepted rule fine in
      subst (λ (fs : List Formula). length fs ≤ most_formulas (version rule)) (sym (ap formulas_or a.reads)) a.not_more

  pub few_columns : columns (formulas_of rule) ≤ most_formulas (version rule)
  few_columns = omega (arith, few_formulas, most_few (version rule))

  -- where each of them ends
  pub rule_ended : (r : Ends) → EndsOf (decoded rule) (count rule) r → Ended (decoded rule) (count rule) r.at r.number (formulas_of rule)
  rule_ended r ends =
      record {
        whole = rule_whole;
        number = ends.number (version rule) (formulas_of rule) rule_reads;
        few = omega (arith, few_formulas, most_few (version rule));
        at = ends.at (version rule) (formulas_of rule) rule_reads;
      }

-- a formula's words, behind those of the checkpoint's own
pub part_is : (base : ℕ) (fs : List Formula) (k : ℕ) (ws : List ℕ) → part_of base fs k ws ≡ formula_words fs k (drop base ws)
part_is base fs k ws = ap (take (needed_words (formula fs k))) (sym (drop-drop (words_before fs k) base ws))

-- how many answers formula k holds is word 12 of its last entry's block
pub held_word : (base : ℕ) (t : List Entry) (n : ℕ) → WellFormed t n → (fs : List Formula) → Whole t n fs → (k : ℕ) → k < length fs → (ws : List ℕ) →
    top_count (formula fs k) (part_of base fs k ws) ≡ word ws (block_at base t (last_entry fs k) + 12)
held_word base t n ok fs whole k h ws =
    let φ = formula fs k in
    let at : base + words_before fs k + (own_at φ + 12) ≡ block_at base t (last_entry fs k) + 12 =
    omega (arith, own_offset t n ok fs whole k h) in
    part_word base fs k ws (own_at φ + 12) (omega (arith, own_block φ)) ∙ ap (word ws) at
