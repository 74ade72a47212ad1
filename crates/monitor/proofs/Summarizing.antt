-- What `summary`, `status` and `formulas` promise, by the outcome of their checks.
use Prim.Native.Nat.{ℕ, ◌+◌, ◌≤◌, ◌<◌, max}
use mathlib.Core.Path.{◌≡◌, ap, ◌∙◌}
use mathlib.Core.List.{List, ◌++◌}
use native.Mathlib.Omega.{arith}
use lib.Dec.{ltb}
use lib.ListN.{length, drop}
use borrow.Author.Tests.{eq-eqb, ne_eqb}
use Rattle.verdicts.specs.Counts.{Noes}
use Rattle.verdicts.proofs.Listed.{listed_same}
use Rattle.rule.specs.declared.Entry.{Entry}
use Rattle.rule.specs.declared.measuring.Ends.{Ends}
use Rattle.rule.specs.Entries.{version, count, decoded}
use Rattle.rule.specs.Postfix.{most_formulas}
use Rattle.rule.specs.Refusal.{refusal}
use Rattle.rule.specs.Contract.{EndsOf}
use Rattle.checkpoint.specs.Checkpoint.{given, seen, closed_with, first_wanted, stored_noes}
use Rattle.checks.specs.Refusal.{summary_refusal}
use Rattle.checks.proofs.Checks.{is_accepted, has_room}
use Rattle.checkpoint.proofs.Offsets.{noes_within}
use Rattle.meaning.specs.Verdicts.{formulas_of, columns}
use Rattle.monitor.specs.Summary.{position_or, no_position, counts_of, latest_words, TellsNoes, counted, refused_with, Summarizes}
use Rattle.monitor.specs.Status.{known}
use Rattle.monitor.specs.Status.{answer as standing_of}
use Rattle.monitor.specs.Formulas.{answer, formula_count}
use Rattle.std.specs.Prelude.{Ok, Err}
use Rattle.refusal.specs.declared.Refusal.{Refusal}
use Rattle.refusal.specs.Number.{number_of}
use Rattle.refusal.proofs.Numbers.{number_positive}
use Rattle.monitor.proofs.Meaning.{most_few, few_columns, rule_ended}

-- what is told of counts is told of the same counts
pub told_same : (n : ℕ) (x y : ℕ → Noes) (nos latest nos' latest' : List ℕ) → ((k : ℕ) → k < n → x k ≡ y k) → TellsNoes 0 n x nos latest nos' latest' →
    TellsNoes 0 n y nos latest nos' latest'
told_same n x y nos latest nos' latest' same (counts, ends) =
    let counts_are : counts_of x n ≡ counts_of y n =
    listed_same (λ k. (x k).count) (λ k. (y k).count) n (λ k h. ap (λ (z : Noes). z.count) (same k h)) in
    let ends_are : latest_words x n ≡ latest_words y n =
    listed_same (λ k. position_or (x k).latest no_position) (λ k. position_or (y k).latest no_position) n
    (λ k h. ap (λ (z : Noes). position_or z.latest no_position) (same k h)) in
    (counts ∙ ap (λ (l : List ℕ). l ++ drop n nos) counts_are, ends ∙ ap (λ (l : List ℕ). l ++ drop n latest) ends_are)

-- WHAT IS ANSWERED

module _ (rule : List ℕ) where
  -- by where the formulas of the decoded entries end, which are the rule's
  pub columns_are : refusal rule ≡ 0 → (t : List Entry) (n : ℕ) → t ≡ decoded rule → n ≡ count rule → (r : Ends) → EndsOf t n r → (m : ℕ) →
      m ≡ max 1 r.number → m ≡ columns (formulas_of rule)
  columns_are fine t n entries_are count_is r ends m e =
      omega (arith, (rule_ended rule fine r (rw (entries_are, count_is) at ends)).number)

  pub formulas_refused : (e : Refusal) → number_of e ≡ refusal rule → answer (Err e) ≡ formula_count rule
  formulas_refused e number =
      let some = number_positive e in
      rw (← number, ne_eqb (number_of e) 0 (λ z. omega arith))

  pub formulas_told : refusal rule ≡ 0 → (m : ℕ) → m ≡ columns (formulas_of rule) → answer (Ok m) ≡ formula_count rule
  formulas_told fine m is = rw (eq-eqb (refusal rule) 0 fine) (ap (λ (k : ℕ). answer (Ok k)) is)

module _ (rule p : List ℕ) where
  pub summary_refused : (nos latest : List ℕ) (e : Refusal) → number_of e ≡ summary_refusal rule p →
      Summarizes rule p nos latest (refused_with (number_of e)) nos latest
  summary_refused nos latest e number =
      let some = number_positive e in
      let not_zero = ne_eqb (number_of e) 0 (λ z. omega arith) in
      record { outcome = rw (← number, not_zero); words = (rw not_zero, rw not_zero) }

  pub status_refused : (e : Refusal) → number_of e ≡ summary_refusal rule p → standing_of (Err e) ≡ known rule p
  status_refused e number =
      let some = number_positive e in
      rw (← number, ne_eqb (number_of e) 0 (λ z. omega arith))

  -- where none of 1 to 11 is met
  module _ (none : summary_refusal rule p ≡ 0) where
    -- the counts of all formulas stand in the checkpoint
    pub counts_fit : (v : ℕ) → v ≡ version rule → (m : ℕ) → m ≡ columns (formulas_of rule) →
        (m ≤ 8) × (m ≤ most_formulas v) × (8 + most_formulas v + most_formulas v ≤ length p)
    counts_fit v is m e =
        let fine = is_accepted rule p none in
        let room = has_room rule p none in
        let within = noes_within (version rule) in
        rw is (omega (arith, few_columns rule fine, most_few (version rule)))

    pub summary_told : (nos latest nos' latest' : List ℕ) (v : ℕ) → v ≡ version rule → (m : ℕ) → m ≡ columns (formulas_of rule) →
        TellsNoes 0 m (stored_noes (most_formulas v) p) nos latest nos' latest' → Summarizes rule p nos latest (counted m) nos' latest'
    summary_told nos latest nos' latest' v is m e told = record { outcome = rw none (ap counted e); words = rw is at told }

    pub status_told :
        standing_of (Ok (record { given = given p; seen = seen p; wanted = first_wanted p; closed = ltb 0 (closed_with p) })) ≡ known rule p
    status_told = rw (eq-eqb (summary_refusal rule p) 0 none)
