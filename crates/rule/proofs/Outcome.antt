-- What a caller of `measure` learns in each case of its answer.
use Prim.Native.Nat.{ℕ}
use native.Mathlib.Omega.{arith}
use borrow.Author.Tests.{eqb-true, eqb-false}
use mathlib.Core.Path.{◌≡◌, refl, sym, ap, ◌∙◌}
use mathlib.Core.Bool.{Bool, true, false}
use mathlib.Core.List.{List}
use lib.Dec.{eqb}
use Rattle.std.specs.Prelude.{Ok, Err}
use Rattle.refusal.specs.declared.Refusal.{Refusal}
use Rattle.refusal.specs.Number.{number_of}
use Rattle.rule.specs.declared.Measured.{Measured}
use Rattle.rule.specs.Entries.{version, count, decoded}
use Rattle.rule.specs.Words.{words}
use Rattle.rule.specs.Postfix.{formulas}
use Rattle.rule.specs.Refusal.{refusal}
use Rattle.rule.specs.Measure.{Answer, answer, refused, reach_of, measured}
use Rattle.rule.proofs.Spans.{header_least}

-- the rule is accepted, with these words and this reach
pub record Passes (s : List ℕ) (w far : ℕ) : Type 0 where
  pub accepted : refusal s ≡ 0
  pub words_are : w ≡ words (version s) (decoded s) (count s)
  pub reach_is : far ≡ reach_of (formulas (version s) (decoded s) (count s))

-- the rule is refused with this number
pub record Stops (s : List ℕ) (n : ℕ) : Type 0 where
  pub number_is : n ≡ refusal s
  pub not_zero : n ≡ 0 → ⊥

module _ (s : List ℕ) where
  good : Answer
  good = record { number = 0; words = words (version s) (decoded s) (count s); reach = reach_of (formulas (version s) (decoded s) (count s)) }

  of_words : (m : Measured) → answer (Ok m) ≡ good → refusal s ≡ 0 → Passes s m.words m.reach
  unfolding good
  of_words m e z = record { accepted = z; words_are = ap (λ (a : Answer). a.words) e; reach_is = ap (λ (a : Answer). a.reach) e }

  pub passes_with : (m : Measured) → answer (Ok m) ≡ measured s → Passes s m.words m.reach
  unfolding good
  passes_with m e = go (eqb (refusal s) 0) refl
    where
      go : (b : Bool) → eqb (refusal s) 0 ≡ b → Passes s m.words m.reach
      go true p = of_words m (e ∙ simp p) (eqb-true (refusal s) 0 p)
      go false p =
          let q : answer (Ok m) ≡ refused (refusal s) = e ∙ simp p in
          absurd (eqb-false (refusal s) 0 p (sym (ap (λ (a : Answer). a.number) q)))

  pub stops_with : (r : Refusal) → answer (Err r) ≡ measured s → Stops s (number_of r)
  unfolding good
  stops_with r e = go (eqb (refusal s) 0) refl
    where
      go : (b : Bool) → eqb (refusal s) 0 ≡ b → Stops s (number_of r)
      go true p =
          let q : answer (Err r) ≡ good = e ∙ simp p in
          absurd
          (let w : 0 ≡ words (version s) (decoded s) (count s) = ap (λ (a : Answer). a.words) q in
          omega (arith, header_least (version s)))
      go false p =
          let q : answer (Err r) ≡ refused (refusal s) = e ∙ simp p in
          let is = ap (λ (a : Answer). a.number) q in
          record { number_is = is; not_zero = λ z. eqb-false (refusal s) 0 p (sym is ∙ z) }
