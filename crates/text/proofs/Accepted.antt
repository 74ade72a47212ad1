-- What `parse` writes, `measure` accepts, with the words and the reach of the formula that the grammar derives.
use Prim.Native.Nat.{ℕ}
use native.Mathlib.Omega.{arith}
use borrow.Author.Tests.{ltb-false, eqb-true, eqb-false, eq-eqb}
use mathlib.Core.Path.{◌≡◌, refl, sym, ap, ◌∙◌}
use mathlib.Core.Bool.{true, false}
use mathlib.Core.List.{List, [], ◌∷◌, ◌++◌}
use mathlib.Core.Option.{some}
use lib.Dec.{ltb, eqb}
use lib.ListN.{length, take, drop}
use lib.Seq.{take-append_seam}
use Rattle.std.specs.Prelude.{Option, None, Some, Ok}
use Rattle.mtl.specs.Formula.{Formula}
use Rattle.mtl.specs.Satisfaction.{any}
use Rattle.rule.specs.Words.{words}
use Rattle.rule.specs.Postfix.{postfix}
use Rattle.rule.specs.Encoding.{rule_of}
use Rattle.rule.specs.Refusal.{misplaced_at, over_limit, first}
use Rattle.rule.specs.Measure.{reach_of, measured}
use Rattle.rule.proofs.Headers.{first_zero}
use Rattle.rule.proofs.Encoded.{weighed}
use Rattle.text.specs.Tokens.{tokens, unreadable}
use Rattle.text.specs.Grammar.{Level, Derives, Derived}
use Rattle.text.specs.Parse.{Answer, parsed_refusal, text_refusal, bytes, parsed, rule_buffer_after, Parses}
use Rattle.text.proofs.Cases.{by}
use Rattle.text.proofs.Small.{none_misshapen}

-- a rule written: its formula, its bytes, and what `measure` answers for it
pub record Weighed (text rule' : List ℕ) (n : ℕ) : Type 0 where
  pub formula : Formula
  pub derived : Derives Level.ors (tokens text) formula
  pub written : take n rule' ≡ rule_of formula
  pub weighs : measured (take n rule') ≡ record { number = 0; words = words 1 (postfix formula) (length (postfix formula)); reach = reach_of (some (formula ∷ [])) }

-- a rule is written where no refusal applies
accepted : (text : List ℕ) (o : Option Formula) (room n : ℕ) → record { number = 0; written = n } ≡ parsed text o room
    → (text_refusal text o room ≡ 0) × (n ≡ length (bytes o))
accepted text o room n e =
    by (eqb (text_refusal text o room) 0)
    (λ p.
    let c : parsed text o room ≡ record { number = 0; written = length (bytes o) } = simp p in
    (eqb-true (text_refusal text o room) 0 p, ap (λ (a : Answer). a.written) (e ∙ c)))
    (λ p.
    let c : parsed text o room ≡ record { number = text_refusal text o room; written = 0 } = simp p in
    absurd (eqb-false (text_refusal text o room) 0 p (sym (ap (λ (a : Answer). a.number) (e ∙ c)))))

weigh : (text rule rule' : List ℕ) (n : ℕ) (φ : Formula) → Derives Level.ors (tokens text) φ → parsed_refusal (postfix φ) (length rule) ≡ 0 → n ≡ length (rule_of φ)
    → rule' ≡ rule_of φ ++ drop (length (rule_of φ)) rule → Weighed text rule' n
unfolding parsed_refusal
weigh text rule rule' n φ d z l is =
    let es = postfix φ in
    let a = first_zero 3 (ltb 128 (length es)) _ z in
    let b = first_zero 5 (any (length es) (misplaced_at es)) _ a.1 in
    let c = first_zero 7 (over_limit 1 es (length es)) _ b.1 in
    let w : take n rule' ≡ rule_of φ =
    ap (λ (k : ℕ). take k rule') l ∙ ap (take (length (rule_of φ))) is ∙ take-append_seam (rule_of φ) (drop (length (rule_of φ)) rule) in
    let m : measured (rule_of φ) ≡ record { number = 0; words = words 1 es (length es); reach = reach_of (some (φ ∷ [])) } =
    weighed es (ltb-false 128 (length es) a.0) φ refl (none_misshapen text φ d) ∙ simp (b.0, c.0) in
    record { formula = φ; derived = d; written = w; weighs = ap measured w ∙ m }

pub accepted_by_measure : (text rule rule' : List ℕ) (n : ℕ) → Parses text rule (Ok n) rule' → Weighed text rule' n
accepted_by_measure text rule rule' n p =
    let (z, l) = accepted text p.derives (length rule) n p.answers in go p.derives p.derived z l p.leaves
  where
    go : (o : Option Formula) → Derived (tokens text) o → text_refusal text o (length rule) ≡ 0 → n ≡ length (bytes o) → rule' ≡ rule_buffer_after text o rule
        → Weighed text rule' n
    go None d z l is = let a = first_zero 15 (unreadable text) (first 17 true (parsed_refusal [] (length rule))) z in let b = first_zero 16 true (parsed_refusal [] (length rule)) a.1 in absurd (let w : ◌≡◌ {A = ℕ} 0 1 = cc in omega arith)
    go (Some φ) d z l is = weigh text rule rule' n φ d (first_zero 16 false (parsed_refusal (postfix φ) (length rule)) (first_zero 15 (unreadable text) (first 17 false (parsed_refusal (postfix φ) (length rule))) z).1).1 l (is ∙ simp (eq-eqb (text_refusal text (Some φ) (length rule)) 0 z))
