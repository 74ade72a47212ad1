-- Every reason has a line, and every line a byte: the length of a text tells an accepted call.
use Prim.Native.Nat.{ℕ, ◌+◌, ◌<◌}
use mathlib.Core.Bool.{Bool, true, false, cond}
use mathlib.Core.List.{List, [], ◌∷◌, ◌++◌}
use native.Mathlib.Omega.{arith}
use lib.Dec.{eqb}
use lib.ListN.{length}
use Rattle.mtl.specs.Formula.{Formula}
use Rattle.mtl.specs.Log.{Log}
use Rattle.meaning.specs.Verdicts.{formulas_of}
use Rattle.rule.specs.Postfix.{formula}
use Rattle.reasons.specs.Reason.{Line, reason}
use Rattle.reasons.specs.Text.{spaced_line, parts, text}
use Rattle.reasons.specs.OfRule.{log_in, last_entry, reason_in}
use Rattle.explain.specs.Explain.{reason_text}

-- some byte stands in front of some list
before_some : (xs ys : List ℕ) → 0 < length ys → 0 < length (xs ++ ys)
before_some [] ys h = h
before_some (x ∷ xs) ys h = omega arith

behind_some : (xs ys : List ℕ) → 0 < length xs → 0 < length (xs ++ ys)
behind_some [] ys h = absurd (omega (arith, h))
behind_some (x ∷ xs) ys h = omega arith

joined_some : (ps : List (List ℕ)) → 0 < length (spaced_line ps)
unfolding spaced_line
joined_some [] = omega arith
joined_some (p ∷ []) = before_some p (10 ∷ []) (omega arith)
joined_some (p ∷ (q ∷ ps)) = before_some p (32 ∷ spaced_line (q ∷ ps)) (omega arith)

text_some : (l : Line) (ls : List Line) → 0 < length (text (l ∷ ls))
unfolding text
text_some l ls = behind_some (spaced_line (parts l)) (text ls) (joined_some (parts l))

-- the text of a list of lines that is not empty, by cases
either_some : (b : Bool) (l l' : Line) (ls ls' : List Line) → 0 < length (text (cond b (l ∷ ls) (l' ∷ ls')))
either_some true l l' ls ls' = text_some l ls
either_some false l l' ls ls' = text_some l' ls'

formula_some : (φ : Formula) (k : ℕ) (L : Log) (i : ℕ) → 0 < length (text (reason φ k L i))
unfolding reason
formula_some (Formula.letter c) k L i = text_some _ _
formula_some (Formula.not φ) k L i = text_some _ _
formula_some (Formula.or φ ψ) k L i = text_some _ _
formula_some (Formula.previous low high φ) k L i = either_some (eqb i 0) _ _ _ _
formula_some (Formula.next low high φ) k L i = text_some _ _
formula_some (Formula.since low high φ ψ) k L i = text_some _ _
formula_some (Formula.until low high φ ψ) k L i = text_some _ _

rule_some : (fs : List Formula) (k : ℕ) (L : Log) (i : ℕ) → 0 < length (text (reason_in fs k L i))
rule_some [] k L i = text_some _ _
rule_some (φ ∷ fs) k L i = formula_some (formula (φ ∷ fs) k) (last_entry (φ ∷ fs) k) L i

pub reason_some : (rule log : List ℕ) (k i : ℕ) → 0 < length (reason_text rule log k i)
reason_some rule log k i = rule_some (formulas_of rule) k (log_in log) i
