-- What `parse` promises. Paper 1: "16 when a word, sign or form of number is unknown or the text is too long; 17 when the grammar
-- does not derive it; then 4 for more than 128 entries, then 6 and 8; last 18 when the lent rule buffer is short."
use Rattle.std.specs.Prelude.{ℕ, ◌+◌, ◌*◌, Bool, true, false, cond, ◌≡◌, List, [], ◌++◌, ltb, eqb, length, drop, Option, None, Some, Result, Ok, Err}
use Rattle.refusal.specs.declared.Refusal.{Refusal}
use Rattle.refusal.specs.Number.{number_of}
use Rattle.mtl.specs.Formula.{Formula}
use Rattle.mtl.specs.Satisfaction.{any}
use Rattle.rule.specs.declared.Entry.{Entry}
use Rattle.rule.specs.Postfix.{postfix}
use Rattle.rule.specs.Encoding.{rule_of}
use Rattle.rule.specs.Refusal.{misplaced_at, over_limit, first}
use Rattle.text.specs.Tokens.{tokens, unreadable}
use Rattle.text.specs.Grammar.{Derived}

-- the number of bytes written, or a refusal's number
pub record Answer : Type 0 where
  pub number : ℕ
  pub written : ℕ

-- the paper's number and value for each case of the result
abbrev pub answer : Result ℕ Refusal → Answer
answer (Ok n) = record { number = 0; written = n }
answer (Err refusal) = record { number = number_of refusal; written = 0 }

-- 17: the grammar derives nothing
abbrev pub underived : Option Formula → Bool
underived None = true
underived (Some φ) = false

-- 4, 6, 8 and 18, of the entries of a formula and a lent buffer of `room` bytes
unfoldable pub parsed_refusal : List Entry → ℕ → ℕ
parsed_refusal es room =
    first 4 (ltb 128 (length es))
    (first 6 (any (length es) (misplaced_at es))
    (first 8 (over_limit 1 es (length es)) (first 18 (ltb room (8 + length es * 10)) 0)))

-- the entries, in postfix order, of what the grammar derives
abbrev pub entries_of : Option Formula → List Entry
entries_of None = []
entries_of (Some φ) = postfix φ

-- the number with which reading the text stops, by what the grammar derives from it; 0 where it is accepted
abbrev pub text_refusal : List ℕ → Option Formula → ℕ → ℕ
text_refusal text o room = first 16 (unreadable text) (first 17 (underived o) (parsed_refusal (entries_of o) room))

-- the rule's bytes
abbrev pub bytes : Option Formula → List ℕ
bytes None = []
bytes (Some φ) = rule_of φ

-- what the call answers, by what the grammar derives
abbrev pub parsed : List ℕ → Option Formula → ℕ → Answer
parsed text o room =
    cond (eqb (text_refusal text o room) 0) (record { number = 0; written = length (bytes o) }) (record { number = text_refusal text o room; written = 0 })

-- the lent buffer afterwards: "the bytes behind what a call writes are kept", and a refused call keeps them all
abbrev pub rule_buffer_after : List ℕ → Option Formula → List ℕ → List ℕ
rule_buffer_after text o rule = cond (eqb (text_refusal text o (length rule)) 0) (bytes o ++ drop (length (bytes o)) rule) rule

-- what the grammar derives from the text's tokens, a formula or none, settles the rest
pub record Parses (text rule : List ℕ) (r : Result ℕ Refusal) (rule' : List ℕ) : Type 0 where
  pub derives : Option Formula
  pub derived : Derived (tokens text) derives
  pub answers : answer r ≡ parsed text derives (length rule)
  pub leaves : rule' ≡ rule_buffer_after text derives rule
