-- What decoding a rule gives: its version, its count and its entries, where the header is accepted.
use Rattle.std.specs.Prelude.{ℕ, ◌≤◌, ◌≡◌, List, Result, Ok, Err}
use Rattle.refusal.specs.declared.Refusal.{Refusal}
use Rattle.refusal.specs.Number.{number_of}
use Rattle.rule.specs.declared.decoding.Rule.{Rule}
use Rattle.rule.specs.Entries.{version, count, decoded}
use Rattle.rule.specs.Refusal.{header_refusal}

-- r is the rule of these bytes
pub record IsRule (s : List ℕ) (r : Rule) : Type 0 where
  pub accepted : header_refusal s ≡ 0
  pub known : r.version ≤ 2
  pub version_is : r.version ≡ version s
  pub count_is : r.count ≡ count s
  pub entries_are : r.entries ≡ decoded s

-- refusals 1, 2 and 4, or the rule
abbrev pub DecodesRule : List ℕ → Result Rule Refusal → Type 0
DecodesRule s (Ok r) = IsRule s r
DecodesRule s (Err refusal) = number_of refusal ≡ header_refusal s
