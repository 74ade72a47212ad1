-- What `admit` promises, between the checks and the definitions above: all that the crates above rely on.
use Rattle.std.specs.Prelude.{ℕ, ◌≤◌, ◌≡◌, List, Result, Ok, Err}
use Rattle.refusal.specs.declared.Refusal.{Refusal}
use Rattle.refusal.specs.Number.{number_of}
use Rattle.rule.specs.Entries.{version, count, decoded}
use Rattle.rule.specs.Refusal.{refusal}
use Rattle.checkpoint.specs.Checkpoint.{need}
use Rattle.checks.specs.Refusal.{open_refusal}
use Rattle.checks.specs.declared.Admitted.{Admitted}

-- the rule of these bytes is accepted; this is its decoded form, and these are its words, of which enough are lent
pub record IsAdmitted (s : List ℕ) (lent : ℕ) (a : Admitted) : Type 0 where
  pub accepted : refusal s ≡ 0
  pub known : a.rule.version ≤ 2
  pub version_is : a.rule.version ≡ version s
  pub count_is : a.rule.count ≡ count s
  pub entries_are : a.rule.entries ≡ decoded s
  pub words_are : a.words ≡ need s
  pub room : need s ≤ lent

-- refusals 1 to 9, or the rule
abbrev pub Admits : (rule : List ℕ) (lent : ℕ) → Result Admitted Refusal → Type 0
Admits s lent (Ok a) = IsAdmitted s lent a
Admits s lent (Err refusal) = number_of refusal ≡ open_refusal s lent
