-- What the checks answer, before anything is written.
use Rattle.std.specs.Prelude.{ℕ, ◌≡◌, Result, MatchResult}
use Rattle.refusal.specs.declared.Refusal.{Refusal}
use Rattle.refusal.specs.Number.{number_of}
use Rattle.worst.specs.Refusal.{worst_refusal}

-- the number of records, or the refusal with the number with which the call stops
abbrev pub Checks : (low high n lent : ℕ) → Result ℕ Refusal → Type 0
Checks low high n lent r =
    MatchResult r
    (λ records. (records ≡ n) × (worst_refusal low high n lent ≡ 0))
    (λ refusal. worst_refusal low high n lent ≡ number_of refusal)
