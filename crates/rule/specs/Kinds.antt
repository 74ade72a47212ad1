-- "The table of kinds": what each number stands for.
use Rattle.std.specs.Prelude.{ℕ, ◌<◌, ◌≡◌, Result, MatchResult}
use Rattle.rule.specs.declared.kind.Kind.{Kind}
use Rattle.rule.specs.declared.kind.Kind.TheVariants.{Letter, Not, Or, Previous, Next, Since, Until}
use Rattle.rule.specs.declared.kind.UnknownKind.{UnknownKind}

abbrev pub number_of_kind : Kind → ℕ
number_of_kind Letter = 0
number_of_kind Not = 1
number_of_kind Or = 2
number_of_kind Previous = 3
number_of_kind Next = 4
number_of_kind Since = 5
number_of_kind Until = 6

-- the kind with this number; there is none with a number above 6
abbrev pub Decodes : ℕ → Result Kind UnknownKind → Type 0
Decodes number r = MatchResult r (λ kind. number_of_kind kind ≡ number) (λ e. (e.0 ≡ number) × (6 < number))
