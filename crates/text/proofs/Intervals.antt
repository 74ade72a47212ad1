-- The interval that a word carries, token by token.
use Prim.Native.Nat.{ℕ}
use mathlib.Core.Path.{◌≡◌, refl, ap, ◌∙◌}
use mathlib.Core.List.{List, ◌∷◌, ◌++◌}
use Rattle.std.specs.Prelude.{None, Some}
use Rattle.text.specs.declared.token.Token.{Token}
use Rattle.text.specs.declared.token.Token.TheVariants.{Number, Not, Inf, From, To, Comma}
use Rattle.text.specs.Grammar.{End, end_token, interval}
use Rattle.text.specs.Grammar.End.{at, inf}
use Rattle.text.specs.Reader.{timing, carried}

-- what stands behind the first of the same tokens
pub tails : {ts us vs : List Token} {t s : Token} → ts ≡ t ∷ us → ts ≡ s ∷ vs → us ≡ vs
tails d e = cc

carried_by : (t : Token) (ts : List Token) → (t ≡ Not → ⊥) → carried t ts ≡ timing ts
carried_by Not ts n = absurd (n refl)
carried_by t ts n = refl

timing_none : (ts : List Token) → ((low : ℕ) (high : End) (rest : List Token) → ts ≡ interval low high ++ rest → ⊥) → timing ts ≡ None
unfolding timing
timing_none (From ∷ (Number low ∷ (Comma ∷ (Number high ∷ (To ∷ ts))))) n = absurd (n low (at high) ts refl)
timing_none (From ∷ (Number low ∷ (Comma ∷ (Inf ∷ (To ∷ ts))))) n = absurd (n low inf ts refl)
timing_none ts n = refl

-- an interval that is written is read
pub timing_back : (low : ℕ) (high : End) (rest : List Token) → timing (interval low high ++ rest) ≡ Some (record { low = low; high = high; rest = rest })
unfolding timing
timing_back low (at m) rest = refl
timing_back low inf rest = refl

pub carried_missing : (t : Token) (ts : List Token) → (t ≡ Not → ⊥) → ((low : ℕ) (high : End) (rest : List Token) → ts ≡ interval low high ++ rest → ⊥)
    → carried t ts ≡ None
carried_missing t ts n m = carried_by t ts n ∙ timing_none ts m

pub carried_there : (t : Token) (ts : List Token) → (t ≡ Not → ⊥) → (low : ℕ) (high : End) (rest : List Token) {us vs ws xs : List Token}
    → ts ≡ From ∷ us → us ≡ Number low ∷ vs → vs ≡ Comma ∷ ws → ws ≡ end_token high ∷ xs → xs ≡ To ∷ rest
    → carried t ts ≡ Some (record { low = low; high = high; rest = rest })
carried_there t ts n low high rest a b c d e =
    let whole : ts ≡ interval low high ++ rest = cc in carried_by t ts n ∙ ap timing whole ∙ timing_back low high rest
