-- Cases of a test and of what may be missing.
use mathlib.Core.Path.{◌≡◌, refl}
use mathlib.Core.Bool.{Bool, true, false}
use Rattle.std.specs.Prelude.{None, Some}

pub by : {A : Type 0} (b : Bool) → (b ≡ true → A) → (b ≡ false → A) → A
by true f g = f refl
by false f g = g refl

pub nothing : {A B : Type 0} {a : A} → None ≡ Some a → B
nothing e = absurd (cc)

pub same : {A : Type 0} {a b : A} → Some a ≡ Some b → a ≡ b
same e = cc
