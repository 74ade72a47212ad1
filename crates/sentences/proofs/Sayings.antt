-- What an entry says, by its kind. Assumes nothing.
use Prim.Native.Nat.{ℕ, ◌+◌, ◌≤◌, ◌<◌}
use mathlib.Core.Bool.{true}
use mathlib.Core.Path.{◌≡◌, refl, sym, ◌∙◌, ap}
use mathlib.Core.List.{List}
use native.Mathlib.Omega.{arith}
use Rattle.mtl.specs.Formula.{Formula}
use Rattle.window.specs.declared.view.View.{View}
use Rattle.mtl.specs.Formula.Formula.{letter, not, or, previous, next, since, until}
use Rattle.mtl.specs.Log.{Log}
use Rattle.mtl.proofs.Until.{progress_le_size, progress_next}
use Rattle.rule.specs.declared.kind.Kind.TheVariants.{Not, Or}
use Rattle.engine.specs.Table.{row_at, kind_at}
use Rattle.engine.specs.declared.table.Row.{Row}
use Rattle.search.specs.Times.{WholeLog}
use Rattle.sentences.specs.declared.saying.Follows.TheVariants.{One, Either}
use Rattle.sentences.specs.declared.saying.Saying.{Saying}
use Rattle.sentences.specs.Said.{saying_of, joining, Answering, Shape, Saids}
use Rattle.sentences.proofs.Operands.{fields_here, inside_here, answered_here}

module _ (t : List Row) (v : View) (s : List ℕ) (k i : ℕ) (r : Saying) where
  pub said_letter : (c : ℕ) → c ≡ (row_at t k).letter → kind_at t k ≡ 0 → Shape 0 i r → ((L : Log) → WholeLog v s L → i < L.size → r ≡ saying_of (letter c) L i) → Saids t v s k i r
  said_letter c at kind shape means = record { shape = rw kind shape; meaning = by }
    where
      by : (φ : Formula) (L : Log) → Answering φ t v s k L i → r ≡ saying_of φ L i
      by (letter d) L an =
          let f = fields_here t v s L (letter d) k i an in
          let e : c ≡ d = at ∙ f.letter in
          means L an.shown.whole (inside_here t v s L (letter d) k i an) ∙ ap (λ (x : ℕ). saying_of (letter x) L i) e
      by (not φ) L an = absurd (omega (arith, (fields_here t v s L (not φ) k i an).kind))
      by (or φ ψ) L an = absurd (omega (arith, (fields_here t v s L (or φ ψ) k i an).kind))
      by (previous low high φ) L an = absurd (omega (arith, (fields_here t v s L (previous low high φ) k i an).kind))
      by (next low high φ) L an = absurd (omega (arith, (fields_here t v s L (next low high φ) k i an).kind))
      by (since low high φ ψ) L an = absurd (omega (arith, (fields_here t v s L (since low high φ ψ) k i an).kind))
      by (until low high φ ψ) L an = absurd (omega (arith, (fields_here t v s L (until low high φ ψ) k i an).kind))

  pub said_not : kind_at t k ≡ 1 → r ≡ joining Not (One i true) → Saids t v s k i r
  said_not is e = rw e (record { shape = record { number = tt; behind = (omega arith, rw is refl) }; meaning = by })
    where
      by : (φ : Formula) (L : Log) → Answering φ t v s k L i → joining Not (One i true) ≡ saying_of φ L i
      by (letter d) L an = absurd (omega (arith, (fields_here t v s L (letter d) k i an).kind))
      by (not φ) L an = refl
      by (or φ ψ) L an = absurd (omega (arith, (fields_here t v s L (or φ ψ) k i an).kind))
      by (previous low high φ) L an = absurd (omega (arith, (fields_here t v s L (previous low high φ) k i an).kind))
      by (next low high φ) L an = absurd (omega (arith, (fields_here t v s L (next low high φ) k i an).kind))
      by (since low high φ ψ) L an = absurd (omega (arith, (fields_here t v s L (since low high φ ψ) k i an).kind))
      by (until low high φ ψ) L an = absurd (omega (arith, (fields_here t v s L (until low high φ ψ) k i an).kind))

  pub said_or : kind_at t k ≡ 2 → r ≡ joining Or Either → Saids t v s k i r
  said_or is e = rw e (record { shape = record { number = tt; behind = is }; meaning = by })
    where
      by : (φ : Formula) (L : Log) → Answering φ t v s k L i → joining Or Either ≡ saying_of φ L i
      by (letter d) L an = absurd (omega (arith, (fields_here t v s L (letter d) k i an).kind))
      by (not φ) L an = absurd (omega (arith, (fields_here t v s L (not φ) k i an).kind))
      by (or φ ψ) L an = refl
      by (previous low high φ) L an = absurd (omega (arith, (fields_here t v s L (previous low high φ) k i an).kind))
      by (next low high φ) L an = absurd (omega (arith, (fields_here t v s L (next low high φ) k i an).kind))
      by (since low high φ ψ) L an = absurd (omega (arith, (fields_here t v s L (since low high φ ψ) k i an).kind))
      by (until low high φ ψ) L an = absurd (omega (arith, (fields_here t v s L (until low high φ ψ) k i an).kind))

  pub said_previous : (l h : ℕ) → l ≡ (row_at t k).low → h ≡ (row_at t k).high → kind_at t k ≡ 3 → Shape 3 i r →
      ((φ : Formula) (L : Log) → WholeLog v s L → i < L.size → r ≡ saying_of (previous l h φ) L i) → Saids t v s k i r
  said_previous l h low_is high_is kind shape means = record { shape = rw kind shape; meaning = by }
    where
      by : (φ : Formula) (L : Log) → Answering φ t v s k L i → r ≡ saying_of φ L i
      by (letter d) L an = absurd (omega (arith, (fields_here t v s L (letter d) k i an).kind))
      by (not φ) L an = absurd (omega (arith, (fields_here t v s L (not φ) k i an).kind))
      by (or φ ψ) L an = absurd (omega (arith, (fields_here t v s L (or φ ψ) k i an).kind))
      by (previous low high φ) L an =
          let f = fields_here t v s L (previous low high φ) k i an in
          means φ L an.shown.whole (inside_here t v s L (previous low high φ) k i an) ∙
          ap (λ (x : ℕ). saying_of (previous x h φ) L i) (low_is ∙ f.low) ∙ ap (λ (x : ℕ). saying_of (previous low x φ) L i) (high_is ∙ f.high)
      by (next low high φ) L an = absurd (omega (arith, (fields_here t v s L (next low high φ) k i an).kind))
      by (since low high φ ψ) L an = absurd (omega (arith, (fields_here t v s L (since low high φ ψ) k i an).kind))
      by (until low high φ ψ) L an = absurd (omega (arith, (fields_here t v s L (until low high φ ψ) k i an).kind))

  pub said_next : (l h : ℕ) → l ≡ (row_at t k).low → h ≡ (row_at t k).high → kind_at t k ≡ 4 → Shape 4 i r →
      ((φ : Formula) (L : Log) → WholeLog v s L → i + 1 < L.size → r ≡ saying_of (next l h φ) L i) → Saids t v s k i r
  said_next l h low_is high_is kind shape means = record { shape = rw kind shape; meaning = by }
    where
      by : (φ : Formula) (L : Log) → Answering φ t v s k L i → r ≡ saying_of φ L i
      by (letter d) L an = absurd (omega (arith, (fields_here t v s L (letter d) k i an).kind))
      by (not φ) L an = absurd (omega (arith, (fields_here t v s L (not φ) k i an).kind))
      by (or φ ψ) L an = absurd (omega (arith, (fields_here t v s L (or φ ψ) k i an).kind))
      by (previous low high φ) L an = absurd (omega (arith, (fields_here t v s L (previous low high φ) k i an).kind))
      by (next low high φ) L an =
          let f = fields_here t v s L (next low high φ) k i an in
          let a = answered_here t v s L (next low high φ) k i an in
          let inside : i + 1 < L.size = omega (arith, progress_next L low high φ, progress_le_size φ L) in
          means φ L an.shown.whole inside ∙
          ap (λ (x : ℕ). saying_of (next x h φ) L i) (low_is ∙ f.low) ∙ ap (λ (x : ℕ). saying_of (next low x φ) L i) (high_is ∙ f.high)
      by (since low high φ ψ) L an = absurd (omega (arith, (fields_here t v s L (since low high φ ψ) k i an).kind))
      by (until low high φ ψ) L an = absurd (omega (arith, (fields_here t v s L (until low high φ ψ) k i an).kind))

  -- since and until
  pub said_search : (kind : ℕ) → kind_at t k ≡ kind → 5 ≤ kind → Shape kind i r →
      (kind ≡ 5 → (low high : ℕ) (φ ψ : Formula) (L : Log) → Answering (since low high φ ψ) t v s k L i → r ≡ saying_of (since low high φ ψ) L i) →
      (kind ≡ 6 → (low high : ℕ) (φ ψ : Formula) (L : Log) → Answering (until low high φ ψ) t v s k L i → r ≡ saying_of (until low high φ ψ) L i) →
      Saids t v s k i r
  said_search kind is two shape sinces untils = record { shape = rw is shape; meaning = by }
    where
      by : (φ : Formula) (L : Log) → Answering φ t v s k L i → r ≡ saying_of φ L i
      by (letter d) L an = absurd (omega (arith, (fields_here t v s L (letter d) k i an).kind))
      by (not φ) L an = absurd (omega (arith, (fields_here t v s L (not φ) k i an).kind))
      by (or φ ψ) L an = absurd (omega (arith, (fields_here t v s L (or φ ψ) k i an).kind))
      by (previous low high φ) L an = absurd (omega (arith, (fields_here t v s L (previous low high φ) k i an).kind))
      by (next low high φ) L an = absurd (omega (arith, (fields_here t v s L (next low high φ) k i an).kind))
      by (since low high φ ψ) L an = sinces (sym is ∙ (fields_here t v s L (since low high φ ψ) k i an).kind) low high φ ψ L an
      by (until low high φ ψ) L an = untils (sym is ∙ (fields_here t v s L (until low high φ ψ) k i an).kind) low high φ ψ L an
