use native.Mathlib.Omega.{arith}
use mathlib.Core.Path.{◌≡◌, refl}
use Rattle.std.proofs.Common.{rules}
use Rattle.text.specs.declared.token.Token.TheVariants.{Not}
use Rattle.text.specs.Grammar.End.{at}
use Rattle.text.proofs.Intervals.{carried_there, carried_missing, tails}
use Rattle.text.proofs.level.carried.Goals as goal

pub returns-then-eq : goal.returns-then-eq
returns-then-eq c = let e : c.args.word ≡ Not = search rules in (at 0, rw e refl, refl, omega arith)

pub returns-in_err-from : goal.returns-in_err-from
returns-in_err-from c =
    let n : c.args.word ≡ Not → ⊥ = search rules in
    rw c.from_residual.ensures (carried_missing _ _ n (λ low high rest e. c.in_err-from.ensures _ e))

pub returns-in_err-low : goal.returns-in_err-low
returns-in_err-low c =
    let n : c.args.word ≡ Not → ⊥ = search rules in
    rw c.from_residual-in_err-low.ensures
    (carried_missing _ _ n (λ low high rest e. c.in_err-low.ensures _ _ (tails c.in_ok-from.ensures.tokens_are e)))

pub returns-in_err-comma : goal.returns-in_err-comma
returns-in_err-comma c =
    let n : c.args.word ≡ Not → ⊥ = search rules in
    rw c.from_residual-in_err-comma.ensures
    (carried_missing _ _ n (λ low high rest e.
    c.in_err-comma.ensures _ (tails c.in_ok-low.ensures.tokens_are (tails c.in_ok-from.ensures.tokens_are e))))

pub returns-in_err-high : goal.returns-in_err-high
returns-in_err-high c =
    let n : c.args.word ≡ Not → ⊥ = search rules in
    rw c.from_residual-in_err-high.ensures
    (carried_missing _ _ n (λ low high rest e.
    c.in_err-high.ensures high _ (tails c.in_ok-comma.ensures.tokens_are (tails c.in_ok-low.ensures.tokens_are (tails c.in_ok-from.ensures.tokens_are e)))))

pub returns-in_err-to : goal.returns-in_err-to
returns-in_err-to c =
    let n : c.args.word ≡ Not → ⊥ = search rules in
    rw c.from_residual-in_err-to.ensures
    (carried_missing _ _ n (λ low high rest e.
    c.in_err-to.ensures _ (tails c.in_ok-high.ensures.1.tokens_are (tails c.in_ok-comma.ensures.tokens_are (tails c.in_ok-low.ensures.tokens_are (tails c.in_ok-from.ensures.tokens_are e))))))

pub returns : goal.returns
returns c =
    let n : c.args.word ≡ Not → ⊥ = search rules in
    let end = c.in_ok-high.ensures in (
      end.0,
      carried_there _ _ n c.in_ok-low.low.value end.0 _ c.in_ok-from.ensures.tokens_are c.in_ok-low.ensures.tokens_are c.in_ok-comma.ensures.tokens_are end.1.tokens_are c.in_ok-to.ensures.tokens_are,
      end.2,
      omega (arith, c.in_ok-from.ensures.moves, c.in_ok-low.ensures.moves, c.in_ok-comma.ensures.moves, end.1.moves, c.in_ok-to.ensures.moves),
    )
