-- `search::first_of` meets its contract.
use Prim.Native.Nat.{ℕ, ◌+◌}
use mathlib.Core.Path.{sym, ◌∙◌, ap}
use native.Mathlib.Omega.{arith}
use Rattle.search.specs.Scan.{sought}
use Rattle.search.proofs.Finding.{first_stays, first_more, first_in_word}
use Rattle.search.proofs.first_of.Goals as goal

pub returns-then-first-done : goal.returns-then-first-done
returns-then-first-done c =
    let a = c.args in
    (omega arith, λ f packed before. before ∙ sym (first_stays a.done a.n (sought a.want a.from f) (omega arith)))

pub returns-else-first-done : goal.returns-else-first-done
returns-else-first-done c =
    let a = c.args in (
      c.find_in.ensures.1,
      λ f packed before.
          c.find_in.ensures.0 ∙ ap (λ (x : ℕ). a.done + x) (sym (first_in_word a.n a.bits a.done a.want a.from f packed)) ∙
          sym (first_more a.done a.n (sought a.want a.from f) (omega arith)),
    )
