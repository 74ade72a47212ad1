-- `search::after_no` meets its contract.
use Prim.Native.Nat.{ℕ, ◌+◌}
use mathlib.Core.Bool.{not as negate}
use mathlib.Core.Path.{sym, ◌∙◌, ap}
use native.Mathlib.Omega.{arith}
use Rattle.search.proofs.Finding.{last_in_word, last_stays, last_more}
use Rattle.search.proofs.after_no.Goals as goal

pub returns-then-last-eq0 : goal.returns-then-last-eq0
returns-then-last-eq0 c =
    let a = c.args in (
      omega arith,
      λ f packed before.
          let e = last_in_word a.n a.bits (λ (i : ℕ). f (a.done + i)) packed.same in
          before ∙ sym (last_stays a.done a.n (λ (q : ℕ). negate (f q)) (e ∙ sym c.find_last_zero-last.ensures.0 ∙ c.if-last-eq0.true)),
    )

pub returns-else-last-eq0 : goal.returns-else-last-eq0
returns-else-last-eq0 c =
    let a = c.args in
    let l = c.find_last_zero-last in (
      omega (arith, l.ensures.1),
      λ f packed before.
          let e = last_in_word a.n a.bits (λ (i : ℕ). f (a.done + i)) packed.same ∙ sym l.ensures.0 in
          ap (λ (x : ℕ). a.done + x) (sym e) ∙
          sym (last_more a.done a.n (λ (q : ℕ). negate (f q)) (rw e (omega (arith, c.if-last-eq0.false)))),
    )
