-- `explain::write_reason` meets its contract.
use Prim.Native.Nat.{ℕ, ◌-◌, ◌≤◌, ◌<◌}
use mathlib.Core.Bool.{true, false, ◌||◌}
use mathlib.Core.Logic.{◌⊎◌, inl, inr, ⊎_elim}
use mathlib.Core.Path.{◌≡◌, refl, ap}
use native.Mathlib.Omega.{arith}
use Rattle.std.proofs.Common.{rules}
use lib.Dec.{leb}
use lib.ListN.{length, get_or}
use borrow.Author.Tests.{leb-true, le-leb}
use Rattle.mtl.proofs.Bounded.{true_and_false, or_iff}
use Rattle.window.specs.View.{total}
use Rattle.decimal.specs.Text.{ascii}
use Rattle.explain.proofs.Formulas.{none_there, empty_reasoned, formula_reasoned}
use Rattle.explain.proofs.write_reason.Goals as goal

either_far : (c k n i : ℕ) → leb c k || leb n i ≡ true → (c ≤ k) ⊎ (n ≤ i)
either_far c k n i e = ⊎_elim (λ h. inl (leb-true c k h)) (λ h. inr (leb-true n i h)) ((or_iff (leb c k) (leb n i)).0 e)

neither_far : (c k n i : ℕ) → leb c k || leb n i ≡ false → (k < c) × (i < n)
neither_far c k n i e =
    let first : c ≤ k → ⊥ = λ h. true_and_false ((or_iff (leb c k) (leb n i)).1 (inl (le-leb c k h))) e in
    let second : n ≤ i → ⊥ = λ h. true_and_false ((or_iff (leb c k) (leb n i)).1 (inr (le-leb n i h))) e in
    (omega arith, omega arith)

pub returns-then-columns_of-formula : goal.returns-then-columns_of-formula
returns-then-columns_of-formula c =
    let a = c.args in
    (Prim.tt {0}, none_there a.table.now a.view.now a.records.now a.ends.now.at a.ends.now.number a.formula a.position a.text.now c.columns_of.result c.columns_of.ensures (either_far c.columns_of.result a.formula (total a.view.now) a.position c.if-columns_of-formula.true))

pub all_answered-answered-requires : goal.all_answered-answered-requires
all_answered-answered-requires c =
    let a = c.args in
    let few = c.requires.2 in
    let (one_of_lem, inside) = neither_far c.columns_of.result a.formula (total a.view.now) a.position c.if-columns_of-formula.false in
    (c.requires.0, c.new-copy.ensures a.records.now, c.new-waiting.ensures a.records.now, omega arith)

pub returns-then-ends-eq0 : goal.returns-then-ends-eq0
unfolding ascii
returns-then-ends-eq0 c =
    let a = c.args in
    let few = c.requires.2 in
    let (one_of_lem, inside) = neither_far c.columns_of.result a.formula (total a.view.now) a.position c.if-columns_of-formula.false in
    let room = c.requires.1 in (
      omega (arith, c.put.ensures.fits),
      empty_reasoned a.table.now a.view.now a.records.now a.ends.now.at a.ends.now.number a.formula a.position a.text.now c.columns_of.result c.columns_of.ensures one_of_lem inside (rw c.if-not-answered.false at c.all_answered-answered.ensures.all_answered) c.if-ends-eq0.true
          _ _ (search rules),
    )

pub tell-requires : goal.tell-requires
tell-requires c =
    let a = c.args in
    let few = c.requires.2 in
    let (one_of_lem, inside) = neither_far c.columns_of.result a.formula (total a.view.now) a.position c.if-columns_of-formula.false in
    let p = c.requires.0 in
    let here : a.formula < a.ends.now.number = omega (arith, c.columns_of.ensures, c.if-ends-eq0.false) in
    let some = p.some a.formula here in
    let rows = p.rows a.formula here in
    let bound = (rows (get_or a.ends.now.at a.formula 0 - 1) (omega arith)).bound in
    let kept = c.all_answered-answered.auto.words in
    let room = p.words_room in
    let text_room = c.requires.1 in
    let begins = c.new-text.ensures in
    let empty = begins.nothing in
    let whole = ap length begins.lent in
    record { lent = record { entry = omega arith; rows = rows; words_room = omega arith; copy_keeps = c.all_answered-answered.ensures.keeps.0; waiting_keeps = c.all_answered-answered.ensures.keeps.1; views = p.views; few = p.few_records }; far = omega arith; space = omega arith }

pub returns : goal.returns
returns c =
    let a = c.args in
    let few = c.requires.2 in
    let (one_of_lem, inside) = neither_far c.columns_of.result a.formula (total a.view.now) a.position c.if-columns_of-formula.false in
    let p = c.requires.0 in
    let here : a.formula < a.ends.now.number = omega (arith, c.columns_of.ensures, c.if-ends-eq0.false) in
    let rows = p.rows a.formula here in
    let bound = (rows (get_or a.ends.now.at a.formula 0 - 1) (omega arith)).bound in
    let text_room = c.requires.1 in
    let ends = c.tell.ensures.tells.grows.room in (
      omega arith,
      formula_reasoned a.table.now a.view.now a.records.now a.ends.now.at a.ends.now.number a.formula a.position a.text.now c.columns_of.result c.columns_of.ensures one_of_lem inside (rw c.if-not-answered.false at c.all_answered-answered.ensures.all_answered) c.if-ends-eq0.false
          refl c.new-text.ensures c.tell.ensures.tells _ _ c.len-2.ensures (search rules),
    )
