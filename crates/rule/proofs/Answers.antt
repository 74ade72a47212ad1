-- What the checks of the entries, taken in their order, say of the answer: one law for each way out of `Rule::measure`.
use Prim.Native.Nat.{ℕ, ◌+◌, ◌≤◌, ◌<◌}
use native.Mathlib.Omega.{arith}
use borrow.Author.Tests.{lt-ltb, le-ltb}
use mathlib.Core.Path.{◌≡◌, refl, sym, ap, ap₂, ◌∙◌}
use mathlib.Core.Bool.{Bool, true, false, cond}
use mathlib.Core.List.{List}
use mathlib.Core.Option.{Option, none, some}
use lib.ListN.{length}
use Rattle.mtl.specs.Formula.{Formula, unbounded, largest}
use Rattle.mtl.specs.Satisfaction.{any}
use Rattle.rule.specs.declared.Entry.{Entry}
use Rattle.std.specs.Prelude.{Some, None}
use Rattle.rule.specs.declared.measuring.Quantity.TheVariants.{Reach}
use Rattle.rule.specs.declared.measuring.Totals.{Totals}
use Rattle.rule.specs.Words.{header_words, words, limit}
use Rattle.rule.specs.Postfix.{formulas}
use Rattle.rule.specs.Refusal.{misshapen_at, misplaced_at, lacking, over_limit, entries_refusal}
use Rattle.rule.specs.Measure.{Answer, refused, some_next, reach_of}
use Rattle.rule.specs.Contract.{measured_entries}
use Rattle.rule.specs.Code.{quantity, totals, is_next, reading}
use Rattle.rule.proofs.Nexts.{next_is}

none_of : (o : Option (List Formula)) → reading Reach o ≡ None → lacking o ≡ true
none_of none p = refl
none_of (some fs) p = cc

some_of : (o : Option (List Formula)) (most : ℕ) → reading Reach o ≡ Some most → lacking o ≡ false
some_of none most p = cc
some_of (some fs) most p = refl

-- the reach, once the largest of the formulas' own is known
far_of : (o : Option (List Formula)) (most : ℕ) (next : Bool) → ((fs : List Formula) → o ≡ some fs → some_next fs ≡ next)
    → reading Reach o ≡ Some most → reach_of o ≡ cond next unbounded most
far_of none most next h e = cc
far_of (some fs) most next h e =
    let r : largest (quantity Reach) fs ≡ most = cc in
    ap₂ (λ (b : Bool) (m : ℕ). cond b unbounded m) (h fs refl) r

module _ (version : ℕ) (t : List Entry) (n : ℕ) (sums : Totals) (s : sums ≡ totals t n) where
  shape_is : (b : Bool) → sums.misshapen ≡ b → any n (misshapen_at t) ≡ b
  shape_is b e = sym (ap (λ (x : Totals). x.misshapen) s) ∙ e

  place_is : (b : Bool) → sums.misplaced ≡ b → any n (misplaced_at t) ≡ b
  place_is b e = sym (ap (λ (x : Totals). x.misplaced) s) ∙ e

  words_are : header_words version + sums.words ≡ words version t n
  words_are = ap (λ (x : Totals). header_words version + x.words) s

  pub stop5 : sums.misshapen ≡ true → refused 5 ≡ measured_entries version t n
  unfolding entries_refusal
  stop5 a = simp (shape_is true a)

  pub stop6 : sums.misshapen ≡ false → sums.misplaced ≡ true → refused 6 ≡ measured_entries version t n
  unfolding entries_refusal
  stop6 a b = simp (shape_is false a, place_is true b)

  pub stop7 : sums.misshapen ≡ false → sums.misplaced ≡ false → reading Reach (formulas version t n) ≡ None → refused 7 ≡ measured_entries version t n
  unfolding entries_refusal
  stop7 a b e = simp (shape_is false a, place_is false b, none_of (formulas version t n) e)

  pub stop8 : (far : ℕ) → sums.misshapen ≡ false → sums.misplaced ≡ false → reading Reach (formulas version t n) ≡ Some far
      → limit < header_words version + sums.words → refused 8 ≡ measured_entries version t n
  unfolding entries_refusal
  stop8 far a b e l =
      let o : over_limit version t n ≡ true = lt-ltb limit (words version t n) (omega (arith, words_are)) in
      simp (shape_is false a, place_is false b, some_of (formulas version t n) far e, o)

  pub passes : (far : ℕ) (next : Bool) → n ≤ length t → sums.misshapen ≡ false → sums.misplaced ≡ false
      → reading Reach (formulas version t n) ≡ Some far → header_words version + sums.words ≤ limit → sums.next ≡ next
      → record { number = 0; words = header_words version + sums.words; reach = cond next unbounded far } ≡ measured_entries version t n
  unfolding entries_refusal
  passes far next h a b e l f =
      let o : over_limit version t n ≡ false = le-ltb limit (words version t n) (omega (arith, words_are)) in
      let g : any n (is_next t) ≡ next = sym (ap (λ (x : Totals). x.next) s) ∙ f in
      simp (shape_is false a, place_is false b, some_of (formulas version t n) far e, o)
      (ap₂ {C = Answer} (λ (w m : ℕ). record { number = 0; words = w; reach = m }) words_are
      (sym (far_of (formulas version t n) far next (λ fs p. next_is version t n fs h p ∙ g) e)))
