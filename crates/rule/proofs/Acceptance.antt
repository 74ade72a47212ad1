-- A rule that weighing accepts has as many formulas as its version wants, and all that the layers above rely on.
use Prim.Native.Nat.{ℕ, suc, ◌≤◌, ◌<◌}
use native.Mathlib.Nat.{suc_inj}
use native.Mathlib.Omega.{arith}
use borrow.Author.Tests.{ltb-false}
use mathlib.Core.Path.{◌≡◌, refl, sym, ap, subst, ◌∙◌}
use mathlib.Core.Bool.{false}
use mathlib.Core.List.{List, [], ◌∷◌, reverse, reverse-reverse}
use mathlib.Core.Option.{Option, none, some}
use lib.ListN.{length, take, length-reverse}
use Rattle.mtl.specs.Formula.{Formula}
use Rattle.mtl.specs.Satisfaction.{any}
use Rattle.rule.specs.declared.Entry.{Entry}
use Rattle.rule.specs.Entries.{version, count, decoded, entry}
use Rattle.rule.specs.Words.{words, limit}
use Rattle.rule.specs.Postfix.{read, stack_after, formulas, postfixes}
use Rattle.rule.specs.Refusal.{misshapen_at, misplaced_at, lacking, over_limit, header_refusal, entries_refusal, refusal}
use Rattle.rule.specs.Operands.{FormulaAt}
use Rattle.rule.specs.Accepted.{FieldsInRange, WellFormed, Whole, Accepted}
use Rattle.rule.proofs.Stacks.{stays_none, Left, left_over}
use Rattle.rule.proofs.Order.{whole_of}
use Rattle.rule.proofs.Headers.{first_zero, before_none, headed}
use Rattle.rule.proofs.Spans.{leaf_of}
use Rattle.rule.proofs.Subformulas.{unary_at, binary_at, Stacked, stacked}
use Rattle.rule.proofs.Ranges.{none_below, in_range}
use Rattle.rule.proofs.Flat.{read_postfixes, flat}
use Rattle.rule.proofs.Decoded.{length_decoded}

-- what remains where refusals 5 to 8 do not apply
pub record Passed (version : ℕ) (t : List Entry) (n : ℕ) : Type 0 where
  pub shapes : any n (misshapen_at t) ≡ false
  pub places : any n (misplaced_at t) ≡ false
  pub reads : lacking (formulas version t n) ≡ false
  pub fits : words version t n ≤ limit

pub passed : (version : ℕ) (t : List Entry) (n : ℕ) → entries_refusal version t n ≡ 0 → Passed version t n
unfolding entries_refusal
passed version t n e =
    let a = first_zero 4 (any n (misshapen_at t)) _ e in
    let b = first_zero 5 (any n (misplaced_at t)) _ a.1 in
    let c = first_zero 6 (lacking (formulas version t n)) _ b.1 in
    let d = first_zero 7 (over_limit version t n) 0 c.1 in
    record { shapes = a.0; places = b.0; reads = c.0; fits = ltb-false limit (words version t n) d.0 }

the_left : (o : Option (List Formula)) → lacking o ≡ false → (fs : List Formula) × (o ≡ some fs)
the_left none e = absurd (let z : ◌≡◌ {A = ℕ} 0 1 = cc in omega arith)
the_left (some fs) e = (fs, refl)

module _ (version : ℕ) (t : List Entry) (n : ℕ) (long : n ≤ length t) (p : Passed version t n) where
  ranges : (k : ℕ) → k < n → FieldsInRange (entry t k)
  ranges k h = in_range (entry t k) (none_below n (misshapen_at t) p.shapes k h) (none_below n (misplaced_at t) p.places k h)

  those : (fs : List Formula) × (formulas version t n ≡ some fs)
  those = the_left (formulas version t n) p.reads

  fs₀ : List Formula
  fs₀ = those.0

  reads_those : formulas version t n ≡ some fs₀
  unfolding fs₀
  reads_those = those.1

  left : Left version (stack_after t n) fs₀
  left = left_over version (stack_after t n) fs₀ reads_those

  stack : List Formula
  stack = left.stack

  at_end : stack_after t n ≡ some stack
  unfolding stack
  at_end = left.stack_is

  in_order : fs₀ ≡ reverse stack
  unfolding stack
  in_order = left.order

  stacked_end : Stacked t n stack
  stacked_end = stacked t n long ranges n (omega arith) stack at_end

  sub : (k : ℕ) → k < n → (φ : Formula) × FormulaAt t k φ
  sub k h = go (stack_after t (suc k)) refl
    where
      go : (o : Option (List Formula)) → stack_after t (suc k) ≡ o → (φ : Formula) × FormulaAt t k φ
      go none e = absurd (let q = stays_none t (suc k) n h e in let z : ◌≡◌ {A = ℕ} 0 1 = cc (at_end) in omega arith)
      go (some []) e = absurd (let q = stacked t n long ranges (suc k) h [] e in omega arith)
      go (some (φ ∷ fs)) e =
          let (j, q, a, r) = stacked t n long ranges (suc k) h (φ ∷ fs) e in
          (φ, subst (λ (m : ℕ). FormulaAt t m φ) (sym (suc_inj q)) a)

  pub well_formed : WellFormed t n
  well_formed =
      record {
        in_range = ranges;
        subformula = sub;
        leaf = λ k h e. leaf_of t k e;
        unary = λ k h e. let (φ, a) = sub k h in unary_at t k φ a e;
        binary = λ k h e. let (φ, a) = sub k h in binary_at t k φ a e;
        within = omega (arith, p.fits);
      }

  whole : Whole t n fs₀
  whole = subst (Whole t n) (sym in_order) (whole_of t n stack stacked_end)

  how_many : length fs₀ ≡ length left.stack
  how_many = ap length left.order ∙ length-reverse left.stack

  read_back : postfixes fs₀ ≡ take n t
  read_back = ap postfixes in_order ∙ flat t stack n long stacked_end

  only_those : (fs : List Formula) → postfixes fs ≡ take n t → fs ≡ fs₀
  only_those fs e =
      let r : stack_after t n ≡ some (reverse fs) = ap (λ (l : List Entry). read l (some [])) (sym e) ∙ read_postfixes fs in
      let same : reverse fs ≡ stack = cc (at_end) in
      sym (reverse-reverse fs) ∙ ap reverse same ∙ sym in_order

pub accepted : (s : List ℕ) → refusal s ≡ 0 → Accepted s
accepted s e =
    let v = version s in
    let t = decoded s in
    let n = count s in
    let b = before_none (header_refusal s) (entries_refusal v t n) e in
    let h = headed s b.0 in
    let p : Passed v t n = passed v t n b.1 in
    let l : n ≤ length t = omega (arith, h.few, length_decoded s) in
    let m = how_many v t n l p in
    record {
      one_or_two = h.one_or_two;
      few_entries = h.few;
      size = h.size;
      well_formed = well_formed v t n l p;
      need = p.fits;
      the_formulas = fs₀ v t n l p;
      reads = reads_those v t n l p;
      enough = omega (arith, (left v t n l p).enough);
      not_more = omega (arith, (left v t n l p).not_more);
      whole = whole v t n l p;
      read_back = read_back v t n l p;
      only = only_those v t n l p;
    }
