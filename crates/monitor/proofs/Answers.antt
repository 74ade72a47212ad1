-- The number of what `open` and `resume` answer is the refusal's: 0 where the call is not refused, and not 0 where it is.
use Prim.Native.Nat.{ℕ}
use mathlib.Core.Bool.{Bool, true, false, cond, true≢false}
use mathlib.Core.Path.{◌≡◌, refl, sym, ap, ◌∙◌}
use mathlib.Core.List.{List}
use native.Mathlib.Omega.{arith}
use borrow.Author.Tests.{ltb-true, eqb-true, eqb-false}
use lib.Dec.{eqb}
use lib.ListN.{length}
use Rattle.checks.specs.Refusal.{open_refusal, resume_refusal}
use Rattle.monitor.specs.Open.{done, Opens}
use Rattle.monitor.specs.Open.{Answer as Opening, refused_with as not_opened}
use Rattle.monitor.specs.Resume.{Answer, gave, refused_with, Resumes}

module _ {rule p p' : List ℕ} where
  pub open_number : {a : Opening} → Opens rule p a p' → a.number ≡ open_refusal rule (length p)
  open_number opens = ap (λ (x : Opening). x.number) opens.outcome

  pub open_unrefused : Opens rule p done p' → open_refusal rule (length p) ≡ 0
  open_unrefused opens = sym (open_number opens)

  pub open_refused : {n : ℕ} → Opens rule p (not_opened n) p' → n ≡ 0 → ⊥
  open_refused opens none =
      let number = open_number opens in
      let some = ltb-true 0 (open_refusal rule (length p)) (sym (ap (λ (x : Opening). x.refused) opens.outcome)) in
      omega arith

-- by whether the refusal's number n is 0
number_of : (b : Bool) (n c : ℕ) (more : Bool) → eqb n 0 ≡ b → (cond b (gave c more) (refused_with n)).number ≡ n
number_of true n c more e = sym (eqb-true n 0 e)
number_of false n c more e = refl

not_zero : (b : Bool) (n m c : ℕ) (more : Bool) → eqb n 0 ≡ b → refused_with m ≡ cond b (gave c more) (refused_with n) → m ≡ 0 → ⊥
not_zero true n m c more e is none = true≢false (ap (λ (x : Answer). x.refused) is)
not_zero false n m c more e is none = omega (arith, ap (λ (x : Answer). x.number) is, eqb-false n 0 e)

module _ {closing : Bool} {rule log p sheet p' sheet' : List ℕ} where
  pub resume_number : {a : Answer} → Resumes closing rule log p sheet a p' sheet' → a.number ≡ resume_refusal closing rule log p
  resume_number {a} resumes =
      let n = resume_refusal closing rule log p in
      ap (λ (x : Answer). x.number) resumes.outcome ∙ number_of (eqb n 0) n a.count a.more refl

  pub resume_unrefused : {c : ℕ} {more : Bool} → Resumes closing rule log p sheet (gave c more) p' sheet' → resume_refusal closing rule log p ≡ 0
  resume_unrefused resumes = sym (resume_number resumes)

  pub resume_refused : {m : ℕ} → Resumes closing rule log p sheet (refused_with m) p' sheet' → m ≡ 0 → ⊥
  resume_refused {m} resumes = let n = resume_refusal closing rule log p in not_zero (eqb n 0) n m 0 false refl resumes.outcome
