-- The bytes of verdicts: their number, each of them by position, the no among them, and those of a longer log. Assumes nothing.
use Prim.Native.Nat.{ℕ, zero, suc, ◌+◌, ◌≤◌, ◌<◌}
use mathlib.Core.Path.{◌≡◌, refl, sym, ◌∙◌, ap, ap₂}
use mathlib.Core.List.{List, [], ◌∷◌, ◌++◌, append_assoc, append-nil}
use mathlib.Core.Logic.{⊎_elim}
use native.Mathlib.Nat.{not-suc-le-zero}
use native.Mathlib.Omega.{arith}
use lib.ListN.{length, get_or, take, length-append, get_or-append}
use lib.Seq.{take-suc, get_or-take, get_or_at, ext_get_or, length-take-le}
use Rattle.mtl.specs.Formula.{Formula}
use Rattle.mtl.specs.Log.{Log, NeverFalls, Continues}
use Rattle.mtl.specs.Progress.{joint_progress}
use Rattle.mtl.proofs.Bounded.{le_or_lt}
use Rattle.verdicts.specs.Counts.{Noes, noes_in, laid_behind}
use Rattle.verdicts.proofs.Noes.{noes_same, noes_behind}
use Rattle.meaning.specs.Verdicts.{verdict, verdicts}
use Rattle.meaning.proofs.Laws.{verdict_stays}

module _ (fs : List Formula) (L : Log) where
  pub length_verdicts : (n : ℕ) → length (verdicts fs L n) ≡ n
  unfolding verdicts
  length_verdicts zero = refl
  length_verdicts (suc n) =
      let e = length_verdicts n in
      let sum = length-append (verdicts fs L n) (verdict fs L n ∷ []) in
      omega arith

  -- byte i of the verdicts is that of position i
  pub verdict_at : (n i : ℕ) → i < n → get_or (verdicts fs L n) i 0 ≡ verdict fs L i
  unfolding verdicts
  verdict_at zero i h = absurd (not-suc-le-zero h)
  verdict_at (suc n) i h =
      let e = length_verdicts n in
      ⊎_elim
      (λ (l : n ≤ i).
      let same : i ≡ n = omega arith in
      rw same (get_or_at (verdicts fs L n) (verdict fs L n) [] 0 n e))
      (λ (l : i < n). get_or-append (verdicts fs L n) (verdict fs L n ∷ []) 0 i (omega arith) ∙ verdict_at n i l)
      (le_or_lt n i)

  -- a list with these verdicts from position d on
  abbrev pub VerdictsFrom : ℕ → ℕ → List ℕ → Type 0
  VerdictsFrom d c s = (i : ℕ) → i < c → get_or s i 0 ≡ verdict fs L (d + i)

  -- c bytes more
  pub verdicts_more : (d c : ℕ) (s : List ℕ) → c ≤ length s → VerdictsFrom d c s → verdicts fs L d ++ take c s ≡ verdicts fs L (d + c)
  unfolding verdicts
  verdicts_more d zero s room bytes = let sum : d ≡ d + 0 = omega arith in append-nil (verdicts fs L d) ∙ ap (verdicts fs L) sum
  verdicts_more d (suc c) s room bytes =
      let before = verdicts_more d c s (omega arith) (λ i h. bytes i (omega arith)) in
      let next = bytes c (omega arith) in
      let sum : suc (d + c) ≡ d + suc c = omega arith in
      ap (λ b. verdicts fs L d ++ b) (take-suc s c 0 room) ∙ sym (append_assoc (verdicts fs L d) (take c s) (get_or s c 0 ∷ [])) ∙
      ap₂ (λ vs v. vs ++ (v ∷ [])) before next ∙ ap (verdicts fs L) sum

  -- the first of them
  pub take_verdicts : (d m : ℕ) → d ≤ m → take d (verdicts fs L m) ≡ verdicts fs L d
  take_verdicts d m h =
      let few = length-take-le d (verdicts fs L m) (rw (length_verdicts m) h) in
      ext_get_or 0 (take d (verdicts fs L m)) (verdicts fs L d) (few ∙ sym (length_verdicts d))
      (λ i l. get_or-take d (verdicts fs L m) i 0 (omega arith) ∙ verdict_at m i (omega arith) ∙ sym (verdict_at d i (omega arith)))

  -- the no of formula k among them, once c more are given
  pub noes_more : (k d c : ℕ) (s : List ℕ) → VerdictsFrom d c s →
      laid_behind (noes_in k (verdicts fs L d) d) d (noes_in k s c) ≡ noes_in k (verdicts fs L (d + c)) (d + c)
  noes_more k d c s bytes =
      let all = verdicts fs L (d + c) in
      ap (λ (x : Noes). laid_behind x d (noes_in k s c))
      (noes_same k (verdicts fs L d) all d (λ i h. verdict_at d i h ∙ sym (verdict_at (d + c) i (omega arith)))) ∙
      sym (noes_behind k all s d c (λ i h. verdict_at (d + c) (d + i) (omega arith) ∙ sym (bytes i h)))

-- verdicts that are settled stay on a longer log
pub verdicts_stay : (fs : List Formula) (K L : Log) → Continues K L → NeverFalls L → (d : ℕ) → d ≤ joint_progress fs K → verdicts fs K d ≡ verdicts fs L d
unfolding verdicts
verdicts_stay fs K L longer falls zero h = refl
verdicts_stay fs K L longer falls (suc d) h =
    ap₂ (λ vs v. vs ++ (v ∷ [])) (verdicts_stay fs K L longer falls d (omega arith)) (verdict_stays fs K L longer falls d (omega arith))
