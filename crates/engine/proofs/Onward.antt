-- What is done to a subformula's blocks on any words: nothing, two things, and from the operator's own block and its operands' parts
-- to all of them. Assumes nothing.
use Prim.Native.Nat.{ℕ, ◌+◌}
use mathlib.Core.Bool.{Bool, true, false}
use mathlib.Core.Path.{◌≡◌, refl}
use mathlib.Core.List.{List}
use native.Mathlib.Omega.{arith}
use lib.ListN.{take, drop}
use Rattle.mtl.specs.Formula.{Formula}
use Rattle.mtl.specs.Formula.Formula.{letter, not, or, previous, next, since, until}
use Rattle.blocks.specs.Block.{Onward}
use Rattle.blocks.specs.Step.{has_left, has_right, left_of, right_of}
use Rattle.blocks.proofs.Onward.{onward_refl, onward_trans, onward_fewer}
use Rattle.engine.specs.State.{OnwardAll, OnwardParts, OnwardOperand, OnwardFormula, left_words, right_words, own_at}
use Rattle.engine.proofs.Parts.{Side, lent, lent_left, lent_right}
use Rattle.engine.proofs.Parts.Side.{on_left, on_right}
use Rattle.engine.proofs.Uniform.{has, of}

-- the blocks of a formula whose operands have a and c words
abbrev OnwardView : (a c : ℕ) → Formula → List ℕ → List ℕ → Type 0
OnwardView a c φ = OnwardParts 12 (OnwardOperand (has_left φ) (left_of φ)) (OnwardOperand (has_right φ) (right_of φ)) a c

pub all_refl : (φ : Formula) (ws : List ℕ) → OnwardAll φ ws ws
unfolding OnwardAll
all_refl (letter k) ws = record { own = onward_refl _; left = tt; right = tt }
all_refl (not φ) ws = record { own = onward_refl _; left = tt; right = all_refl φ _ }
all_refl (or φ ψ) ws = record { own = onward_refl _; left = all_refl φ _; right = all_refl ψ _ }
all_refl (previous low high φ) ws = record { own = onward_refl _; left = tt; right = all_refl φ _ }
all_refl (next low high φ) ws = record { own = onward_refl _; left = tt; right = all_refl φ _ }
all_refl (since low high φ ψ) ws = record { own = onward_refl _; left = all_refl φ _; right = all_refl ψ _ }
all_refl (until low high φ ψ) ws = record { own = onward_refl _; left = all_refl φ _; right = all_refl ψ _ }

parts_trans : {first : ℕ} {Left Right : List ℕ → List ℕ → Type 0} {a c : ℕ} {ws ws' ws'' : List ℕ} →
    (Left (take a ws) (take a ws') → Left (take a ws') (take a ws'') → Left (take a ws) (take a ws'')) →
    (Right (take c (drop a ws)) (take c (drop a ws')) → Right (take c (drop a ws')) (take c (drop a ws'')) →
    Right (take c (drop a ws)) (take c (drop a ws''))) →
    OnwardParts first Left Right a c ws ws' → OnwardParts first Left Right a c ws' ws'' → OnwardParts first Left Right a c ws ws''
parts_trans left right x y =
    record {
      own = onward_trans x.own y.own;
      left = left x.left y.left;
      right = right x.right y.right;
    }

pub all_trans : (φ : Formula) (ws ws' ws'' : List ℕ) → OnwardAll φ ws ws' → OnwardAll φ ws' ws'' → OnwardAll φ ws ws''
unfolding OnwardAll
all_trans (letter k) ws ws' ws'' = parts_trans (λ x y. tt) (λ x y. tt)
all_trans (not φ) ws ws' ws'' = parts_trans (λ x y. tt) (all_trans φ _ _ _)
all_trans (or φ ψ) ws ws' ws'' = parts_trans (all_trans φ _ _ _) (all_trans ψ _ _ _)
all_trans (previous low high φ) ws ws' ws'' = parts_trans (λ x y. tt) (all_trans φ _ _ _)
all_trans (next low high φ) ws ws' ws'' = parts_trans (λ x y. tt) (all_trans φ _ _ _)
all_trans (since low high φ ψ) ws ws' ws'' = parts_trans (all_trans φ _ _ _) (all_trans ψ _ _ _)
all_trans (until low high φ ψ) ws ws' ws'' = parts_trans (all_trans φ _ _ _) (all_trans ψ _ _ _)

same_all : (φ : Formula) (ws ws' : List ℕ) →
    (OnwardView (left_words φ) (right_words φ) φ ws ws' → OnwardAll φ ws ws') × (OnwardAll φ ws ws' → OnwardView (left_words φ) (right_words φ) φ ws ws')
unfolding OnwardAll
same_all (letter k) ws ws' = (λ v. v, λ v. v)
same_all (not φ) ws ws' = (λ v. v, λ v. v)
same_all (or φ ψ) ws ws' = (λ v. v, λ v. v)
same_all (previous low high φ) ws ws' = (λ v. v, λ v. v)
same_all (next low high φ) ws ws' = (λ v. v, λ v. v)
same_all (since low high φ ψ) ws ws' = (λ v. v, λ v. v)
same_all (until low high φ ψ) ws ws' = (λ v. v, λ v. v)

onward_operand : (b : Bool) (φ : Formula) (ws ws' : List ℕ) → (b ≡ true → OnwardAll φ ws ws') → OnwardOperand b φ ws ws'
onward_operand true φ ws ws' s = s refl
onward_operand false φ ws ws' s = tt

-- the words of an operand, before and after
abbrev pub OnwardAt : Side → (a c : ℕ) → Formula → (ws ws' : List ℕ) → Type 0
OnwardAt side a c φ ws ws' = has side φ ≡ true → OnwardAll (of side φ) (lent side a c ws) (lent side a c ws')

pub all_from : {a c : ℕ} (φ : Formula) (ws ws' : List ℕ) → a ≡ left_words φ → c ≡ right_words φ → Onward 12 (drop (a + c) ws) (drop (a + c) ws') →
    ((side : Side) → OnwardAt side a c φ ws ws') → OnwardAll φ ws ws'
all_from {a} {c} φ ws ws' ea ec own parts =
    let view : OnwardView a c φ ws ws' =
    record {
      own = own;
      left =
          onward_operand (has_left φ) (left_of φ) (take a ws) (take a ws') (λ e. rw (lent_left a c ws, lent_left a c ws') at (parts on_left e));
      right =
          onward_operand (has_right φ) (right_of φ) (take c (drop a ws)) (take c (drop a ws'))
          (λ e. rw (lent_right a c ws, lent_right a c ws') at (parts on_right e));
    } in
    (same_all φ ws ws').0 (rw (ea, ec) at view)

pub all_own : (φ : Formula) (ws ws' : List ℕ) → OnwardAll φ ws ws' → Onward 12 (drop (own_at φ) ws) (drop (own_at φ) ws')
all_own φ ws ws' s = ((same_all φ ws ws').1 s).own

-- THE WORDS OF A FORMULA OF THE RULE

pub all_formula : (φ : Formula) (ws ws' : List ℕ) → OnwardAll φ ws ws' → OnwardFormula φ ws ws'
all_formula φ ws ws' s =
    let v = (same_all φ ws ws').1 s in
    record { own = onward_fewer (omega arith) v.own; left = v.left; right = v.right }

operand_refl : (b : Bool) (φ : Formula) (ws : List ℕ) → OnwardOperand b φ ws ws
operand_refl true φ ws = all_refl φ ws
operand_refl false φ ws = tt

operand_trans : (b : Bool) (φ : Formula) (ws ws' ws'' : List ℕ) → OnwardOperand b φ ws ws' → OnwardOperand b φ ws' ws'' → OnwardOperand b φ ws ws''
operand_trans true φ ws ws' ws'' x y = all_trans φ ws ws' ws'' x y
operand_trans false φ ws ws' ws'' x y = tt

pub formula_refl : (φ : Formula) (ws : List ℕ) → OnwardFormula φ ws ws
formula_refl φ ws =
    record {
      own = onward_refl _;
      left = operand_refl (has_left φ) (left_of φ) (take (left_words φ) ws);
      right = operand_refl (has_right φ) (right_of φ) (take (right_words φ) (drop (left_words φ) ws));
    }

pub formula_trans : (φ : Formula) (ws ws' ws'' : List ℕ) → OnwardFormula φ ws ws' → OnwardFormula φ ws' ws'' → OnwardFormula φ ws ws''
formula_trans φ ws ws' ws'' = parts_trans (operand_trans (has_left φ) (left_of φ) _ _ _) (operand_trans (has_right φ) (right_of φ) _ _ _)
