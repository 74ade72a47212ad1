-- A letter's row: its words are its own block, and what it reads it answers.
use Prim.Native.Nat.{ℕ}
use mathlib.Core.Path.{◌≡◌, subst, ◌∙◌}
use mathlib.Core.List.{List}
use Rattle.std.specs.Prelude.{Option, Some, None}
use native.Mathlib.Omega.{arith}
use Rattle.mtl.specs.Formula.{Formula}
use Rattle.window.specs.declared.view.View.{View}
use Rattle.mtl.specs.Formula.Formula.{letter, not, or, previous, next, since, until}
use Rattle.mtl.specs.Log.{Log, NeverFalls}
use Rattle.blocks.specs.Block.{Onward}
use Rattle.blocks.specs.declared.Batch.{Batch}
use Rattle.blocks.specs.Step.{Agrees, Steps, Ends}
use Rattle.blocks.proofs.Onward.{onward_refl}
use Rattle.operators.specs.Letter.{step_of}
use mathlib.Core.Bool.{false}
use Rattle.engine.specs.State.{State, OnwardAll}
use Rattle.engine.specs.declared.table.Row.{Row}
use Rattle.engine.specs.Table.{Has, row_at, kind_at}
use Rattle.engine.specs.Answer.{Answers, Replied, first_read}
use Rattle.engine.proofs.Uniform.{row, agrees_later, step_from}

-- a formula whose last operator is a letter is that letter
abbrev OfLetter : (t : List Row) (k c : ℕ) → (Formula → Type 0) → Type 0
OfLetter t k c P = kind_at t k ≡ 0 → c ≡ (row_at t k).letter → P (letter c) → (φ : Formula) → Has φ t k → P φ

of_letter : (t : List Row) (k c : ℕ) (P : Formula → Type 0) → OfLetter t k c P
of_letter t k c P none e p (letter d) h = subst (λ (x : ℕ). P (letter x)) (e ∙ (row (letter d) t k h).fields.letter) p
of_letter t k c P none e p (not φ) h = absurd (omega (arith, none, (row (not φ) t k h).fields.kind))
of_letter t k c P none e p (or φ ψ) h = absurd (omega (arith, none, (row (or φ ψ) t k h).fields.kind))
of_letter t k c P none e p (previous low high φ) h = absurd (omega (arith, none, (row (previous low high φ) t k h).fields.kind))
of_letter t k c P none e p (next low high φ) h = absurd (omega (arith, none, (row (next low high φ) t k h).fields.kind))
of_letter t k c P none e p (since low high φ ψ) h = absurd (omega (arith, none, (row (since low high φ ψ) t k h).fields.kind))
of_letter t k c P none e p (until low high φ ψ) h = absurd (omega (arith, none, (row (until low high φ ψ) t k h).fields.kind))

-- from what it promises of the letter alone
answers_of : (t : List Row) (v : View) (s : List ℕ) (k c : ℕ) (ws : List ℕ) (r : Option Batch) (ws' : List ℕ) → kind_at t k ≡ 0 → c ≡ (row_at t k).letter → Onward 12 ws ws' →
    ((L : Log) (g : ℕ) → NeverFalls L → Agrees v s L (first_read (letter c) g) → State (letter c) L g ws → Replied (letter c) L g r ws') →
    Answers t v s k ws r ws'
unfolding OnwardAll
answers_of t v s k c ws r ws' none e onward replied = (
  of_letter t k c (λ φ. OnwardAll φ ws ws') none e (record { own = onward; left = tt; right = tt }),
  λ φ L g entered never agrees state.
      of_letter t k c (λ φ. (L : Log) (g : ℕ) → NeverFalls L → Agrees v s L (first_read φ g) → State φ L g ws → Replied φ L g r ws') none e replied φ entered L g never agrees state,
)

module _ (t : List Row) (v : View) (s : List ℕ) (k : ℕ) (ws ws' : List ℕ) {c : ℕ} (none : kind_at t k ≡ 0) (e : c ≡ (row_at t k).letter) where
  pub letter_answers : (r : Option Batch) → Ends false false v ws (step_of r) ws' → Steps (letter c) v s ws (step_of r) ws' → Answers t v s k ws r ws'
  unfolding State
  letter_answers None ends steps =
      answers_of t v s k c ws None ws' none e (rw ends (onward_refl ws))
      (λ L g never agrees state. (steps L g never (agrees_later agrees (step_from (letter c) g)) state.own, rw ends state))
  letter_answers (Some a) ends steps =
      answers_of t v s k c ws (Some a) ws' none e ends
      (λ L g never agrees state.
      let st = steps L g never (agrees_later agrees (step_from (letter c) g)) state.own in
      (st.0, record { own = st.1; left = tt; right = tt }))
