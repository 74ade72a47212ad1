-- The seven kinds seen alike: the state of a formula, its buffers, and its rows in the table.
use Prim.Native.Nat.{ℕ, ◌+◌, ◌-◌, ◌≤◌}
use mathlib.Core.Bool.{Bool, true, false}
use mathlib.Core.Logic.{⊎_elim}
use mathlib.Core.Path.{◌≡◌, refl, sym, ◌∙◌}
use mathlib.Core.List.{List}
use native.Mathlib.Omega.{arith}
use lib.ListN.{take, drop}
use Rattle.mtl.specs.Formula.{Formula}
use Rattle.window.specs.declared.view.View.{View as LogView}
use Rattle.mtl.specs.Formula.Formula.{letter, not, or, previous, next, since, until}
use Rattle.mtl.specs.Log.{Log}
use Rattle.mtl.specs.Wanted.{depth}
use Rattle.mtl.proofs.Bounded.{true_and_false}
use Rattle.rule.specs.Words.{own_words}
use Rattle.blocks.specs.Block.{word, taken, left_count, right_count, kind_of, high_of, Own, Ready, Buffer, Buffers}
use Rattle.blocks.specs.Step.{Agrees, has_left, has_right, left_of, right_of, reads_from}
use Rattle.engine.specs.State.{State, Parts, Absent, needed_words, left_words, right_words}
use Rattle.engine.specs.Answer.{first_read}
use Rattle.engine.specs.declared.table.Row.{Row}
use Rattle.engine.specs.Table.{Has, RowOf, RowOk, row_at}
use Rattle.engine.proofs.Parts.{Side, by_side, slot, lent, lent_left, lent_right}
use Rattle.engine.proofs.Parts.Side.{on_left, on_right}

-- an operand's state, where there is one
abbrev pub Operand : Bool → Formula → Log → ℕ → List ℕ → Type 0
Operand true φ L = State φ L
Operand false φ L = Absent

-- the state of a formula whose operands have a and c words
abbrev pub View : (a c : ℕ) → Formula → Log → ℕ → List ℕ → Type 0
View a c φ L g =
    Parts (Ready φ L g) (Operand (has_left φ) (left_of φ) L) (Operand (has_right φ) (right_of φ) L) a c

same_view : (φ : Formula) (L : Log) (g : ℕ) (ws : List ℕ) →
    (State φ L g ws → View (left_words φ) (right_words φ) φ L g ws) ×
    (View (left_words φ) (right_words φ) φ L g ws → State φ L g ws)
unfolding State
same_view (letter k) L g ws = (λ s. s, λ s. s)
same_view (not φ) L g ws = (λ s. s, λ s. s)
same_view (or φ ψ) L g ws = (λ s. s, λ s. s)
same_view (previous low high φ) L g ws = (λ s. s, λ s. s)
same_view (next low high φ) L g ws = (λ s. s, λ s. s)
same_view (since low high φ ψ) L g ws = (λ s. s, λ s. s)
same_view (until low high φ ψ) L g ws = (λ s. s, λ s. s)

pub view : {a c : ℕ} (φ : Formula) (L : Log) (g : ℕ) (ws : List ℕ) → a ≡ left_words φ → c ≡ right_words φ →
    State φ L g ws → View a c φ L g ws
view φ L g ws ea ec s = rw (ea, ec) ((same_view φ L g ws).0 s)

pub unview : {a c : ℕ} (φ : Formula) (L : Log) (g : ℕ) (ws : List ℕ) → a ≡ left_words φ → c ≡ right_words φ →
    View a c φ L g ws → State φ L g ws
unview φ L g ws ea ec v = (same_view φ L g ws).1 (rw (ea, ec) at v)

-- by side: whether the operator has the operand, the operand, and its entry
abbrev pub has : Side → Formula → Bool
has on_left = has_left
has on_right = has_right

abbrev pub of : Side → Formula → Formula
of on_left = left_of
of on_right = right_of

abbrev pub entry : Side → (left k : ℕ) → ℕ
entry on_left left k = left
entry on_right left k = k - 1

never : {A : Type 0} → false ≡ true → A
never e = absurd (true_and_false e refl)

is_operand : (b : Bool) (φ : Formula) (L : Log) (p : ℕ) (ws : List ℕ) → Operand b φ L p ws → b ≡ true → State φ L p ws
is_operand true φ L p ws s e = s
is_operand false φ L p ws s e = never e

an_operand : (b : Bool) (φ : Formula) (L : Log) (p : ℕ) (ws : List ℕ) → (b ≡ true → State φ L p ws) → Operand b φ L p ws
an_operand true φ L p ws s = s refl
an_operand false φ L p ws s = tt

-- an operand stands where its buffer ends
abbrev pub StandsAt : Side → (a c : ℕ) → Formula → Log → (b ws : List ℕ) → Type 0
StandsAt side a c φ L b ws = has side φ ≡ true → State (of side φ) L (taken b + word b (slot side)) (lent side a c ws)

pub operand : {a c : ℕ} {φ : Formula} {L : Log} {g : ℕ} {ws : List ℕ} → View a c φ L g ws → (side : Side) →
    StandsAt side a c φ L (drop (a + c) ws) ws
operand {a} {c} {φ} {L} {g} {ws} v on_left e =
    let b = drop (a + c) ws in
    rw (lent_left a c ws) (is_operand (has_left φ) (left_of φ) L (taken b + left_count b) (take a ws) v.left e)
operand {a} {c} {φ} {L} {g} {ws} v on_right e =
    let b = drop (a + c) ws in
    rw (lent_right a c ws)
    (is_operand (has_right φ) (right_of φ) L (taken b + right_count b) (take c (drop a ws)) v.right e)

-- a state from its parts
pub view_of : (a c : ℕ) (φ : Formula) (L : Log) (g : ℕ) (ws b : List ℕ) → drop (a + c) ws ≡ b → Ready φ L g b →
    ((side : Side) → StandsAt side a c φ L b ws) → View a c φ L g ws
view_of a c φ L g ws b own ready parts =
    record {
      own = rw own ready;
      left =
          rw own
          (an_operand
          (has_left φ)
          (left_of φ)
          L
          (taken b + left_count b)
          (take a ws)
          (λ e. rw (lent_left a c ws) at (parts on_left e)));
      right =
          rw own
          (an_operand
          (has_right φ)
          (right_of φ)
          L
          (taken b + right_count b)
          (take c (drop a ws))
          (λ e. rw (lent_right a c ws) at (parts on_right e)));
    }

-- the buffer of an operand
abbrev pub Buffered : Formula → Log → List ℕ → Side → Type 0
Buffered φ L b side = has side φ ≡ true → Buffer (of side φ) L (taken b) (word b (slot side)) (word b (slot side + 1))

pub buffered : (φ : Formula) (L : Log) (b : List ℕ) → Buffers φ L b → (side : Side) → Buffered φ L b side
buffered (letter k) L b s = by_side (Buffered (letter k) L b) on_left never never
buffered (not φ) L b s = by_side (Buffered (not φ) L b) on_left never (λ e. s)
buffered (or φ ψ) L b s = by_side (Buffered (or φ ψ) L b) on_left (λ e. s.0) (λ e. s.1)
buffered (previous low high φ) L b s = by_side (Buffered (previous low high φ) L b) on_left never (λ e. s)
buffered (next low high φ) L b s = by_side (Buffered (next low high φ) L b) on_left never (λ e. s)
buffered (since low high φ ψ) L b s = by_side (Buffered (since low high φ ψ) L b) on_left (λ e. s.0) (λ e. s.1)
buffered (until low high φ ψ) L b s = by_side (Buffered (until low high φ ψ) L b) on_left (λ e. s.0) (λ e. s.1)

pub all_buffered : (φ : Formula) (L : Log) (b : List ℕ) → ((side : Side) → Buffered φ L b side) → Buffers φ L b
all_buffered (letter k) L b s = tt
all_buffered (not φ) L b s = s on_right refl
all_buffered (or φ ψ) L b s = (s on_left refl, s on_right refl)
all_buffered (previous low high φ) L b s = s on_right refl
all_buffered (next low high φ) L b s = s on_right refl
all_buffered (since low high φ ψ) L b s = (s on_left refl, s on_right refl)
all_buffered (until low high φ ψ) L b s = (s on_left refl, s on_right refl)

-- a slice that shows a log from one position on shows it from a later one on
pub agrees_later : {v : LogView} {s : List ℕ} {L : Log} {a b : ℕ} → Agrees v s L a → a ≤ b → Agrees v s L b
agrees_later agrees later = record { ends = agrees.ends; size = agrees.size; shows = λ i low high. agrees.shows i (omega arith) high }

-- a step reads no earlier position
pub step_from : (φ : Formula) (g : ℕ) → first_read φ g ≤ reads_from φ g
unfolding depth
step_from (letter k) g = omega arith
step_from (not φ) g = omega arith
step_from (or φ ψ) g = omega arith
step_from (previous low high φ) g = omega arith
step_from (next low high φ) g = omega arith
step_from (since low high φ ψ) g = omega arith
step_from (until low high φ ψ) g = omega arith

-- nor does an operand that is asked at the next position to take: that of a previous is one behind, and has a depth one smaller
abbrev pub FromOperand : Formula → ℕ → List ℕ → Side → Type 0
FromOperand φ g b side = first_read φ g ≤ first_read (of side φ) (taken b)

pub operand_from : (φ : Formula) (L : Log) (g : ℕ) (b : List ℕ) → Own φ L g b → (side : Side) → FromOperand φ g b side
unfolding depth
operand_from (letter k) L g b o = by_side (FromOperand (letter k) g b) on_left (omega arith) (omega arith)
operand_from (not φ) L g b o = by_side (FromOperand (not φ) g b) on_left (omega arith) (omega arith)
operand_from (or φ ψ) L g b o = by_side (FromOperand (or φ ψ) g b) on_left (omega arith) (omega arith)
operand_from (previous low high φ) L g b o = by_side (FromOperand (previous low high φ) g b) on_left (omega arith) (omega arith)
operand_from (next low high φ) L g b o =
    let behind : g ≤ taken b = ⊎_elim (λ e. omega arith) (λ e. let all = e.1 in let end = e.2 in omega arith) o.1 in
    by_side (FromOperand (next low high φ) g b) on_left (omega arith) (omega arith)
operand_from (since low high φ ψ) L g b o =
    let at = o.at in by_side (FromOperand (since low high φ ψ) g b) on_left (omega arith) (omega arith)
operand_from (until low high φ ψ) L g b o =
    let ahead = o.1.ahead in by_side (FromOperand (until low high φ ψ) g b) on_left (omega arith) (omega arith)

-- a formula's row, and its operands'
pub row : (φ : Formula) (t : List Row) (k : ℕ) → Has φ t k → RowOf φ t k
unfolding Has
row (letter c) t k h = h
row (not φ) t k h = h.0
row (or φ ψ) t k h = h.0
row (previous low high φ) t k h = h.0
row (next low high φ) t k h = h.0
row (since low high φ ψ) t k h = h.0
row (until low high φ ψ) t k h = h.0

abbrev pub HasOperand : Formula → List Row → ℕ → Side → Type 0
HasOperand φ t k side = has side φ ≡ true → Has (of side φ) t (entry side (row_at t k).left k)

pub operand_rows : (φ : Formula) (t : List Row) (k : ℕ) → Has φ t k → (side : Side) → HasOperand φ t k side
unfolding Has
operand_rows (letter c) t k h = by_side (HasOperand (letter c) t k) on_left never never
operand_rows (not φ) t k h = by_side (HasOperand (not φ) t k) on_left never (λ e. h.1)
operand_rows (or φ ψ) t k h = by_side (HasOperand (or φ ψ) t k) on_left (λ e. h.1) (λ e. h.2)
operand_rows (previous low high φ) t k h = by_side (HasOperand (previous low high φ) t k) on_left never (λ e. h.1)
operand_rows (next low high φ) t k h = by_side (HasOperand (next low high φ) t k) on_left never (λ e. h.1)
operand_rows (since low high φ ψ) t k h =
    by_side (HasOperand (since low high φ ψ) t k) on_left (λ e. h.1) (λ e. h.2)
operand_rows (until low high φ ψ) t k h =
    by_side (HasOperand (until low high φ ψ) t k) on_left (λ e. h.1) (λ e. h.2)

-- its operands' words and its own block's are all that a formula has
pub all_words : (φ : Formula) → needed_words φ ≡ left_words φ + right_words φ + own_words (kind_of φ) (high_of φ)
unfolding needed_words
all_words (letter c) = refl
all_words (not φ) = omega arith
all_words (or φ ψ) = refl
all_words (previous low high φ) = omega arith
all_words (next low high φ) = omega arith
all_words (since low high φ ψ) = refl
all_words (until low high φ ψ) = refl

-- the row says how many words the formula has
pub row_words : (φ : Formula) (t : List Row) (k : ℕ) → RowOk t k → RowOf φ t k → needed_words φ ≡ (row_at t k).words
row_words φ t k ok r =
    all_words φ ∙
    rw (← r.left_words, ← r.right_words, ← r.fields.kind, ← r.fields.high) (sym ok.words)
