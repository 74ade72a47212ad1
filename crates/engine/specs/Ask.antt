-- One step of an entry, and operands' buffers filled by asking the operands: the promises that the engine's functions give each other.
use Rattle.std.specs.Prelude.{ℕ, ◌+◌, ◌-◌, ◌≤◌, ◌<◌, Bool, true, false, ◌⊎◌, ◌≡◌, List, ◌++◌, length, take, drop, set}
use Rattle.window.specs.declared.view.View.{View}
use Rattle.mtl.specs.Formula.{Formula}
use Rattle.mtl.specs.Log.{Log, NeverFalls}
use Rattle.mtl.specs.Progress.{settled_to}
use Rattle.blocks.specs.Block.{word, taken, left_count, right_count}
use Rattle.blocks.specs.Step.{Agrees, Batched, Steps, Ends, has_left, left_of, right_of, left_to_do}
use Rattle.blocks.specs.Kinds.{takes_left, takes_right}
use Rattle.blocks.specs.declared.Step.{Step}
use Rattle.engine.specs.State.{State}
use Rattle.engine.specs.Table.{kind_at, RowOf, Has}
use Rattle.engine.specs.Answer.{GoesOn, first_read}
use Rattle.engine.specs.declared.table.Row.{Row}

-- a step of entry k on its own block, which begins at `own`: the words before it are its operands'
pub record Advances (t : List Row) (v : View) (s : List ℕ) (k own : ℕ) (ws : List ℕ) (r : Step) (ws' : List ℕ) : Type 0 where
  pub before : take own ws' ≡ take own ws
  pub ends : Ends (takes_left (kind_at t k)) (takes_right (kind_at t k)) v (drop own ws) r (drop own ws')
  pub steps : (φ : Formula) → RowOf φ t k → Steps φ v s (drop own ws) r (drop own ws')

-- a part that was lent, and the whole with the part put back
abbrev pub part : (from to : ℕ) → List ℕ → List ℕ
part from to ws = take (to - from) (drop from ws)

abbrev pub back : (from to : ℕ) → List ℕ → List ℕ → List ℕ
back from to ys ws = take from ws ++ (ys ++ drop to ws)

-- a batch put into the buffer at slot
abbrev pub stored : List ℕ → (slot bits count : ℕ) → List ℕ
stored ws slot bits count = set (set ws slot count) (slot + 1) bits

-- the operand's own words are ys afterwards; filled: its batch stands in the buffer; not filled: it is open
abbrev pub Filled : (t : List Row) (v : View) (s : List ℕ) → ℕ → (from to slot : ℕ) → List ℕ → Bool → List ℕ → List ℕ → Type 0
Filled t v s o from to slot ws true ws' ys =
    (bits : ℕ) × (count : ℕ) × (1 ≤ count) × (ws' ≡ stored (back from to ys ws) slot bits count) ×
    ((φ : Formula) (L : Log) (q : ℕ) → Has φ t o → NeverFalls L → Agrees v s L (first_read φ q) → State φ L q (part from to ws) →
    Batched φ L q bits count × State φ L (q + count) ys)
Filled t v s o from to slot ws false ws' ys =
    (ws' ≡ back from to ys ws) ×
    ((φ : Formula) (L : Log) (q : ℕ) → Has φ t o → NeverFalls L → Agrees v s L (first_read φ q) → State φ L q (part from to ws) →
    (settled_to φ L ≡ q) × State φ L q ys)

abbrev pub Asks : (t : List Row) (v : View) (s : List ℕ) → ℕ → (from to slot : ℕ) → List ℕ → Bool → List ℕ → Type 0
Asks t v s o from to slot ws r ws' =
    (ys : List ℕ) × (length ys ≡ to - from) × GoesOn t o (part from to ws) ys × Filled t v s o from to slot ws r ws' ys

-- the buffer has answers, or the operand is asked
pub record Fills (t : List Row) (v : View) (s : List ℕ) (o from to slot : ℕ) (ws : List ℕ) (r : Bool) (ws' : List ℕ) : Type 0 where
  pub some : 0 < word ws slot → (r ≡ true) × (ws' ≡ ws)
  pub none : word ws slot ≡ 0 → Asks t v s o from to slot ws r ws'

-- the words stand for whatever formula they stood for, and no head went back
abbrev pub StillStands : (t : List Row) (v : View) (s : List ℕ) → ℕ → (ws₀ ws : List ℕ) → Type 0
StillStands t v s k ws₀ ws =
    GoesOn t k ws₀ ws ×
    ((φ : Formula) (L : Log) (g : ℕ) → Has φ t k → NeverFalls L → Agrees v s L (first_read φ g) → State φ L g ws₀ → State φ L g ws)

-- block b has answers of both operands
pub record Full (has_both : Bool) (b : List ℕ) : Type 0 where
  pub left : has_both ≡ true → 0 < left_count b
  pub right : 0 < right_count b

-- one of the two operands has no more answers, and its buffer is empty; where it is the right one, left's has answers
abbrev pub Short : Formula → Log → List ℕ → Type 0
Short φ L b =
    ((has_left φ ≡ true) × (left_count b ≡ 0) × (settled_to (left_of φ) L ≡ taken b)) ⊎
    ((has_left φ ≡ true → 0 < left_count b) × (right_count b ≡ 0) × (settled_to (right_of φ) L ≡ taken b))

-- the empty buffers of entry k's operands filled, as far as they have answers
pub record Refills (t : List Row) (v : View) (s : List ℕ) (k own : ℕ) (ws : List ℕ) (r : Bool) (ws' : List ℕ) : Type 0 where
  pub stands : StillStands t v s k ws ws'
  pub less : left_to_do v (drop own ws') ≤ left_to_do v (drop own ws)
  pub full : r ≡ true → Full (takes_left (kind_at t k)) (drop own ws')
  pub short : r ≡ false → (φ : Formula) (L : Log) (g : ℕ) → Has φ t k → NeverFalls L → Agrees v s L (first_read φ g) → State φ L g ws →
      Short φ L (drop own ws')
