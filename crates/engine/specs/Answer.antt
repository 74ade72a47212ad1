-- What an entry asked for its next batch of answers promises.
use Rattle.std.specs.Prelude.{Option, Some, None, ℕ, ◌+◌, ◌-◌, ◌≡◌, List}
use Rattle.window.specs.declared.view.View.{View}
use Rattle.mtl.specs.Formula.{Formula}
use Rattle.mtl.specs.Log.{Log, NeverFalls}
use Rattle.mtl.specs.Progress.{settled_to}
use Rattle.mtl.specs.Wanted.{depth}
use Rattle.blocks.specs.declared.Batch.{Batch}
use Rattle.blocks.specs.Step.{Agrees, Batched}
use Rattle.engine.specs.State.{State, OnwardAll}
use Rattle.engine.specs.Table.{Has}
use Rattle.engine.specs.declared.table.Row.{Row}

-- the reply at g, and what the words stand for after it: a batch below the answered number; open, where that is g
abbrev pub Replied : Formula → Log → ℕ → Option Batch → List ℕ → Type 0
Replied φ L g (Some a) ws' = Batched φ L g a.bits a.count × State φ L (g + a.count) ws'
Replied φ L g None ws' = (settled_to φ L ≡ g) × State φ L g ws'

-- in the blocks of entry k's subformula no head goes back, and words 12 to 15 are kept, on any words
abbrev pub GoesOn : List Row → ℕ → List ℕ → List ℕ → Type 0
GoesOn t k ws ws' = (φ : Formula) → Has φ t k → OnwardAll φ ws ws'

-- the first position that the formula's entries may read, where g is the next position that it answers: its operands, and theirs, may
-- have answered one position fewer for each previous on the way
abbrev pub first_read : Formula → (g : ℕ) → ℕ
first_read φ g = g - depth φ

-- the promise of `answer` for entry k of table t, on the view v and the slice s of records, from words ws to words ws'
abbrev pub Answers : (t : List Row) (v : View) (s : List ℕ) (k : ℕ) (ws : List ℕ) → Option Batch → List ℕ → Type 0
Answers t v s k ws r ws' =
    GoesOn t k ws ws' ×
    ((φ : Formula) (L : Log) (g : ℕ) → Has φ t k → NeverFalls L → Agrees v s L (first_read φ g) → State φ L g ws → Replied φ L g r ws')
