-- One step of one entry on its own block: what it may ask for, and what it has done then.
use Rattle.std.specs.Prelude.{ℕ, zero, suc, ◌+◌, ◌*◌, ◌-◌, ◌≤◌, ◌<◌, Bool, true, ◌≡◌, List}
use Rattle.mtl.specs.Formula.{Formula}
use Rattle.mtl.specs.Formula.Formula.{letter, not, or, previous, next, since, until}
use Rattle.mtl.specs.Log.{Log, NeverFalls}
use Rattle.mtl.specs.Progress.{settled_to}
use Rattle.window.specs.View.{slice_first, total, skips, closed, Shows}
use Rattle.window.specs.declared.view.View.{View}
use Rattle.blocks.specs.Block.{taken, left_count, right_count, kind_of, Onward, Buffer, Ready}
use Rattle.blocks.specs.Kinds.{takes_left, takes_right}
use Rattle.blocks.specs.declared.Step.{Step}
use Rattle.blocks.specs.declared.Step.TheVariants.{Batch, Left, Right, Again, Open}

-- what the view and the slice of records tell is the log, from position g on: earlier records may hold any bytes
pub record Agrees (v : View) (s : List ℕ) (L : Log) (g : ℕ) : Type 0 where
  pub ends : L.closed ≡ closed v
  pub size : total v ≡ L.size
  pub shows : (i : ℕ) → g ≤ i → i < L.size → Shows (skips v) s (slice_first v) L i

-- an operator's operands; a letter has none, and what stands here for a missing one is used by nothing
abbrev pub has_left : Formula → Bool
has_left φ = takes_left (kind_of φ)

abbrev pub has_right : Formula → Bool
has_right φ = takes_right (kind_of φ)

abbrev pub left_of : Formula → Formula
left_of (letter k) = letter k
left_of (not φ) = φ
left_of (or φ ψ) = φ
left_of (previous low high φ) = φ
left_of (next low high φ) = φ
left_of (since low high φ ψ) = φ
left_of (until low high φ ψ) = φ

-- the right operand, or the only one: that of the entry before
abbrev pub right_of : Formula → Formula
right_of (letter k) = letter k
right_of (not φ) = φ
right_of (or φ ψ) = ψ
right_of (previous low high φ) = φ
right_of (next low high φ) = φ
right_of (since low high φ ψ) = ψ
right_of (until low high φ ψ) = ψ

-- every position taken is taken out of the buffers: the operands themselves stay where they stand
pub record Moved (φ : Formula) (b b' : List ℕ) : Type 0 where
  pub left : has_left φ ≡ true → taken b' + left_count b' ≡ taken b + left_count b
  pub right : has_right φ ≡ true → taken b' + right_count b' ≡ taken b + right_count b

-- a batch: the answers at some positions from g on
pub record Batched (φ : Formula) (L : Log) (g bits count : ℕ) : Type 0 where
  pub some : 1 ≤ count
  pub buffer : Buffer φ L g count bits

-- one step from block b to block b', by its outcome
abbrev pub Stepped : Formula → Log → ℕ → List ℕ → Step → List ℕ → Type 0
Stepped φ L g b (Batch a) b' = Batched φ L g a.bits a.count × Ready φ L (g + a.count) b' × Moved φ b b'
Stepped φ L g b Again b' = Ready φ L g b' × Moved φ b b'
-- an operand is wanted; if it has no more answers, neither has the operator
Stepped φ L g b Left b' = (has_left φ ≡ true) × (settled_to (left_of φ) L ≡ taken b → settled_to φ L ≡ g)
Stepped φ L g b Right b' = (has_right φ ≡ true) × (settled_to (right_of φ) L ≡ taken b → settled_to φ L ≡ g)
Stepped φ L g b Open b' = settled_to φ L ≡ g

-- the first position that a step at g may read: previous looks at the time of the position before
abbrev pub reads_from : Formula → ℕ → ℕ
reads_from (letter k) g = g
reads_from (not φ) g = g
reads_from (or φ ψ) g = g
reads_from (previous low high φ) g = g - 1
reads_from (next low high φ) g = g
reads_from (since low high φ ψ) g = g
reads_from (until low high φ ψ) g = g

-- what a step promises where its block stands for the formula on some log
abbrev pub Steps : Formula → (v : View) (s b : List ℕ) → Step → List ℕ → Type 0
Steps φ v s b r b' =
    (L : Log) (g : ℕ) → NeverFalls L → Agrees v s L (reads_from φ g) → Ready φ L g b → Stepped φ L g b r b'

-- 1 for an empty buffer
abbrev pub empty : ℕ → ℕ
empty zero = 1
empty (suc n) = 0

-- what is left to take, and to fill: it falls with every turn, whatever the words hold
abbrev pub left_to_do : (v : View) (b : List ℕ) → ℕ
left_to_do v b = 3 * (total v - taken b) + empty (left_count b) + empty (right_count b)

-- what a step promises on any words, for an operator that has a left operand and a right one, or not: where it writes, no head goes
-- back, and words 12 to 15 are kept; right is wanted only where left's buffer has answers
abbrev pub Ends : (left right : Bool) → (v : View) (b : List ℕ) → Step → List ℕ → Type 0
Ends left right v b (Batch a) b' = Onward 12 b b'
Ends left right v b Again b' = (left_to_do v b' < left_to_do v b) × Onward 12 b b'
Ends left right v b Left b' = (left ≡ true) × (b' ≡ b) × (left_count b ≡ 0)
Ends left right v b Right b' = (right ≡ true) × (b' ≡ b) × (right_count b ≡ 0) × (left ≡ true → 0 < left_count b)
Ends left right v b Open b' = b' ≡ b
