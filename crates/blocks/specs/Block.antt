-- The block of an entry in a checkpoint: 16 words, and for since the ring behind them. docs/CHECKPOINT.md has the table.
use Rattle.std.specs.Prelude.{ℕ, ◌+◌, ◌-◌, ◌/◌, ◌≤◌, ◌<◌, ◌^◌, Bool, true, cond, ◌≡◌, List, ◌⊎◌, get_or, set, eqb}
use Rattle.mtl.specs.Formula.{Formula}
use Rattle.mtl.specs.Formula.Formula.{letter, not, or, previous, next, since, until}
use Rattle.mtl.specs.Log.{Log, head_of}
use Rattle.mtl.specs.Satisfaction.{sat}
use Rattle.mtl.specs.Progress.{settled_to}
use Rattle.bits.specs.Packed.{Packed}
use Rattle.rule.specs.Words.{ring_words}
use Rattle.rule.specs.Postfix.{root}
use Rattle.blocks.specs.Ring.{Ring, Witnesses}

-- word i of a block
abbrev pub word : List ℕ → ℕ → ℕ
word b i = get_or b i 0

-- the words of a block by name
-- taken: the next position to take from the operands, or, of a letter, from the log
abbrev pub taken : List ℕ → ℕ
taken b = word b 0

-- what each operand has answered and is still to be taken: for how many positions from `taken` on, and the word of answers
abbrev pub left_count : List ℕ → ℕ
left_count b = word b 1

abbrev pub left_bits : List ℕ → ℕ
left_bits b = word b 2

abbrev pub right_count : List ℕ → ℕ
right_count b = word b 3

abbrev pub right_bits : List ℕ → ℕ
right_bits b = word b 4

-- previous, next and until: the next position to answer
abbrev pub answered : List ℕ → ℕ
answered b = word b 5

-- until, of the last position taken: the operands' answers there, and its time
abbrev pub last_left : List ℕ → ℕ
last_left b = word b 6

abbrev pub last_right : List ℕ → ℕ
last_right b = word b 7

abbrev pub last_taken_time : List ℕ → ℕ
last_taken_time b = word b 8

-- the reading head, as a record: it stands behind the record of the last position that it has passed. Of letter, previous, since and until
-- it is that of `taken`; of next, whose operand is one ahead, that of the position before; not and or read no record.
abbrev pub head : List ℕ → ℕ
head b = word b 11

-- until's other head, that of `answered`, in the first of the words behind its block's 16
abbrev pub waiting_head : List ℕ → ℕ
waiting_head b = word b 16

-- the fields that an entry of the formula's last operator has: the number of the paper's table of kinds, and the others
abbrev pub kind_of : Formula → ℕ
kind_of φ = (root φ).kind

abbrev pub letter_of : Formula → ℕ
letter_of φ = (root φ).letter

abbrev pub low_of : Formula → ℕ
low_of φ = (root φ).low

abbrev pub high_of : Formula → ℕ
high_of φ = (root φ).high

-- the block of an entry of this kind that has taken nothing yet
pub record FreshBlock (kind : ℕ) (b : List ℕ) : Type 0 where
  pub own : (i : ℕ) → i < 12 → word b i ≡ 0
  pub waiting : kind ≡ 6 → waiting_head b ≡ 0

-- no head goes back. An until's second head, word 16, is the record of `answered`: `Heads` says where it stands.
pub record Forward (b b' : List ℕ) : Type 0 where
  pub taken : taken b ≤ taken b'
  pub answered : answered b ≤ answered b'
  pub head : head b ≤ head b'

-- what is done to a block, whatever its words hold: no head goes back, and the words from `first` to 15 are as they were. Words 12 to 15
-- are no operator's; words 12 and 13 of a formula's last entry are written where its answers are held and given.
pub record Onward (first : ℕ) (b b' : List ℕ) : Type 0 where
  pub heads : Forward b b'
  pub kept : (i : ℕ) → first ≤ i → i < 16 → word b' i ≡ word b i

-- the cells of an entry's ring: a since has one, the other kinds none
abbrev pub cells_of : (kind high : ℕ) → ℕ
cells_of kind high = cond (eqb kind 5) (ring_words high) 0

-- the ranges of a block's words, for a log of so many positions and a ring of so many cells (refusal 11)
pub record InRange (size cells : ℕ) (b : List ℕ) : Type 0 where
  pub at : taken b ≤ size
  pub left_count : left_count b ≤ 64
  pub right_count : right_count b ≤ 64
  pub answered : answered b ≤ size
  pub last_left : last_left b ≤ 1
  pub last_right : last_right b ≤ 1
  pub last_time : last_taken_time b < 2 ^ 32
  pub start : word b 9 ≤ cells
  pub count : word b 10 ≤ cells

-- next: g is the position before the next to take, p; the last position of a closed log is answered without the operand
abbrev pub Trails : Log → (g p : ℕ) → Type 0
Trails L g p = (g ≡ p - 1) ⊎ ((L.closed ≡ true) × (p ≡ L.size) × (g ≡ L.size))

-- since: the ring holds the times of the witnesses still alive
pub record Since (low high : ℕ) (time : ℕ → ℕ) (left right : ℕ → Bool) (g : ℕ) (b : List ℕ) : Type 0 where
  pub at : taken b ≡ g
  pub times : List ℕ
  pub ring : Ring (ring_words high) b times
  pub alive : Witnesses low high time left right g times

-- until: g is the next position to answer, p ≥ g the next to take, and of g up to p - 1 it is known that ..
pub record Until (low high : ℕ) (time : ℕ → ℕ) (left right : ℕ → Bool) (g p ll lr lt : ℕ) : Type 0 where
  pub ahead : g ≤ p
  pub last_left : g < p → left (p - 1) ≡ eqb ll 1
  pub last_right : g < p → right (p - 1) ≡ eqb lr 1
  pub last_time : g < p → lt ≡ time (p - 1)
  pub left_held : (k : ℕ) → g ≤ k → k + 1 < p → left k ≡ true
  pub right_early : (k : ℕ) → g ≤ k → k + 1 < p → right k ≡ true → time k - time g < low
  pub not_over : g < p → time (p - 1) - time g ≤ high

-- where an operator's reading heads stand, as records, when the next position that it answers is g
abbrev pub Heads : Formula → Log → ℕ → List ℕ → Type 0
Heads (letter k) L g b = head b ≡ head_of L (taken b)
Heads (not φ) L g b = head b ≡ 0
Heads (or φ ψ) L g b = head b ≡ 0
Heads (previous low high φ) L g b = head b ≡ head_of L (taken b)
Heads (next low high φ) L g b = head b ≡ head_of L (taken b - 1)
Heads (since low high φ ψ) L g b = head b ≡ head_of L (taken b)
Heads (until low high φ ψ) L g b = (head b ≡ head_of L (taken b)) × (waiting_head b ≡ head_of L g)

-- what the words of an operator's own block say, when the next position that it answers is g; position 0 of a previous is answered
-- without its operand
abbrev pub Own : Formula → Log → ℕ → List ℕ → Type 0
Own (letter k) L g b = taken b ≡ g
Own (not φ) L g b = taken b ≡ g
Own (or φ ψ) L g b = taken b ≡ g
Own (previous low high φ) L g b = (answered b ≡ g) × (taken b ≡ g - 1)
Own (next low high φ) L g b = (answered b ≡ g) × Trails L g (taken b)
Own (since low high φ ψ) L g b = Since low high L.time (sat φ L) (sat ψ L) g b
Own (until low high φ ψ) L g b =
    (answered b ≡ g) ×
    Until low high L.time (sat φ L) (sat ψ L) g (taken b) (last_left b) (last_right b) (last_taken_time b)

-- an operator's own block stands at g
pub record Core (φ : Formula) (L : Log) (g : ℕ) (b : List ℕ) : Type 0 where
  pub reached : g ≤ settled_to φ L
  pub range : InRange L.size (cells_of (kind_of φ) (high_of φ)) b
  pub own : Own φ L g b
  pub heads : Heads φ L g b

-- a buffered operand: the word has its answers at the count positions from p on, and it has answered that far
pub record Buffer (φ : Formula) (L : Log) (p count bits : ℕ) : Type 0 where
  pub within : p + count ≤ settled_to φ L
  pub packed : Packed (sat φ L) p count bits

-- the buffers of an operator's block
abbrev pub LeftBuffer : Formula → Log → List ℕ → Type 0
LeftBuffer φ L b = Buffer φ L (taken b) (left_count b) (left_bits b)

abbrev pub RightBuffer : Formula → Log → List ℕ → Type 0
RightBuffer φ L b = Buffer φ L (taken b) (right_count b) (right_bits b)

abbrev pub Buffers : Formula → Log → List ℕ → Type 0
Buffers (letter k) L b = Unit {0}
Buffers (not φ) L b = RightBuffer φ L b
Buffers (or φ ψ) L b = LeftBuffer φ L b × RightBuffer ψ L b
Buffers (previous low high φ) L b = RightBuffer φ L b
Buffers (next low high φ) L b = RightBuffer φ L b
Buffers (since low high φ ψ) L b = LeftBuffer φ L b × RightBuffer ψ L b
Buffers (until low high φ ψ) L b = LeftBuffer φ L b × RightBuffer ψ L b

-- block and buffers: all that one step of an operator looks at
pub record Ready (φ : Formula) (L : Log) (g : ℕ) (b : List ℕ) : Type 0 where
  pub core : Core φ L g b
  pub buffers : Buffers φ L b

-- a block after n positions were taken out of the right or only buffer, or out of both
abbrev pub took_right : ℕ → List ℕ → List ℕ
took_right n b = set (set (set b 0 (taken b + n)) 3 (right_count b - n)) 4 (right_bits b / 2 ^ n)

abbrev pub took_both : ℕ → List ℕ → List ℕ
took_both n b = set (set (took_right n b) 1 (left_count b - n)) 2 (left_bits b / 2 ^ n)
