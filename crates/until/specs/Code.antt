-- until's step: how far it may go, what it reads, and its block afterwards.
use Rattle.std.specs.Prelude.{ℕ, ◌+◌, ◌-◌, ◌*◌, ◌≤◌, ◌<◌, ◌^◌, min, Bool, true, List, ◌⊎◌, ◌≡◌, length, set, eqb}
use Rattle.mtl.specs.Formula.{Formula, unbounded}
use Rattle.mtl.specs.Formula.Formula.{until as until_formula}
use Rattle.mtl.specs.Log.{Log, NeverFalls, head_of}
use Rattle.mtl.specs.Progress.{settled_to}
use Rattle.bits.specs.Packed.{number}
use Rattle.trace.specs.Format.{record_count, time_at}
use Rattle.window.specs.View.{slice_first, total, skips, closed, in_slice}
use Rattle.window.specs.Window.{window_of, Opened}
use Rattle.window.specs.declared.Window.{Window}
use Rattle.window.specs.declared.view.View.{View}
use Rattle.window.specs.declared.KeptCopy.{KeptCopy}
use Rattle.blocks.specs.Block.{taken, left_count, left_bits, right_count, right_bits, answered, last_left, last_right, last_taken_time, head, waiting_head, took_both, Ready}
use Rattle.blocks.specs.Step.{Agrees}
use Rattle.walks.specs.declared.Last.{Last}
use Rattle.until.specs.declared.Room.{Room}
use Rattle.until.specs.declared.Stride.{Stride}
use Rattle.walks.specs.declared.Walked.{Walked}
use Rattle.blocks.specs.declared.Step.{Step}
use Rattle.blocks.specs.declared.Step.TheVariants.{Batch, Left, Right, Again, Open}
use Rattle.walks.specs.Settle.{time_of_none, next_of, Walk}

-- a window that has n records
pub record HasRecords (w : Window) (s : List ℕ) (copy : KeptCopy) (n : ℕ) : Type 0 where
  pub inside : w.dense ≡ true → w.at * 8 ≤ length s
  pub long : n ≤ record_count (window_of w s copy)

-- the times that two windows show: of the positions that wait, and of the n to take and the one behind them, where the window has it
abbrev pub starts_of : Window → (s : List ℕ) (copy : KeptCopy) → ℕ → ℕ
starts_of w s copy = time_at (window_of w s copy)

abbrev pub ahead_of : Window → (s : List ℕ) (copy : KeptCopy) (n end : ℕ) (closed : Bool) → ℕ → ℕ
ahead_of w s copy n end closed =
    next_of (time_at (window_of w s copy)) n (next_of (time_at (window_of w s copy)) end (time_of_none closed) n)

-- the last position taken, as the block keeps it
abbrev pub last_taken : List ℕ → Last
last_taken b = record { left = eqb (last_left b) 1; right = eqb (last_right b) 1; time = last_taken_time b }

-- the block after a walk, with the two heads
abbrev pub walked : Walked → (head waiting_head : ℕ) → List ℕ → List ℕ
walked w head waiting_head b =
    set
    (set
    (set
    (set
    (set (set (took_both w.took b) 5 (answered b + w.count)) 6 (number w.last.left))
    7
    (number w.last.right))
    8
    w.last.time)
    11
    head)
    16
    waiting_head

-- how far a step may go
pub record FitsRoom (b : List ℕ) (total : ℕ) (r : Room) : Type 0 where
  pub left : r.take ≤ left_count b
  pub right : r.take ≤ right_count b
  pub few : r.take ≤ 64
  pub inside : taken b + r.take ≤ total
  pub number : taken b + r.take < 2 ^ 64
  pub all : min (left_count b) (right_count b) ≤ 64 → taken b + min (left_count b) (right_count b) ≤ total →
      r.take ≡ min (left_count b) (right_count b)
  pub ahead : r.look ≡ min (r.take + 1) (total - taken b)
  pub waiting : r.answer ≡ min (taken b - answered b + r.take) 64

-- the window ahead, opened from a block's head
pub record OpensAhead (v : View) (s b : List ℕ) (r : Room) (ahead : Window) (copy : KeptCopy) : Type 0 where
  pub room : 17 ≤ length b
  pub behind : answered b ≤ taken b
  pub fits : FitsRoom b (total v) r
  pub next : Opened (skips v) s (in_slice (slice_first v) (head b)) r.look ahead copy

-- the times of those that wait, where view and slice tell a log in which the block stands
abbrev pub Waiting : (v : View) (s b : List ℕ) → Room → (start : ℕ → ℕ) → Type 0
Waiting v s b r start =
    (L : Log) (g : ℕ) → Agrees v s L g → answered b ≡ g → waiting_head b ≡ head_of L g → (i : ℕ) → i < r.answer → start i ≡ L.time (g + i)

-- a walk over the window ahead, by the times of those that wait, and their head behind those that it answers
pub record Strides (low most : ℕ) (v : View) (s b : List ℕ) (r : Room) (ahead : Window) (copy : KeptCopy) (t : Stride) : Type 0 where
  pub start : ℕ → ℕ
  pub waits : Waiting v s b r start
  pub walk :
      Walk low most start (ahead_of ahead s copy r.take r.look (closed v)) (taken b - answered b) r.take (left_bits b) (right_bits b)
      (last_taken b) t.walked
  pub onward : (L : Log) (g : ℕ) → Agrees v s L g → answered b ≡ g → waiting_head b ≡ head_of L g → head b ≡ head_of L (taken b) →
      t.head ≡ head_of L (g + t.walked.count)

-- the next position to answer waits for one to be taken: where an operand has no more answers, neither has the until; `most` as in `Walks`
abbrev pub Stuck : (low most : ℕ) (v : View) (s b : List ℕ) → Type 0
Stuck low most v s b =
    (high : ℕ) (φ ψ : Formula) (L : Log) (g : ℕ) → most ≡ min high unbounded → NeverFalls L → Agrees v s L g →
    Ready (until_formula low high φ ψ) L g b → (settled_to φ L ≡ taken b) ⊎ (settled_to ψ L ≡ taken b) → settled_to (until_formula low high φ ψ) L ≡ g

-- the operand whose buffer is empty; Open where neither is, which only forged words bring about
abbrev pub Wants : List ℕ → Step → Type 0
Wants b (Batch a) = ⊥
Wants b Again = ⊥
Wants b Left = left_count b ≡ 0
Wants b Right = (0 < left_count b) × (right_count b ≡ 0)
Wants b Open = (0 < left_count b) × (0 < right_count b)
