-- What a search over the answers of one entry finds.
use Rattle.std.specs.Prelude.{ℕ, ◌+◌, ◌≤◌, min, Bool, true, false, ◌&&◌, not as negate, ◌≡◌, List, leb, length, get_or}
use Rattle.window.specs.declared.view.View.{View}
use Rattle.mtl.specs.Formula.{Formula}
use Rattle.mtl.specs.Log.{Log, NeverFalls}
use Rattle.mtl.specs.Satisfaction.{sat}
use Rattle.mtl.specs.Progress.{settled_to}
use Rattle.bits.specs.Packed.{bit}
use Rattle.blocks.specs.Step.{Agrees}
use Rattle.engine.specs.Table.{Has, row_at}
use Rattle.engine.specs.State.{State}
use Rattle.engine.specs.declared.table.Row.{Row}
use Rattle.reasons.specs.Search.{first_where, after_last}
use Rattle.search.specs.declared.Scan.{Scan}

-- an answer is the one that is looked for
abbrev pub is : (want : Bool) → Bool → Bool
is true x = x
is false x = negate x

-- it is looked for at or behind `from`
abbrev pub sought : (want : Bool) (from : ℕ) → (ℕ → Bool) → ℕ → Bool
sought want from f q = leb from q && is want (f q)

-- the same of a word of answers at the positions from `done` on
abbrev pub sought_bit : (word done : ℕ) (want : Bool) (from i : ℕ) → Bool
sought_bit word done want from i = leb from (done + i) && is want (bit word i)

-- the numbers of a scan, of the answers f at the first n positions
pub record Scanned (f : ℕ → Bool) (want : Bool) (from n : ℕ) (r : Scan) : Type 0 where
  pub all : r.done ≡ n
  pub found : r.first ≡ first_where n (sought want from f)
  pub last : r.after ≡ after_last n (λ (q : ℕ). negate (f q))

-- words of zeros stand for the formula at position 0
abbrev pub Starts : (t : List Row) (k : ℕ) → Formula → Log → Type 0
Starts t k φ L = (ws : List ℕ) → length ws ≡ (row_at t k).words → ((i : ℕ) → get_or ws i 0 ≡ 0) → State φ L 0 ws

-- the answers of the formula at entry k, as far as it has answered, and not beyond `to`
abbrev pub Scans : (t : List Row) (v : View) (s : List ℕ) (k : ℕ) (want : Bool) (from to : ℕ) → Scan → Type 0
Scans t v s k want from to r =
    (φ : Formula) (L : Log) → Has φ t k → NeverFalls L → Agrees v s L 0 → Starts t k φ L →
    Scanned (sat φ L) want from (min to (settled_to φ L)) r

-- the numbers' bounds, whatever the words hold
abbrev pub Bounded : (to : ℕ) → Scan → Type 0
Bounded to r = (r.done ≤ to) × (r.first ≤ r.done) × (r.after ≤ r.done)
