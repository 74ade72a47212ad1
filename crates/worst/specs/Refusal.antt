-- Where the call stops: "Interval faults are refusal 6. 19 when n is above 1,000,000 or the lent buffer is under 8 + 8 × n bytes,
-- after 6."
use Rattle.std.specs.Prelude.{ℕ, Bool, ◌||◌, ltb}
use Rattle.rule.specs.Postfix.{root}
use Rattle.rule.specs.Refusal.{first, misplaced}
use Rattle.trace.specs.Making.{log_length}
use Rattle.worst.specs.Waiting.{waiting}

-- 6, as for the entry of this until in a rule
abbrev pub interval_fault : (low high : ℕ) → Bool
interval_fault low high = misplaced (root (waiting low high))

-- 19, on a lent buffer of so many bytes
abbrev pub no_room : (n lent : ℕ) → Bool
no_room n lent = ltb 1000000 n || ltb lent (log_length n)

-- the number with which the call stops, and 0 where it writes the log
abbrev pub worst_refusal : (low high n lent : ℕ) → ℕ
worst_refusal low high n lent = first 6 (interval_fault low high) (first 19 (no_room n lent) 0)
