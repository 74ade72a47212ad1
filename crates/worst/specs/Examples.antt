-- Small logs and how many seconds they keep waiting, by computation; and the bytes of a written log.
use Rattle.std.specs.Prelude.{ℕ, suc, cond, List, [], ◌∷◌, ◌≡◌, refl, eqb}
use Rattle.mtl.specs.Satisfaction.{any, all, sat}
use Rattle.mtl.specs.Progress.{run, progress}
use Rattle.mtl.specs.Examples.{Records, log_of_list}
use Rattle.trace.specs.Making.{records_bytes}
use Rattle.worst.specs.Waiting.{waiting, count_where, open_times}
use Rattle.worst.specs.Written.{worst_bytes}

-- an interval, a log's times and event sets (letter 0 is worth 1, letter 1 is worth 2), and the distinct times among its open positions
pub record Row : Type 0 where
  pub low : ℕ
  pub high : ℕ
  pub records : Records
  pub times : ℕ

unfoldable pub seconds : Row → ℕ
seconds r = open_times (waiting r.low r.high) (log_of_list r.records)

-- the numbers of the rows that do not compute, the first of the list having number n
unfoldable pub wrong : ℕ → List Row → List ℕ
wrong n [] = []
wrong n (r ∷ rs) = cond (eqb (seconds r) r.times) (wrong (suc n) rs) (n ∷ wrong (suc n) rs)

unfoldable pub rows : List Row
rows =
    -- 1: no record, no second
    record { low = 0; high = 2; records = []; times = 0 }
    -- 2: every record of its own second, and fewer than high + 1 of them
    ∷ record { low = 0; high = 5; records = (0, 1) ∷ (1, 1) ∷ (2, 1) ∷ []; times = 3 }
    -- 3: the log that is written for high 2 and five records: its times stay at high, and so all of it stays open
    ∷ record { low = 1; high = 2; records = (0, 1) ∷ (1, 1) ∷ (2, 1) ∷ (2, 1) ∷ (2, 1) ∷ []; times = 3 }
    -- 4: times that rise past high settle what lies more than high before, and keep no more seconds waiting
    ∷ record { low = 0; high = 2; records = (0, 1) ∷ (1, 1) ∷ (2, 1) ∷ (3, 1) ∷ (4, 1) ∷ []; times = 3 }
    -- 5: with gaps between its times a log keeps fewer
    ∷ record { low = 0; high = 2; records = (0, 1) ∷ (2, 1) ∷ (4, 1) ∷ []; times = 2 }
    -- 6: records of one second count once
    ∷ record { low = 0; high = 2; records = (7, 1) ∷ (7, 1) ∷ (7, 1) ∷ []; times = 1 }
    -- 7: letter 1 settles what waited for it
    ∷ record { low = 0; high = 2; records = (0, 1) ∷ (1, 1) ∷ (2, 3) ∷ []; times = 0 }
    -- 8: so does a record without letter 0
    ∷ record { low = 0; high = 2; records = (0, 1) ∷ (1, 0) ∷ (2, 1) ∷ []; times = 1 }
    -- 9: in a log whose times fall, too, a time that was there before is not counted again
    ∷ record { low = 0; high = 9; records = (5, 1) ∷ (3, 1) ∷ (5, 1) ∷ []; times = 2 }
    ∷ []

pub every_row : wrong 1 rows ≡ []
unfolding wrong rows seconds count_where progress run sat any all
every_row = refl

-- the log for high 1 and three records
pub three_records : worst_bytes 1 3 ≡
    0x4B ∷ 0x4C ∷ 0x47 ∷ 0 ∷ 1 ∷ 0 ∷ 0 ∷ 0
    ∷ 0 ∷ 0 ∷ 0 ∷ 0 ∷ 0 ∷ 0 ∷ 0 ∷ 1
    ∷ 0 ∷ 0 ∷ 0 ∷ 1 ∷ 0 ∷ 0 ∷ 0 ∷ 1
    ∷ 0 ∷ 0 ∷ 0 ∷ 1 ∷ 0 ∷ 0 ∷ 0 ∷ 1
    ∷ []
unfolding records_bytes
three_records = refl
