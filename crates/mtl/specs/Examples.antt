-- Worked examples: one table of formulas and small logs with their progress and verdicts, proved by computation.
use Rattle.std.specs.Prelude.{ℕ, suc, ◌/◌, ◌%◌, ◌^◌, Bool, true, false, cond, ◌&&◌, List, [], ◌∷◌, ◌≡◌, refl, eqb, length, get_or}
use Rattle.std.specs.Bool.{beq}
use Rattle.mtl.specs.Formula.{Formula, unbounded, largest}
use Rattle.mtl.specs.Formula.Formula.{letter, not, or, previous, next, since, until}
use Rattle.mtl.specs.Log.{Log, closing}
use Rattle.mtl.specs.Satisfaction.{any, all, sat}
use Rattle.mtl.specs.Progress.{run, progress, settled_to}
use Rattle.mtl.specs.Wanted.{depth, wanted, wanted_record}

-- "time in seconds (32 bits), event set (32 bits, letter k is the bit worth 2 to the k)", from position 0 on
abbrev pub Records : Type 0
Records = List (ℕ × ℕ)

-- what a look past the end finds: the latest time and every letter, so that a definition that looks there breaks a row
abbrev pub past_end : ℕ × ℕ
past_end = (4_294_967_295, 4_294_967_295)

abbrev pub log_of_list : Records → Log
log_of_list rs = record {
  size = length rs;
  time = λ (i : ℕ). (get_or rs i past_end).0;
  letters = λ (i k : ℕ). eqb ((get_or rs i past_end).1 / 2 ^ k % 2) 1;
  place = λ (i : ℕ). i;
  closed = false;
}

-- a formula and a log, how many positions are answered, and the verdict at each of these
pub record Row : Type 0 where
  pub formula : Formula
  pub records : Records
  pub answered : ℕ
  pub verdicts : List Bool

-- the verdicts are those of p from position i on
unfoldable pub matches : (ℕ → Bool) → ℕ → List Bool → Bool
matches p i [] = true
matches p i (v ∷ vs) = beq (p i) v && matches p (suc i) vs

-- the row has the answered number and the verdicts that the definitions give, its log being closed or open
unfoldable pub computes : Bool → Row → Bool
computes closed r =
    let L = closing closed (log_of_list r.records) in
    eqb (settled_to r.formula L) r.answered && (eqb (length r.verdicts) r.answered && matches (sat r.formula L) 0 r.verdicts)

-- the numbers of the rows that do not compute, the first of the list having number n
unfoldable pub wrong : Bool → ℕ → List Row → List ℕ
wrong closed n [] = []
wrong closed n (r ∷ rs) = cond (computes closed r) (wrong closed (suc n) rs) (n ∷ wrong closed (suc n) rs)

-- letters 0 to 3; in an event set a is worth 1, b 2, c 4, d 8
abbrev a : Formula
a = letter 0

abbrev b : Formula
b = letter 1

abbrev c : Formula
c = letter 2

abbrev d : Formula
d = letter 3

-- the log of document 002's figure 5
abbrev figure_5 : Records
figure_5 = (0, 1) ∷ (0, 1) ∷ (2, 1) ∷ (4, 3) ∷ (5, 1) ∷ (10, 2) ∷ []

unfoldable pub rows : List Row
rows =
    -- 1: figure 1 of document 000. At 3 b stands without a: until does not test left at j itself.
    record {
      formula = until 0 1 a b;
      records = (1, 1) ∷ (2, 1) ∷ (2, 1) ∷ (3, 2) ∷ (4, 3) ∷ [];
      answered = 5;
      verdicts = false ∷ true ∷ true ∷ true ∷ true ∷ [];
    }
    -- 2: figure 5 of document 002, its left half. At 5 b stands without a: since does not test left at j itself.
    ∷ record { formula = since 0 4 a b; records = figure_5; answered = 6; verdicts = false ∷ false ∷ false ∷ true ∷ true ∷ true ∷ [] }
    -- 3: figure 5 of document 002, its right half
    ∷ record { formula = until 0 4 a b; records = figure_5; answered = 6; verdicts = true ∷ true ∷ true ∷ true ∷ false ∷ true ∷ [] }
    -- 4: the or of the two, whose monitor document 002 follows over figure 5
    ∷ record {
      formula = or (since 0 4 a b) (until 0 4 a b);
      records = figure_5;
      answered = 6;
      verdicts = true ∷ true ∷ true ∷ true ∷ true ∷ true ∷ [];
    }
    -- 5: under a not, too, "not yet" is no answer
    ∷ record { formula = not (until 0 2 a b); records = (10, 1) ∷ []; answered = 0; verdicts = [] }
    -- 6: a gap that equals high does not end the wait, nor does what lies past the end of the log
    ∷ record { formula = until 0 2 a b; records = (10, 1) ∷ (12, 1) ∷ []; answered = 0; verdicts = [] }
    -- 7: records of one second are positions of their own: the until at 1 does not look back at the b at 0
    ∷ record { formula = until 0 0 a b; records = (5, 2) ∷ (5, 1) ∷ (6, 0) ∷ []; answered = 3; verdicts = true ∷ false ∷ false ∷ [] }
    -- 8: so too in since: left is tested at 1, though 1 has the time of the witness at 0
    ∷ record { formula = since 0 4 a b; records = (5, 2) ∷ (5, 0) ∷ []; answered = 2; verdicts = true ∷ false ∷ [] }
    -- 9: without upper end the oldest witness stays: at 1 the b at 0 lies far enough back, the b at 1 does not
    ∷ record { formula = since 1 unbounded a b; records = (0, 2) ∷ (4000, 3) ∷ (9000, 1) ∷ []; answered = 3; verdicts = false ∷ true ∷ true ∷ [] }
    -- 10: the inner until answers one position, so m is 1; the time of position 1 alone settles the outer until at 0
    ∷ record { formula = until 0 5 a (until 0 5 c d); records = (0, 5) ∷ (11, 4) ∷ []; answered = 1; verdicts = false ∷ [] }
    -- 11: m is 1 again, but only position 2 lies more than high after 0, and a record (10, d) would still make the answer yes
    ∷ record { formula = until 0 8 a (until 0 5 c d); records = (0, 5) ∷ (6, 5) ∷ (9, 5) ∷ []; answered = 0; verdicts = [] }
    -- 12 and 13: since waits for its right operand, and for its left one
    ∷ record { formula = since 0 4 a (until 0 2 c d); records = (0, 5) ∷ (3, 5) ∷ []; answered = 1; verdicts = false ∷ [] }
    ∷ record { formula = since 0 4 (until 0 2 c d) a; records = (0, 5) ∷ (3, 5) ∷ []; answered = 1; verdicts = true ∷ [] }
    -- 14: next answers one position fewer than there are records
    ∷ record { formula = next 1 1 a; records = (5, 0) ∷ (6, 1) ∷ (8, 1) ∷ []; answered = 2; verdicts = true ∷ false ∷ [] }
    -- 15: P4, previous answers every position, 0 with no, and no more positions than there are
    ∷ record { formula = previous 0 0 a; records = (5, 1) ∷ (5, 0) ∷ (6, 1) ∷ []; answered = 3; verdicts = false ∷ true ∷ false ∷ [] }
    -- 16 and 17: no upper end is no number: the gap lies above 4,294,967,295, and the since is yes and the until is open
    ∷ record { formula = since 0 unbounded a b; records = (0, 2) ∷ (5_000_000_000, 1) ∷ []; answered = 2; verdicts = true ∷ true ∷ [] }
    ∷ record { formula = until 0 unbounded a b; records = (0, 1) ∷ (5_000_000_000, 1) ∷ []; answered = 0; verdicts = [] }
    -- 18: the until is open, and previous answers one position more than it
    ∷ record { formula = previous 0 9 (until 0 2 a b); records = (10, 1) ∷ (12, 1) ∷ []; answered = 1; verdicts = false ∷ [] }
    -- 19: the inner until answers two positions; previous does not hold the outer one up at 2
    ∷ record {
      formula = until 0 9 a (previous 0 9 (until 0 5 c d));
      records = (0, 5) ∷ (3, 9) ∷ (4, 5) ∷ [];
      answered = 3;
      verdicts = true ∷ true ∷ true ∷ [];
    }
    ∷ []

-- the logs as they end: document 02, paper 9
unfoldable pub closed_rows : List Row
closed_rows =
    -- 1: P6: the until is no on the log as it ends
    record { formula = not (until 0 2 a b); records = (10, 1) ∷ []; answered = 1; verdicts = true ∷ [] }
    -- 2: P7's second log: no record will follow
    ∷ record { formula = until 0 2 a b; records = (10, 1) ∷ (12, 1) ∷ (13, 1) ∷ []; answered = 3; verdicts = false ∷ false ∷ false ∷ [] }
    -- 3: P5: no position stands after the last
    ∷ record { formula = next 1 1 a; records = (5, 0) ∷ (6, 1) ∷ (8, 1) ∷ []; answered = 3; verdicts = true ∷ false ∷ false ∷ [] }
    -- 4: P8
    ∷ record { formula = until 0 5 a (until 0 5 c d); records = (0, 5) ∷ (11, 4) ∷ []; answered = 2; verdicts = false ∷ false ∷ [] }
    -- 5: an open until that is met at its last position is yes
    ∷ record { formula = until 0 9 a (not (next 0 9 a)); records = (0, 1) ∷ (1, 1) ∷ []; answered = 2; verdicts = true ∷ true ∷ [] }
    -- 6: no record
    ∷ record { formula = next 1 1 a; records = []; answered = 0; verdicts = [] }
    ∷ []

-- every row computes; an edit of the definitions that breaks rows has their numbers in its error
pub every_row : (wrong false 1 rows ≡ []) × (wrong true 1 closed_rows ≡ [])
unfolding wrong rows closed_rows computes matches progress settled_to run sat any all
every_row = (refl, refl)

-- the first position still wanted for a formula, with 1, 2, 3 and 4 verdicts given
abbrev wanted_of : Formula → List ℕ
wanted_of φ = wanted (φ ∷ []) 1 ∷ wanted (φ ∷ []) 2 ∷ wanted (φ ∷ []) 3 ∷ wanted (φ ∷ []) 4 ∷ []

-- three previous over a letter; two on one path of an or and one on the other; none
pub every_wanted :
    wanted_of (previous 0 9 (previous 0 9 (previous 0 9 a))) ∷
    wanted_of (or (until 0 9 a (previous 0 9 (previous 0 9 b))) (previous 0 9 c)) ∷
    wanted_of (next 0 9 a) ∷ [] ≡
    (0 ∷ 0 ∷ 0 ∷ 1 ∷ []) ∷ (0 ∷ 0 ∷ 1 ∷ 2 ∷ []) ∷ (1 ∷ 2 ∷ 3 ∷ 4 ∷ []) ∷ []
unfolding depth largest
every_wanted = refl

-- three positions, in records 1, 2 and 4 of six: the record that holds the first, that of the third, and, of a fourth that is not there, the
-- one after all
abbrev with_services : Log
with_services =
    record {
      size = 3;
      time = λ (i : ℕ). 0;
      letters = λ (i k : ℕ). false;
      place = λ (i : ℕ). get_or (1 ∷ 2 ∷ 4 ∷ []) i 0;
      closed = false;
    }

pub every_record :
    wanted_record with_services 6 0 ∷ wanted_record with_services 6 2 ∷ wanted_record with_services 6 3 ∷ [] ≡ 1 ∷ 4 ∷ 6 ∷ []
every_record = refl
