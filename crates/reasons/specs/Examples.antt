-- Worked by hand, proved by computation: the reasons of document 01's P1 to P8, and a row for each clause of paper 13 and each plausible fault; then rules of no
-- formula and of two, from their bytes.
use Rattle.std.specs.Prelude.{ℕ, zero, suc, ◌-◌, Bool, true, false, cond, ◌&&◌, List, [], ◌∷◌, ◌++◌, map, ◌≡◌, refl, eqb, take, drop}
use Prim.Native.String.{String}
use Rattle.mtl.specs.Formula.{Formula, unbounded}
use Rattle.mtl.specs.Formula.Formula.{letter, not, or, previous, next, since, until}
use Rattle.mtl.specs.Satisfaction.{any, all, sat}
use Rattle.mtl.specs.Progress.{run, progress, settled_to, joint_progress}
use Rattle.mtl.specs.Examples.{Records, log_of_list}
use Rattle.rule.specs.Entries.{first_entries}
use Rattle.rule.specs.Postfix.{push_kind, read, size, start}
use Rattle.trace.specs.Positions.{passing, spot, positions}
use Rattle.meaning.specs.Verdicts.{formulas_of}
use Rattle.decimal.specs.Text.{ascii, decimal_in}
use Rattle.reasons.specs.Search.{after_last}
use Rattle.reasons.specs.Reason.{reason}
use Rattle.reasons.specs.Text.{spaced_line, text}
use Rattle.reasons.specs.OfRule.{log_in, reason_of}

-- THE TABLE

-- what f gives at the positions below n
unfoldable pub up_to : ℕ → (ℕ → List ℕ) → List (List ℕ)
up_to zero f = []
up_to (suc n) f = up_to n f ++ (f n ∷ [])

-- two lists of bytes are the same, and two lists of texts
unfoldable pub same : List ℕ → List ℕ → Bool
same [] [] = true
same [] (y ∷ ys) = false
same (x ∷ xs) [] = false
same (x ∷ xs) (y ∷ ys) = eqb x y && same xs ys

unfoldable pub same_texts : List (List ℕ) → List (List ℕ) → Bool
same_texts [] [] = true
same_texts [] (y ∷ ys) = false
same_texts (x ∷ xs) [] = false
same_texts (x ∷ xs) (y ∷ ys) = same x y && same_texts xs ys

-- a formula alone in its rule, a log, and the texts of all answered positions
pub record Row : Type 0 where
  pub formula : Formula
  pub records : Records
  pub texts : List String

unfoldable pub computes : Row → Bool
computes r =
    let L = log_of_list r.records in
    let φ = r.formula in
    same_texts (up_to (progress φ L) (λ i. text (reason φ (size φ - 1) L i))) (map ascii r.texts)

-- 0, or the number n of a row that does not compute
unfoldable pub wrong : ℕ → Row → ℕ
wrong n r = cond (computes r) 0 n

-- none of the rows is wrong, the first of them having number n
unfoldable pub Right : ℕ → List Row → Type 0
Right n [] = Unit {0}
Right n (r ∷ rs) = (wrong n r ≡ 0) × Right (suc n) rs

-- letters 0 to 3; in an event set a is worth 1, b 2, c 4, d 8
abbrev a : Formula
a = letter 0

abbrev b : Formula
b = letter 1

abbrev c : Formula
c = letter 2

abbrev d : Formula
d = letter 3

abbrev records_1 : Records
records_1 = (10, 1) ∷ (11, 1) ∷ (11, 0) ∷ (12, 1) ∷ (13, 2) ∷ (20, 1) ∷ []

unfoldable pub rows : List Row
rows =
    -- 1: P1
    record {
      formula = until 0 2 a b;
      records = records_1;
      texts = "2 0 until 2 left\n" ∷ "2 1 until 2 left\n" ∷ "2 2 until 2 left\n" ∷ "2 3 until 4\n" ∷ "2 4 until 4\n" ∷ [];
    }
    -- 2: P2, the untouched log of its call
    ∷ record {
      formula = until 0 2 a b;
      records = records_1 ++ ((21, 2) ∷ []);
      texts =
          "2 0 until 2 left\n" ∷ "2 1 until 2 left\n" ∷ "2 2 until 2 left\n" ∷ "2 3 until 4\n" ∷ "2 4 until 4\n" ∷ "2 5 until 6\n" ∷ "2 6 until 6\n" ∷ [];
    }
    -- 3: P3. At 0 right is yes, but its gap is not within: right is no only "wherever the gap is within"
    ∷ record {
      formula = since 1 unbounded a b;
      records = (5, 2) ∷ (5, 1) ∷ (6, 1) ∷ (7, 0) ∷ [];
      texts = "2 0 since 0 left\n" ∷ "2 1 since 0 left\n" ∷ "2 2 since 0\n" ∷ "2 3 since 3 left\n" ∷ [];
    }
    -- 4: P4: no position stands before; the gap is within; it is not
    ∷ record {
      formula = previous 0 0 a;
      records = (5, 1) ∷ (5, 0) ∷ (6, 1) ∷ [];
      texts = "1 0 prev none\n" ∷ "1 1 prev 0\n0 0 e0 yes\n" ∷ "1 2 prev 1\n" ∷ [];
    }
    -- 5: P5
    ∷ record {
      formula = next 1 1 a;
      records = (5, 0) ∷ (6, 1) ∷ (8, 1) ∷ [];
      texts = "1 0 next 1\n0 1 e0 yes\n" ∷ "1 1 next 2\n" ∷ [];
    }
    -- 6: P6
    ∷ record { formula = not (until 0 2 a b); records = (10, 1) ∷ []; texts = [] }
    -- 7 and 8: P7
    ∷ record { formula = until 0 2 a b; records = (10, 1) ∷ (12, 1) ∷ []; texts = [] }
    ∷ record { formula = until 0 2 a b; records = (10, 1) ∷ (12, 1) ∷ (13, 1) ∷ []; texts = "2 0 until 2 time\n" ∷ [] }
    -- 9: P8: "left's if both": at 1 left is answered no, and 1 lies more than high later
    ∷ record { formula = until 0 5 a (until 0 5 c d); records = (0, 5) ∷ (11, 4) ∷ []; texts = "4 0 until 1 left\n" ∷ [] }
    -- 10: "answered no": at 1 left is not answered, and 1 lies more than high later
    ∷ record { formula = until 0 2 (until 0 5 c d) b; records = (0, 12) ∷ (9, 4) ∷ []; texts = "4 0 until 1 time\n" ∷ [] }
    -- 11: an or that is no; yes by both; yes by its right
    ∷ record {
      formula = or a b;
      records = (0, 0) ∷ (0, 3) ∷ (0, 2) ∷ [];
      texts = "2 0 or\n0 0 e0 no\n1 0 e1 no\n" ∷ "2 1 or\n0 1 e0 yes\n" ∷ "2 2 or\n1 2 e1 yes\n" ∷ [];
    }
    -- 12: since: left fails nowhere; at the position itself; at the first at most high before ("from there on"); before that one
    ∷ record {
      formula = since 0 2 a b;
      records = (0, 1) ∷ (1, 0) ∷ (3, 1) ∷ (4, 1) ∷ [];
      texts = "2 0 since 0 time\n" ∷ "2 1 since 1 left\n" ∷ "2 2 since 1 left\n" ∷ "2 3 since 2 time\n" ∷ [];
    }
    -- 13: the latest where left fails, of two
    ∷ record {
      formula = since 0 9 a b;
      records = (0, 0) ∷ (1, 1) ∷ (1, 0) ∷ (2, 1) ∷ [];
      texts = "2 0 since 0 left\n" ∷ "2 1 since 0 left\n" ∷ "2 2 since 2 left\n" ∷ "2 3 since 2 left\n" ∷ [];
    }
    -- 14: since, the earliest fitting j: not one out of reach, and not a later one
    ∷ record {
      formula = since 0 2 a b;
      records = (0, 2) ∷ (1, 3) ∷ (2, 3) ∷ (3, 1) ∷ [];
      texts = "2 0 since 0\n" ∷ "2 1 since 0\n" ∷ "2 2 since 0\n" ∷ "2 3 since 1\n" ∷ [];
    }
    -- 15: until, the earliest fitting j: not one too near, and not a later one
    ∷ record {
      formula = until 1 9 a b;
      records = (0, 3) ∷ (1, 3) ∷ (2, 2) ∷ (3, 0) ∷ [];
      texts = "2 0 until 1\n" ∷ "2 1 until 2\n" ∷ "2 2 until 2 left\n" ∷ "2 3 until 3 left\n" ∷ [];
    }
    -- 16: right is yes at both ends, and neither gap is within: at 0 the position itself, at 1 the first that lies more than high later
    ∷ record { formula = until 1 2 a b; records = (0, 3) ∷ (3, 3) ∷ []; texts = "2 0 until 1 time\n" ∷ [] }
    -- 17: the same in since: at 2 right is yes there and at 0, and 0 lies more than high before
    ∷ record {
      formula = since 1 2 a b;
      records = (0, 3) ∷ (1, 1) ∷ (3, 3) ∷ [];
      texts = "2 0 since 0 time\n" ∷ "2 1 since 0\n" ∷ "2 2 since 1 time\n" ∷ [];
    }
    -- 18: no upper end: the first at most high before is 0
    ∷ record { formula = since 0 unbounded a b; records = (0, 1) ∷ (5_000_000_000, 1) ∷ []; texts = "2 0 since 0 time\n" ∷ "2 1 since 0 time\n" ∷ [] }
    -- 19: the entries' numbers where operands have several entries, left first; a previous over a not over an or
    ∷ record {
      formula = previous 0 9 (not (or (not a) (or b c)));
      records = (0, 1) ∷ (7, 4) ∷ (8, 0) ∷ [];
      texts =
          "7 0 prev none\n" ∷ "7 1 prev 7\n6 0 not\n5 0 or\n1 0 not\n0 0 e0 yes\n4 0 or\n2 0 e1 no\n3 0 e2 no\n" ∷
          "7 2 prev 1\n6 1 not\n5 1 or\n1 1 not\n0 1 e0 no\n" ∷ [];
    }
    -- 20: a next over a since; the sentence of its operand stands at the position after
    ∷ record {
      formula = next 0 unbounded (since 0 1 a b);
      records = (0, 0) ∷ (100, 2) ∷ (101, 1) ∷ (103, 1) ∷ [];
      texts = "3 0 next 100\n2 1 since 1\n" ∷ "3 1 next 1\n2 2 since 1\n" ∷ "3 2 next 2\n2 3 since 3 time\n" ∷ [];
    }
    -- 21: the last letter, and numbers of several digits
    ∷ record {
      formula = previous 0 unbounded (letter 31);
      records = (0, 2_147_483_648) ∷ (3600, 0) ∷ [];
      texts = "1 0 prev none\n" ∷ "1 1 prev 3600\n0 0 e31 yes\n" ∷ [];
    }
    ∷ []

-- every row computes; an edit of the definitions that breaks a row has its number in the error
pub every_row : Right 1 rows
unfolding Right wrong rows computes up_to same same_texts any all sat run progress size after_last reason ascii decimal_in spaced_line text
every_row = (refl, (refl, (refl, (refl, (refl, (refl, (refl, (refl, (refl, (refl, (refl, (refl, (refl, (refl, (refl, (refl, (refl, (refl, (refl, (refl, (refl, tt)))))))))))))))))))))

-- FROM THE BYTES

-- the texts of formula k at all positions with a verdict
abbrev texts_of : (rule log : List ℕ) (k : ℕ) → List (List ℕ)
texts_of rule log k = up_to (joint_progress (formulas_of rule) (log_in log)) (λ i. text (reason_of rule log k i))

-- P1's entries, and its log behind the header
abbrev entries_1 : List ℕ
entries_1 =
    0 ∷ 0 ∷ 0 ∷ 0 ∷ 0 ∷ 0 ∷ 0 ∷ 0 ∷ 0 ∷ 0
    ∷ 0 ∷ 1 ∷ 0 ∷ 0 ∷ 0 ∷ 0 ∷ 0 ∷ 0 ∷ 0 ∷ 0
    ∷ 6 ∷ 0 ∷ 0 ∷ 0 ∷ 0 ∷ 0 ∷ 0 ∷ 0 ∷ 0 ∷ 2
    ∷ []

abbrev log : List ℕ
log =
    0x4B ∷ 0x4C ∷ 0x47 ∷ 0 ∷ 1 ∷ 0 ∷ 0 ∷ 0
    ∷ 0 ∷ 0 ∷ 0 ∷ 10 ∷ 0 ∷ 0 ∷ 0 ∷ 1
    ∷ 0 ∷ 0 ∷ 0 ∷ 11 ∷ 0 ∷ 0 ∷ 0 ∷ 1
    ∷ 0 ∷ 0 ∷ 0 ∷ 11 ∷ 0 ∷ 0 ∷ 0 ∷ 0
    ∷ 0 ∷ 0 ∷ 0 ∷ 12 ∷ 0 ∷ 0 ∷ 0 ∷ 1
    ∷ 0 ∷ 0 ∷ 0 ∷ 13 ∷ 0 ∷ 0 ∷ 0 ∷ 2
    ∷ 0 ∷ 0 ∷ 0 ∷ 20 ∷ 0 ∷ 0 ∷ 0 ∷ 1
    ∷ []

-- the same records as version 2, with a service record in the middle of second 11: no position is its
abbrev serviced : List ℕ
serviced =
    0x4B ∷ 0x4C ∷ 0x47 ∷ 0 ∷ 2 ∷ 0 ∷ 0 ∷ 0
    ∷ take 16 (drop 8 log) ++ (0 ∷ 0 ∷ 0 ∷ 11 ∷ 0x80 ∷ 0 ∷ 0 ∷ 0 ∷ drop 24 log)

-- P1's until, and its not behind it
abbrev two : List ℕ
two = 0x4B ∷ 0x52 ∷ 0x4C ∷ 0 ∷ 2 ∷ 7 ∷ 0 ∷ 0 ∷ entries_1 ++ entries_1 ++ (1 ∷ 0 ∷ 0 ∷ 0 ∷ 0 ∷ 0 ∷ 0 ∷ 0 ∷ 0 ∷ 0 ∷ [])

-- "an empty rule's reason is the one line empty", at each of the log's six positions
abbrev none : List ℕ
none = 0x4B ∷ 0x52 ∷ 0x4C ∷ 0 ∷ 1 ∷ 0 ∷ 0 ∷ 0 ∷ []

abbrev first_texts : List String
first_texts = "2 0 until 2 left\n" ∷ "2 1 until 2 left\n" ∷ "2 2 until 2 left\n" ∷ "2 3 until 4\n" ∷ "2 4 until 4\n" ∷ []

pub every_rule :
    (texts_of two log 0 ≡ map ascii first_texts) ×
    (texts_of two log 1 ≡
    map ascii ("6 0 not\n5 0 until 2 left\n" ∷ "6 1 not\n5 1 until 2 left\n" ∷ "6 2 not\n5 2 until 2 left\n" ∷ "6 3 not\n5 3 until 4\n" ∷ "6 4 not\n5 4 until 4\n" ∷ [])) ×
    (texts_of two serviced 0 ≡ map ascii first_texts) ×
    (texts_of none log 0 ≡ map ascii ("empty\n" ∷ "empty\n" ∷ "empty\n" ∷ "empty\n" ∷ "empty\n" ∷ "empty\n" ∷ []))
unfolding up_to passing spot positions first_entries push_kind read size start any all sat run progress settled_to joint_progress after_last reason ascii decimal_in spaced_line text
every_rule = (refl, refl, refl, refl)
