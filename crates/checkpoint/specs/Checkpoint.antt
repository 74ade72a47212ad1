-- The words of a checkpoint (document 01's point): 16 of its own, 24 for a rule of version 2, then each entry's block in entry order.
-- docs/CHECKPOINT.md has the table.
use Rattle.std.specs.Prelude.{ℕ, ◌+◌, ◌*◌, ◌-◌, ◌^◌, Bool, true, cond, ◌&&◌, ◌||◌, not as negate, List, drop, leb, ltb, eqb}
use Rattle.mtl.specs.Satisfaction.{any}
use Rattle.rule.specs.declared.Entry.{Entry}
use Rattle.rule.specs.Entries.{version, count, decoded, entry}
use Rattle.rule.specs.Words.{header_words, offset, words}
use Rattle.rule.specs.Postfix.{most_formulas}
use Rattle.blocks.specs.Block.{word, cells_of}
use Rattle.verdicts.specs.Counts.{Noes, latest_of, noes_in_range}

-- the number in a checkpoint's first word: the bytes HAVD, and the format's number
abbrev pub format : ℕ
format = 0x4841564400000007

-- "the verdicts given d, the records seen, and the last time seen"
abbrev pub given : List ℕ → ℕ
given p = word p 1

abbrev pub seen : List ℕ → ℕ
seen p = word p 2

abbrev pub last : List ℕ → ℕ
last p = word p 3

-- the rule's version and its number of entries in one word, with which the copy of the rule begins
abbrev pub copy_start : (version n : ℕ) → ℕ
copy_start version n = version * 256 + n

-- the records at the first accepted closing, and 1; 0 while no closing was accepted
abbrev pub closed_with : List ℕ → ℕ
closed_with p = word p 5

-- what is noted of the version of the log that the last accepted call brought, 0 before any: 2 where it has service records, else 1
abbrev pub log_kind : List ℕ → ℕ
log_kind p = word p 6

abbrev pub kind_of_log : (skips : Bool) → ℕ
kind_of_log skips = cond skips 2 1

-- the first record still wanted
abbrev pub first_wanted : List ℕ → ℕ
first_wanted p = word p 7

-- of formula k: how many of the verdicts given are no, and one more than the position of the latest of them: 0 where none is. The
-- latest stand behind the counts, of which there are as many as a rule of that version has formulas at most.
abbrev pub no_count : List ℕ → (k : ℕ) → ℕ
no_count p k = word p (8 + k)

abbrev pub after_latest : (most_formulas : ℕ) → List ℕ → (k : ℕ) → ℕ
after_latest most_formulas p k = word p (8 + most_formulas + k)

-- "A point now stores the count of no among verdicts given and the position of the latest, or none", and since document 02, paper 8,
-- "one per formula"
abbrev pub stored_noes : (most_formulas : ℕ) → List ℕ → (k : ℕ) → Noes
stored_noes most_formulas p k = record { count = no_count p k; latest = latest_of (after_latest most_formulas p k) }

-- "Words needed": those that `measure` gives
abbrev pub need : List ℕ → ℕ
need rule = words (version rule) (decoded rule) (count rule)

-- where the block of entry k stands, behind so many words of the checkpoint's own
abbrev pub block_at : (base : ℕ) → List Entry → ℕ → ℕ
block_at base t k = base + offset t k

-- the copy that a block keeps of its entry
abbrev pub copy_head : Entry → ℕ
copy_head e = e.kind * 256 + e.letter

abbrev pub copy_ends : Entry → ℕ
copy_ends e = e.low * 2 ^ 32 + e.high

-- the block of entry k has another entry's copy
abbrev pub copy_differs : (base : ℕ) → List Entry → List ℕ → ℕ → Bool
copy_differs base t p k =
    negate (eqb (word p (block_at base t k + 14)) (copy_head (entry t k)) && eqb (word p (block_at base t k + 15)) (copy_ends (entry t k)))

-- refusal 10: "The point does not begin as a point of this library with a copy of this rule"
abbrev pub foreign : (version : ℕ) → List Entry → ℕ → List ℕ → Bool
foreign version t n p =
    negate (eqb (word p 0) format) || (negate (eqb (word p 4) (copy_start version n)) || any n (copy_differs (header_words version) t p))

-- count positions from `at` on lie within so many
abbrev pub room : (at count total : ℕ) → Bool
room at count total = leb count total && leb at (total - count)

-- the words of one block lie in their ranges
abbrev pub block_in_range : (given size cells : ℕ) → List ℕ → Bool
block_in_range given size cells b =
    leb (word b 0) size && leb (word b 1) 64 && leb (word b 3) 64 && leb (word b 5) size
    && leb (word b 6) 1 && leb (word b 7) 1 && ltb (word b 8) (2 ^ 32)
    && leb (word b 9) cells && leb (word b 10) cells
    && leb (word b 11) size
    && leb (word b 12) 64 && room given (word b 12) size

-- so does the second head of an until; in other kinds of entries that word is none, or a cell of a ring
abbrev pub waiting_in_range : (kind size : ℕ) → List ℕ → Bool
waiting_in_range kind size b = cond (eqb kind 6) (leb (word b 16) size) true

-- a word of the block of entry k is outside its range
abbrev pub block_outside : (base : ℕ) → List Entry → List ℕ → ℕ → Bool
block_outside base t p k =
    negate
    (block_in_range (given p) (seen p) (cells_of (entry t k).kind (entry t k).high) (drop (block_at base t k) p)
    && waiting_in_range (entry t k).kind (seen p) (drop (block_at base t k) p))

-- the count of formula k or its latest is outside its range; where the rule has no formula k, the library leaves both 0
abbrev pub noes_outside : (most_formulas : ℕ) → List ℕ → (k : ℕ) → Bool
noes_outside most_formulas p k = negate (noes_in_range (given p) (no_count p k) (after_latest most_formulas p k))

-- after an accepted closing no call that brings more records is accepted, nor one that brings fewer
abbrev pub closed_in_range : (closed_with seen : ℕ) → Bool
closed_in_range closed_with seen = eqb closed_with 0 || eqb (closed_with - 1) seen

-- a version is noted wherever a record was seen or a closing accepted
abbrev pub kind_in_range : (kind seen closed_with : ℕ) → Bool
kind_in_range kind seen closed_with = leb kind 2 && (ltb 0 kind || (eqb seen 0 && eqb closed_with 0))

-- "at most 1,000,000 records", "d above the records seen"
abbrev pub header_in_range : (most_formulas : ℕ) → List ℕ → Bool
header_in_range most_formulas p =
    leb (seen p) 1000000 && leb (given p) (seen p) && ltb (last p) (2 ^ 32) && closed_in_range (closed_with p) (seen p)
    && kind_in_range (log_kind p) (seen p) (closed_with p) && leb (first_wanted p) (seen p)
    && negate (any most_formulas (noes_outside most_formulas p))

-- refusal 11: "A word of the point is outside its range"
abbrev pub words_outside : (version : ℕ) → List Entry → ℕ → List ℕ → Bool
words_outside version t n p = negate (header_in_range (most_formulas version) p) || any n (block_outside (header_words version) t p)
