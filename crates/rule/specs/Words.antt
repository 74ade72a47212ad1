-- The words that a checkpoint (document 01's point) needs for a rule.
use Rattle.std.specs.Prelude.{ℕ, zero, suc, ◌+◌, ◌*◌, cond, List, eqb}
use Rattle.mtl.specs.Formula.{unbounded}
use Rattle.rule.specs.declared.Entry.{Entry}
use Rattle.rule.specs.Entries.{entry}

-- "for since with a finite high (high + 1), for since without upper end 1"
abbrev pub ring_words : ℕ → ℕ
ring_words high = cond (eqb high unbounded) 1 (high + 1)

-- "16 for each entry, and for since" those of its ring, "for until 2 × (high + 1)"
abbrev pub own_words : (kind high : ℕ) → ℕ
own_words kind high = cond (eqb kind 5) (16 + ring_words high) (cond (eqb kind 6) (16 + 2 * (high + 1)) 16)

-- those of an entry
abbrev pub own : Entry → ℕ
own e = own_words e.kind e.high

-- the words of the first n entries, and where the words of entry n begin, counted from those of entry 0
unfoldable pub offset : List Entry → ℕ → ℕ
offset t zero = 0
offset t (suc n) = offset t n + own (entry t n)

-- the words of the checkpoint itself, before those of the entries: "Words needed: 16"; "A version 2 point has 24 words where it had 16 at
-- the start"
abbrev pub header_words : (version : ℕ) → ℕ
header_words version = cond (eqb version 1) 16 24

-- "Words needed: 16, and" those of the entries
abbrev pub words : (version : ℕ) → List Entry → ℕ → ℕ
words version t n = header_words version + offset t n

-- "The limit is 8,192."
abbrev pub limit : ℕ
limit = 8192
