-- Where weighing stops: refusals 1 to 8 of document 01, "Where a call stops". "The first that applies is returned. .. a check
-- that speaks of entries goes over all of them."
use Rattle.std.specs.Prelude.{ℕ, ◌+◌, ◌*◌, Bool, true, false, cond, ◌&&◌, ◌||◌, not, List, ltb, eqb, length}
use Rattle.std.proofs.Math.Option.{Option, none, some}
use Rattle.mtl.specs.Formula.{Formula, unbounded}
use Rattle.mtl.specs.Satisfaction.{any}
use Rattle.rule.specs.declared.Entry.{Entry}
use Rattle.rule.specs.Bytes.{byte}
use Rattle.rule.specs.Entries.{version, count, decoded, entry}
use Rattle.rule.specs.Words.{words, limit}
use Rattle.rule.specs.Postfix.{formulas}

-- KRL (hexadecimal 4B 52 4C)
abbrev pub marked : List ℕ → Bool
marked s = eqb (byte s 0) 0x4B && eqb (byte s 1) 0x52 && eqb (byte s 2) 0x4C

-- 1. "The rule is shorter than 8 bytes or lacks its mark."
abbrev pub unmarked : List ℕ → Bool
unmarked s = ltb (length s) 8 || not (marked s)

-- 2. "The rule's version is not 1.", and "2 accepts both versions"
abbrev pub unknown_version : List ℕ → Bool
unknown_version s = not (eqb (version s) 1 || eqb (version s) 2)

-- 4. "The count is above 128, a spare byte is not zero, or the length is not 8 + 10 × count."
abbrev pub wrong_size : List ℕ → Bool
wrong_size s = ltb 128 (count s) || not (eqb (byte s 6) 0) || not (eqb (byte s 7) 0) || not (eqb (length s) (8 + count s * 10))

-- 5. "Some kind is above 6, some letter above 31, or some unused field not zero." Kind 0 uses the letter, kinds 3 to 6 low and high.
abbrev pub misshapen : Entry → Bool
misshapen e =
    ltb 6 e.kind || ltb 31 e.letter
    || (ltb 0 e.kind && ltb 0 e.letter)
    || (ltb e.kind 3 && (ltb 0 e.low || ltb 0 e.high))

-- 6. "Some low or finite high is above 3,600, some low is above its high, or .. until has no upper end", request 6 having amended
-- it: "High 4,294,967,295 is now allowed for next". Where the kind uses no interval, low and high are zero by then, which meets
-- none of these.
abbrev pub misplaced : Entry → Bool
misplaced e =
    ltb 3600 e.low || ltb e.high e.low
    || (ltb 3600 e.high && not (eqb e.high unbounded))
    || (eqb e.high unbounded && eqb e.kind 6)

-- refusals 5 and 6 of entry k
abbrev pub misshapen_at : List Entry → ℕ → Bool
misshapen_at t k = misshapen (entry t k)

abbrev pub misplaced_at : List Entry → ℕ → Bool
misplaced_at t k = misplaced (entry t k)

-- 7. "Some entry lacks an operand, or the whole leaves other than one formula.", and "7 lets count 0 pass"; "Rule version 2 leaves one to
-- eight formulas; refusal 7 is amended so (a version 2 count of 0 meets it)"
abbrev pub lacking : Option (List Formula) → Bool
lacking none = true
lacking (some fs) = false

-- 8. "The need is above 8,192 words."
abbrev pub over_limit : (version : ℕ) → List Entry → ℕ → Bool
over_limit version t n = ltb limit (words version t n)

-- number n where its condition holds, else what comes after it
abbrev pub first : ℕ → Bool → ℕ → ℕ
first n bad other = cond bad n other

-- the refusals of the header; 0 where none of them applies. "Refusal 3 no longer occurs"
unfoldable pub header_refusal : List ℕ → ℕ
header_refusal s = first 1 (unmarked s) (first 2 (unknown_version s) (first 4 (wrong_size s) 0))

-- the refusals of n decoded entries
unfoldable pub entries_refusal : (version : ℕ) → List Entry → ℕ → ℕ
entries_refusal version t n =
    first 5 (any n (misshapen_at t))
    (first 6 (any n (misplaced_at t)) (first 7 (lacking (formulas version t n)) (first 8 (over_limit version t n) 0)))

-- of two numbers, the first that is not 0
abbrev pub or_else : ℕ → ℕ → ℕ
or_else m n = cond (eqb m 0) n m

-- the number with which weighing the rule stops, and 0 where it is accepted
abbrev pub refusal : List ℕ → ℕ
refusal s = or_else (header_refusal s) (entries_refusal (version s) (decoded s) (count s))
