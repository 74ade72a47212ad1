-- The text of a reason: the bytes that the call writes.
use Rattle.std.specs.Prelude.{ℕ, cond, List, [], ◌∷◌, ◌++◌}
use Rattle.decimal.specs.Text.{ascii, decimal}
use Rattle.reasons.specs.Reason.{Cause, Says, Line}
use Rattle.reasons.specs.Reason.Cause.{by_left, by_time}
use Rattle.reasons.specs.Reason.Says.{stands, not, or, prev, next, prev_none, since, until, since_no, until_no}
use Rattle.reasons.specs.Reason.Line.{empty, sentence}

-- "A sentence is a line, one space between its parts, then byte 10"
unfoldable pub spaced_line : List (List ℕ) → List ℕ
spaced_line [] = 10 ∷ []
spaced_line (p ∷ []) = p ++ (10 ∷ [])
spaced_line (p ∷ (q ∷ ps)) = p ++ (32 ∷ spaced_line (q ∷ ps))

-- "the line then ends with left or time"
abbrev pub cause_text : Cause → List ℕ
cause_text by_left = ascii "left"
cause_text by_time = ascii "time"

-- "for a letter e0 to e31 and yes or no, else paper 1's word and a decimal number (not and or: no number)"; of a previous "none for the gap
-- where no position stands before"
abbrev pub said_words : Says → List (List ℕ)
said_words (stands k holds) = (ascii "e" ++ decimal k) ∷ cond holds (ascii "yes") (ascii "no") ∷ []
said_words not = ascii "not" ∷ []
said_words or = ascii "or" ∷ []
said_words (prev gap) = ascii "prev" ∷ decimal gap ∷ []
said_words (next gap) = ascii "next" ∷ decimal gap ∷ []
said_words prev_none = ascii "prev" ∷ ascii "none" ∷ []
said_words (since j) = ascii "since" ∷ decimal j ∷ []
said_words (until j) = ascii "until" ∷ decimal j ∷ []
said_words (since_no p cause) = ascii "since" ∷ decimal p ∷ cause_text cause ∷ []
said_words (until_no p cause) = ascii "until" ∷ decimal p ∷ cause_text cause ∷ []

-- "the entry's number from 0, the position, then .."; "an empty rule's reason is the one line empty"
abbrev pub parts : Line → List (List ℕ)
parts empty = ascii "empty" ∷ []
parts (sentence k i says) = decimal k ∷ decimal i ∷ said_words says

-- the lines, one behind the other
unfoldable pub text : List Line → List ℕ
text [] = []
text (l ∷ ls) = spaced_line (parts l) ++ text ls
