-- A sentence as the code has it, and as the bytes of its line.
use Rattle.std.specs.Prelude.{ℕ, cond, Option, Some, None, List, [], ◌++◌}
use Rattle.decimal.specs.Text.{ascii, decimal}
use Rattle.rule.specs.declared.kind.Kind.{Kind}
use Rattle.rule.specs.declared.kind.Kind.TheVariants.{Letter, Not, Or, Previous, Next, Since, Until}
use Rattle.reasons.specs.Reason.{Cause, Says}
use Rattle.reasons.specs.Reason.Cause.{by_left, by_time}
use Rattle.reasons.specs.Reason.Says.{stands, not, or, prev, next, prev_none, since, until, since_no, until_no}
use Rattle.sentences.specs.declared.sentence.Sentence.{Sentence}
use Rattle.sentences.specs.declared.sentence.Tail.{Tail}
use Rattle.sentences.specs.declared.sentence.Tail.TheVariants.{Yes, No, NoneBefore, Left, Time}

-- what is said: the kind's word, a number, and the word at the end of the line
abbrev pub tail_of : Cause → Tail
tail_of by_left = Left
tail_of by_time = Time

abbrev pub encode : Says → Sentence
encode (stands k holds) = record { kind = Letter; number = Some k; tail = Some (cond holds Yes No) }
encode not = record { kind = Not; number = None; tail = None }
encode or = record { kind = Or; number = None; tail = None }
encode (prev gap) = record { kind = Previous; number = Some gap; tail = None }
encode (next gap) = record { kind = Next; number = Some gap; tail = None }
encode prev_none = record { kind = Previous; number = None; tail = Some NoneBefore }
encode (since j) = record { kind = Since; number = Some j; tail = None }
encode (until j) = record { kind = Until; number = Some j; tail = None }
encode (since_no p cause) = record { kind = Since; number = Some p; tail = Some (tail_of cause) }
encode (until_no p cause) = record { kind = Until; number = Some p; tail = Some (tail_of cause) }

-- the bytes of each part of a line, the spaces between them included
abbrev pub kind_text : Kind → List ℕ
kind_text Letter = ascii " e"
kind_text Not = ascii " not"
kind_text Or = ascii " or"
kind_text Previous = ascii " prev "
kind_text Next = ascii " next "
kind_text Since = ascii " since "
kind_text Until = ascii " until "

abbrev pub value_text : Option ℕ → List ℕ
value_text None = []
value_text (Some n) = decimal n

abbrev pub tail_text : Option Tail → List ℕ
tail_text None = ascii "\n"
tail_text (Some Yes) = ascii " yes\n"
tail_text (Some No) = ascii " no\n"
tail_text (Some NoneBefore) = ascii "none\n"
tail_text (Some Left) = ascii " left\n"
tail_text (Some Time) = ascii " time\n"

abbrev pub line_text : (k i : ℕ) → Sentence → List ℕ
line_text k i s = decimal k ++ (ascii " " ++ (decimal i ++ (kind_text s.kind ++ (value_text s.number ++ tail_text s.tail))))
