-- No refusal has the number 0, and a refusal that `?` hands on keeps its number.
use Rattle.std.specs.Prelude.{◌<◌, ◌≡◌, Result, Err, refl}
use Rattle.std.specs.Result.{IsErrAnd}
use Rattle.std.proofs.Common.{ap, ◌∙◌}
use Rattle.std.proofs.lemmas.Result.{err_from_is_err_and}
use native.Mathlib.Omega.{arith}
use Rattle.refusal.specs.declared.Refusal.{Refusal}
use Rattle.refusal.specs.declared.Refusal.TheVariants.{RuleMark, RuleVersion, RuleLength, EntryField, Interval, Shape, TooManyWords, ShortPoint, ForeignPoint, PointRange, LogFormat, FewerRecords, TimeFalls, SheetByte, UnknownWord, NotDerived, ShortRule, LogRoom, PointClosed, MoreRecords, OtherVersion, TrimVersion, RecordDropped, ShortLog, Settings, NoReason}
use Rattle.refusal.specs.Number.{number_of, number}

pub number_positive : (r : Refusal) → 0 < number_of r
number_positive RuleMark = omega arith
number_positive RuleVersion = omega arith
number_positive RuleLength = omega arith
number_positive EntryField = omega arith
number_positive Interval = omega arith
number_positive Shape = omega arith
number_positive TooManyWords = omega arith
number_positive ShortPoint = omega arith
number_positive ForeignPoint = omega arith
number_positive PointRange = omega arith
number_positive LogFormat = omega arith
number_positive FewerRecords = omega arith
number_positive TimeFalls = omega arith
number_positive SheetByte = omega arith
number_positive UnknownWord = omega arith
number_positive NotDerived = omega arith
number_positive ShortRule = omega arith
number_positive LogRoom = omega arith
number_positive PointClosed = omega arith
number_positive MoreRecords = omega arith
number_positive OtherVersion = omega arith
number_positive TrimVersion = omega arith
number_positive RecordDropped = omega arith
number_positive ShortLog = omega arith
number_positive Settings = omega arith
number_positive NoReason = omega arith

-- what the exit of a `?` returns
pub handed_on : {A : Type 0} (r : Result A Refusal) (e : Refusal) → IsErrAnd r (λ x. x ≡ e) → number r ≡ number_of e
handed_on r e h = let p = err_from_is_err_and r h in ap number p.1 ∙ ap number_of p.2
