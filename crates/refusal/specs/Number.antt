-- The paper's numbers of the refusals, "Where a call stops" in document 01 and its additions in document 02. "Refusal 3 no longer occurs".
use Rattle.std.specs.Prelude.{ℕ, Result, Ok, Err}
use Rattle.refusal.specs.declared.Refusal.{Refusal}
use Rattle.refusal.specs.declared.Refusal.TheVariants.{RuleMark, RuleVersion, RuleLength, EntryField, Interval, Shape, TooManyWords, ShortPoint, ForeignPoint, PointRange, LogFormat, FewerRecords, TimeFalls, SheetByte, UnknownWord, NotDerived, ShortRule, LogRoom, PointClosed, MoreRecords, OtherVersion, TrimVersion, RecordDropped, ShortLog, Settings, NoReason}

abbrev pub number_of : Refusal → ℕ
number_of RuleMark = 1
number_of RuleVersion = 2
number_of RuleLength = 4
number_of EntryField = 5
number_of Interval = 6
number_of Shape = 7
number_of TooManyWords = 8
number_of ShortPoint = 9
number_of ForeignPoint = 10
number_of PointRange = 11
number_of LogFormat = 12
number_of FewerRecords = 13
number_of TimeFalls = 14
number_of SheetByte = 15
number_of UnknownWord = 16
number_of NotDerived = 17
number_of ShortRule = 18
number_of LogRoom = 19
number_of PointClosed = 20
number_of MoreRecords = 21
number_of OtherVersion = 22
number_of TrimVersion = 23
number_of RecordDropped = 24
number_of ShortLog = 25
number_of Settings = 26
number_of NoReason = 27

-- the number that a call's answer stands for: 0, or the refusal's
abbrev pub number : {A : Type 0} → Result A Refusal → ℕ
number (Ok x) = 0
number (Err refusal) = number_of refusal
