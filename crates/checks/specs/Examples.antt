-- Rows worked by hand, proved by computation: what is refused of the words of a small rule's checkpoint, letter 0, in both versions, and of
-- the log brought with them.
use Rattle.std.specs.Prelude.{ℕ, ◌*◌, ◌/◌, ◌%◌, true, false, List, [], ◌∷◌, ◌++◌, ◌≡◌, refl, set, take, replicate}
use Rattle.mtl.specs.Satisfaction.{any}
use Rattle.rule.specs.declared.Entry.{Entry}
use Rattle.rule.specs.Words.{offset}
use Rattle.checkpoint.specs.Checkpoint.{format, copy_start}
use Rattle.checks.specs.Refusal.{trimming_refusal, words_refusal, point_refusal}

abbrev table : List Entry
table = record { kind = 0; letter = 0; low = 0; high = 0 } ∷ []

-- its fresh checkpoint, in 40 words: both words of the entry's copy are 0, so that they are found where version 1 looks and where
-- version 2 does
abbrev fresh : (version : ℕ) → List ℕ
fresh version = set (set (replicate 40 0) 0 format) 4 (copy_start version 1)

abbrev refusal_of : (version : ℕ) → List ℕ → ℕ
refusal_of version p = words_refusal version table 1 p 0

fresh_points : (refusal_of 1 (fresh 1) ≡ 0) × (refusal_of 2 (fresh 2) ≡ 0)
unfolding any offset
fresh_points = (refl, refl)

-- 10: the entries are the same, the version is not; a copy of two entries; one of the two words of the entry's copy is another
-- entry's: that of letter 1, and of a high of 1
other_rules :
    (refusal_of 2 (fresh 1) ≡ 10) ×
    (refusal_of 1 (fresh 2) ≡ 10) ×
    (refusal_of 2 (set (fresh 2) 4 (copy_start 2 2)) ≡ 10) ×
    (refusal_of 1 (set (fresh 1) 30 1) ≡ 10) ×
    (refusal_of 1 (set (fresh 1) 31 1) ≡ 10)
unfolding any offset
other_rules = (refl, refl, refl, refl, refl)

-- 11: word 15, a count of no that is above the verdicts given, is formula 7's; a rule of version 1 does not use it; a latest no where
-- none is counted, in the last word of the 24
counts_of_formula_7 :
    (refusal_of 2 (set (fresh 2) 15 1) ≡ 11) ×
    (refusal_of 1 (set (fresh 1) 15 1) ≡ 0) ×
    (refusal_of 2 (set (set (set (fresh 2) 1 1) 2 1) 23 1) ≡ 11)
unfolding any offset
counts_of_formula_7 = (refl, refl, refl)

-- 11: an answer that is held, and no record
held_past_records : (refusal_of 1 (set (fresh 1) 28 1) ≡ 11) × (refusal_of 2 (set (fresh 2) 36 1) ≡ 11)
unfolding any offset
held_past_records = (refl, refl)

-- a closed point of one record, resumed with a log that is no log: 20 comes before 12, and 11 before 20
abbrev closed_point : List ℕ
closed_point = set (set (set (fresh 1) 2 1) 5 2) 6 1

closed_before_12 : point_refusal false 1 table 1 [] closed_point ≡ 20
unfolding any offset
closed_before_12 = refl

closed_after_11 : point_refusal false 1 table 1 [] (set closed_point 1 2) ≡ 11
unfolding any offset
closed_after_11 = refl

-- two records, at times 2³² - 1 and 5: the first was overwritten after its verdict was given. Order is looked at from the first record
-- still wanted on.
abbrev overwritten : List ℕ
overwritten = 0x4B ∷ 0x4C ∷ 0x47 ∷ 0 ∷ 1 ∷ 0 ∷ 0 ∷ 0 ∷ 255 ∷ 255 ∷ 255 ∷ 255 ∷ 0 ∷ 0 ∷ 0 ∷ 0 ∷ 0 ∷ 0 ∷ 0 ∷ 5 ∷ replicate 4 0

-- the point that one verdict of one record left, with a version noted
abbrev given_one : (kind : ℕ) → List ℕ
given_one kind = set (set (set (set (set (fresh 1) 1 1) 2 1) 3 5) 6 kind) 7 1

overwritten_before_wanted : point_refusal false 1 table 1 overwritten (given_one 1) ≡ 0
unfolding any offset
overwritten_before_wanted = refl

-- the same log as version 2, and as version 4, which no version is
abbrev of_version : ℕ → List ℕ
of_version v = set overwritten 4 v

-- 22, both ways, after 12, and before 13: more records were seen than are brought
noted_versions :
    (point_refusal false 1 table 1 (of_version 2) (given_one 2) ≡ 0) ×
    (point_refusal false 1 table 1 overwritten (given_one 2) ≡ 22) ×
    (point_refusal false 1 table 1 (of_version 2) (given_one 1) ≡ 22) ×
    (point_refusal false 1 table 1 (of_version 4) (given_one 1) ≡ 12) ×
    (point_refusal false 1 table 1 overwritten (set (given_one 2) 2 3) ≡ 22)
unfolding any offset
noted_versions = (refl, refl, refl, refl, refl)

-- 11: a record seen and no version noted; a version that is none; the first wanted record behind all seen; a head there
out_of_range :
    (refusal_of 1 (given_one 0) ≡ 11) ×
    (refusal_of 1 (given_one 3) ≡ 11) ×
    (refusal_of 1 (set (given_one 1) 7 2) ≡ 11) ×
    (refusal_of 1 (set (given_one 1) 27 2) ≡ 11)
unfolding any offset
out_of_range = (refl, refl, refl, refl)

-- letter 0, letter 1 and an operator of this kind over both, with the interval 0 to 0, and its fresh checkpoint
abbrev over_letters : (kind : ℕ) → List Entry
over_letters kind =
    record { kind = 0; letter = 0; low = 0; high = 0 } ∷ record { kind = 0; letter = 1; low = 0; high = 0 }
    ∷ record { kind = kind; letter = 0; low = 0; high = 0 } ∷ []

abbrev fresh_over_letters : (kind : ℕ) → List ℕ
fresh_over_letters kind = set (set (set (set (replicate 66 0) 0 format) 4 (copy_start 1 3)) 46 1) 62 (kind * 256)

-- 11: the second head of an until behind all records; in the same place a since has a cell
waiting_head_past_records : words_refusal 1 (over_letters 6) 3 (set (fresh_over_letters 6) 64 1) 0 ≡ 11
unfolding any offset
waiting_head_past_records = refl

cell_of_a_since : words_refusal 1 (over_letters 5) 3 (set (fresh_over_letters 5) 64 1) 0 ≡ 0
unfolding any offset
cell_of_a_since = refl

-- LOGS OF VERSION 3, AND TRIMMINGS

-- a record without letters, at a time below 256, and those behind it
abbrev at : (time : ℕ) → List ℕ → List ℕ
at time rest = 0 ∷ 0 ∷ 0 ∷ time ∷ 0 ∷ 0 ∷ 0 ∷ 0 ∷ rest

-- a version 3 log of such records, before which so many were dropped
abbrev behind : (dropped : ℕ) → List ℕ → List ℕ
behind dropped records =
    0x4B ∷ 0x4C ∷ 0x47 ∷ 0 ∷ 3 ∷ 0 ∷ 0 ∷ 0
    ∷ 0 ∷ 0 ∷ 0 ∷ 0 ∷ 0 ∷ dropped / 65536 ∷ dropped / 256 % 256 ∷ dropped % 256 ∷ records

abbrev resumes : (log point : List ℕ) → ℕ
resumes log point = point_refusal false 1 table 1 log point

abbrev closes : (log point : List ℕ) → ℕ
closes log point = point_refusal true 1 table 1 log point

abbrev trims : (lent : ℕ) (log point : List ℕ) → ℕ
trims lent log point = words_refusal 1 table 1 point (trimming_refusal lent log point)

-- the point after so many verdicts of as many records of a version 2 log: the next record is the first wanted
abbrev given_all : (n : ℕ) → List ℕ
given_all n = set (set (set (given_one 2) 1 n) 2 n) 7 n

-- one record was seen and closed with
abbrev closed_one : List ℕ
closed_one = set (given_one 2) 5 2

-- a log that has dropped the record before the first wanted is taken where version 2 was noted, and not where version 1 was
version_3_after_2 : resumes (behind 1 (at 5 [])) (given_one 2) ≡ 0
unfolding any offset
version_3_after_2 = refl

version_3_after_1 : resumes (behind 1 (at 5 [])) (given_one 1) ≡ 22
unfolding any offset
version_3_after_1 = refl

-- the dropped record counts among the records brought
dropped_are_records : resumes (behind 1 []) (given_one 2) ≡ 0
unfolding any offset
dropped_are_records = refl

-- 12: a version 3 header is shorter than 16 bytes
headers_of_8_to_15 :
    (resumes (take 8 (behind 0 [])) (fresh 1)
    ∷ resumes (take 9 (behind 0 [])) (fresh 1)
    ∷ resumes (take 10 (behind 0 [])) (fresh 1)
    ∷ resumes (take 11 (behind 0 [])) (fresh 1)
    ∷ resumes (take 12 (behind 0 [])) (fresh 1)
    ∷ resumes (take 13 (behind 0 [])) (fresh 1)
    ∷ resumes (take 14 (behind 0 [])) (fresh 1)
    ∷ resumes (take 15 (behind 0 [])) (fresh 1)
    ∷ [])
    ≡ replicate 8 12
unfolding any offset
headers_of_8_to_15 = refl

header_of_16 : resumes (behind 0 []) (fresh 1) ≡ 0
unfolding any offset
header_of_16 = refl

-- 12: 2⁶⁴ - 1 dropped, and one record
all_ones_dropped : resumes (0x4B ∷ 0x4C ∷ 0x47 ∷ 0 ∷ 3 ∷ 0 ∷ 0 ∷ 0 ∷ (replicate 8 255 ++ at 5 [])) (fresh 1) ≡ 12
unfolding any offset
all_ones_dropped = refl

-- 12: 1,000,000 records with the dropped ones, and one more
limit_with_dropped : resumes (behind 999999 (at 5 [])) (given_all 999999) ≡ 0
unfolding any offset
limit_with_dropped = refl

past_the_limit : resumes (behind 999999 (at 5 (at 5 []))) (given_all 999999) ≡ 12
unfolding any offset
past_the_limit = refl

dropped_past_the_limit : resumes (behind 1000001 []) (given_all 1000000) ≡ 12
unfolding any offset
dropped_past_the_limit = refl

-- 24: the first wanted record was dropped, also where there is none yet; carrying on, closing, trimming
wanted_dropped : resumes (behind 2 (at 5 [])) (given_one 2) ≡ 24
unfolding any offset
wanted_dropped = refl

wanted_dropped_closes : closes (behind 2 (at 5 [])) (given_one 2) ≡ 24
unfolding any offset
wanted_dropped_closes = refl

wanted_dropped_trims : trims 24 (behind 2 (at 5 [])) (given_one 2) ≡ 24
unfolding any offset
wanted_dropped_trims = refl

-- a trimming writes 16 bytes and the records from the first wanted on; 25: the buffer is a byte short
trims_version_2 : trims 24 (of_version 2) (given_one 2) ≡ 0
unfolding any offset
trims_version_2 = refl

trims_one_byte_short : trims 23 (of_version 2) (given_one 2) ≡ 25
unfolding any offset
trims_one_byte_short = refl

trims_again : trims 24 (behind 1 (at 5 [])) (given_one 2) ≡ 0
unfolding any offset
trims_again = refl

trims_again_short : trims 23 (behind 1 (at 5 [])) (given_one 2) ≡ 25
unfolding any offset
trims_again_short = refl

-- 20 is not met by a trimming, nor is 21, which stands before 24 where a closing is repeated
trims_closed : trims 16 (behind 1 []) closed_one ≡ 0
unfolding any offset
trims_closed = refl

trims_closed_with_more : trims 24 (behind 1 (at 5 [])) closed_one ≡ 0
unfolding any offset
trims_closed_with_more = refl

more_before_24 : closes (behind 2 []) closed_one ≡ 21
unfolding any offset
more_before_24 = refl

trims_24_not_21 : trims 16 (behind 2 []) closed_one ≡ 24
unfolding any offset
trims_24_not_21 = refl

-- 22 comes before 23, and 23 before 13
version_before_23 : trims 0 overwritten (given_one 2) ≡ 22
unfolding any offset
version_before_23 = refl

version_1_on_fresh : trims 40 overwritten (fresh 1) ≡ 23
unfolding any offset
version_1_on_fresh = refl

version_1_before_13 : trims 0 overwritten (set (given_one 1) 2 3) ≡ 23
unfolding any offset
version_1_before_13 = refl

-- 13 comes before 24, 24 before 14, and 14 before 25
fewer_before_24 : resumes (behind 2 []) (set (given_one 2) 2 3) ≡ 13
unfolding any offset
fewer_before_24 = refl

fewer_before_24_trims : trims 0 (behind 2 []) (set (given_one 2) 2 3) ≡ 13
unfolding any offset
fewer_before_24_trims = refl

dropped_before_14 : resumes (behind 2 (at 5 (at 4 []))) (given_one 2) ≡ 24
unfolding any offset
dropped_before_14 = refl

dropped_before_14_trims : trims 0 (behind 2 (at 5 (at 4 []))) (given_one 2) ≡ 24
unfolding any offset
dropped_before_14_trims = refl

order_of_trimmed : resumes (behind 1 (at 5 (at 4 []))) (given_one 2) ≡ 14
unfolding any offset
order_of_trimmed = refl

order_before_25 : trims 0 (behind 1 (at 5 (at 4 []))) (given_one 2) ≡ 14
unfolding any offset
order_before_25 = refl
