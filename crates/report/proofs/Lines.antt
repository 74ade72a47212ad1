-- How long the lines of a text are. Assumes nothing.
use Prim.Native.Nat.{ℕ, zero, suc, ◌*◌, ◌≤◌, ◌<◌}
use mathlib.Core.Bool.{Bool, true, false}
use mathlib.Core.List.{List, ◌++◌}
use native.Mathlib.Omega.{arith}
use lib.ListN.{length, get_or, length-append}
use Rattle.bits.specs.Packed.{bit}
use Rattle.decimal.specs.Text.{ascii, decimal, verdict_word}
use Rattle.report.specs.Report.{first_line, verdict_words, line, lines}
use Rattle.decimal.proofs.Decimals.{four_digits}

pub short_first_line : (given records : ℕ) → given < 10000 → records < 10000 → length (first_line given records) ≤ 22
unfolding ascii
short_first_line given records few few' =
    let d = four_digits given few in
    let n = four_digits records few' in
    let one = length-append (ascii "verdicts ") (decimal given) in
    let two = length-append (ascii "verdicts " ++ decimal given) (ascii " of ") in
    let three = length-append (ascii "verdicts " ++ decimal given ++ ascii " of ") (decimal records) in
    let four = length-append (ascii "verdicts " ++ decimal given ++ ascii " of " ++ decimal records) (ascii "\n") in
    omega arith

short_word : (b : Bool) → length (verdict_word b) ≤ 4
unfolding ascii
short_word true = omega arith
short_word false = omega arith

pub short_words : (v n : ℕ) → length (verdict_words v n) ≤ n * 4
unfolding verdict_words
short_words v zero = omega arith
short_words v (suc n) =
    let before = short_words v n in
    let last = short_word (bit v n) in
    let sum = length-append (verdict_words v n) (verdict_word (bit v n)) in
    omega arith

short_line : (i columns v : ℕ) → i < 10000 → columns ≤ 8 → length (line i columns v) ≤ 37
unfolding ascii
short_line i columns v few most =
    let d = four_digits i few in
    let w = short_words v columns in
    let front = length-append (decimal i) (verdict_words v columns) in
    let sum = length-append (decimal i ++ verdict_words v columns) (ascii "\n") in
    omega arith

pub short_lines : (columns : ℕ) (vs : List ℕ) (n : ℕ) → columns ≤ 8 → n ≤ 10000 → length (lines columns vs n) ≤ n * 37
unfolding lines
short_lines columns vs zero most few = omega arith
short_lines columns vs (suc n) most few =
    let before = short_lines columns vs n most (omega arith) in
    let last = short_line n columns (get_or vs n 0) (omega arith) most in
    let sum = length-append (lines columns vs n) (line n columns (get_or vs n 0)) in
    omega arith
