-- Rows worked by hand, proved by computation.
use Rattle.std.specs.Prelude.{ℕ, true, false, List, [], ◌∷◌, ◌≡◌, refl}
use Rattle.std.proofs.Math.Option.{some}
use Rattle.mtl.specs.Satisfaction.{any}
use Rattle.verdicts.specs.Bytes.{byte_of, answers_at, bytes_of}
use Rattle.verdicts.specs.Counts.{count_of, latest_no, listed, counts, noes_in, laid_behind}
use Rattle.verdicts.specs.Tally.{tally_refusal}

-- eight answers in one byte: formulas 0, 1, 4 and 7 say yes
eight_answers : byte_of (true ∷ true ∷ false ∷ false ∷ true ∷ false ∷ false ∷ true ∷ []) ≡ 147
unfolding byte_of
eight_answers = refl

-- a formula that is yes, no, yes, and one that is no, yes, yes
two_formulas : bytes_of (5 ∷ 6 ∷ []) 3 ≡ 1 ∷ 2 ∷ 3 ∷ []
unfolding byte_of answers_at bytes_of
two_formulas = refl

-- one formula: 1 for yes and 0 for no
one_formula : bytes_of (5 ∷ []) 3 ≡ 1 ∷ 0 ∷ 1 ∷ []
unfolding byte_of answers_at bytes_of
one_formula = refl

-- the tally of two columns: formula 0 is no once in four, formula 1 three times
abbrev sheet : List ℕ
sheet = 1 ∷ 2 ∷ 1 ∷ 1 ∷ []

no_counts : counts false 2 sheet ≡ 1 ∷ 3 ∷ []
unfolding count_of listed
no_counts = refl

yes_counts : counts true 2 sheet ≡ 3 ∷ 1 ∷ []
unfolding count_of listed
yes_counts = refl

tallied : tally_refusal 2 sheet ≡ 0
unfolding any
tallied = refl

-- an empty sheet has no byte to refuse
empty_sheet : tally_refusal 8 [] ≡ 0
unfolding any
empty_sheet = refl

-- 15: no formula, nine formulas, and a bit of formula 1 in the sheet of one formula
no_formula : tally_refusal 0 [] ≡ 15
no_formula = refl

nine_formulas : tally_refusal 9 sheet ≡ 15
nine_formulas = refl

bit_beyond : tally_refusal 1 sheet ≡ 15
unfolding any
bit_beyond = refl

-- the count of no and the latest, of each of the two, and of two sheets end to end
first_noes : noes_in 0 sheet 4 ≡ record { count = 1; latest = some 1 }
unfolding count_of latest_no
first_noes = refl

second_noes : noes_in 1 sheet 4 ≡ record { count = 3; latest = some 3 }
unfolding count_of latest_no
second_noes = refl

end_to_end : laid_behind (noes_in 0 sheet 4) 4 (noes_in 0 (3 ∷ 2 ∷ 1 ∷ []) 3) ≡ record { count = 2; latest = some 5 }
unfolding count_of latest_no
end_to_end = refl
