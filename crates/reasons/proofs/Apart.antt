-- THEOREM of paper 13: two different reasons never have the same text: a text can be read back. Assumes nothing.
use Prim.Native.Nat.{ℕ, zero, suc, ◌+◌, ◌-◌, ◌*◌, ◌/◌, ◌%◌, ◌≤◌, ◌<◌}
use mathlib.Core.Bool.{Bool, true, false, cond, ◌&&◌}
use mathlib.Core.Bool.{not as negate}
use mathlib.Core.Logic.{⊎_elim}
use mathlib.Core.Path.{◌≡◌, refl, sym, ◌∙◌, ap, ap₂}
use mathlib.Core.List.{List, [], ◌∷◌, ◌++◌, append_assoc, append-nil, map}
use native.Mathlib.Omega.{arith}
use lib.Dec.{ltb, eqb}
use lib.ListN.{get_or, drop}
use borrow.Author.Tests.{lt-ltb, le-ltb, ne_eqb}
use Rattle.mtl.proofs.Bounded.{le_or_lt, and_iff, not_iff, false_iff}
use Rattle.reasons.specs.Reason.{Cause, Says, Line}
use Rattle.reasons.specs.Reason.Cause.{by_left, by_time}
use Rattle.reasons.specs.Reason.Says.{stands, not, or, prev, next, prev_none, since, until, since_no, until_no}
use Rattle.reasons.specs.Reason.Line.{empty, sentence}
use Rattle.decimal.specs.Text.{ascii, decimal_in, decimal}
use Rattle.reasons.specs.Text.{spaced_line, cause_text, said_words, parts, text}

-- READING THE PARTS BACK

-- the lines of a text, each as its parts: what was read of the part that goes on, and of the line that goes on
read : (part : List ℕ) (line : List (List ℕ)) → List ℕ → List (List (List ℕ))
read part line [] = []
read part line (b ∷ rest) =
    cond (eqb b 32) (read [] (line ++ (part ∷ [])) rest)
    (cond (eqb b 10) ((line ++ (part ∷ [])) ∷ read [] [] rest) (read (part ++ (b ∷ [])) line rest))

-- no byte of a part is a space or byte 10
Plain : List ℕ → Type 0
Plain [] = Unit {0}
Plain (b ∷ bs) = (eqb b 32 ≡ false) × (eqb b 10 ≡ false) × Plain bs

Plains : List (List ℕ) → Type 0
Plains [] = Unit {0}
Plains (p ∷ ps) = Plain p × Plains ps

plain_append : (xs ys : List ℕ) → Plain xs → Plain ys → Plain (xs ++ ys)
unfolding Plain
plain_append [] ys f g = g
plain_append (x ∷ xs) ys f g = (f.0, f.1, plain_append xs ys f.2 g)

read_part : (p : List ℕ) → Plain p → (part : List ℕ) (line : List (List ℕ)) (rest : List ℕ) →
    read part line (p ++ rest) ≡ read (part ++ p) line rest
unfolding Plain read
read_part [] plain part line rest = ap (λ s. read s line rest) (sym (append-nil part))
read_part (b ∷ p) plain part line rest =
    rw (plain.0, plain.1) (read_part p plain.2 (part ++ (b ∷ [])) line rest ∙ ap (λ s. read s line rest) (append_assoc part (b ∷ []) p))

-- a line, and what follows it
read_line : (p : List ℕ) (ps : List (List ℕ)) → Plains (p ∷ ps) → (line : List (List ℕ)) (rest : List ℕ) →
    read [] line (spaced_line (p ∷ ps) ++ rest) ≡ (line ++ (p ∷ ps)) ∷ read [] [] rest
unfolding Plains spaced_line read
read_line p [] plain line rest =
    ap (read [] line) (append_assoc p (10 ∷ []) rest) ∙ read_part p plain.0 [] line (10 ∷ rest)
read_line p (q ∷ ps) plain line rest =
    ap (read [] line) (append_assoc p (32 ∷ spaced_line (q ∷ ps)) rest) ∙
    read_part p plain.0 [] line (32 ∷ (spaced_line (q ∷ ps) ++ rest)) ∙
    read_line q ps plain.1 (line ++ (p ∷ [])) rest ∙
    ap (λ l. l ∷ read [] [] rest) (append_assoc line (p ∷ []) (q ∷ ps))

-- NUMBERS

Digits : List ℕ → Type 0
Digits [] = Unit {0}
Digits (d ∷ ds) = (48 ≤ d) × (d ≤ 57) × Digits ds

digits_append : (xs ys : List ℕ) → Digits xs → Digits ys → Digits (xs ++ ys)
unfolding Digits
digits_append [] ys f g = g
digits_append (x ∷ xs) ys f g = (f.0, f.1, digits_append xs ys f.2 g)

decimal_digits : (places n : ℕ) → Digits (decimal_in places n)
unfolding decimal_in Digits
decimal_digits zero n = tt
decimal_digits (suc k) n = digits_append (cond (ltb n 10) [] (decimal_in k (n / 10))) _ (front (ltb n 10) (decimal_digits k (n / 10))) (omega arith, omega arith, tt)
  where
    front : (b : Bool) → Digits (decimal_in k (n / 10)) → Digits (cond b [] (decimal_in k (n / 10)))
    front true f = tt
    front false f = f

digits_plain : (ds : List ℕ) → Digits ds → Plain ds
unfolding Digits Plain
digits_plain [] f = tt
digits_plain (d ∷ ds) f = (ne_eqb d 32 (λ e. omega (arith, f.0)), ne_eqb d 10 (λ e. omega (arith, f.0)), digits_plain ds f.2)

-- a number's first byte is no small letter
digits_first : (ds : List ℕ) → Digits ds → eqb (get_or ds 0 0) 110 ≡ false
unfolding Digits
digits_first [] f = refl
digits_first (d ∷ ds) f = ne_eqb d 110 (λ e. omega (arith, f.1))

value : (front : ℕ) → List ℕ → ℕ
value front [] = front
value front (d ∷ ds) = value (front * 10 + (d - 48)) ds

value_last : (ds : List ℕ) (front d : ℕ) → value front (ds ++ (d ∷ [])) ≡ value front ds * 10 + (d - 48)
unfolding value
value_last [] front d = refl
value_last (c ∷ ds) front d = value_last ds (front * 10 + (c - 48)) d

decimal_value : (places n : ℕ) → n < places → value 0 (decimal_in places n) ≡ n
unfolding decimal_in value
decimal_value zero n h = absurd (omega arith)
decimal_value (suc k) n h =
    ⊎_elim
    (λ (l : 10 ≤ n).
    let ih = decimal_value k (n / 10) (omega arith) in
    let last = value_last (decimal_in k (n / 10)) 0 (48 + n % 10) in
    rw (le-ltb n 10 l) (omega arith))
    (λ (l : n < 10). rw (lt-ltb n 10 l) (omega arith))
    (le_or_lt 10 n)

number_back : (n : ℕ) → value 0 (decimal n) ≡ n
number_back n = decimal_value (suc n) n (omega arith)

plain_number : (n : ℕ) → Plain (decimal n)
plain_number n = digits_plain (decimal n) (decimal_digits (suc n) n)

-- LINES

first : List ℕ → ℕ
first w = get_or w 0 0

-- what the words of a line say, by their first letters
says_of : List (List ℕ) → Says
says_of [] = not
says_of (w ∷ []) = cond (eqb (first w) 110) not or
says_of (w ∷ (a ∷ [])) =
    cond (eqb (first w) 101) (stands (value 0 (drop 1 w)) (eqb (first a) 121))
    (cond (eqb (first w) 112) (cond (eqb (first a) 110) prev_none (prev (value 0 a)))
    (cond (eqb (first w) 110) (next (value 0 a)) (cond (eqb (first w) 115) (since (value 0 a)) (until (value 0 a)))))
says_of (w ∷ (a ∷ (c ∷ more))) =
    cond (eqb (first w) 115)
    (since_no (value 0 a) (cond (eqb (first c) 108) by_left by_time))
    (until_no (value 0 a) (cond (eqb (first c) 108) by_left by_time))

line_of : List (List ℕ) → Line
line_of [] = empty
line_of (p ∷ []) = empty
line_of (p ∷ (q ∷ ws)) = sentence (value 0 p) (value 0 q) (says_of ws)

says_back : (s : Says) → says_of (said_words s) ≡ s
unfolding says_of first ascii value
says_back (stands k true) = ap (λ n. stands n true) (number_back k)
says_back (stands k false) = ap (λ n. stands n false) (number_back k)
says_back not = refl
says_back or = refl
says_back (prev gap) = rw (digits_first (decimal gap) (decimal_digits (suc gap) gap)) (ap prev (number_back gap))
says_back (next gap) = ap next (number_back gap)
says_back prev_none = refl
says_back (since j) = ap since (number_back j)
says_back (until j) = ap until (number_back j)
says_back (since_no p by_left) = ap (λ n. since_no n by_left) (number_back p)
says_back (since_no p by_time) = ap (λ n. since_no n by_time) (number_back p)
says_back (until_no p by_left) = ap (λ n. until_no n by_left) (number_back p)
says_back (until_no p by_time) = ap (λ n. until_no n by_time) (number_back p)

line_back : (l : Line) → line_of (parts l) ≡ l
unfolding line_of ascii
line_back empty = refl
line_back (sentence k i s) = rw (number_back k, number_back i, says_back s)

-- a closed word is plain by computation
plain_test : List ℕ → Bool
plain_test [] = true
plain_test (b ∷ bs) = negate (eqb b 32) && (negate (eqb b 10) && plain_test bs)

plain_by : (w : List ℕ) → plain_test w ≡ true → Plain w
unfolding plain_test Plain
plain_by [] e = tt
plain_by (b ∷ bs) e =
    let (f, g) = (and_iff (negate (eqb b 32)) (negate (eqb b 10) && plain_test bs)).0 e in
    let (h, r) = (and_iff (negate (eqb b 10)) (plain_test bs)).0 g in
    ((false_iff (eqb b 32)).1 ((not_iff (eqb b 32)).0 f), (false_iff (eqb b 10)).1 ((not_iff (eqb b 10)).0 h), plain_by bs r)

plain_cause : (c : Cause) → Plain (cause_text c)
unfolding ascii plain_test
plain_cause by_left = plain_by (ascii "left") refl
plain_cause by_time = plain_by (ascii "time") refl

plain_words : (s : Says) → Plains (said_words s)
unfolding Plains ascii plain_test
plain_words (stands k true) = (plain_append (ascii "e") (decimal k) (plain_by (ascii "e") refl) (plain_number k), (plain_by (ascii "yes") refl, tt))
plain_words (stands k false) = (plain_append (ascii "e") (decimal k) (plain_by (ascii "e") refl) (plain_number k), (plain_by (ascii "no") refl, tt))
plain_words not = (plain_by (ascii "not") refl, tt)
plain_words or = (plain_by (ascii "or") refl, tt)
plain_words (prev gap) = (plain_by (ascii "prev") refl, (plain_number gap, tt))
plain_words (next gap) = (plain_by (ascii "next") refl, (plain_number gap, tt))
plain_words prev_none = (plain_by (ascii "prev") refl, (plain_by (ascii "none") refl, tt))
plain_words (since j) = (plain_by (ascii "since") refl, (plain_number j, tt))
plain_words (until j) = (plain_by (ascii "until") refl, (plain_number j, tt))
plain_words (since_no p c) = (plain_by (ascii "since") refl, (plain_number p, (plain_cause c, tt)))
plain_words (until_no p c) = (plain_by (ascii "until") refl, (plain_number p, (plain_cause c, tt)))

-- a line of a text, and what follows it
line_read : (l : Line) (rest : List ℕ) → read [] [] (spaced_line (parts l) ++ rest) ≡ parts l ∷ read [] [] rest
unfolding ascii plain_test Plains
line_read empty rest = read_line (ascii "empty") [] (plain_by (ascii "empty") refl, tt) [] rest
line_read (sentence k i s) rest =
    read_line (decimal k) (decimal i ∷ said_words s) (plain_number k, (plain_number i, plain_words s)) [] rest

text_back : (ls : List Line) → map line_of (read [] [] (text ls)) ≡ ls
unfolding text read
text_back [] = refl
text_back (l ∷ ls) = ap (map line_of) (line_read l (text ls)) ∙ ap₂ (λ x xs. x ∷ xs) (line_back l) (text_back ls)

-- THEOREM. "Two different reasons of one rule never have the same text." (Of any rules: a reason is its lines.)
pub same_text : (xs ys : List Line) → text xs ≡ text ys → xs ≡ ys
same_text xs ys e = sym (text_back xs) ∙ ap (λ t. map line_of (read [] [] t)) e ∙ text_back ys
