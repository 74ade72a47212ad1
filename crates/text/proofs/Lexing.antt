-- The tokens from a place of a text on, as the code comes upon them: spaces, runs, signs, the end.
use Prim.Native.Nat.{ℕ, ◌+◌, ◌≤◌, ◌<◌}
use native.Mathlib.Omega.{arith}
use borrow.Author.Tests.{eqb-true, eqb-false, eq-eqb, ne_eqb}
use mathlib.Core.Path.{◌≡◌, refl, sym, ap, ◌∙◌}
use mathlib.Core.Logic.{⊎_elim}
use mathlib.Core.Bool.{true, false}
use mathlib.Core.List.{List, [], ◌∷◌}
use Rattle.mtl.proofs.Bounded.{le_or_lt, true_and_false}
use lib.Dec.{eqb}
use lib.ListN.{length, drop, get_or, get_or-eq_default, drop_of_length-le}
use Rattle.std.specs.List.{between}
use Rattle.std.proofs.lemmas.List.{drop_more}
use Rattle.std.proofs.lemmas.List.Edits.{between_more, length-between}
use Rattle.text.specs.declared.token.Token.{Token}
use Rattle.text.specs.declared.token.Token.TheVariants.{Unknown}
use Rattle.std.specs.Prelude.{None}
use Rattle.text.specs.Tokens.{numeral_from, runs, token_of, sign, tokens_from, tokens, is_unknown, some_unknown}
use Rattle.text.specs.Reader.{Skips, RunsTo, Reads}
use Rattle.text.proofs.Cases.{by}

-- a byte that ends the run
run_off : (run : List ℕ) (b : ℕ) (s : List ℕ) → runs b ≡ false → 0 < length run → tokens_from run (b ∷ s) ≡ token_of run ∷ tokens (b ∷ s)
unfolding tokens_from
run_off [] b s e h = absurd (omega arith)
run_off (c ∷ run) b s e h = simp e

-- a byte that is 0 stands nowhere in a text's run and is no space: what is not 0 lies inside
inside : (text : List ℕ) (i b : ℕ) → get_or text i 0 ≡ b → 0 < b → i < length text
inside text i b e h =
    ⊎_elim (λ (l : length text ≤ i). absurd (let z = get_or-eq_default text 0 {n = i} l in omega arith))
    (λ (l : i < length text). l) (le_or_lt (length text) i)

runs_positive : (b : ℕ) → runs b ≡ true → 0 < b
runs_positive b e =
    by (eqb b 0)
    (λ p. absurd (true_and_false e (ap runs (eqb-true b 0 p))))
    (λ p. let z = eqb-false b 0 p in omega arith)

pub run_inside : (text : List ℕ) (i : ℕ) → runs (get_or text i 0) ≡ true → i < length text
run_inside text i e = inside text i (get_or text i 0) refl (runs_positive (get_or text i 0) e)

pub space_inside : (text : List ℕ) (i : ℕ) → get_or text i 0 ≡ 32 → i < length text
space_inside text i e = inside text i 32 e (omega arith)

pub space : (text : List ℕ) (i : ℕ) → get_or text i 0 ≡ 32 → tokens (drop (i + 1) text) ≡ tokens (drop i text)
unfolding tokens_from
space text i e =
    let h : i < length text = inside text i 32 e (omega arith) in
    let r : runs (get_or text i 0) ≡ false = ap runs e in
    sym (ap tokens (drop_more text i 0 h) ∙ simp (r, eq-eqb (get_or text i 0) 32 e))

-- the run from a place on, as far as i
pub run_more : (text : List ℕ) (place i : ℕ) → place ≤ i → runs (get_or text i 0) ≡ true
    → tokens_from (between place (i + 1) text) (drop (i + 1) text) ≡ tokens_from (between place i text) (drop i text)
unfolding tokens_from
run_more text place i l e =
    let h : i < length text = run_inside text i e in
    ap (λ (run : List ℕ). tokens_from run (drop (i + 1) text)) (between_more text place i 0 l h)
    ∙ sym (ap (tokens_from (between place i text)) (drop_more text i 0 h) ∙ simp e)

run_ends : (text run : List ℕ) (i : ℕ) → runs (get_or text i 0) ≡ false → 0 < length run
    → tokens_from run (drop i text) ≡ token_of run ∷ tokens (drop i text)
unfolding tokens_from
run_ends text [] i e h = absurd (omega arith)
run_ends text (c ∷ run) i e h = ⊎_elim behind before (le_or_lt (length text) i)
  where
    before : i < length text → tokens_from (c ∷ run) (drop i text) ≡ token_of (c ∷ run) ∷ tokens (drop i text)
    before l =
        ap (tokens_from (c ∷ run)) (drop_more text i 0 l)
        ∙ run_off (c ∷ run) (get_or text i 0) (drop (i + 1) text) e h
        ∙ sym (ap (λ (s : List ℕ). token_of (c ∷ run) ∷ tokens s) (drop_more text i 0 l))

    behind : length text ≤ i → tokens_from (c ∷ run) (drop i text) ≡ token_of (c ∷ run) ∷ tokens (drop i text)
    behind l = simp (drop_of_length-le text l)

-- the run, read to its end
pub ran : (text : List ℕ) (place i : ℕ) → place ≤ i → (place < i → i ≤ length text)
    → tokens_from (between place i text) (drop i text) ≡ tokens (drop place text) → runs (get_or text i 0) ≡ false
    → RunsTo text place i
ran text place i l h e f =
    record {
      inside = λ b. (past b, h (past b));
      tokens_are = λ b.
          let inside = h (past b) in
          let some : 0 < length (between place i text) = omega (arith, length-between text place i inside, past b) in
          sym e ∙ run_ends text (between place i text) i f some;
    }
  where
    past : runs (get_or text place 0) ≡ true → place < i
    past b =
        ⊎_elim
        (λ (m : i ≤ place).
        let z : place ≡ i = omega arith in
        absurd (true_and_false b (ap (λ (n : ℕ). runs (get_or text n 0)) z ∙ f)))
        (λ (m : place < i). m) (le_or_lt i place)

-- the three ways out of `token_at`
pub lexed_run : (text : List ℕ) (place start next : ℕ) (t : Token) → Skips text place start → runs (get_or text start 0) ≡ true
    → RunsTo text start next → t ≡ token_of (between start next text) → Reads text place t next
lexed_run text place start next t s e u is =
    record {
      tokens_are = sym s.tokens_are ∙ u.tokens_are e ∙ ap (λ (x : Token). x ∷ tokens (drop next text)) (sym is);
      moves = omega (arith, s.moves, u.inside e);
      inside = (u.inside e).1;
    }

pub lexed_sign : (text : List ℕ) (place start : ℕ) (t : Token) → Skips text place start → start < length text → runs (get_or text start 0) ≡ false
    → t ≡ sign (get_or text start 0) → Reads text place t (start + 1)
unfolding tokens_from
lexed_sign text place start t s l e is =
    record {
      tokens_are = sym s.tokens_are ∙ ap tokens (drop_more text start 0 l) ∙ simp (e, ne_eqb (get_or text start 0) 32 s.no_space, is);
      moves = omega (arith, s.moves);
      inside = omega arith;
    }

pub lexed_end : (text : List ℕ) (place start : ℕ) → Skips text place start → length text ≤ start → tokens (drop place text) ≡ []
unfolding tokens_from
lexed_end text place start s l = sym s.tokens_are ∙ ap tokens (drop_of_length-le text l)

known : (t : Token) → (t ≡ Unknown → ⊥) → is_unknown t ≡ false
known Unknown n = absurd (n refl)
known t n = refl

-- the three ways on from a token in the search for an unknown one
pub unknown_here : (text : List ℕ) (place next : ℕ) (t : Token) → Reads text place t next → t ≡ Unknown → true ≡ some_unknown (tokens (drop place text))
unfolding some_unknown
unknown_here text place next t l e = sym (ap some_unknown l.tokens_are ∙ simp e)

pub unknown_later : (text : List ℕ) (place next : ℕ) (t : Token) → Reads text place t next → (t ≡ Unknown → ⊥)
    → some_unknown (tokens (drop next text)) ≡ some_unknown (tokens (drop place text))
unfolding some_unknown
unknown_later text place next t l n = sym (ap some_unknown l.tokens_are ∙ simp (known t n))

pub none_unknown : (text : List ℕ) (place : ℕ) → tokens (drop place text) ≡ [] → false ≡ some_unknown (tokens (drop place text))
unfolding some_unknown
none_unknown text place e = sym (ap some_unknown e)

-- no number has these bytes behind what is none
pub none_from : (rest : List ℕ) → numeral_from None rest ≡ None
unfolding numeral_from
none_from [] = refl
none_from (b ∷ rest) = none_from rest
