-- The letters of a text are those of document 01, and so every entry that is written has its shape.
-- (Derivations is named first so that its worked rows are checked before this proof.)
use Rattle.text.specs.Derivations
use Prim.Native.Nat.{ℕ, zero, suc, ◌<◌}
use native.Mathlib.Nat.{not-suc-le-zero, le_of_suc-le-suc}
use native.Mathlib.Omega.{arith}
use borrow.Author.Tests.{ltb-true, le-ltb}
use mathlib.Core.Path.{◌≡◌, refl, sym, subst}
use mathlib.Core.Bool.{Bool, true, false, cond}
use mathlib.Core.List.{List, [], ◌∷◌, ◌++◌}
use lib.Dec.{ltb, eqb}
use lib.ListN.{length}
use Rattle.mtl.specs.Formula.{Formula}
use Rattle.mtl.specs.Satisfaction.{any}
use Rattle.mtl.proofs.Bounded.{any_false_iff}
use Rattle.rule.specs.declared.Entry.{Entry}
use Rattle.rule.specs.Postfix.{root, postfix}
use Rattle.rule.specs.Refusal.{misshapen, misshapen_at}
use Rattle.std.specs.Prelude.{Option, None, Some}
use Rattle.text.specs.declared.token.Token.{Token}
use Rattle.text.specs.declared.token.Token.TheVariants.{Letter, Or, Closing}
use Rattle.text.specs.Tokens.{runs, lettered, numbered, letter_or_number, numeral, token_of, sign, ended, signed, tokens_from, tokens}
use Rattle.text.specs.Ascii.{ascii}
use Rattle.std.specs.Str.{bytes_eq}
use Rattle.text.specs.Grammar.{Level, Prefix, Infix, Tree, spell_prefix, spell_infix, spell, meaning, Derives}
use Rattle.text.specs.Grammar.Tree.{letter, brackets, tight, one, untimed, two, sole, or}
use Rattle.text.proofs.Cases.{by}

abbrev pub Each : {A : Type 0} → (A → Type 0) → List A → Type 0
Each P [] = Unit {0}
Each P (x ∷ xs) = P x × Each P xs

each_append : {A : Type 0} (P : A → Type 0) (xs ys : List A) → Each P xs → Each P ys → Each P (xs ++ ys)
each_append P [] ys a b = b
each_append P (x ∷ xs) ys a b = (a.0, each_append P xs ys a.1 b)

each_front : {A : Type 0} (P : A → Type 0) (xs ys : List A) → Each P (xs ++ ys) → Each P xs
each_front P [] ys a = tt
each_front P (x ∷ xs) ys a = (a.0, each_front P xs ys a.1)

each_back : {A : Type 0} (P : A → Type 0) (xs ys : List A) → Each P (xs ++ ys) → Each P ys
each_back P [] ys a = a
each_back P (x ∷ xs) ys a = each_back P xs ys a.1

-- a token's letter is 0 to 31
abbrev pub is_small : Token → Bool
is_small (Letter k) = ltb k 32
is_small t = true

abbrev pub Small : Token → Type 0
Small t = is_small t ≡ true

chosen : (b : Bool) (s t : Token) → Small s → Small t → Small (cond b s t)
chosen true s t h k = h
chosen false s t h k = k

lettered_small : (v : Option ℕ) → Small (lettered v)
lettered_small None = refl
lettered_small (Some v) = by (ltb v 32) (λ p. simp (p, p)) (λ p. simp p)

numbered_small : (v : Option ℕ) → Small (numbered v)
numbered_small None = refl
numbered_small (Some v) = refl

rest_small : (run : List ℕ) → Small (letter_or_number run)
rest_small [] = refl
rest_small (b ∷ rest) = chosen (eqb b 0x65) _ _ (lettered_small (numeral rest)) (numbered_small (numeral (b ∷ rest)))

word_small : (run : List ℕ) → Small (token_of run)
unfolding token_of
word_small run =
    chosen (bytes_eq run (ascii "not")) _ _ refl
    (chosen (bytes_eq run (ascii "or")) _ _ refl
    (chosen (bytes_eq run (ascii "prev")) _ _ refl
    (chosen (bytes_eq run (ascii "next")) _ _ refl
    (chosen (bytes_eq run (ascii "since")) _ _ refl
    (chosen (bytes_eq run (ascii "until")) _ _ refl
    (chosen (bytes_eq run (ascii "inf")) _ _ refl (rest_small run)))))))

sign_small : (b : ℕ) → Small (sign b)
unfolding sign
sign_small b =
    chosen (eqb b 40) _ _ refl
    (chosen (eqb b 41) _ _ refl (chosen (eqb b 91) _ _ refl (chosen (eqb b 93) _ _ refl (chosen (eqb b 44) _ _ refl refl))))

put_front : (b : Bool) (t : Token) (ts : List Token) → Small t → Each Small ts → Each Small (cond b ts (t ∷ ts))
put_front true t ts h k = k
put_front false t ts h k = (h, k)

ended_small : (run : List ℕ) (ts : List Token) → Each Small ts → Each Small (ended run ts)
ended_small [] ts k = k
ended_small (b ∷ run) ts k = (word_small (b ∷ run), k)

pub tokens_small : (run s : List ℕ) → Each Small (tokens_from run s)
unfolding tokens_from
tokens_small run [] = ended_small run [] tt
tokens_small run (b ∷ s) =
    by (runs b)
    (λ p. simp p (tokens_small (run ++ (b ∷ [])) s))
    (λ p. simp p (ended_small run (signed b (tokens_from [] s)) (put_front (eqb b 32) (sign b) (tokens_from [] s) (sign_small b) (tokens_small [] s))))

-- an entry with its shape
abbrev Shaped : Entry → Type 0
Shaped e = misshapen e ≡ false

letter_shaped : (k : ℕ) → k < 32 → Shaped (root (Formula.letter k))
letter_shaped k h = simp (le-ltb 31 k (omega arith))

-- the entries of a derivation whose tokens are small
shaped : {l : Level} (t : Tree l) → Each Small (spell t) → Each Shaped (postfix (meaning t))
unfolding spell meaning postfix
shaped (letter k) h = (letter_shaped k (ltb-true k 32 h.0), tt)
shaped (brackets t) h = shaped t (each_front Small (spell t) (Closing ∷ []) h.1)
shaped (tight t) h = shaped t h
shaped (one Prefix.not t) h = each_append Shaped (postfix (meaning t)) _ (shaped t h.1) (refl, tt)
shaped (one (Prefix.prev low high) t) h =
    each_append Shaped (postfix (meaning t)) _ (shaped t (each_back Small (spell_prefix (Prefix.prev low high)) (spell t) h)) (refl, tt)
shaped (one (Prefix.next low high) t) h =
    each_append Shaped (postfix (meaning t)) _ (shaped t (each_back Small (spell_prefix (Prefix.next low high)) (spell t) h)) (refl, tt)
shaped (untimed t) h = shaped t h
shaped (two t (Infix.since low high) u) h =
    each_append Shaped (postfix (meaning t) ++ postfix (meaning u)) _
    (each_append Shaped (postfix (meaning t)) (postfix (meaning u)) (shaped t (each_front Small (spell t) _ h))
    (shaped u (each_back Small (spell_infix (Infix.since low high)) (spell u) (each_back Small (spell t) _ h))))
    (refl, tt)
shaped (two t (Infix.until low high) u) h =
    each_append Shaped (postfix (meaning t) ++ postfix (meaning u)) _
    (each_append Shaped (postfix (meaning t)) (postfix (meaning u)) (shaped t (each_front Small (spell t) _ h))
    (shaped u (each_back Small (spell_infix (Infix.until low high)) (spell u) (each_back Small (spell t) _ h))))
    (refl, tt)
shaped (sole t) h = shaped t h
shaped (or t u) h =
    each_append Shaped (postfix (meaning t) ++ postfix (meaning u)) _
    (each_append Shaped (postfix (meaning t)) (postfix (meaning u)) (shaped t (each_front Small (spell t) _ h))
    (shaped u (each_back Small (spell t) (Or ∷ spell u) h).1))
    (refl, tt)

each_at : (es : List Entry) → Each Shaped es → (k : ℕ) → k < length es → misshapen_at es k ≡ false
each_at [] h k l = absurd (not-suc-le-zero l)
each_at (e ∷ es) h zero l = h.0
each_at (e ∷ es) h (suc k) l = each_at es h.1 k (le_of_suc-le-suc l)

-- refusal 5 does not apply to what a text derives
pub none_misshapen : (text : List ℕ) (φ : Formula) → Derives Level.ors (tokens text) φ → any (length (postfix φ)) (misshapen_at (postfix φ)) ≡ false
none_misshapen text φ d =
    (any_false_iff (length (postfix φ)) (misshapen_at (postfix φ))).1
    (each_at (postfix φ)
    (subst (λ (ψ : Formula). Each Shaped (postfix ψ)) d.means
    (shaped d.tree (subst (Each Small) (sym d.spells) (tokens_small [] text)))))
