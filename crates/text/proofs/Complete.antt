-- Every derivation is found, given calls enough; so no tokens have two derivations, and the reader decides what is derived.
use Prim.Native.Nat.{ℕ, zero, suc, ◌+◌, ◌-◌, ◌*◌, ◌≤◌}
use native.Mathlib.Omega.{arith}
use mathlib.Core.Path.{◌≡◌, refl, sym, ap, ◌∙◌}
use mathlib.Core.Bool.{Bool, true, false}
use mathlib.Core.List.{List, [], ◌∷◌, ◌++◌, append_assoc, append-nil, nil≢cons}
use Rattle.std.specs.Prelude.{Option, None, Some}
use lib.ListN.{length, length-append}
use Rattle.mtl.specs.Formula.{Formula}
use Rattle.text.specs.declared.token.Token.{Token}
use Rattle.text.specs.declared.token.Token.TheVariants.{Or, Since, Until, Closing}
use Rattle.text.specs.Grammar.{Level, End, Prefix, Infix, Tree, spell_prefix, spell_infix, spell, meaning, Derives, Derived, InOneWay}
use Rattle.text.specs.Grammar.Level.{ors, timed, prefixed, atom}
use Rattle.text.specs.Grammar.Tree.{letter, brackets, tight, one, untimed, two, sole, or}
use Rattle.text.specs.Reader.{Timing, Phrase, then, bracketed, tightened, one_by, two_by, timed_on, ors_on, phrase}
use Rattle.text.proofs.Cases.{nothing, same}
use Rattle.text.proofs.Intervals.{timing_back}
use Rattle.text.proofs.Grammar.{sound}

-- the calls inside one another that reading a derivation takes
unfoldable needs : {l : Level} → Tree l → ℕ
needs (letter k) = 1
needs (brackets t) = 1 + needs t
needs (tight t) = 1 + needs t
needs (one o t) = 1 + needs t
needs (untimed t) = 1 + needs t
needs (two t o u) = 1 + needs t + needs u
needs (sole t) = 1 + needs t
needs (or t u) = 1 + needs t + needs u

-- the terms of a phrase of the lowest level
unfoldable terms : {l : Level} → Tree l → ℕ
terms (letter k) = 1
terms (brackets t) = 1
terms (tight t) = 1
terms (one o t) = 1
terms (untimed t) = 1
terms (two t o u) = 1
terms (sole t) = 1
terms (or t u) = 1 + terms t

terms_need : {l : Level} (t : Tree l) → terms t ≤ needs t
unfolding terms needs
terms_need (letter k) = omega arith
terms_need (brackets t) = omega arith
terms_need (tight t) = omega arith
terms_need (one o t) = omega arith
terms_need (untimed t) = omega arith
terms_need (two t o u) = omega arith
terms_need (sole t) = omega arith
terms_need (or t u) = omega (arith, terms_need t)

abbrev slack : Level → ℕ
slack ors = 0
slack timed = 1
slack prefixed = 2
slack atom = 3

prefix_length : (o : Prefix) → 1 ≤ length (spell_prefix o)
prefix_length Prefix.not = omega arith
prefix_length (Prefix.prev low high) = omega arith
prefix_length (Prefix.next low high) = omega arith

-- four for each token are enough
enough : {l : Level} (t : Tree l) → needs t + slack l ≤ 4 * length (spell t)
unfolding needs spell
enough (letter k) = omega arith
enough (brackets t) = omega (arith, enough t, length-append (spell t) (Closing ∷ []))
enough (tight t) = omega (arith, enough t)
enough (one o t) = omega (arith, enough t, length-append (spell_prefix o) (spell t), prefix_length o)
enough (untimed t) = omega (arith, enough t)
enough (two t o u) =
    omega (arith, enough t, enough u, length-append (spell t) (spell_infix o ++ spell u), length-append (spell_infix o) (spell u))
enough (sole t) = omega (arith, enough t)
enough (or t u) = omega (arith, enough t, enough u, length-append (spell t) (Or ∷ spell u))

-- a phrase of the lowest level that goes on, or ends here
abbrev after : ℕ → Tree ors → List Token → Option (Phrase ors)
after g t rest = ors_on (λ b us. phrase g ors b us) t rest

abbrev goal : (l : Level) → Tree l → ℕ → List Token → Option (Phrase l)
goal ors t f rest = after (f - terms t) t rest
goal timed t f rest = Some (record { tree = t; rest = rest })
goal prefixed t f rest = Some (record { tree = t; rest = rest })
goal atom t f rest = Some (record { tree = t; rest = rest })

-- whether what follows would belong to the phrase
abbrev goes_on : List Token → Bool
goes_on (Since ∷ ts) = true
goes_on (Until ∷ ts) = true
goes_on ts = false

abbrev loose : Level → List Token → Bool
loose ors rest = goes_on rest
loose timed rest = goes_on rest
loose prefixed rest = false
loose atom rest = false

timed_ends : (again : List Token → Option (Phrase timed)) (t : Tree prefixed) (rest : List Token) → goes_on rest ≡ false
    → timed_on again t rest ≡ Some (record { tree = untimed t; rest = rest })
timed_ends again t (Since ∷ ts) n = absurd (cc)
timed_ends again t (Until ∷ ts) n = absurd (cc)
timed_ends again t ts n = refl

-- an operand begins with a letter or a bracket
atom_front : (f : ℕ) (t : Tree atom) (rest : List Token) → phrase (suc f) prefixed None (spell t ++ rest) ≡ then (phrase f atom None (spell t ++ rest)) tightened
unfolding spell phrase
atom_front f (letter k) rest = refl
atom_front f (brackets t) rest = refl

-- a word with its interval, and then its operand
abbrev ones : ℕ → (ℕ → End → Prefix) → Timing → Option (Phrase prefixed)
ones f o w = one_by (λ us. phrase f prefixed None us) o w

abbrev twos : ℕ → Tree prefixed → (ℕ → End → Infix) → Timing → Option (Phrase timed)
twos f t o w = two_by (λ us. phrase f timed None us) t o w

regroup : (t : Tree prefixed) (o : Infix) (u : Tree timed) (rest : List Token)
    → (spell t ++ (spell_infix o ++ spell u)) ++ rest ≡ spell t ++ (spell_infix o ++ (spell u ++ rest))
regroup t o u rest =
    append_assoc (spell t) (spell_infix o ++ spell u) rest
    ∙ ap (λ (l : List Token). spell t ++ l) (append_assoc (spell_infix o) (spell u) rest)

abbrev with_one : Prefix → Option (Phrase prefixed) → Option (Phrase prefixed)
with_one o p = then p (λ (p : Phrase prefixed). Some (record { tree = one o p.tree; rest = p.rest }))

abbrev with_two : Tree prefixed → Infix → Option (Phrase timed) → Option (Phrase timed)
with_two t o p = then p (λ (p : Phrase timed). Some (record { tree = two t o p.tree; rest = p.rest }))

complete : {l : Level} (t : Tree l) (f : ℕ) (rest : List Token) → needs t ≤ f → loose l rest ≡ false
    → phrase f l None (spell t ++ rest) ≡ goal l t f rest
unfolding needs terms spell phrase
complete (letter k) zero rest h n = absurd (omega arith)
complete (letter k) (suc f) rest h n = refl
complete (brackets t) zero rest h n = absurd (omega arith)
complete (brackets t) (suc f) rest h n =
    ap (λ (o : Option (Phrase ors)). then o bracketed)
    (ap (phrase f ors None) (append_assoc (spell t) (Closing ∷ []) rest)
    ∙ complete t f (Closing ∷ rest) (omega arith) refl)
complete (tight t) zero rest h n = absurd (omega arith)
complete (tight t) (suc f) rest h n =
    atom_front f t rest ∙ ap (λ (o : Option (Phrase atom)). then o tightened) (complete t f rest (omega arith) refl)
complete (one Prefix.not t) zero rest h n = absurd (omega arith)
complete (one Prefix.not t) (suc f) rest h n = ap (with_one Prefix.not) (complete t f rest (omega arith) refl)
complete (one (Prefix.prev low high) t) zero rest h n = absurd (omega arith)
complete (one (Prefix.prev low high) t) (suc f) rest h n =
    ap (λ (o : Option Timing). then o (ones f Prefix.prev)) (timing_back low high (spell t ++ rest))
    ∙ ap (with_one (Prefix.prev low high)) (complete t f rest (omega arith) refl)
complete (one (Prefix.next low high) t) zero rest h n = absurd (omega arith)
complete (one (Prefix.next low high) t) (suc f) rest h n =
    ap (λ (o : Option Timing). then o (ones f Prefix.next)) (timing_back low high (spell t ++ rest))
    ∙ ap (with_one (Prefix.next low high)) (complete t f rest (omega arith) refl)
complete (untimed t) zero rest h n = absurd (omega arith)
complete (untimed t) (suc f) rest h n = rw (complete t f rest (omega arith) refl) (timed_ends (λ us. phrase f timed None us) t rest n)
complete (two t (Infix.since low high) u) zero rest h n = absurd (omega arith)
complete (two t (Infix.since low high) u) (suc f) rest h n =
    rw (regroup t (Infix.since low high) u rest, complete t f (spell_infix (Infix.since low high) ++ (spell u ++ rest)) (omega arith) refl)
    (ap (λ (o : Option Timing). then o (twos f t Infix.since)) (timing_back low high (spell u ++ rest))
    ∙ ap (with_two t (Infix.since low high)) (complete u f rest (omega arith) n))
complete (two t (Infix.until low high) u) zero rest h n = absurd (omega arith)
complete (two t (Infix.until low high) u) (suc f) rest h n =
    rw (regroup t (Infix.until low high) u rest, complete t f (spell_infix (Infix.until low high) ++ (spell u ++ rest)) (omega arith) refl)
    (ap (λ (o : Option Timing). then o (twos f t Infix.until)) (timing_back low high (spell u ++ rest))
    ∙ ap (with_two t (Infix.until low high)) (complete u f rest (omega arith) n))
complete (sole t) zero rest h n = absurd (omega arith)
complete (sole t) (suc f) rest h n =
    let e : suc f - 1 ≡ f = omega arith in
    rw (complete t f rest (omega arith) n) (rw e refl)
complete (or t u) f rest h n =
    let k : f - terms t ≡ suc (f - (1 + terms t)) = omega (arith, terms_need t) in
    ap (phrase f ors None) (append_assoc (spell t) (Or ∷ spell u) rest)
    ∙ complete t f (Or ∷ (spell u ++ rest)) (omega arith) refl
    ∙ ap (λ (m : ℕ). phrase m ors (Some t) (spell u ++ rest)) k
    ∙ rw (complete u (f - (1 + terms t)) rest (omega (arith, terms_need t)) n) refl

-- the whole of the tokens
whole : (t : Tree ors) (f : ℕ) → 4 * length (spell t) ≤ f → phrase f ors None (spell t) ≡ Some (record { tree = t; rest = [] })
whole t f h =
    ap (phrase f ors None) (sym (append-nil (spell t))) ∙ complete t f [] (omega (arith, enough t)) refl

abbrev tree_of : Tree ors → Option (Phrase ors) → Tree ors
tree_of t None = t
tree_of t (Some p) = p.tree

unique : (t u : Tree ors) → spell t ≡ spell u → t ≡ u
unique t u e =
    let f : ℕ = 4 * length (spell t) + 4 * length (spell u) in
    ap (tree_of t) (sym (whole t f (omega arith)) ∙ ap (phrase f ors None) e ∙ whole u f (omega arith))

one_formula : (ts : List Token) (φ ψ : Formula) → Derives ors ts φ → Derives ors ts ψ → φ ≡ ψ
one_formula ts φ ψ d e = sym d.means ∙ ap meaning (unique d.tree e.tree (d.spells ∙ sym e.spells)) ∙ e.means

-- what the tokens are found to derive
abbrev pub at_end : List Token → Formula → Option Formula
at_end [] φ = Some φ
at_end (t ∷ ts) φ = None

abbrev pub found : Option (Phrase ors) → Option Formula
found None = None
found (Some p) = at_end p.rest (meaning p.tree)

module _ (ts : List Token) (f : ℕ) (h : 4 * length ts ≤ f) where
  reached : (φ : Formula) (d : Derives ors ts φ) → phrase f ors None ts ≡ Some (record { tree = d.tree; rest = [] })
  reached φ d =
      ap (phrase f ors None) (sym d.spells) ∙ whole d.tree f (let l = ap length d.spells in omega arith)

  -- the reader decides
  pub decides : (o : Option (Phrase ors)) → phrase f ors None ts ≡ o → Derived ts (found o)
  decides None e = λ φ d. nothing (sym e ∙ reached φ d)
  decides (Some p) e = go p.rest refl
    where
      go : (rest : List Token) → p.rest ≡ rest → Derived ts (at_end rest (meaning p.tree))
      go [] r =
          record {
            tree = p.tree;
            spells = sym (append-nil (spell p.tree)) ∙ ap (λ (l : List Token). spell p.tree ++ l) (sym r) ∙ sym (sound f ors None ts p e);
            means = refl;
          }
      go (x ∷ xs) r =
          λ φ d. absurd (nil≢cons (sym (ap (λ (q : Phrase ors). q.rest) (same (sym e ∙ reached φ d))) ∙ r))

one_outcome : (ts : List Token) (o p : Option Formula) → Derived ts o → Derived ts p → o ≡ p
one_outcome ts None None d e = refl
one_outcome ts None (Some ψ) d e = absurd (d ψ e)
one_outcome ts (Some φ) None d e = absurd (e φ d)
one_outcome ts (Some φ) (Some ψ) d e = ap Some (one_formula ts φ ψ d e)

-- THEOREM. "in one way only"
pub in_one_way : (ts : List Token) → InOneWay ts
in_one_way ts =
    record {
      one_derivation = λ t u t_spells u_spells. unique t u (t_spells ∙ sym u_spells);
      one_formula = one_formula ts;
      one_outcome = one_outcome ts;
    }
