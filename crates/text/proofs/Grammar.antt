-- The reader of tokens finds just what the grammar derives: what it finds is a derivation of the tokens before the rest, and
-- every derivation is found. So no tokens have two derivations.
use Prim.Native.Nat.{ℕ, zero, suc}
use mathlib.Core.Path.{◌≡◌, refl, sym, ap, ◌∙◌}
use mathlib.Core.List.{List, [], ◌∷◌, ◌++◌, append_assoc}
use Rattle.std.specs.Prelude.{Option, None, Some}
use Rattle.text.specs.declared.token.Token.{Token}
use Rattle.text.specs.declared.token.Token.TheVariants.{Letter, Number, Not, Or, Prev, Next, Since, Until, Inf, Opening, Closing, From, To, Comma}
use Rattle.text.proofs.Cases.{nothing, same}
use Rattle.text.specs.Grammar.{Level, End, Prefix, Infix, Tree, interval, spell_prefix, spell_infix, spell}
use Rattle.text.specs.Grammar.Level.{ors, timed, prefixed, atom}
use Rattle.text.specs.Grammar.Tree.{one, two}
use Rattle.text.specs.Reader.{Timing, timing, carried, Phrase, then, joined, closed, bracketed, tightened, one_by, two_by, timed_on, ors_on, phrase}

then_some : {A B : Type 0} (o : Option A) (g : A → Option B) (b : B) → then o g ≡ Some b → (a : A) × (o ≡ Some a) × (g a ≡ Some b)
then_some None g b e = nothing e
then_some (Some a) g b e = (a, refl, e)

-- What is found is derived.

timing_front : (ts : List Token) (w : Timing) → timing ts ≡ Some w → ts ≡ interval w.low w.high ++ w.rest
unfolding timing
timing_front (From ∷ (Number low ∷ (Comma ∷ (Number high ∷ (To ∷ ts))))) w e = ap (λ (v : Timing). interval v.low v.high ++ v.rest) (same e)
timing_front (From ∷ (Number low ∷ (Comma ∷ (Inf ∷ (To ∷ ts))))) w e = ap (λ (v : Timing). interval v.low v.high ++ v.rest) (same e)
timing_front ts w e = nothing e

-- a word with what it carries and its operand
found_one : (o : Prefix) (ts : List Token) (rest : List Token) (q p : Phrase prefixed) → ts ≡ spell_prefix o ++ rest → rest ≡ spell q.tree ++ q.rest
    → record { tree = one o q.tree; rest = q.rest } ≡ p → ts ≡ spell p.tree ++ p.rest
unfolding spell
found_one o ts rest q p a b e =
    a ∙ ap (λ (l : List Token). spell_prefix o ++ l) b ∙ sym (append_assoc (spell_prefix o) (spell q.tree) q.rest)
    ∙ ap (λ (v : Phrase prefixed). spell v.tree ++ v.rest) e

found_two : (t : Tree prefixed) (o : Infix) (ts : List Token) (rest : List Token) (q p : Phrase timed) → ts ≡ spell_infix o ++ rest → rest ≡ spell q.tree ++ q.rest
    → record { tree = two t o q.tree; rest = q.rest } ≡ p → spell t ++ ts ≡ spell p.tree ++ p.rest
unfolding spell
found_two t o ts rest q p a b e =
    ap (λ (l : List Token). spell t ++ l)
    (a ∙ ap (λ (l : List Token). spell_infix o ++ l) b ∙ sym (append_assoc (spell_infix o) (spell q.tree) q.rest))
    ∙ sym (append_assoc (spell t) (spell_infix o ++ spell q.tree) q.rest)
    ∙ ap (λ (v : Phrase timed). spell v.tree ++ v.rest) e

-- the tokens of what stands before a phrase of the lowest level
abbrev pub led : Level → Option (Tree ors) → List Token
led ors None = []
led ors (Some t) = spell t ++ (Or ∷ [])
led timed before = []
led prefixed before = []
led atom before = []

spell_joined : (before : Option (Tree ors)) (u : Tree timed) → spell (joined before u) ≡ led ors before ++ spell u
unfolding spell
spell_joined None u = refl
spell_joined (Some t) u = sym (append_assoc (spell t) (Or ∷ []) (spell u))

-- with a term more
led_joined : (before : Option (Tree ors)) (ts : List Token) (q : Phrase timed) → ts ≡ spell q.tree ++ q.rest
    → led ors before ++ ts ≡ spell (joined before q.tree) ++ q.rest
led_joined before ts q s =
    ap (λ (l : List Token). led ors before ++ l) s ∙ sym (append_assoc (led ors before) (spell q.tree) q.rest)
    ∙ ap (λ (l : List Token). l ++ q.rest) (sym (spell_joined before q.tree))

-- what each level finds, where the levels that it calls find what is derived
abbrev Sound : (l : Level) → Option (Tree ors) → (List Token → Option (Phrase l)) → Type 0
Sound l before read = (ts : List Token) (p : Phrase l) → read ts ≡ Some p → led l before ++ ts ≡ spell p.tree ++ p.rest

sound_closed : (t : Tree ors) (us : List Token) (p : Phrase atom) → closed t us ≡ Some p → Opening ∷ (spell t ++ us) ≡ spell p.tree ++ p.rest
unfolding spell
sound_closed t (Closing ∷ us) p e =
    ap (λ (l : List Token). Opening ∷ l) (sym (append_assoc (spell t) (Closing ∷ []) us)) ∙ ap (λ (v : Phrase atom). spell v.tree ++ v.rest) (same e)
sound_closed t us p e = nothing e

module _ (f : ℕ) where
  sound_one : Sound prefixed None (phrase f prefixed None) → (o : ℕ → End → Prefix) (t : Token) (us : List Token) (w : Timing) (p : Phrase prefixed)
      → us ≡ interval w.low w.high ++ w.rest → spell_prefix (o w.low w.high) ≡ t ∷ interval w.low w.high
      → one_by (λ vs. phrase f prefixed None vs) o w ≡ Some p → t ∷ us ≡ spell p.tree ++ p.rest
  sound_one again o t us w p front word e =
      let (q, is, done) =
      then_some (phrase f prefixed None w.rest) (λ (q : Phrase prefixed). Some (record { tree = one (o w.low w.high) q.tree; rest = q.rest })) p e in
      found_one (o w.low w.high) (t ∷ us) w.rest q p
      (ap (λ (l : List Token). t ∷ l) front ∙ ap (λ (l : List Token). l ++ w.rest) (sym word))
      (again w.rest q is) (same done)

  sound_two : Sound timed None (phrase f timed None) → (left : Tree prefixed) (o : ℕ → End → Infix) (t : Token) (us : List Token) (w : Timing) (p : Phrase timed)
      → us ≡ interval w.low w.high ++ w.rest → spell_infix (o w.low w.high) ≡ t ∷ interval w.low w.high
      → two_by (λ vs. phrase f timed None vs) left o w ≡ Some p → spell left ++ (t ∷ us) ≡ spell p.tree ++ p.rest
  sound_two again left o t us w p front word e =
      let (q, is, done) =
      then_some (phrase f timed None w.rest) (λ (q : Phrase timed). Some (record { tree = two left (o w.low w.high) q.tree; rest = q.rest })) p e in
      found_two left (o w.low w.high) (t ∷ us) w.rest q p
      (ap (λ (l : List Token). t ∷ l) front ∙ ap (λ (l : List Token). l ++ w.rest) (sym word))
      (again w.rest q is) (same done)

  -- behind an operand
  sound_timed_on : Sound timed None (phrase f timed None) → (left : Tree prefixed) (us : List Token) (p : Phrase timed)
      → timed_on (λ vs. phrase f timed None vs) left us ≡ Some p → spell left ++ us ≡ spell p.tree ++ p.rest
  unfolding spell
  sound_timed_on again left (Since ∷ us) p e =
      let (w, is, done) = then_some (carried Since us) (two_by (λ vs. phrase f timed None vs) left Infix.since) p e in
      sound_two again left Infix.since Since us w p (timing_front us w is) refl done
  sound_timed_on again left (Until ∷ us) p e =
      let (w, is, done) = then_some (carried Until us) (two_by (λ vs. phrase f timed None vs) left Infix.until) p e in
      sound_two again left Infix.until Until us w p (timing_front us w is) refl done
  sound_timed_on again left us p e = ap (λ (v : Phrase timed). spell v.tree ++ v.rest) (same e)

  sound_prefixed : Sound prefixed None (phrase f prefixed None) → Sound atom None (phrase f atom None) → Sound prefixed None (phrase (suc f) prefixed None)
  unfolding phrase spell
  sound_prefixed again below (Not ∷ us) p e =
      let (q, is, done) = then_some (phrase f prefixed None us) (λ (q : Phrase prefixed). Some (record { tree = one Prefix.not q.tree; rest = q.rest })) p e in
      found_one Prefix.not (Not ∷ us) us q p refl (again us q is) (same done)
  sound_prefixed again below (Prev ∷ us) p e =
      let (w, is, done) = then_some (carried Prev us) (one_by (λ vs. phrase f prefixed None vs) Prefix.prev) p e in
      sound_one again Prefix.prev Prev us w p (timing_front us w is) refl done
  sound_prefixed again below (Next ∷ us) p e =
      let (w, is, done) = then_some (carried Next us) (one_by (λ vs. phrase f prefixed None vs) Prefix.next) p e in
      sound_one again Prefix.next Next us w p (timing_front us w is) refl done
  sound_prefixed again below ts p e =
      let (u, is, done) = then_some (phrase f atom None ts) tightened p e in
      below ts u is ∙ ap (λ (v : Phrase prefixed). spell v.tree ++ v.rest) (same done)

  sound_atom : Sound ors None (phrase f ors None) → Sound atom None (phrase (suc f) atom None)
  unfolding phrase spell
  sound_atom inner (Letter k ∷ us) p e = ap (λ (v : Phrase atom). spell v.tree ++ v.rest) (same e)
  sound_atom inner (Opening ∷ us) p e =
      let (u, is, done) = then_some (phrase f ors None us) bracketed p e in
      ap (λ (l : List Token). Opening ∷ l) (inner us u is) ∙ sound_closed u.tree u.rest p done
  sound_atom inner ts p e = nothing e

  -- behind a term
  sound_ors_on : ((t : Tree ors) → Sound ors (Some t) (phrase f ors (Some t))) → (t : Tree ors) (us : List Token) (p : Phrase ors)
      → ors_on (λ b vs. phrase f ors b vs) t us ≡ Some p → spell t ++ us ≡ spell p.tree ++ p.rest
  sound_ors_on again t (Or ∷ us) p e = sym (append_assoc (spell t) (Or ∷ []) us) ∙ again t us p e
  sound_ors_on again t us p e = ap (λ (v : Phrase ors). spell v.tree ++ v.rest) (same e)

pub sound : (f : ℕ) (l : Level) (before : Option (Tree ors)) → Sound l before (phrase f l before)
unfolding phrase
sound zero l before ts p e = nothing e
sound (suc f) ors before ts p e =
    let (q, below, on) =
    then_some (phrase f timed None ts) (λ (q : Phrase timed). ors_on (λ b vs. phrase f ors b vs) (joined before q.tree) q.rest) p e in
    led_joined before ts q (sound f timed None ts q below) ∙ sound_ors_on f (λ t. sound f ors (Some t)) (joined before q.tree) q.rest p on
sound (suc f) timed before ts p e =
    let (q, below, on) =
    then_some (phrase f prefixed None ts) (λ (q : Phrase prefixed). timed_on (λ vs. phrase f timed None vs) q.tree q.rest) p e in
    sound f prefixed None ts q below ∙ sound_timed_on f (sound f timed None) q.tree q.rest p on
sound (suc f) prefixed before ts p e = sound_prefixed f (sound f prefixed None) (sound f atom None) ts p e
sound (suc f) atom before ts p e = sound_atom f (sound f ors None) ts p e
