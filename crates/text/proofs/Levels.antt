-- The levels of the reader: each way out of a level finds what the reader of tokens finds, and puts the entries of its formula
-- behind those that the buffer has.
use Prim.Native.Nat.{ℕ, zero, suc, ◌≤◌, ◌<◌}
use native.Mathlib.Nat.{le_of_suc-le-suc, not-suc-le-zero}
use native.Mathlib.Omega.{arith}
use mathlib.Core.Path.{◌≡◌, refl, sym, ap, ap₂, subst, ◌∙◌}
use mathlib.Core.Bool.{Bool, true, false}
use mathlib.Core.List.{List, [], ◌∷◌, ◌++◌, append_assoc, append-nil}
use lib.ListN.{drop}
use Rattle.std.specs.Prelude.{Option, None, Some}
use Rattle.mtl.specs.Formula.{Formula}
use Rattle.rule.specs.declared.Entry.{Entry}
use Rattle.rule.specs.declared.kind.Kind.{Kind}
use Rattle.rule.specs.Kinds.{number_of_kind}
use Rattle.rule.specs.Postfix.{postfix}
use Rattle.text.specs.declared.entries.Buffer.{Buffer}
use Rattle.text.specs.declared.level.Interval.{Interval}
use Rattle.text.specs.declared.token.Token.{Token}
use Rattle.text.specs.declared.token.Token.TheVariants.{Letter, Not, Or, Prev, Next, Since, Until, Opening, Closing}
use Rattle.text.specs.Tokens.{tokens}
use Rattle.text.specs.Grammar.{End, Prefix, Infix, Tree, meaning, bound, prefix_meaning, infix_meaning}
use Rattle.text.specs.Grammar.Level.{ors, timed, prefixed, atom}
use Rattle.text.specs.Reader.{Reads, Signed, Timing, carried, Timed, prefix_kind, infix_kind, Phrase, then, joined, closed, bracketed, atom_by, tightened, one_by, prefixed_by, two_by, timed_on, ors_on, phrase, remaining, Contains, Puts, or_entry, Joins, written, is_given, ReadsPhrase, ReadsLevel}
use Rattle.text.proofs.Cases.{same}
use Rattle.text.proofs.Buffer.{holds_put}

-- What the reader of tokens does at a token.

atom_other : (inner : List Token → Option (Phrase ors)) (t : Token) (ts : List Token) → ((k : ℕ) → t ≡ Letter k → ⊥) → (t ≡ Opening → ⊥)
    → atom_by inner (t ∷ ts) ≡ None
atom_other inner (Letter k) ts n m = absurd (n k refl)
atom_other inner Opening ts n m = absurd (m refl)
atom_other inner t ts n m = refl

closed_none : (t : Tree ors) (ts : List Token) → ((us : List Token) → ts ≡ Closing ∷ us → ⊥) → closed t ts ≡ None
closed_none t (Closing ∷ us) n = absurd (n us refl)
closed_none t ts n = refl

prefixed_other : (again : List Token → Option (Phrase prefixed)) (below : List Token → Option (Phrase atom)) (t : Token) (ts : List Token) → prefix_kind t ≡ None
    → prefixed_by again below (t ∷ ts) ≡ then (below (t ∷ ts)) tightened
prefixed_other again below Not ts e = absurd (cc)
prefixed_other again below Prev ts e = absurd (cc)
prefixed_other again below Next ts e = absurd (cc)
prefixed_other again below t ts e = refl

timed_other : (again : List Token → Option (Phrase timed)) (left : Tree prefixed) (t : Token) (ts : List Token) → infix_kind t ≡ None
    → timed_on again left (t ∷ ts) ≡ Some (record { tree = Tree.untimed left; rest = t ∷ ts })
timed_other again left Since ts e = absurd (cc)
timed_other again left Until ts e = absurd (cc)
timed_other again left t ts e = refl

ors_other : (again : Option (Tree ors) → List Token → Option (Phrase ors)) (t : Tree ors) (ts : List Token) → ((us : List Token) → ts ≡ Or ∷ us → ⊥)
    → ors_on again t ts ≡ Some (record { tree = t; rest = ts })
ors_other again t (Or ∷ us) n = absurd (n us refl)
ors_other again t ts n = refl

-- A word that stands before its operand or between its operands, by the kind of its entry.

abbrev entry : Kind → Timing → Entry
entry k w = record { kind = number_of_kind k; letter = 0; low = w.low; high = bound w.high }

record Prefixed (t : Token) (k : Kind) : Type 0 where
  word : ℕ → End → Prefix
  reads : (again : List Token → Option (Phrase prefixed)) (below : List Token → Option (Phrase atom)) (ts : List Token)
      → prefixed_by again below (t ∷ ts) ≡ then (carried t ts) (one_by again word)
  puts : (ts : List Token) (w : Timing) (φ : Formula) → carried t ts ≡ Some w → postfix (prefix_meaning (word w.low w.high) φ) ≡ postfix φ ++ (entry k w ∷ [])

prefixed_word : (t : Token) (k : Kind) → prefix_kind t ≡ Some k → Prefixed t k
unfolding postfix
prefixed_word Not k e =
    record {
      word = λ low high. Prefix.not;
      reads = λ again below ts. refl;
      puts = λ ts w φ h. ap₂ (λ (j : Kind) (u : Timing). postfix φ ++ (entry j u ∷ [])) (same e) (same h);
    }
prefixed_word Prev k e =
    record {
      word = Prefix.prev;
      reads = λ again below ts. refl;
      puts = λ ts w φ h. ap (λ (j : Kind). postfix φ ++ (entry j w ∷ [])) (same e);
    }
prefixed_word Next k e =
    record {
      word = Prefix.next;
      reads = λ again below ts. refl;
      puts = λ ts w φ h. ap (λ (j : Kind). postfix φ ++ (entry j w ∷ [])) (same e);
    }
prefixed_word t k e = absurd (cc)

record Infixed (t : Token) (k : Kind) : Type 0 where
  word : ℕ → End → Infix
  reads : (again : List Token → Option (Phrase timed)) (left : Tree prefixed) (ts : List Token)
      → timed_on again left (t ∷ ts) ≡ then (carried t ts) (two_by again left word)
  puts : (w : Timing) (φ ψ : Formula) → postfix (infix_meaning (word w.low w.high) φ ψ) ≡ postfix φ ++ postfix ψ ++ (entry k w ∷ [])

infixed_word : (t : Token) (k : Kind) → infix_kind t ≡ Some k → Infixed t k
unfolding postfix
infixed_word Since k e =
    record {
      word = Infix.since;
      reads = λ again left ts. refl;
      puts = λ w φ ψ. ap (λ (j : Kind). postfix φ ++ postfix ψ ++ (entry j w ∷ [])) (same e);
    }
infixed_word Until k e =
    record {
      word = Infix.until;
      reads = λ again left ts. refl;
      puts = λ w φ ψ. ap (λ (j : Kind). postfix φ ++ postfix ψ ++ (entry j w ∷ [])) (same e);
    }
infixed_word t k e = absurd (cc)

regrouped : (es xs ys : List Entry) (e : Entry) → ((es ++ xs) ++ ys) ++ (e ∷ []) ≡ es ++ (xs ++ ys ++ (e ∷ []))
regrouped es xs ys e = simp append_assoc

-- one call of the reader of tokens
fuel : (P : ℕ → Type 0) (m f : ℕ) → m < f → ((g : ℕ) → m ≤ g → P (suc g)) → P f
fuel P m zero h k = absurd (not-suc-le-zero h)
fuel P m (suc g) h k = k g (le_of_suc-le-suc h)

bare : (out : Buffer) (es : List Entry) → Contains out (es ++ []) → Contains out es
bare out es h = subst (Contains out) (append-nil es) h

full : (out : Buffer) (es : List Entry) → Contains out es → Contains out (es ++ [])
full out es h = subst (Contains out) (sym (append-nil es)) h

-- behind the last token
pub atom_end : (text : List ℕ) (place : ℕ) (out : Buffer) → tokens (drop place text) ≡ [] → ReadsLevel atom None text place out None out
unfolding phrase
atom_end text place out e f h = ap (phrase f atom None) e ∙ fuel (λ m. phrase m atom None [] ≡ None) (remaining atom text place) f h (λ g k. refl)

pub prefixed_end : (text : List ℕ) (place : ℕ) (out : Buffer) → tokens (drop place text) ≡ [] → ReadsLevel prefixed None text place out None out
unfolding phrase
prefixed_end text place out e f h =
    fuel (λ m. phrase m prefixed None (tokens (drop place text)) ≡ None) (remaining prefixed text place) f h
    (λ g k.
    ap (λ us. phrase (suc g) prefixed None us) e
    ∙ ap (λ (o : Option (Phrase atom)). then o tightened) (sym (ap (phrase g atom None) e) ∙ atom_end text place out e g (omega arith)))

module _ (text : List ℕ) (place next : ℕ) (t : Token) (l : Reads text place t next) where
  front : (s : Token) → t ≡ s → tokens (drop place text) ≡ s ∷ tokens (drop next text)
  front s e = l.tokens_are ∙ ap (λ (x : Token). x ∷ tokens (drop next text)) e

  -- A letter or a bracket.

  pub atom_letter : (k : ℕ) → t ≡ Letter k → (out out' : Buffer) → Puts out (record { kind = 0; letter = k; low = 0; high = 0 }) out'
      → ReadsLevel atom None text place out (Some next) out'
  unfolding phrase postfix meaning
  atom_letter k e out out' p =
      record {
        tree = Tree.letter k;
        moves = omega (arith, l.moves);
        finds = λ f h.
            fuel (λ (m : ℕ). phrase m atom None (tokens (drop place text)) ≡ Some (record { tree = Tree.letter k; rest = tokens (drop next text) }))
            (remaining atom text place) f h
            (λ g i. ap (phrase (suc g) atom None) (front (Letter k) e));
        holds = λ es h. holds_put out out' (record { kind = 0; letter = k; low = 0; high = 0 }) es p (bare out es h);
      }

  pub atom_neither : (out : Buffer) → ((k : ℕ) → t ≡ Letter k → ⊥) → (t ≡ Opening → ⊥) → ReadsLevel atom None text place out None out
  unfolding phrase
  atom_neither out n m f h =
      fuel (λ (m : ℕ). phrase m atom None (tokens (drop place text)) ≡ None) (remaining atom text place) f h
      (λ g k. ap (phrase (suc g) atom None) l.tokens_are ∙ atom_other (λ us. phrase g ors None us) t (tokens (drop next text)) n m)

  module _ (opens : t ≡ Opening) where
    pub less_inside : remaining ors text next < remaining atom text place
    less_inside = omega (arith, l.moves, l.inside)

    inside : (g : ℕ) → phrase (suc g) atom None (tokens (drop place text)) ≡ then (phrase g ors None (tokens (drop next text))) bracketed
    unfolding phrase
    inside g = ap (phrase (suc g) atom None) (front Opening opens)

    pub atom_empty : (out out' : Buffer) → ReadsLevel ors None text next out None out' → ReadsLevel atom None text place out None out'
    atom_empty out out' bad f h =
        fuel (λ (m : ℕ). phrase m atom None (tokens (drop place text)) ≡ None) (remaining atom text place) f h
        (λ g k. inside g ∙ ap (λ (o : Option (Phrase ors)). then o bracketed) (bad g (omega (arith, less_inside))))

    module _ (out out' : Buffer) (p : ℕ) (ok : ReadsPhrase ors None text next out p out') where
      around : (g : ℕ) → remaining atom text place ≤ g → phrase (suc g) atom None (tokens (drop place text)) ≡ closed ok.tree (tokens (drop p text))
      around g k = inside g ∙ ap (λ (o : Option (Phrase ors)). then o bracketed) (ok.finds g (omega (arith, less_inside)))

      pub atom_brackets : (r : Option ℕ) → Signed Closing text p r → ReadsLevel atom None text place out r out'
      unfolding meaning
      atom_brackets (Some q) c =
          record {
            tree = Tree.brackets ok.tree;
            moves = omega (arith, l.moves, ok.moves, c.moves);
            finds = λ f h.
                fuel (λ (j : ℕ). phrase j atom None (tokens (drop place text)) ≡ Some (record { tree = Tree.brackets ok.tree; rest = tokens (drop q text) }))
                (remaining atom text place) f h
                (λ g k. around g k ∙ ap (closed ok.tree) c.tokens_are);
            holds = ok.holds;
          }
      atom_brackets None n = λ f h.
          fuel (λ (m : ℕ). phrase m atom None (tokens (drop place text)) ≡ None) (remaining atom text place) f h
          (λ g k. around g k ∙ closed_none ok.tree (tokens (drop p text)) n)

  -- A word before its operand.

  pub prefixed_atom : (out out' : Buffer) (r : Option ℕ) → prefix_kind t ≡ None → ReadsLevel atom None text place out r out'
      → ReadsLevel prefixed None text place out r out'
  unfolding phrase meaning
  prefixed_atom out out' r e ok = go r ok
    where
      operand : (g : ℕ) → phrase (suc g) prefixed None (tokens (drop place text)) ≡ then (phrase g atom None (tokens (drop place text))) tightened
      operand g =
          ap (phrase (suc g) prefixed None) l.tokens_are
          ∙ prefixed_other (λ us. phrase g prefixed None us) (λ us. phrase g atom None us) t (tokens (drop next text)) e
          ∙ ap (λ us. then (phrase g atom None us) tightened) (sym l.tokens_are)

      go : (r : Option ℕ) → ReadsLevel atom None text place out r out' → ReadsLevel prefixed None text place out r out'
      go (Some p) ok =
          record {
            tree = Tree.tight ok.tree;
            moves = ok.moves;
            finds = λ f h.
                fuel (λ (j : ℕ). phrase j prefixed None (tokens (drop place text)) ≡ Some (record { tree = Tree.tight ok.tree; rest = tokens (drop p text) }))
                (remaining prefixed text place) f h
                (λ g k. operand g ∙ ap (λ (o : Option (Phrase atom)). then o tightened) (ok.finds g (omega arith)));
            holds = ok.holds;
          }
      go None bad = λ f h.
          fuel (λ (j : ℕ). phrase j prefixed None (tokens (drop place text)) ≡ None) (remaining prefixed text place) f h
          (λ g k. operand g ∙ ap (λ (o : Option (Phrase atom)). then o tightened) (bad g (omega arith)))

  module _ (kind : Kind) (is : prefix_kind t ≡ Some kind) where
    abbrev w : Prefixed t kind
    w = prefixed_word t kind is

    operator : (g : ℕ) → phrase (suc g) prefixed None (tokens (drop place text))
        ≡ then (carried t (tokens (drop next text))) (one_by (λ us. phrase g prefixed None us) w.word)
    unfolding phrase
    operator g =
        ap (phrase (suc g) prefixed None) l.tokens_are ∙ w.reads (λ us. phrase g prefixed None us) (λ us. phrase g atom None us) (tokens (drop next text))

    pub prefixed_missing : (out : Buffer) → Timed t text next None → ReadsLevel prefixed None text place out None out
    prefixed_missing out m f h =
        fuel (λ (j : ℕ). phrase j prefixed None (tokens (drop place text)) ≡ None) (remaining prefixed text place) f h
        (λ g k. operator g ∙ ap (λ (o : Option Timing). then o (one_by (λ us. phrase g prefixed None us) w.word)) m)

    module _ (i : Interval) (m : Timed t text next (Some i)) where
      abbrev timing₀ : Timing
      timing₀ = record { low = i.low; high = m.0; rest = tokens (drop i.next text) }

      pub less_behind : remaining prefixed text i.next < remaining prefixed text place
      less_behind = omega (arith, l.moves, l.inside, m.3)

      operand : (g : ℕ) → phrase (suc g) prefixed None (tokens (drop place text)) ≡ one_by (λ us. phrase g prefixed None us) w.word timing₀
      operand g = operator g ∙ ap (λ (o : Option Timing). then o (one_by (λ us. phrase g prefixed None us) w.word)) m.1

      abbrev with : Option (Phrase prefixed) → Option (Phrase prefixed)
      with o = then o (λ (q : Phrase prefixed). Some (record { tree = Tree.one (w.word i.low m.0) q.tree; rest = q.rest }))

      pub prefixed_fault : (out out' : Buffer) → ReadsLevel prefixed None text i.next out None out' → ReadsLevel prefixed None text place out None out'
      prefixed_fault out out' bad f h =
          fuel (λ (j : ℕ). phrase j prefixed None (tokens (drop place text)) ≡ None) (remaining prefixed text place) f h
          (λ g k. operand g ∙ ap with (bad g (omega (arith, less_behind))))

      pub prefixed_one : (out out' out'' : Buffer) (p : ℕ) → ReadsPhrase prefixed None text i.next out p out'
          → Puts out' (record { kind = number_of_kind kind; letter = 0; low = i.low; high = i.high }) out''
          → ReadsLevel prefixed None text place out (Some p) out''
      unfolding meaning
      prefixed_one out out' out'' p ok put =
          record {
            tree = Tree.one (w.word i.low m.0) ok.tree;
            moves = omega (arith, l.moves, m.3, ok.moves);
            finds = λ f h.
                fuel (λ (j : ℕ). phrase j prefixed None (tokens (drop place text)) ≡ Some (record { tree = Tree.one (w.word i.low m.0) ok.tree; rest = tokens (drop p text) }))
                (remaining prefixed text place) f h
                (λ g k. operand g ∙ ap with (ok.finds g (omega (arith, less_behind))));
            holds = λ es h.
                subst (Contains out'')
                (append_assoc es (postfix (meaning ok.tree)) _
                ∙ ap (λ (us : List Entry). es ++ us)
                (ap (λ (v : ℕ). postfix (meaning ok.tree) ++ (record { kind = number_of_kind kind; letter = 0; low = i.low; high = v } ∷ [])) m.2
                ∙ sym (w.puts (tokens (drop next text)) timing₀ (meaning ok.tree) m.1)))
                (holds_put out' out'' (record { kind = number_of_kind kind; letter = 0; low = i.low; high = i.high }) (es ++ postfix (meaning ok.tree)) put (ok.holds es h));
          }

-- A word between its operands.

pub timed_none : (text : List ℕ) (place : ℕ) (out out' : Buffer) → ReadsLevel prefixed None text place out None out' → ReadsLevel timed None text place out None out'
unfolding phrase
timed_none text place out out' bad f h =
    fuel (λ (j : ℕ). phrase j timed None (tokens (drop place text)) ≡ None) (remaining timed text place) f h
    (λ g k.
    ap (λ (o : Option (Phrase prefixed)). then o (λ (p : Phrase prefixed). timed_on (λ us. phrase g timed None us) p.tree p.rest)) (bad g (omega arith)))

module _ (text : List ℕ) (place : ℕ) (out out' : Buffer) (p : ℕ) (ok : ReadsPhrase prefixed None text place out p out') where
  rest_of : (g : ℕ) → remaining timed text place ≤ g
      → phrase (suc g) timed None (tokens (drop place text)) ≡ timed_on (λ us. phrase g timed None us) ok.tree (tokens (drop p text))
  unfolding phrase
  rest_of g k =
      ap (λ (o : Option (Phrase prefixed)). then o (λ (p : Phrase prefixed). timed_on (λ us. phrase g timed None us) p.tree p.rest)) (ok.finds g (omega arith))

  alone : ((g : ℕ) → timed_on (λ us. phrase g timed None us) ok.tree (tokens (drop p text)) ≡ Some (record { tree = Tree.untimed ok.tree; rest = tokens (drop p text) }))
      → ReadsLevel timed None text place out (Some p) out'
  unfolding meaning
  alone stops =
      record {
        tree = Tree.untimed ok.tree;
        moves = ok.moves;
        finds = λ f h.
            fuel (λ (j : ℕ). phrase j timed None (tokens (drop place text)) ≡ Some (record { tree = Tree.untimed ok.tree; rest = tokens (drop p text) }))
            (remaining timed text place) f h
            (λ g k. rest_of g k ∙ stops g);
        holds = ok.holds;
      }

  pub timed_last : tokens (drop p text) ≡ [] → ReadsLevel timed None text place out (Some p) out'
  timed_last e = alone (λ g. let stops : (ts : List Token) → ts ≡ [] → timed_on (λ us. phrase g timed None us) ok.tree ts ≡ Some (record { tree = Tree.untimed ok.tree; rest = ts }) = λ ts d. subst (λ ts. timed_on (λ us. phrase g timed None us) ok.tree ts ≡ Some (record { tree = Tree.untimed ok.tree; rest = ts })) (sym d) refl in stops _ e)

  module _ (next : ℕ) (t : Token) (l : Reads text p t next) where
    pub timed_alone : infix_kind t ≡ None → ReadsLevel timed None text place out (Some p) out'
    timed_alone e =
        alone (λ g.
        subst (λ (ts : List Token). timed_on (λ us. phrase g timed None us) ok.tree ts ≡ Some (record { tree = Tree.untimed ok.tree; rest = ts }))
        (sym l.tokens_are) (timed_other (λ us. phrase g timed None us) ok.tree t (tokens (drop next text)) e))

    module _ (kind : Kind) (is : infix_kind t ≡ Some kind) where
      abbrev w₁ : Infixed t kind
      w₁ = infixed_word t kind is

      between : (g : ℕ) → remaining timed text place ≤ g → phrase (suc g) timed None (tokens (drop place text))
          ≡ then (carried t (tokens (drop next text))) (two_by (λ us. phrase g timed None us) ok.tree w₁.word)
      between g k =
          rest_of g k
          ∙ ap (timed_on (λ us. phrase g timed None us) ok.tree) l.tokens_are
          ∙ w₁.reads (λ us. phrase g timed None us) ok.tree (tokens (drop next text))

      pub timed_missing : Timed t text next None → ReadsLevel timed None text place out None out'
      timed_missing m f h =
          fuel (λ (j : ℕ). phrase j timed None (tokens (drop place text)) ≡ None) (remaining timed text place) f h
          (λ g k. between g k ∙ ap (λ (o : Option Timing). then o (two_by (λ us. phrase g timed None us) ok.tree w₁.word)) m)

      module _ (i : Interval) (m : Timed t text next (Some i)) where
        abbrev timing₁ : Timing
        timing₁ = record { low = i.low; high = m.0; rest = tokens (drop i.next text) }

        pub less_right : remaining timed text i.next < remaining timed text place
        less_right = omega (arith, l.moves, l.inside, m.3, ok.moves)

        right : (g : ℕ) → remaining timed text place ≤ g
            → phrase (suc g) timed None (tokens (drop place text)) ≡ two_by (λ us. phrase g timed None us) ok.tree w₁.word timing₁
        right g k = between g k ∙ ap (λ (o : Option Timing). then o (two_by (λ us. phrase g timed None us) ok.tree w₁.word)) m.1

        abbrev with_right : Option (Phrase timed) → Option (Phrase timed)
        with_right o = then o (λ (q : Phrase timed). Some (record { tree = Tree.two ok.tree (w₁.word i.low m.0) q.tree; rest = q.rest }))

        pub timed_fault : (out'' : Buffer) → ReadsLevel timed None text i.next out' None out'' → ReadsLevel timed None text place out None out''
        timed_fault out'' bad f h =
            fuel (λ (j : ℕ). phrase j timed None (tokens (drop place text)) ≡ None) (remaining timed text place) f h
            (λ g k. right g k ∙ ap with_right (bad g (omega (arith, less_right))))

        pub timed_two : (out'' out''' : Buffer) (p' : ℕ) → ReadsPhrase timed None text i.next out' p' out''
            → Puts out'' (record { kind = number_of_kind kind; letter = 0; low = i.low; high = i.high }) out'''
            → ReadsLevel timed None text place out (Some p') out'''
        unfolding meaning
        timed_two out'' out''' p' ok' put =
            record {
              tree = Tree.two ok.tree (w₁.word i.low m.0) ok'.tree;
              moves = omega (arith, ok.moves, l.moves, m.3, ok'.moves);
              finds = λ f h.
                  fuel (λ (j : ℕ). phrase j timed None (tokens (drop place text)) ≡ Some (record { tree = Tree.two ok.tree (w₁.word i.low m.0) ok'.tree; rest = tokens (drop p' text) }))
                  (remaining timed text place) f h
                  (λ g k. right g k ∙ ap with_right (ok'.finds g (omega (arith, less_right))));
              holds = λ es h.
                  subst (Contains out''')
                  (regrouped es (postfix (meaning ok.tree)) (postfix (meaning ok'.tree)) (record { kind = number_of_kind kind; letter = 0; low = i.low; high = i.high })
                  ∙ ap (λ (us : List Entry). es ++ us)
                  (ap (λ (v : ℕ). postfix (meaning ok.tree) ++ postfix (meaning ok'.tree) ++ (record { kind = number_of_kind kind; letter = 0; low = i.low; high = v } ∷ [])) m.2
                  ∙ sym (w₁.puts timing₁ (meaning ok.tree) (meaning ok'.tree))))
                  (holds_put out'' out''' (record { kind = number_of_kind kind; letter = 0; low = i.low; high = i.high }) ((es ++ postfix (meaning ok.tree)) ++ postfix (meaning ok'.tree)) put
                  (ok'.holds (es ++ postfix (meaning ok.tree)) (full out' (es ++ postfix (meaning ok.tree)) (ok.holds es h))));
            }

-- or, behind what stands before it.

abbrev ors_rest : ℕ → Option (Tree ors) → Phrase timed → Option (Phrase ors)
ors_rest g before p = ors_on (λ b us. phrase g ors b us) (joined before p.tree) p.rest

pub ors_none : (before : Option (Tree ors)) (text : List ℕ) (place : ℕ) (out out' : Buffer) → ReadsLevel timed None text place out None out'
    → ReadsLevel ors before text place out None out'
unfolding phrase
ors_none before text place out out' bad f h =
    fuel (λ (j : ℕ). phrase j ors before (tokens (drop place text)) ≡ None) (remaining ors text place) f h
    (λ g k. ap (λ (o : Option (Phrase timed)). then o (ors_rest g before)) (bad g (omega arith)))

joined_holds : (before : Option (Tree ors)) (later : Bool) (u : Tree timed) (out out' out'' : Buffer) → later ≡ is_given before → Joins later out' out''
    → ((es : List Entry) → Contains out (es ++ []) → Contains out' (es ++ postfix (meaning u)))
    → (es : List Entry) → Contains out (es ++ written before) → Contains out'' (es ++ postfix (meaning (joined before u)))
unfolding meaning postfix
joined_holds None true u out out' out'' g j k es h = absurd (cc)
joined_holds None false u out out' out'' g j k es h = subst (λ (o : Buffer). Contains o (es ++ postfix (meaning u))) (sym j) (k es h)
joined_holds (Some t) false u out out' out'' g j k es h = absurd (cc)
joined_holds (Some t) true u out out' out'' g j k es h =
    subst (Contains out'') (regrouped es (postfix (meaning t)) (postfix (meaning u)) or_entry)
    (holds_put out' out'' or_entry ((es ++ postfix (meaning t)) ++ postfix (meaning u)) j
    (k (es ++ postfix (meaning t)) (full out (es ++ postfix (meaning t)) h)))

module _
    (before : Option (Tree ors))
    (later : Bool)
    (is : later ≡ is_given before)
    (text : List ℕ)
    (place : ℕ)
    (out out' out'' : Buffer)
    (p : ℕ)
    (ok : ReadsPhrase timed None text place out p out')
    (join : Joins later out' out'')
  where
    term : (g : ℕ) → remaining ors text place ≤ g
        → phrase (suc g) ors before (tokens (drop place text)) ≡ ors_rest g before (record { tree = ok.tree; rest = tokens (drop p text) })
    unfolding phrase
    term g k = ap (λ (o : Option (Phrase timed)). then o (ors_rest g before)) (ok.finds g (omega arith))

    pub ors_end : Signed Or text p None → ReadsLevel ors before text place out (Some p) out''
    ors_end n =
        record {
          tree = joined before ok.tree;
          moves = ok.moves;
          finds = λ f h.
              fuel (λ (j : ℕ). phrase j ors before (tokens (drop place text)) ≡ Some (record { tree = joined before ok.tree; rest = tokens (drop p text) }))
              (remaining ors text place) f h
              (λ g k. term g k ∙ ors_other (λ b us. phrase g ors b us) (joined before ok.tree) (tokens (drop p text)) n);
          holds = joined_holds before later ok.tree out out' out'' is join ok.holds;
        }

    module _ (next : ℕ) (l : Reads text p Or next) where
      less_term : remaining ors text next < remaining ors text place
      less_term = omega (arith, l.moves, l.inside, ok.moves)

      again : (g : ℕ) → remaining ors text place ≤ g
          → phrase (suc g) ors before (tokens (drop place text)) ≡ phrase g ors (Some (joined before ok.tree)) (tokens (drop next text))
      again g k = term g k ∙ ap (ors_on (λ b us. phrase g ors b us) (joined before ok.tree)) l.tokens_are

      pub ors_more : (q : Option ℕ) (out''' : Buffer) → ReadsLevel ors (Some (joined before ok.tree)) text next out'' q out'''
          → ReadsLevel ors before text place out q out'''
      ors_more (Some p') out''' ok' =
          record {
            tree = ok'.tree;
            moves = omega (arith, ok.moves, l.moves, ok'.moves);
            finds = λ f h.
                fuel (λ (j : ℕ). phrase j ors before (tokens (drop place text)) ≡ Some (record { tree = ok'.tree; rest = tokens (drop p' text) }))
                (remaining ors text place) f h
                (λ g k. again g k ∙ ok'.finds g (omega (arith, less_term)));
            holds = λ es h. ok'.holds es (joined_holds before later ok.tree out out' out'' is join ok.holds es h);
          }
      ors_more None out''' bad = λ f h.
          fuel (λ (j : ℕ). phrase j ors before (tokens (drop place text)) ≡ None) (remaining ors text place) f h
          (λ g k. again g k ∙ bad g (omega (arith, less_term)))
