-- What the crate's own functions answer. The reader of the grammar, as a function of tokens: proofs/Grammar shows that it finds
-- what the grammar derives. Nothing that `parse` promises speaks of it.
-- (Derivations and Examples are named first so that the worked rows are checked before any proof.)
use Rattle.text.specs.Derivations
use Rattle.text.specs.Examples
use Rattle.std.specs.Prelude.{ℕ, zero, suc, ◌+◌, ◌-◌, ◌*◌, ◌≤◌, ◌<◌, min, Bool, true, false, cond, ◌≡◌, List, [], ◌∷◌, ◌++◌, ltb, length, take, drop, get_or, Option, None, Some}
use Rattle.std.specs.List.{between}
use Rattle.rule.specs.declared.Entry.{Entry}
use Rattle.rule.specs.declared.kind.Kind.{Kind}
use Rattle.rule.specs.declared.kind.Kind.TheVariants as kinds
use Rattle.rule.specs.Postfix.{postfix}
use Rattle.rule.specs.Encoding.{entry_bytes, body, rule_header}
use Rattle.text.specs.Tokens.{runs, token_of, tokens}
use Rattle.text.specs.Grammar.{Level, End, Prefix, Infix, Tree, end_token, meaning, bound}
use Rattle.text.specs.Grammar.Level.{ors, timed, prefixed, atom}
use Rattle.text.specs.Grammar.End.{at}
use Rattle.text.specs.declared.entries.Buffer.{Buffer}
use Rattle.text.specs.declared.level.Interval.{Interval}
use Rattle.text.specs.declared.level.Limit.{Limit}
use Rattle.text.specs.declared.token.Lexeme.{Lexeme}
use Rattle.text.specs.declared.token.Token.{Token}
use Rattle.text.specs.declared.token.Token.TheVariants.{Letter, Number, Not, Or, Prev, Next, Since, Until, Inf, Opening, Closing, From, To, Comma}

-- the place behind spaces, at which no space stands
pub record Skips (text : List ℕ) (place next : ℕ) : Type 0 where
  pub moves : place ≤ next
  pub tokens_are : tokens (drop next text) ≡ tokens (drop place text)
  pub no_space : get_or text next 0 ≡ 32 → ⊥

-- the place behind the run at a place, where one stands
pub record RunsTo (text : List ℕ) (place next : ℕ) : Type 0 where
  pub inside : runs (get_or text place 0) ≡ true → (place < next) × (next ≤ length text)
  pub tokens_are : runs (get_or text place 0) ≡ true → tokens (drop place text) ≡ token_of (between place next text) ∷ tokens (drop next text)

-- the token at a place of the text, and the place behind it
pub record Reads (text : List ℕ) (place : ℕ) (t : Token) (next : ℕ) : Type 0 where
  pub tokens_are : tokens (drop place text) ≡ t ∷ tokens (drop next text)
  pub moves : place < next
  pub inside : next ≤ length text

-- the next token; none behind the last
abbrev pub Lexed : List ℕ → ℕ → Option Lexeme → Type 0
Lexed text place (Some x) = Reads text place x.token x.next
Lexed text place None = tokens (drop place text) ≡ []

-- the place behind a sign, where it stands
abbrev pub Signed : Token → List ℕ → ℕ → Option ℕ → Type 0
Signed t text place (Some next) = Reads text place t next
Signed t text place None = (ts : List Token) → tokens (drop place text) ≡ t ∷ ts → ⊥

-- a number, where one stands, and the place behind it
abbrev pub Numbered : List ℕ → ℕ → Option Limit → Type 0
Numbered text place (Some x) = Reads text place (Number x.value) x.next
Numbered text place None = (n : ℕ) (ts : List Token) → tokens (drop place text) ≡ Number n ∷ ts → ⊥

-- a number or inf, where one stands, and the place behind it
abbrev pub Ended : List ℕ → ℕ → Option Limit → Type 0
Ended text place (Some x) = (e : End) × Reads text place (end_token e) x.next × (x.value ≡ bound e)
Ended text place None = (e : End) (ts : List Token) → tokens (drop place text) ≡ end_token e ∷ ts → ⊥

-- Where an interval stands, or none is due, as after not.
pub record Timing : Type 0 where
  pub low : ℕ
  pub high : End
  pub rest : List Token

-- [ number , number or inf ]
unfoldable pub timing : List Token → Option Timing
timing (From ∷ (Number low ∷ (Comma ∷ (Number high ∷ (To ∷ ts))))) = Some (record { low = low; high = at high; rest = ts })
timing (From ∷ (Number low ∷ (Comma ∷ (Inf ∷ (To ∷ ts))))) = Some (record { low = low; high = End.inf; rest = ts })
timing ts = None

-- the interval in front of the tokens that a word carries; not carries none
abbrev pub carried : Token → List Token → Option Timing
carried Not ts = Some (record { low = 0; high = at 0; rest = ts })
carried t ts = timing ts

-- what is found of it at a place of the text
abbrev pub Timed : Token → List ℕ → ℕ → Option Interval → Type 0
Timed t text place (Some i) =
    (e : End) × (carried t (tokens (drop place text)) ≡ Some (record { low = i.low; high = e; rest = tokens (drop i.next text) }))
    × (i.high ≡ bound e) × (place ≤ i.next)
Timed t text place None = carried t (tokens (drop place text)) ≡ None

-- the kinds of the words that stand before their operand, and between their operands
abbrev pub prefix_kind : Token → Option Kind
prefix_kind Not = Some kinds.Not
prefix_kind Prev = Some kinds.Previous
prefix_kind Next = Some kinds.Next
prefix_kind t = None

abbrev pub infix_kind : Token → Option Kind
infix_kind Since = Some kinds.Since
infix_kind Until = Some kinds.Until
infix_kind t = None

-- a phrase of a level at the front of the tokens, and what is left behind it
pub record Phrase (l : Level) : Type 0 where
  pub tree : Tree l
  pub rest : List Token

-- what comes after something that was found; nothing where nothing was
abbrev pub then : {A B : Type 0} → Option A → (A → Option B) → Option B
then None f = None
then (Some a) f = f a

-- the phrase so far, with one more term
abbrev pub joined : Option (Tree ors) → Tree timed → Tree ors
joined None u = Tree.sole u
joined (Some t) u = Tree.or t u

-- the phrase between brackets, where the closing one follows
abbrev pub closed : Tree ors → List Token → Option (Phrase atom)
closed t (Closing ∷ ts) = Some (record { tree = Tree.brackets t; rest = ts })
closed t ts = None

abbrev pub bracketed : Phrase ors → Option (Phrase atom)
bracketed p = closed p.tree p.rest

-- each level, by the levels that it calls
abbrev pub atom_by : (List Token → Option (Phrase ors)) → List Token → Option (Phrase atom)
atom_by inner (Letter k ∷ ts) = Some (record { tree = Tree.letter k; rest = ts })
atom_by inner (Opening ∷ ts) = then (inner ts) bracketed
atom_by inner ts = None

abbrev pub tightened : Phrase atom → Option (Phrase prefixed)
tightened p = Some (record { tree = Tree.tight p.tree; rest = p.rest })

-- a word with its interval, and then its operand
abbrev pub one_by : (List Token → Option (Phrase prefixed)) → (ℕ → End → Prefix) → Timing → Option (Phrase prefixed)
one_by again o w = then (again w.rest) (λ (p : Phrase prefixed). Some (record { tree = Tree.one (o w.low w.high) p.tree; rest = p.rest }))

abbrev pub prefixed_by :
    (List Token → Option (Phrase prefixed)) → (List Token → Option (Phrase atom)) → List Token → Option (Phrase prefixed)
prefixed_by again below (Not ∷ ts) = then (carried Not ts) (one_by again (λ low high. Prefix.not))
prefixed_by again below (Prev ∷ ts) = then (carried Prev ts) (one_by again Prefix.prev)
prefixed_by again below (Next ∷ ts) = then (carried Next ts) (one_by again Prefix.next)
prefixed_by again below ts = then (below ts) tightened

abbrev pub two_by :
    (List Token → Option (Phrase timed)) → Tree prefixed → (ℕ → End → Infix) → Timing → Option (Phrase timed)
two_by again t o w = then (again w.rest) (λ (q : Phrase timed). Some (record { tree = Tree.two t (o w.low w.high) q.tree; rest = q.rest }))

-- what comes behind an operand
abbrev pub timed_on : (List Token → Option (Phrase timed)) → Tree prefixed → List Token → Option (Phrase timed)
timed_on again t (Since ∷ ts) = then (carried Since ts) (two_by again t Infix.since)
timed_on again t (Until ∷ ts) = then (carried Until ts) (two_by again t Infix.until)
timed_on again t ts = Some (record { tree = Tree.untimed t; rest = ts })

abbrev pub timed_by :
    (List Token → Option (Phrase timed)) → (List Token → Option (Phrase prefixed)) → List Token → Option (Phrase timed)
timed_by again below ts = then (below ts) (λ (p : Phrase prefixed). timed_on again p.tree p.rest)

-- what comes behind a term
abbrev pub ors_on : (Option (Tree ors) → List Token → Option (Phrase ors)) → Tree ors → List Token → Option (Phrase ors)
ors_on again t (Or ∷ ts) = again (Some t) ts
ors_on again t ts = Some (record { tree = t; rest = ts })

abbrev pub ors_by :
    (Option (Tree ors) → List Token → Option (Phrase ors)) → (List Token → Option (Phrase timed)) → Option (Tree ors) → List Token → Option (Phrase ors)
ors_by again below before ts = then (below ts) (λ (p : Phrase timed). ors_on again (joined before p.tree) p.rest)

-- a phrase of a level at the front of the tokens, found in fewer than f calls that stand inside one another
unfoldable pub phrase : ℕ → (l : Level) → Option (Tree ors) → List Token → Option (Phrase l)
phrase zero l before ts = None
phrase (suc f) ors before ts = ors_by (λ b us. phrase f ors b us) (λ us. phrase f timed None us) before ts
phrase (suc f) timed before ts = timed_by (λ us. phrase f timed None us) (λ us. phrase f prefixed None us) ts
phrase (suc f) prefixed before ts = prefixed_by (λ us. phrase f prefixed None us) (λ us. phrase f atom None us) ts
phrase (suc f) atom before ts = atom_by (λ us. phrase f ors None us) ts

-- the levels' order: "remaining bytes and level fall"
abbrev pub weight : Level → ℕ
weight ors = 3
weight timed = 2
weight prefixed = 1
weight atom = 0

abbrev pub remaining : Level → List ℕ → ℕ → ℕ
remaining l text place = (length text - place) * 4 + weight l

-- the buffer has these entries, behind a header whose count is not known yet; 129 for more than 128, of which it holds nothing
pub record Contains (out : Buffer) (es : List Entry) : Type 0 where
  pub counts : out.count ≡ min (length es) 129
  pub bytes : length es ≤ 128 → take (8 + out.count * 10) out.bytes ≡ rule_header 0 ++ body es

-- an entry put behind those of the buffer
pub record Puts (out : Buffer) (e : Entry) (out' : Buffer) : Type 0 where
  pub counts : out'.count ≡ cond (ltb out.count 128) (out.count + 1) 129
  pub bytes : out.count < 128 → take (8 + out.count * 10 + 10) out'.bytes ≡ take (8 + out.count * 10) out.bytes ++ entry_bytes e

-- the entry of an or
abbrev pub or_entry : Entry
or_entry = record { kind = 2; letter = 0; low = 0; high = 0 }

-- the entry of an or, where there is one
abbrev pub Joins : Bool → Buffer → Buffer → Type 0
Joins true out out' = Puts out or_entry out'
Joins false out out' = out' ≡ out

-- the entries of the phrase before this one, and whether there is one
abbrev pub written : Option (Tree ors) → List Entry
written None = []
written (Some t) = postfix (meaning t)

abbrev pub is_given : Option (Tree ors) → Bool
is_given None = false
is_given (Some t) = true

-- a level of the reader: it finds the phrase, and puts the entries of its formula behind those that the buffer has
pub record ReadsPhrase (l : Level) (before : Option (Tree ors)) (text : List ℕ) (place : ℕ) (out : Buffer) (place' : ℕ) (out' : Buffer) : Type 0 where
  pub tree : Tree l
  pub moves : place ≤ place'
  pub finds : (f : ℕ) → remaining l text place < f → phrase f l before (tokens (drop place text)) ≡ Some (record { tree = tree; rest = tokens (drop place' text) })
  pub holds : (es : List Entry) → Contains out (es ++ written before) → Contains out' (es ++ postfix (meaning tree))

-- the same, or there is no such phrase
abbrev pub ReadsLevel : (l : Level) → Option (Tree ors) → List ℕ → ℕ → Buffer → Option ℕ → Buffer → Type 0
ReadsLevel l before text place out (Some place') out' = ReadsPhrase l before text place out place' out'
ReadsLevel l before text place out None out' = (f : ℕ) → remaining l text place < f → phrase f l before (tokens (drop place text)) ≡ None

-- whatever phrase stands before this one, if one does
abbrev pub AnswersAfter : Bool → List ℕ → ℕ → Buffer → Option ℕ → Buffer → Type 0
AnswersAfter later text place out r out' = (before : Option (Tree ors)) → later ≡ is_given before → ReadsLevel ors before text place out r out'
