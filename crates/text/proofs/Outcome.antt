-- Each way out of `parse`: the refusals in their order, and the rule that is written.
use Prim.Native.Nat.{ℕ, suc, ◌+◌, ◌*◌, ◌≤◌, ◌<◌}
use native.Mathlib.Omega.{arith}
use borrow.Author.Tests.{lt-ltb, le-ltb, eq-eqb, ne_eqb}
use mathlib.Core.Path.{◌≡◌, refl, sym, ap, subst, ◌∙◌}
use mathlib.Core.Bool.{Bool, true, false, cond, ◌||◌}
use mathlib.Core.List.{List, [], ◌∷◌, ◌++◌}
use mathlib.Core.Option.{some}
use lib.Dec.{ltb, eqb}
use lib.ListN.{length, take, drop, set}
use lib.Seq.{take-set-lt}
use Rattle.std.specs.Prelude.{Option, None, Some, Ok, Err, is_some}
use Rattle.refusal.specs.declared.Refusal.{Refusal}
use Rattle.refusal.specs.declared.Refusal.TheVariants.{RuleLength, UnknownWord, NotDerived, ShortRule}
use Rattle.refusal.specs.Number.{number_of}
use Rattle.refusal.proofs.Numbers.{number_positive}
use Rattle.mtl.specs.Formula.{Formula}
use Rattle.mtl.specs.Satisfaction.{any}
use Rattle.rule.specs.declared.Entry.{Entry}
use Rattle.rule.specs.declared.Measured.{Measured}
use Rattle.rule.specs.Words.{words}
use Rattle.rule.specs.Postfix.{postfix}
use Rattle.rule.specs.Encoding.{body, encoded, rule_of}
use Rattle.rule.specs.Refusal.{misplaced_at, over_limit, first}
use Rattle.rule.specs.Measure.{Answer, reach_of, refused, measured}
use Rattle.rule.specs.Measure.{answer as measure_answer}
use Rattle.rule.proofs.Encoded.{length_body, weighed}
use Rattle.text.specs.declared.entries.Buffer.{Buffer}
use Rattle.text.specs.declared.token.Lexeme.{Lexeme}
use Rattle.text.specs.declared.token.Token.{Token}
use Rattle.text.specs.Tokens.{tokens, some_unknown, unreadable}
use Rattle.text.specs.Grammar.{meaning, Derived}
use Rattle.text.specs.Grammar.Level.{ors}
use Rattle.text.specs.Parse.{parsed_refusal, text_refusal, Parses}
use Rattle.text.specs.Reader.{Lexed, remaining, phrase, Contains, ReadsPhrase, ReadsLevel}
use Rattle.text.proofs.Cases.{by, nothing, same}
use Rattle.text.proofs.Complete.{at_end, found, decides}
use Rattle.text.proofs.Small.{none_misshapen}

chosen : {A : Type 0} (m : ℕ) (x y : A) → 0 < m → cond (eqb m 0) x y ≡ y
chosen m x y e = simp (ne_eqb m 0 (λ z. omega arith))

-- a refusal keeps the lent buffer
refuses : (text rule : List ℕ) (o : Option Formula) (r : Refusal) → Derived (tokens text) o → text_refusal text o (length rule) ≡ number_of r
    → Parses text rule (Err r) rule
refuses text rule o r d e =
    let positive : 0 < text_refusal text o (length rule) = omega (arith, e, number_positive r) in
    record {
      derives = o;
      derived = d;
      answers = sym (chosen (text_refusal text o (length rule)) _ _ positive ∙ ap (λ (k : ℕ). record { number = k; written = 0 }) e);
      leaves = sym (chosen (text_refusal text o (length rule)) _ _ positive);
    }

-- what is derived, where nothing was read
decided : (text : List ℕ) → (o : Option Formula) × Derived (tokens text) o
decided text =
    let o = phrase (4 * length (tokens text)) ors None (tokens text) in
    (found o, decides (tokens text) (4 * length (tokens text)) (omega arith) o refl)

or-true : (a : Bool) → a || true ≡ true
or-true true = refl
or-true false = refl

pub too_long : (text rule : List ℕ) → 1024 < length text → Parses text rule (Err UnknownWord) rule
too_long text rule h = let (o, d) = decided text in refuses text rule o UnknownWord d (simp (lt-ltb 1024 (length text) h))

pub strange : (text rule : List ℕ) → some_unknown (tokens text) ≡ true → Parses text rule (Err UnknownWord) rule
strange text rule e = let (o, d) = decided text in refuses text rule o UnknownWord d (simp (e, or-true (ltb 1024 (length text))))

-- no token is left
pub ended : (text : List ℕ) (p : ℕ) (r : Option Lexeme) → Lexed text p r → is_some r ≡ false → tokens (drop p text) ≡ []
ended text p None l e = l
ended text p (Some x) l e = absurd (cc)

-- calls enough to read a text and to decide what is derived
abbrev plenty : List ℕ → ℕ
plenty text = suc (remaining ors text 0) + 4 * length (tokens text)

module _ (text rule : List ℕ) (short : length text ≤ 1024) (known : some_unknown (tokens text) ≡ false) where
  readable : unreadable text ≡ false
  readable = simp (le-ltb 1024 (length text) short, known)

  underived : Derived (tokens text) None → Parses text rule (Err NotDerived) rule
  underived d = refuses text rule None NotDerived d (simp readable)

  pub faulty : (out out' : Buffer) → ReadsLevel ors None text 0 out None out' → Parses text rule (Err NotDerived) rule
  faulty out out' bad = underived (decides (tokens text) (plenty text) (omega arith) None (bad (plenty text) (omega arith)))

  module _ (out out' : Buffer) (p : ℕ) (ok : ReadsPhrase ors None text 0 out p out') where
    outcome : Derived (tokens text) (at_end (tokens (drop p text)) (meaning ok.tree))
    outcome =
        decides (tokens text) (plenty text) (omega arith) (Some (record { tree = ok.tree; rest = tokens (drop p text) })) (ok.finds (plenty text) (omega arith))

    pub unfinished : (r : Option Lexeme) → Lexed text p r → is_some r ≡ true → Parses text rule (Err NotDerived) rule
    unfinished (Some x) l e = underived (subst (λ (ts : List Token). Derived (tokens text) (at_end ts (meaning ok.tree))) l.tokens_are outcome)
    unfinished None l e = absurd (cc)

-- a text that is read to its end, and the entries of its formula
pub record Whole (text : List ℕ) (out : Buffer) : Type 0 where
  pub formula : Formula
  pub readable : unreadable text ≡ false
  pub derived : Derived (tokens text) (Some formula)
  pub held : Contains out (postfix formula)

pub whole : (text : List ℕ) (out out' : Buffer) (r : Option ℕ) (p : ℕ) (x : Option Lexeme) → length text ≤ 1024 → some_unknown (tokens text) ≡ false
    → Contains out [] → ReadsLevel ors None text 0 out r out' → r ≡ Some p → Lexed text p x → is_some x ≡ false → Whole text out'
whole text out out' (Some q) p x short known begun ok e l n =
    record {
      formula = meaning ok.tree;
      readable = readable text [] short known;
      derived =
          subst (λ (ts : List Token). Derived (tokens text) (at_end ts (meaning ok.tree)))
          (ap (λ (i : ℕ). tokens (drop i text)) (same e) ∙ ended text p x l n)
          (outcome text [] short known out out' q ok);
      held = ok.holds [] begun;
    }
whole text out out' None p x short known begun ok e l n = nothing e

module _ (text rule : List ℕ) (out' : Buffer) (w : Whole text out') where
  abbrev φ : Formula
  φ = w.formula

  abbrev es : List Entry
  es = postfix w.formula

  pub too_many : 128 < out'.count → Parses text rule (Err RuleLength) rule
  unfolding parsed_refusal
  too_many h = refuses text rule (Some φ) RuleLength w.derived (simp (w.readable, lt-ltb 128 (length es) (omega (arith, w.held.counts))))

  module _ (few : out'.count ≤ 128) where
    abbrev n : ℕ
    n = out'.count

    count_is : length es ≡ n
    count_is = omega (arith, w.held.counts)

    -- the buffer, once the count is written
    abbrev pub bytes : List ℕ
    bytes = take (8 + n * 10) (set out'.bytes 5 n)

    rule_is : bytes ≡ rule_of φ
    unfolding encoded
    rule_is =
        take-set-lt (8 + n * 10) out'.bytes 5 n (omega arith)
        ∙ ap (λ (s : List ℕ). set s 5 n) (w.held.bytes (omega (arith, count_is)))
        ∙ ap (λ (m : ℕ). 0x4B ∷ 0x52 ∷ 0x4C ∷ 0 ∷ 1 ∷ m ∷ 0 ∷ 0 ∷ body es) (sym count_is)

    abbrev misplaces : Bool
    misplaces = any (length es) (misplaced_at es)

    abbrev exceeds : Bool
    exceeds = over_limit 1 es (length es)

    abbrev number : ℕ
    number = first 6 misplaces (first 8 exceeds 0)

    weighs : measured (rule_of φ)
        ≡ cond (eqb number 0)
        (record { number = 0; words = words 1 es (length es); reach = reach_of (some (φ ∷ [])) })
        (refused number)
    weighs = weighed es (omega (arith, count_is)) φ refl (none_misshapen text φ w.derived)

    -- what remains of the refusals
    pending : text_refusal text (Some φ) (length rule) ≡ first 6 misplaces (first 8 exceeds (first 18 (ltb (length rule) (8 + length es * 10)) 0))
    unfolding parsed_refusal
    pending = simp (w.readable, le-ltb 128 (length es) (omega (arith, count_is)))

    -- the number that `measure` answers
    weighed_number : (measured (rule_of φ)).number ≡ number
    weighed_number =
        ap (λ (x : Answer). x.number) weighs
        ∙ by misplaces (λ a. simp a) (λ a. by exceeds (λ b. simp (a, b)) (λ b. simp (a, b)))

    pub stopped : (r : Refusal) → measure_answer (Err r) ≡ measured bytes → Parses text rule (Err r) rule
    stopped r e =
        let f : number_of r ≡ number = ap (λ (x : Answer). x.number) (e ∙ ap measured rule_is) ∙ weighed_number in
        refuses text rule (Some φ) r w.derived
        (by misplaces (λ a. pending ∙ simp a (sym (f ∙ simp a)))
        (λ a. by exceeds
        (λ b. pending ∙ simp (a, b) (sym (f ∙ simp (a, b))))
        (λ b. let z : number ≡ 0 = simp (a, b) in absurd (omega (arith, number_positive r)))))

    -- `measure` gave the words and the reach
    module _ (m : Measured) (e : measure_answer (Ok m) ≡ measured bytes) where
      none_left : number ≡ 0
      none_left = sym weighed_number ∙ sym (ap (λ (x : Answer). x.number) (e ∙ ap measured rule_is))

      rest : text_refusal text (Some φ) (length rule) ≡ first 18 (ltb (length rule) (8 + length es * 10)) 0
      rest =
          by misplaces (λ a. let z : number ≡ 6 = simp a in absurd (omega (arith, none_left)))
          (λ a. by exceeds
          (λ b. let z : number ≡ 8 = simp (a, b) in absurd (omega (arith, none_left)))
          (λ b. pending ∙ simp (a, b)))

      pub no_room : length rule < 8 + n * 10 → Parses text rule (Err ShortRule) rule
      no_room h = refuses text rule (Some φ) ShortRule w.derived (rest ∙ simp (lt-ltb (length rule) (8 + length es * 10) (omega (arith, count_is))))

      rule_length : length (rule_of φ) ≡ 8 + n * 10
      unfolding encoded
      rule_length = omega (arith, length_body es, count_is)

      pub wrote : 8 + n * 10 ≤ length rule → (rule' : List ℕ) → rule' ≡ bytes ++ drop (8 + n * 10) rule
          → Parses text rule (Ok (8 + n * 10)) rule'
      wrote h rule' is =
          let z : text_refusal text (Some φ) (length rule) ≡ 0 = rest ∙ simp (le-ltb (length rule) (8 + length es * 10) (omega (arith, count_is))) in
          record {
            derives = Some φ;
            derived = w.derived;
            answers = ap (λ (k : ℕ). record { number = 0; written = k }) (sym rule_length) ∙ sym (simp (eq-eqb (text_refusal text (Some φ) (length rule)) 0 z));
            leaves = is ∙ ap (λ (s : List ℕ). s ++ drop (8 + n * 10) rule) rule_is ∙ ap (λ (k : ℕ). rule_of φ ++ drop k rule) (sym rule_length) ∙ sym (simp (eq-eqb (text_refusal text (Some φ) (length rule)) 0 z));
          }
