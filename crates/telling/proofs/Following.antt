-- An entry's line and those of its operands behind it are its reason. Assumes nothing.
use Prim.Native.Nat.{ℕ, ◌+◌, ◌-◌, ◌≤◌, ◌<◌, ◌^◌}
use mathlib.Core.Bool.{Bool, true, false, cond, ◌&&◌, ◌||◌, beq}
use mathlib.Core.Bool.{not as negate}
use mathlib.Core.Path.{◌≡◌, refl, sym, ◌∙◌, ap, subst}
use mathlib.Core.List.{List, [], ◌∷◌, ◌++◌, append-nil}
use native.Mathlib.Omega.{arith}
use lib.Dec.{eqb, ltb}
use lib.ListN.{length}
use Rattle.std.specs.Prelude.{IfSome}
use borrow.Author.Tests.{eqb-true, eqb-false, lt-ltb}
use Rattle.mtl.specs.Formula.{Formula}
use Rattle.mtl.specs.Formula.Formula.{letter, not, or, previous, next, since, until}
use Rattle.mtl.specs.Log.{Log}
use Rattle.mtl.specs.Satisfaction.{within, sat}
use Rattle.mtl.specs.Progress.{progress}
use Rattle.mtl.proofs.Until.{progress_le_size, progress_not, progress_previous, progress_next}
use Rattle.rule.specs.declared.Entry.{Entry}
use Rattle.rule.specs.Operands.{FormulaAt}
use Rattle.blocks.specs.Kinds.{takes_right}
use Rattle.engine.specs.Table.{kind_at}
use Rattle.window.specs.Window.{Keeps}
use Rattle.window.specs.declared.view.View.{View}
use Rattle.window.specs.declared.KeptCopy.{KeptCopy}
use Rattle.decimal.specs.Written.{Room, Puts}
use Rattle.decimal.specs.declared.Text.{Text}
use Rattle.reasons.specs.Reason.{Says, Line, reason}
use Rattle.reasons.specs.Reason.Line.{sentence}
use Rattle.reasons.specs.Reason.Says.{prev, prev_none}
use Rattle.reasons.specs.Text.{text}
use Rattle.sentences.specs.declared.saying.Follows.{Follows}
use Rattle.sentences.specs.declared.saying.Follows.TheVariants.{Nothing, One, Either}
use Rattle.sentences.specs.declared.saying.Saying.{Saying}
use Rattle.sentences.specs.declared.sentence.Sentence.{Sentence}
use Rattle.sentences.specs.Line.{encode, line_text}
use Rattle.sentences.specs.Said.{saying_of, alone, behind_gap, beside, Lent, Answering, Saids}
use Rattle.telling.specs.Lines.{Wrote, Telling, Tells, TellingEither, TellsEither, either_lines}
use Rattle.sentences.proofs.Lines.{line_is}
use Rattle.sentences.proofs.Operands.{open_settled, answered_here, one_answers}
use Rattle.telling.proofs.Rooms.{own_room, right_room, lent_below}
use Rattle.telling.proofs.Writing.{wrote_line, wrote_more}
use Rattle.engine.specs.declared.table.Row.{Row}

-- TEXTS

text_line : (k i : ℕ) (says : Says) (ls : List Line) → text (sentence k i says ∷ ls) ≡ line_text k i (encode says) ++ text ls
unfolding text
text_line k i says ls = ap (λ (x : List ℕ). x ++ text ls) (line_is k i says)

text_one : (k i : ℕ) (says : Says) → text (sentence k i says ∷ []) ≡ line_text k i (encode says)
unfolding text
text_one k i says = text_line k i says [] ∙ append-nil (line_text k i (encode says))

and_no : (a : Bool) → a && false ≡ false
and_no true = refl
and_no false = refl

-- WHAT FOLLOWS

-- one operand's lines
record OneFollows (φ : Formula) (e : List Entry) (L : Log) (k i : ℕ) (says : Sentence) (at : ℕ) (turned : Bool) : Type 0 where
  pub operand : Formula
  pub formula : FormulaAt e (k - 1) operand
  pub answered : at < progress operand L
  pub value : sat φ L i ≡ cond turned (negate (sat operand L at)) (sat operand L at)
  pub lines : text (reason φ k L i) ≡ line_text k i says ++ text (reason operand (k - 1) L at)

-- the lines of an or's operands
record TwoFollow (φ : Formula) (L : Log) (k i : ℕ) (says : Sentence) : Type 0 where
  pub left_one : Formula
  pub right_one : Formula
  pub is : φ ≡ or left_one right_one
  pub value : sat φ L i ≡ (sat left_one L i || sat right_one L i)
  pub lines : text (reason φ k L i) ≡ line_text k i says ++ text (either_lines left_one right_one k L i)

abbrev Follow : (φ : Formula) (e : List Entry) (L : Log) (k i : ℕ) → Sentence → Follows → Type 0
Follow φ e L k i says (Nothing holds) = (holds ≡ sat φ L i) × (text (reason φ k L i) ≡ line_text k i says)
Follow φ e L k i says (One at turned) = OneFollows φ e L k i says at turned
Follow φ e L k i says Either = TwoFollow φ L k i says

what_follows : (φ : Formula) (e : List Entry) (L : Log) (k i : ℕ) → FormulaAt e k φ → i < progress φ L → Follow φ e L k i (saying_of φ L i).says (saying_of φ L i).follows
unfolding sat reason FormulaAt
what_follows (letter c) e L k i f h = (refl, text_one k i _)
what_follows (not φ) e L k i f h =
    record { operand = φ; formula = f.2; answered = omega (arith, progress_not L φ); value = refl; lines = text_line k i _ (reason φ (k - 1) L i) }
what_follows (or φ ψ) e L k i f h =
    record { left_one = φ; right_one = ψ; is = refl; value = refl; lines = text_line k i _ (either_lines φ ψ k L i) }
what_follows (previous low high φ) e L k i f h = by (eqb i 0) refl
  where
    near : (w : Bool) → within low high (L.time (i - 1)) (L.time i) ≡ w → (i ≡ 0 → ⊥) → eqb i 0 ≡ false →
        Follow (previous low high φ) e L k i (encode (prev (L.time i - L.time (i - 1)))) (behind_gap w (i - 1))
    near true same some not_first =
        record {
          operand = φ;
          formula = f.2;
          answered = omega (arith, progress_previous L low high φ);
          value = rw (lt-ltb 0 i (omega arith), same) refl;
          lines = rw (not_first, same) (text_line k i _ (reason φ (k - 1) L (i - 1)));
        }
    near false same some not_first = (rw same (sym (and_no (ltb 0 i))), rw (not_first, same) (text_one k i _))

    by : (b : Bool) → eqb i 0 ≡ b →
        Follow (previous low high φ) e L k i
        (cond b (alone prev_none false) (beside (prev (L.time i - L.time (i - 1))) (within low high (L.time (i - 1)) (L.time i)) (i - 1))).says
        (cond b (alone prev_none false) (beside (prev (L.time i - L.time (i - 1))) (within low high (L.time (i - 1)) (L.time i)) (i - 1))).follows
    by true e =
        let zero_is : i ≡ 0 = eqb-true i 0 e in
        (ap (λ (n : ℕ). ltb 0 n && (within low high (L.time (i - 1)) (L.time i) && sat φ L (i - 1))) (sym zero_is), rw e (text_one k i _))
    by false e = near (within low high (L.time (i - 1)) (L.time i)) refl (eqb-false i 0 e) e
what_follows (next low high φ) e L k i f h = by (within low high (L.time i) (L.time (i + 1))) refl
  where
    by : (w : Bool) → within low high (L.time i) (L.time (i + 1)) ≡ w →
        Follow (next low high φ) e L k i (encode (Says.next (L.time (i + 1) - L.time i))) (behind_gap w (i + 1))
    by true same =
        let ahead : i + 1 < progress φ L = omega (arith, progress_next L low high φ) in
        record {
          operand = φ;
          formula = f.2;
          answered = ahead;
          value = rw (lt-ltb (i + 1) L.size (omega (arith, progress_le_size φ L)), same) refl;
          lines = rw same (text_line k i _ (reason φ (k - 1) L (i + 1)));
        }
    by false same = (rw same (sym (and_no (ltb (i + 1) L.size))), rw same (text_one k i _))
what_follows (since low high φ ψ) e L k i f h = (refl, text_one k i _)
what_follows (until low high φ ψ) e L k i f h = (refl, text_one k i _)

-- the operand's answer, turned or not
turned_is : (a b : Bool) → negate (beq a b) ≡ cond b (negate a) a
turned_is true true = refl
turned_is true false = refl
turned_is false true = refl
turned_is false false = refl

-- THE FUNCTION `tell`, from what its calls do

module _ {t : List Row} {v : View} {s words : List ℕ} {copy waiting : KeptCopy} {k i : ℕ} {text₀ : Text} (p : Telling t v s words copy waiting k i text₀) where
  pub may_say : Lent t v s words copy waiting k × (i ≤ 2000000)
  may_say = let far = p.far in (p.lent, omega arith)

  module _ {r : Saying} (said : Saids t v s k i r) where
    pub may_put : (k < 128) × (i < 10000000) × (IfSome r.says.number (λ (n : ℕ). n < 2 ^ 32)) × Room text₀ 34
    may_put =
        let far = p.far in
        let space = p.space in
        let own = own_room p.lent in
        (p.lent.entry, omega arith, said.shape.number, omega arith)

    module _ {text₁ : Text} (put : Puts text₀ (line_text k i r.says) text₁ × (text₁.at ≤ text₀.at + 34)) where
      own : Wrote text₀.bytes.now text₀.at (line_text k i r.says) text₁.at text₁.bytes.now
      own = let space = p.space in wrote_line put.0.writes (omega arith)

      -- what follows the entry's line, of any formula that ends there
      follow : (f : Follows) → r.follows ≡ f → (φ : Formula) (L : Log) (an : Answering φ t v s k L i) → Follow φ an.entries L k i r.says f
      follow f is φ L an =
          let said_is = said.meaning φ L an in
          subst (λ (x : Saying). x.follows ≡ f → Follow φ an.entries L k i x.says f) (sym said_is)
          (λ e. subst (Follow φ an.entries L k i (saying_of φ L i).says) e (what_follows φ an.entries L k i an.formula (answered_here t v s L φ k i an))) is

      pub tells_none : (b : Bool) → r.follows ≡ Nothing b → Tells t v s k i text₀ b text₁
      tells_none b none =
          let ends = own.ends in
          let short = put.1 in
          let some = own_room p.lent in
          record {
            grows = record { same = put.0.same; size = put.0.size; starts = omega arith; room = omega arith };
            meaning = λ φ L an. let (holds, lines) = follow (Nothing b) none φ L an in (holds, rw lines own);
          }

      module _ (there : ℕ) (turned : Bool) (single : r.follows ≡ One there turned) where
        behind : (there ≤ i + 1) × (takes_right (kind_at t k) ≡ true)
        behind = rw single at said.shape.behind

        -- an entry whose operand is told has one, before it
        pub before : 0 < k
        before = (right_room p.lent behind.1).0

        pub may_tell : {words' : List ℕ} {copy' waiting' : KeptCopy} → length words' ≡ length words → Keeps s copy' × Keeps s waiting' →
            Telling t v s words' copy' waiting' (k - 1) there text₁
        may_tell kept copies =
            let (below, same) = right_room p.lent behind.1 in
            let near = behind.0 in
            let far = p.far in
            let space = p.space in
            let short = put.1 in
            let room = own_room p.lent in
            record { lent = lent_below p.lent (k - 1) (omega arith) kept copies; far = omega arith; space = omega arith }

        pub tells_one : {one : Bool} {text₂ : Text} → Tells t v s (k - 1) there text₁ one text₂ →
            Tells t v s k i text₀ (negate (beq one turned)) text₂
        tells_one {one} tells =
            let (below, same) = right_room p.lent behind.1 in
            let ends = own.ends in
            let short = put.1 in
            let room = own_room p.lent in
            let more = tells.grows in
            let starts = more.starts in
            let most = more.room in
            record {
              grows = record { same = more.same ∙ put.0.same; size = more.size ∙ put.0.size; starts = omega arith; room = omega arith };
              meaning = λ φ L an.
                  let o = follow (One there turned) single φ L an in
                  let open_operand = open_settled o.operand L an.shown.unclosed in
                  let answered = o.answered in
                  let (holds, wrote) = tells.meaning o.operand L (one_answers t v s L φ o.operand k i there an o.formula (omega arith)) in
                  (turned_is one turned ∙ ap (λ (b : Bool). cond turned (negate b) b) holds ∙ sym o.value, rw o.lines (wrote_more own wrote));
            }

      module _ (two : r.follows ≡ Either) where
        pub may_either : {words' : List ℕ} {copy' waiting' : KeptCopy} → length words' ≡ length words → Keeps s copy' × Keeps s waiting' →
            TellingEither t v s words' copy' waiting' k i text₁
        may_either kept copies =
            let space = p.space in
            let short = put.1 in
            let room = own_room p.lent in
            record { lent = lent_below p.lent k (omega arith) kept copies; kind = rw two at said.shape.behind; far = p.far; space = omega arith }

        pub tells_two : {both : Bool} {text₂ : Text} → TellsEither t v s k i text₁ both text₂ → Tells t v s k i text₀ both text₂
        tells_two {both} tells =
            let ends = own.ends in
            let short = put.1 in
            let room = own_room p.lent in
            let more = tells.grows in
            let starts = more.starts in
            let most = more.room in
            record {
              grows = record { same = more.same ∙ put.0.same; size = more.size ∙ put.0.size; starts = omega arith; room = omega arith };
              meaning = λ φ L an.
                  let o = follow Either two φ L an in
                  let (holds, wrote) = tells.meaning o.left_one o.right_one L (subst (λ (χ : Formula). Answering χ t v s k L i) o.is an) in
                  (holds ∙ sym o.value, rw o.lines (wrote_more own wrote));
            }
