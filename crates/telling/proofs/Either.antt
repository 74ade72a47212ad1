-- The lines behind that of an or are those of its operands that it gives. Assumes nothing.
use Prim.Native.Nat.{ℕ, ◌+◌, ◌-◌, ◌*◌, ◌≤◌}
use mathlib.Core.Bool.{Bool, true, false}
use mathlib.Core.Path.{◌≡◌, refl, sym, ◌∙◌, ap, subst}
use mathlib.Core.List.{List, [], ◌∷◌, ◌++◌, append_assoc}
use native.Mathlib.Omega.{arith}
use lib.ListN.{length}
use Rattle.mtl.specs.Formula.{Formula}
use Rattle.mtl.specs.Formula.Formula.{or}
use Rattle.mtl.specs.Log.{Log}
use Rattle.mtl.specs.Satisfaction.{sat}
use Rattle.mtl.proofs.Until.{progress_or}
use Rattle.rule.specs.Postfix.{size}
use Rattle.rule.specs.Operands.{FormulaAt}
use Rattle.window.specs.Window.{Keeps}
use Rattle.window.specs.declared.view.View.{View}
use Rattle.window.specs.declared.KeptCopy.{KeptCopy}
use Rattle.engine.specs.Table.{row_at}
use Rattle.engine.specs.declared.table.Row.{Row}
use Rattle.reasons.specs.Reason.{Line, reason}
use Rattle.reasons.specs.Text.{spaced_line, parts, text}
use Rattle.sentences.specs.Said.{Answering}
use Rattle.sentences.proofs.Operands.{open_settled, answered_here, one_answers, left_answers, left_number}
use Rattle.decimal.specs.Written.{Cuts}
use Rattle.decimal.specs.declared.Text.{Text}
use Rattle.telling.specs.Lines.{Wrote, Telling, Tells, TellingEither, TellsEither}
use Rattle.telling.proofs.Rooms.{or_left, or_right, lent_below}
use Rattle.telling.proofs.Writing.{wrote_more, wrote_cut}

text_both : (ls ms : List Line) → text (ls ++ ms) ≡ text ls ++ text ms
unfolding text
text_both [] ms = refl
text_both (l ∷ ls) ms = ap (λ (x : List ℕ). spaced_line (parts l) ++ x) (text_both ls ms) ∙ sym (append_assoc (spaced_line (parts l)) (text ls) (text ms))

module _ {t : List Row} {v : View} {s words : List ℕ} {copy waiting : KeptCopy} {k i : ℕ} {text₀ : Text} (p : TellingEither t v s words copy waiting k i text₀) where
  -- LEFT

  pub may_left : (j : ℕ) → j ≡ (row_at t k).left → Telling t v s words copy waiting j i text₀
  may_left j is =
      let (below, same) = or_left p.lent p.kind in
      let words_there = ap (λ (q : ℕ). (row_at t q).words) is in
      let far = p.far in
      let space = p.space in
      record { lent = lent_below p.lent j (omega arith) refl (p.lent.copy_keeps, p.lent.waiting_keeps); far = omega arith; space = omega arith }

  module _ {j : ℕ} (is : j ≡ (row_at t k).left) {first : Bool} {text₁ : Text} (firsts : Tells t v s j i text₀ first text₁) where
    left_ends : text₁.at ≤ text₀.at + 3 * (row_at t k).left_words
    left_ends =
        let (below, same) = or_left p.lent p.kind in
        let words_there = ap (λ (q : ℕ). (row_at t q).words) is in
        let room = firsts.grows.room in
        omega arith

    lefts : (φ ψ : Formula) (L : Log) → Answering (or φ ψ) t v s k L i →
        (first ≡ sat φ L i) × Wrote text₀.bytes.now text₀.at (text (reason φ (k - 1 - size ψ) L i)) text₁.at text₁.bytes.now
    unfolding FormulaAt
    lefts φ ψ L an =
        let there = left_number t v s L (or φ ψ) ψ k i an refl an.formula.3 in
        let both = progress_or L φ ψ in
        let answered = answered_here t v s L (or φ ψ) k i an in
        let open_left = open_settled φ L an.shown.unclosed in
        let answers = left_answers t v s L (or φ ψ) φ k i i an refl an.formula.2 (omega arith) in
        rw (is ∙ there) at (firsts.meaning φ L (subst (λ (n : ℕ). Answering φ t v s n L i) (sym is) answers))

    pub tells_left : first ≡ true → TellsEither t v s k i text₀ true text₁
    tells_left holds =
        let starts = firsts.grows.starts in
        let ends = left_ends in
        record {
          grows = record { same = firsts.grows.same; size = firsts.grows.size; starts = omega arith; room = omega arith };
          meaning = λ φ ψ L an.
              let (same, wrote) = lefts φ ψ L an in
              let yes : sat φ L i ≡ true = sym same ∙ holds in
              rw yes (refl, wrote);
        }

    -- RIGHT

    pub may_right : {words' : List ℕ} {copy' waiting' : KeptCopy} → length words' ≡ length words → Keeps s copy' × Keeps s waiting' →
        Telling t v s words' copy' waiting' (k - 1) i text₁
    may_right kept copies =
        let text_kept = firsts.grows.size in
        let (below, same) = or_right p.lent p.kind in
        let ends = left_ends in
        let far = p.far in
        let space = p.space in
        record { lent = lent_below p.lent (k - 1) (omega arith) kept copies; far = omega arith; space = omega arith }

    module _ (fails : first ≡ false) {second : Bool} {text₂ : Text} (seconds : Tells t v s (k - 1) i text₁ second text₂) where
      right_ends : text₂.at ≤ text₀.at + 3 * ((row_at t k).left_words + (row_at t k).right_words)
      right_ends =
          let (below, same) = or_right p.lent p.kind in
          let ends = left_ends in
          let room = seconds.grows.room in
          omega arith

      rights : (φ ψ : Formula) (L : Log) → Answering (or φ ψ) t v s k L i →
          (second ≡ sat ψ L i) × Wrote text₁.bytes.now text₁.at (text (reason ψ (k - 1) L i)) text₂.at text₂.bytes.now
      unfolding FormulaAt
      rights φ ψ L an =
          let both = progress_or L φ ψ in
          let answered = answered_here t v s L (or φ ψ) k i an in
          let open_right = open_settled ψ L an.shown.unclosed in
          seconds.meaning ψ L (one_answers t v s L (or φ ψ) ψ k i i an an.formula.3 (omega arith))

      pub tells_both : second ≡ false → TellsEither t v s k i text₀ false text₂
      tells_both denied =
          let up = firsts.grows.starts in
          let on = seconds.grows.starts in
          let ends = right_ends in
          record {
            grows = record { same = seconds.grows.same ∙ firsts.grows.same; size = seconds.grows.size ∙ firsts.grows.size; starts = omega arith; room = omega arith };
            meaning = λ φ ψ L an.
                let (left_is, left-wrote) = lefts φ ψ L an in
                let (right_is, right-wrote) = rights φ ψ L an in
                let left_no : sat φ L i ≡ false = sym left_is ∙ fails in
                let right_no : sat ψ L i ≡ false = sym right_is ∙ denied in
                rw (left_no, right_no, text_both (reason φ (k - 1 - size ψ) L i) (reason ψ (k - 1) L i)) (refl, wrote_more left-wrote right-wrote);
          }

      pub may_cut : (text₀.at ≤ text₁.at) × (text₁.at ≤ text₂.at) × (text₂.at ≤ length text₂.bytes.now)
      may_cut =
          let ends = right_ends in
          let space = p.space in
          let kept = seconds.grows.size ∙ firsts.grows.size in
          (firsts.grows.starts, seconds.grows.starts, omega arith)

      pub tells_right : second ≡ true → {from to : ℕ} {text₃ : Text} → from ≡ text₀.at → to ≡ text₁.at → Cuts text₂ from to text₃ → TellsEither t v s k i text₀ true text₃
      tells_right holds start_is middle_is cuts_there =
          let cuts = rw (start_is, middle_is) at cuts_there in
          let up = firsts.grows.starts in
          let on = seconds.grows.starts in
          let ends = right_ends in
          let moved = cuts.ends in
          let space = p.space in
          record {
            grows = record {
              same = cuts.same ∙ seconds.grows.same ∙ firsts.grows.same;
              size = cuts.size ∙ seconds.grows.size ∙ firsts.grows.size;
              starts = omega arith;
              room = omega arith;
            };
            meaning = λ φ ψ L an.
                let (left_is, left-wrote) = lefts φ ψ L an in
                let (right_is, right-wrote) = rights φ ψ L an in
                let left_no : sat φ L i ≡ false = sym left_is ∙ fails in
                let right_yes : sat ψ L i ≡ true = sym right_is ∙ holds in
                rw (left_no, right_yes) (refl, wrote_cut left-wrote right-wrote (omega arith) up on cuts);
          }
