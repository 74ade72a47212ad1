-- The answers of the cycle of calls {answer, ask, fill}.
use Prim.Native.Nat.{ℕ, zero, suc, ◌+◌, ◌*◌, ◌-◌, ◌<◌, ◌≤◌, ◌^◌}
use mathlib.Core.Bool.{Bool, true, false}
use mathlib.Core.Path.{◌≡◌, refl, sym, subst, ap, ◌∙◌}
use mathlib.Core.List.{List}
use native.Mathlib.Omega.{arith}
use lib.Dec.{eqb-suc-zero}
use lib.ListN.{length, drop}
use Rattle.mtl.proofs.Bounded.{true_and_false}
use Rattle.window.specs.Window.{Keeps}
use Rattle.blocks.specs.Block.{left_count}
use Rattle.blocks.specs.Kinds.{takes_left, takes_right}
use Rattle.blocks.specs.Step.{left_to_do}
use Rattle.engine.specs.Table.{RowsOk, row_at, kind_at}
use Rattle.std.specs.Prelude.{Option}
use Rattle.blocks.specs.declared.Batch.{Batch}
use Rattle.engine.specs.Answer.{Answers}
use Rattle.engine.specs.Ask.{part, Fills, Refills}
use Rattle.engine.proofs.Parts.{length_part}
use Rattle.engine.proofs.Parts.Side.{on_left, on_right}
use Rattle.engine.proofs.Drive.{stands_first, Standing, standing, bound, room, may_advance, may_ask, batch_turn, none_turn, again_stands, open_turn, Topped, topped, left_short, short_top, right_last, Made, one_step, two_steps, as_told, again_less, wanted_open, wanted_less, wanted_stands, asked_open, asked_batch}
use Rattle.engine.proofs.+answer_ask_fill.Goals as goal
use Rattle.engine.proofs.+answer_ask_fill.Goals.{answer-then-filled+in-Again, answer-then-filled+in_default, answer-else-filled, fill-then-takes_left+else-not-filled, fill-else-takes_left, answer-At-loop-step, answer-Joined-filled, fill-After-ask-filled, fill-Joined-takes_left, fill-Start}

-- every kind but letter's takes an operand
right_taken : (n : ℕ) → 0 < n → takes_right n ≡ true
right_taken zero some = absurd (omega arith)
right_taken (suc n) some = rw (eqb-suc-zero n) refl

letter_kind : (n : ℕ) → takes_right n ≡ false → n ≡ 0
letter_kind zero e = refl
letter_kind (suc n) e = absurd (true_and_false (right_taken (suc n) (omega arith)) e)

operator_kind : (n : ℕ) → takes_right n ≡ true → 0 < n
operator_kind zero e = absurd (true_and_false e refl)
operator_kind (suc n) e = omega arith

-- the words at the head of the loop
answer_here : (t : ℕ) (d : answer-At-loop-step t) →
    let a = d.args in
    let row = row_at a.table.now a.k in Standing a.table.now a.view.now a.records.now a.k row.left_words row.right_words (length a.words.now) a.words.now d.loop-step.words
answer_here t d = standing d.requires.0 d.requires.1 d.requires.2 d.loop-step.invariant.0 d.loop-step.invariant.3

-- the buffers are filled, and one step or two are made
answer_made : (t : ℕ) (d : answer-Joined-filled t) →
    let a = d.args in
    let row = row_at a.table.now a.k in
    let fill = d.fill-filled in
    let words = d.if-filled.words in
    (length words ≡ length a.words.now) ×
    Keeps a.records.now d.if-filled.copy ×
    Keeps a.records.now d.if-filled.waiting ×
    Made a.table.now a.view.now a.records.now a.k row.left_words row.right_words (length a.words.now) a.words.now d.loop-step.words fill.result d.if-filled.step words
answer_made t d =
    let fill = d.fill-filled in
    let first = d.advance-step in
    let own = d.own_at-own.ensures in
    let filled = fill.auto.words ∙ d.loop-step.invariant.0 in
    let went = first.auto.words ∙ filled in
    let here = standing d.requires.0 d.requires.1 d.requires.2 d.loop-step.invariant.0 d.loop-step.invariant.3 in
    let made = one_step here filled (rw own at fill.ensures.refills) (rw own at first.ensures.advances) in
    elim d.if-filled.branch [
      | answer-then-filled+in-Again w ↦ (
        ap length w.words-is ∙ w.advance-step-in-Again.auto.words ∙ went,
        rw w.copy-is w.advance-step-in-Again.ensures.keeps.0,
        rw w.waiting-is w.advance-step-in-Again.ensures.keeps.1,
        rw (w.words-is, w.step-is) (two_steps w.if-filled.true went (as_told w.in-Again.is made) (rw own at w.advance-step-in-Again.ensures.advances)),
      )
      | answer-then-filled+in_default w ↦ (
        ap length w.words-is ∙ went,
        rw w.copy-is first.ensures.keeps.0,
        rw w.waiting-is first.ensures.keeps.1,
        rw (w.words-is, w.step-is) made,
      )
      | answer-else-filled w ↦ (
        ap length w.words-is ∙ went,
        rw w.copy-is first.ensures.keeps.0,
        rw w.waiting-is first.ensures.keeps.1,
        rw (w.words-is, w.step-is) made,
      )
    ]

-- what the copies keep then is the log's
answer_keeps : (t : ℕ) (d : answer-Joined-filled t) → Keeps d.args.records.now d.if-filled.copy × Keeps d.args.records.now d.if-filled.waiting
answer_keeps t d = let made = answer_made t d in (made.1, made.2)

-- the row that the caller has read, and the words as they are
fill_here : (t : ℕ) (d : fill-Start t) →
    let a = d.args in
    let row = row_at a.table.now a.k in Standing a.table.now a.view.now a.records.now a.k row.left_words row.right_words (length a.words.now) a.words.now a.words.now
fill_here t d = standing d.requires.0 d.requires.1 d.requires.5 refl (stands_first _ _ _ _ _)

-- left is asked
fill_left : (t : ℕ) (d : fill-After-ask-filled t) →
    let a = d.args in Topped a.table.now a.view.now a.records.now a.k (row_at a.table.now a.k).left_words (row_at a.table.now a.k).right_words (length a.words.now) a.words.now a.words.now on_left d.ask-filled.result d.ask-filled.new.words
fill_left t d =
    let s = d.requires in
    topped (standing s.0 s.1 s.5 refl (stands_first _ _ _ _ _)) on_left (sym d.takes_left.ensures ∙ d.if-takes_left.true) d.ask-filled.result _ d.ask-filled.auto.words
    (rw (d.from.ensures, s.3, s.4) at d.ask-filled.ensures.fills)

-- before right is asked: left has answers, or there is no left operand
fill_mid : (t : ℕ) (d : fill-Joined-takes_left t) →
    let a = d.args in
    let own = (row_at a.table.now a.k).left_words + (row_at a.table.now a.k).right_words in
    Standing a.table.now a.view.now a.records.now a.k (row_at a.table.now a.k).left_words (row_at a.table.now a.k).right_words (length a.words.now) a.words.now d.if-takes_left.words ×
    Keeps a.records.now d.if-takes_left.copy ×
    Keeps a.records.now d.if-takes_left.waiting ×
    (takes_left (kind_at a.table.now a.k) ≡ true → 0 < left_count (drop own d.if-takes_left.words)) ×
    (left_to_do a.view.now (drop own d.if-takes_left.words) ≤ left_to_do a.view.now (drop own a.words.now))
fill_mid t d =
    elim d.if-takes_left.branch [
      | fill-then-takes_left+else-not-filled w ↦ let top = topped (standing d.requires.0 d.requires.1 d.requires.5 refl (stands_first _ _ _ _ _)) on_left (sym d.takes_left.ensures ∙ w.if-takes_left.true) w.ask-filled.result _ w.ask-filled.auto.words (rw (w.from.ensures, d.requires.3, d.requires.4) at w.ask-filled.ensures.fills) in (
        rw w.words-is top.here,
        rw w.copy-is w.ask-filled.ensures.keeps.0,
        rw w.waiting-is w.ask-filled.ensures.keeps.1,
        λ takes. rw w.words-is (top.some w.if-not-filled.false),
        rw w.words-is top.less,
      )
      | fill-else-takes_left w ↦ (
        rw w.words-is (standing d.requires.0 d.requires.1 d.requires.5 refl (stands_first _ _ _ _ _)),
        rw w.copy-is d.requires.6,
        rw w.waiting-is d.requires.7,
        λ takes. absurd (true_and_false takes (sym d.takes_left.ensures ∙ w.if-takes_left.false)),
        rw w.words-is (omega arith),
      )
    ]

-- an entry before it, and room for right's answers
fill_right : (t : ℕ) (d : fill-Start t) → (0 < d.args.k) × (d.args.own + 3 < 2 ^ 64)
fill_right t d =
    let s = d.requires in
    let read = (fill_here t d).read in
    (omega (arith, s.1, (may_ask read on_right (right_taken _ s.2)).0), omega (arith, s.4, s.5, bound read, room read))

-- right may be asked, in whichever order the copies are lent
fill_asks : (t : ℕ) (d : fill-Joined-takes_left t) →
    let a = d.args in
    ((a.k - 1) * 3 + 3 < t) × (a.k - 1 < 128) × RowsOk a.table.now (a.k - 1) × (a.split + (row_at a.table.now (a.k - 1)).words ≡ a.own) ×
    (a.own ≤ length d.if-takes_left.words) ×
    (a.own + 3 + 1 < length d.if-takes_left.words)
fill_asks t d =
    let s = d.requires in
    let read = (standing {v = d.args.view.now} {s = d.args.records.now} d.requires.0 d.requires.1 d.requires.5 refl (stands_first _ _ _ _ _)).read in
    let m = may_ask read on_right (right_taken _ s.2) in
    let fits = room read in
    let last = (fill_mid t d).0.last in
    (omega (arith, m.0, d.decreases), m.1, m.2, rw (s.3, s.4) m.3, omega (arith, s.4, s.5), omega (arith, s.4, s.5))

-- and was asked
fill_told : (t : ℕ) (d : fill-Joined-takes_left t) →
    let a = d.args in
    (r : Bool) (words : List ℕ) → length words ≡ length d.if-takes_left.words →
    Fills a.table.now a.view.now a.records.now (a.k - 1) a.split a.own (a.own + 3) d.if-takes_left.words r words →
    Refills a.table.now a.view.now a.records.now a.k a.own a.words.now r words
fill_told t d r words kept fills =
    let s = d.requires in
    let mid = fill_mid t d in
    rw s.4 (right_last mid.3 mid.4 (topped mid.0 on_right (right_taken _ s.2) r words (kept ∙ mid.0.last) (rw (s.3, s.4) at fills)))

-- a letter is read
pub answer-answer_letter-requires : goal.answer-answer_letter-requires
answer-answer_letter-requires t c = let pre = c.requires in
    (pre.0, pre.1, letter_kind _ (sym c.takes_right.ensures ∙ c.if-not-takes_right.true), pre.2, pre.3, pre.5)

pub answer-loop-step-init : goal.answer-loop-step-init
answer-loop-step-init t c = (refl, c.requires.3, c.requires.4, stands_first _ _ _ _ _)

-- the buffers are filled
pub answer-fill-filled-requires : goal.answer-fill-filled-requires
answer-fill-filled-requires t c = let read = (answer_here t (goal.at.answer-fill-filled-requires t c).At-loop-step).read in
    let may = may_advance read c.loop-step.words c.loop-step.invariant.0 in
    let less : c.args.k * 3 + 1 < t = omega (arith, c.decreases) in
    (less, (may.0, may.1, operator_kind _ (sym c.takes_right.ensures ∙ c.if-not-takes_right.false), c.from-left_words.ensures, c.own_at-own.ensures, may.3, c.loop-step.invariant.1, c.loop-step.invariant.2, c.requires.5))

-- a step is made
pub answer-advance-step-requires : goal.answer-advance-step-requires
answer-advance-step-requires t c = let fill = c.fill-filled in
    let may = may_advance (answer_here t (goal.at.answer-advance-step-requires t c).At-loop-step).read fill.new.words (fill.auto.words ∙ c.loop-step.invariant.0) in
    (may.0, may.1, operator_kind _ (sym c.takes_right.ensures ∙ c.if-not-takes_right.false), c.own_at-own.ensures, may.3, fill.ensures.keeps.0, fill.ensures.keeps.1, c.requires.5)

-- and a second one
pub answer-advance-step-requires-in-Again : goal.answer-advance-step-requires-in-Again
answer-advance-step-requires-in-Again t c = let fill = c.fill-filled in
    let first = c.advance-step in
    let may = may_advance (answer_here t (goal.at.answer-advance-step-requires-in-Again t c).At-loop-step).read first.new.words (first.auto.words ∙ fill.auto.words ∙ c.loop-step.invariant.0) in
    (may.0, may.1, operator_kind _ (sym c.takes_right.ensures ∙ c.if-not-takes_right.false), c.own_at-own.ensures, may.3, first.ensures.keeps.0, first.ensures.keeps.1, c.requires.5)

pub answer-returns-then-count-eq0-clause-answers : goal.answer-returns-then-count-eq0-clause-answers
answer-returns-then-count-eq0-clause-answers t c = let made = answer_made t (goal.at.answer-returns-then-count-eq0-clause-answers t c).Joined-filled in
    none_turn c.if-count-eq0.true (as_told c.in-Batch.is made.3).turn

pub answer-returns-then-count-eq0-clause-keeps : goal.answer-returns-then-count-eq0-clause-keeps
answer-returns-then-count-eq0-clause-keeps t c = answer_keeps t (goal.at.answer-returns-then-count-eq0-clause-keeps t c).Joined-filled

pub answer-returns-in-Batch-clause-answers : goal.answer-returns-in-Batch-clause-answers
answer-returns-in-Batch-clause-answers t c = let made = answer_made t (goal.at.answer-returns-in-Batch-clause-answers t c).Joined-filled in
    batch_turn (as_told c.in-Batch.is made.3).turn

pub answer-returns-in-Batch-clause-keeps : goal.answer-returns-in-Batch-clause-keeps
answer-returns-in-Batch-clause-keeps t c = answer_keeps t (goal.at.answer-returns-in-Batch-clause-keeps t c).Joined-filled

pub answer-returns-in-Open-clause-answers : goal.answer-returns-in-Open-clause-answers
answer-returns-in-Open-clause-answers t c = let made = answer_made t (goal.at.answer-returns-in-Open-clause-answers t c).Joined-filled in
    open_turn (as_told c.in-Open.is made.3).turn

pub answer-returns-in-Open-clause-keeps : goal.answer-returns-in-Open-clause-keeps
answer-returns-in-Open-clause-keeps t c = answer_keeps t (goal.at.answer-returns-in-Open-clause-keeps t c).Joined-filled

-- it took positions
pub answer-loop-step-smaller-in-Again-step : goal.answer-loop-step-smaller-in-Again-step
answer-loop-step-smaller-in-Again-step t c = again_less (as_told c.in-Again-step.is (answer_made t (goal.at.answer-loop-step-smaller-in-Again-step t c).Joined-filled).3)

pub answer-loop-step-preserved-in-Again-step : goal.answer-loop-step-preserved-in-Again-step
answer-loop-step-preserved-in-Again-step t c = let made = answer_made t (goal.at.answer-loop-step-preserved-in-Again-step t c).Joined-filled in
    (made.0, made.1, made.2, again_stands (as_told c.in-Again-step.is made.3).turn)

pub answer-returns-then-not-filled-clause-answers : goal.answer-returns-then-not-filled-clause-answers
answer-returns-then-not-filled-clause-answers t c =
    let whole = wanted_open on_left c.in-Left.is c.if-not-filled.true (answer_made t (goal.at.answer-returns-then-not-filled-clause-answers t c).Joined-filled) in
    whole.0

pub answer-returns-then-not-filled-clause-keeps : goal.answer-returns-then-not-filled-clause-keeps
answer-returns-then-not-filled-clause-keeps t c = answer_keeps t (goal.at.answer-returns-then-not-filled-clause-keeps t c).Joined-filled

pub answer-loop-step-smaller-else-not-filled : goal.answer-loop-step-smaller-else-not-filled
answer-loop-step-smaller-else-not-filled t c = wanted_less on_left c.in-Left.is c.if-not-filled.false (answer_made t (goal.at.answer-loop-step-smaller-else-not-filled t c).Joined-filled).3

pub answer-loop-step-preserved-else-not-filled : goal.answer-loop-step-preserved-else-not-filled
answer-loop-step-preserved-else-not-filled t c = wanted_stands on_left c.in-Left.is (answer_made t (goal.at.answer-loop-step-preserved-else-not-filled t c).Joined-filled)

pub answer-returns-then-not-filled-2-clause-answers : goal.answer-returns-then-not-filled-2-clause-answers
answer-returns-then-not-filled-2-clause-answers t c =
    let whole = wanted_open on_right c.in-Right.is c.if-not-filled-2.true (answer_made t (goal.at.answer-returns-then-not-filled-2-clause-answers t c).Joined-filled) in
    whole.0

pub answer-returns-then-not-filled-2-clause-keeps : goal.answer-returns-then-not-filled-2-clause-keeps
answer-returns-then-not-filled-2-clause-keeps t c = answer_keeps t (goal.at.answer-returns-then-not-filled-2-clause-keeps t c).Joined-filled

pub answer-loop-step-smaller : goal.answer-loop-step-smaller
answer-loop-step-smaller t c = wanted_less on_right c.in-Right.is c.if-not-filled-2.false (answer_made t (goal.at.answer-loop-step-smaller t c).Joined-filled).3

pub answer-loop-step-preserved : goal.answer-loop-step-preserved
answer-loop-step-preserved t c = wanted_stands on_right c.in-Right.is (answer_made t (goal.at.answer-loop-step-preserved t c).Joined-filled)

-- the buffer has answers
pub ask-returns-then-words-slot-ne0-clause-fills : goal.ask-returns-then-words-slot-ne0-clause-fills
ask-returns-then-words-slot-ne0-clause-fills t c = record { some = λ some. (refl, refl); none = λ e. absurd (c.if-words-slot-ne0.true e) }

-- the operand is asked
pub ask-answer-reply-requires : goal.ask-answer-reply-requires
ask-answer-reply-requires t c = let a = c.args in
    let pre = c.requires in
    let less : a.operand * 3 + 2 < t = omega (arith, c.decreases) in
    let inside : a.to ≤ length a.words.now = omega (arith, pre) in
    let size : length (part a.from a.to a.words.now) ≡ (row_at a.table.now a.operand).words =
    omega (arith, pre, length_part a.from a.to a.words.now inside) in
    (less, (pre.0, pre.1, size, pre.5, pre.6, pre.7))

pub ask-returns-in_default-clause-fills : goal.ask-returns-in_default-clause-fills
ask-returns-in_default-clause-fills t c = let a = c.args in
    let pre = c.requires in
    let none = c.if-words-slot-ne0.false in
    let y = c.answer-reply in
    let ys = y.new.words in record {
      some = λ some. absurd (omega (arith, some, none));
      none = λ e.
          asked_open a.table.now a.view.now a.records.now a.operand a.from a.to a.slot a.words.now ys (omega (arith, pre)) (omega (arith, pre))
          y.auto.words
          (subst (λ (r : Option Batch). Answers a.table.now a.view.now a.records.now a.operand (part a.from a.to a.words.now) r ys) c.in_default.is y.ensures.answers);
    }

pub ask-returns-clause-fills : goal.ask-returns-clause-fills
ask-returns-clause-fills t c = let a = c.args in
    let pre = c.requires in
    let none = c.if-words-slot-ne0.false in
    let y = c.answer-reply in
    let ys = y.new.words in record {
      some = λ some. absurd (omega (arith, some, none));
      none = λ e.
          asked_batch a.table.now a.view.now a.records.now a.operand a.from a.to a.slot a.words.now ys (omega (arith, pre)) (omega (arith, pre))
          y.auto.words
          c.in-Some.batch.bits c.in-Some.batch.count c.in-Some.ensures.some
          (subst (λ (r : Option Batch). Answers a.table.now a.view.now a.records.now a.operand (part a.from a.to a.words.now) r ys) c.in-Some.is y.ensures.answers)
          c.store.new.words
          c.store.ensures;
    }

-- left is asked
pub fill-overflow_add-own : goal.fill-overflow_add-own
fill-overflow_add-own t c = let s = c.requires in omega (arith, s.4, s.5, bound (fill_here t (goal.at.fill-overflow_add-own t c).Start).read, room (fill_here t (goal.at.fill-overflow_add-own t c).Start).read)

pub fill-ask-filled-requires : goal.fill-ask-filled-requires
fill-ask-filled-requires t c = let s = c.requires in
    let left = c.from.ensures in
    let read = (fill_here t (goal.at.fill-ask-filled-requires t c).Start).read in
    let m = may_ask read on_left (sym c.takes_left.ensures ∙ c.if-takes_left.true) in
    let fits = room read in
    let less : c.from.result * 3 + 3 < t = omega (arith, m.0, left, c.decreases) in
    (less, (rw left m.1, rw left m.2, rw (left, s.3) m.3, omega (arith, s.3, s.5), omega (arith, s.4, s.5), s.6, s.7, s.8))

pub fill-returns-then-not-filled-clause-refills : goal.fill-returns-then-not-filled-clause-refills
fill-returns-then-not-filled-clause-refills t c = let top = fill_left t (goal.at.fill-returns-then-not-filled-clause-refills t c).After-ask-filled in
    rw c.requires.4 (left_short (sym c.takes_left.ensures ∙ c.if-takes_left.true) (short_top c.if-not-filled.true top))

-- right is asked, the copies exchanged
pub fill-overflow_sub-k : goal.fill-overflow_sub-k
fill-overflow_sub-k t c = omega (arith, (fill_right t (goal.at.fill-overflow_sub-k t c).Start).0)

pub fill-overflow_add-own-then-is_apart : goal.fill-overflow_add-own-then-is_apart
fill-overflow_add-own-then-is_apart t c = omega (arith, (fill_right t (goal.at.fill-overflow_add-own-then-is_apart t c).Start).1)

pub fill-ask-requires : goal.fill-ask-requires
fill-ask-requires t c = let asks = fill_asks t (goal.at.fill-ask-requires t c).Joined-takes_left in let mid = fill_mid t (goal.at.fill-ask-requires t c).Joined-takes_left in (asks.0, (asks.1, asks.2, asks.3, asks.4, asks.5, mid.2, mid.1, c.requires.8))

pub fill-returns-then-is_apart-clause-refills : goal.fill-returns-then-is_apart-clause-refills
fill-returns-then-is_apart-clause-refills t c = let ask = c.ask in fill_told t (goal.at.fill-returns-then-is_apart-clause-refills t c).Joined-takes_left ask.result _ ask.auto.words ask.ensures.fills

-- or as they are
pub fill-overflow_sub-k-2 : goal.fill-overflow_sub-k-2
fill-overflow_sub-k-2 t c = omega (arith, (fill_right t (goal.at.fill-overflow_sub-k-2 t c).Start).0)

pub fill-overflow_add-own-2 : goal.fill-overflow_add-own-2
fill-overflow_add-own-2 t c = omega (arith, (fill_right t (goal.at.fill-overflow_add-own-2 t c).Start).1)

pub fill-ask-requires-2 : goal.fill-ask-requires-2
fill-ask-requires-2 t c = let asks = fill_asks t (goal.at.fill-ask-requires-2 t c).Joined-takes_left in let mid = fill_mid t (goal.at.fill-ask-requires-2 t c).Joined-takes_left in (asks.0, (asks.1, asks.2, asks.3, asks.4, asks.5, mid.1, mid.2, c.requires.8))

pub fill-returns-clause-refills : goal.fill-returns-clause-refills
fill-returns-clause-refills t c = let ask = c.ask-2 in fill_told t (goal.at.fill-returns-clause-refills t c).Joined-takes_left ask.result _ ask.auto.words ask.ensures.fills
