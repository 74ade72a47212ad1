-- The turns of an entry's loop: what each outcome of a step makes of the words.
use Prim.Native.Nat.{ℕ, zero, suc, ◌+◌, ◌*◌, ◌-◌, ◌≤◌, ◌<◌, ◌^◌}
use mathlib.Core.Bool.{Bool, true, false}
use mathlib.Core.Logic.{◌⊎◌, inl, inr, ⊎_elim}
use mathlib.Core.Path.{◌≡◌, refl, sym, ap, ◌∙◌}
use mathlib.Core.List.{List, ◌++◌}
use native.Mathlib.Omega.{arith}
use native.Mathlib.Nat.{zero-add}
use lib.ListN.{length, take, drop, length-drop, take-append-drop}
use lib.Seq.{length-take-le, take_at, get_or-drop}
use Rattle.mtl.specs.Formula.{Formula}
use Rattle.mtl.specs.Log.{Log, NeverFalls}
use Rattle.mtl.specs.Progress.{settled_to}
use Rattle.mtl.proofs.Bounded.{le_or_lt, true_and_false}
use Rattle.window.specs.View.{total}
use Rattle.window.specs.declared.view.View.{View as LogView}
use Rattle.rule.specs.Words.{own_words}
use Rattle.rule.specs.Kinds.{number_of_kind}
use Rattle.rule.specs.declared.kind.Kind.{Kind}
use Rattle.rule.specs.declared.kind.Kind.TheVariants.{Letter, Not, Or, Previous, Next, Since, Until}
use Rattle.rule.proofs.Spans.{own_least}
use Rattle.std.specs.Prelude.{Some, None}
use Rattle.blocks.specs.Block.{word, taken, left_count, Onward, Ready}
use Rattle.blocks.specs.Step.{Agrees, Batched, Moved, Stepped, Steps, Ends, has_left, empty, left_to_do}
use Rattle.engine.specs.State.{State}
use Rattle.blocks.specs.Kinds.{takes_left, takes_right, Fields}
use Rattle.engine.specs.declared.table.Row.{Row}
use Rattle.engine.specs.Table.{Has, RowOk, RowsOk, row_at, kind_at}
use Rattle.engine.specs.Answer.{GoesOn, first_read, Answers}
use Rattle.engine.specs.Ask.{part, back, stored, Advances, Asks, Fills, StillStands, Full, Short, Refills}
use Rattle.blocks.specs.declared.Step.{Step}
use Rattle.blocks.specs.declared.Step.TheVariants.{Batch, Left, Right, Again, Open}
use Rattle.engine.proofs.Parts.{part_end, length_part, put_back, back_from, drop_back_last, Side, other, by_side, start, stop, slot, lent, lent_before, Asked, asked, asked_stored}
use Rattle.engine.proofs.Parts.Side.{on_left, on_right}
use Rattle.engine.proofs.Uniform.{View, view, unview, has, of, entry, StandsAt, operand, view_of, agrees_later, step_from, operand_from, row, operand_rows}
use Rattle.blocks.proofs.Onward.{onward_refl}
use Rattle.engine.proofs.Onward.{all_refl, all_trans, OnwardAt, all_from}
use Rattle.engine.proofs.Stored.{stored_at, stored_onward, stored_count, stored_count_other, ready_filled}

-- A STEP

-- the row of entry k as `advance` reads it, and words ws of as many as it has, in which its own block begins at `own`
pub record RowRead (t : List Row) (k kind low high own : ℕ) (ws : List ℕ) : Type 0 where
  pub is_kind : kind ≡ (kind_at t k)
  pub is_low : low ≡ (row_at t k).low
  pub is_high : high ≡ (row_at t k).high
  pub rows : RowsOk t k
  pub some : 0 < kind_at t k
  pub at : own ≡ (row_at t k).left_words + (row_at t k).right_words
  pub all : length ws ≡ (row_at t k).words

-- a kind's number is one of the table of kinds
kind_few : (kind : Kind) → number_of_kind kind ≤ 6
kind_few Letter = omega arith
kind_few Not = omega arith
kind_few Or = omega arith
kind_few Previous = omega arith
kind_few Next = omega arith
kind_few Since = omega arith
kind_few Until = omega arith

module _ {t : List Row} {k kind low high own : ℕ} {ws : List ℕ} (read : RowRead t k kind low high own ws) where
  own_row : RowOk t k
  own_row = read.rows k (omega arith)

  sizes : own + own_words kind high ≡ length ws
  sizes = rw (read.at, read.is_kind, read.is_high, read.all) (sym own_row.words)

  pub own_inside : own ≤ length ws
  own_inside = omega (arith, sizes)

  pub words_few : length ws ≤ 8192
  words_few = rw read.all own_row.bound

  -- what a step requires
  pub may_step : (0 < kind) × (kind ≤ 6) × (high < 2 ^ 32) × (own_words kind high ≤ length (part own (length ws) ws))
  may_step = (
    rw read.is_kind read.some,
    rw read.is_kind (kind_few (row_at t k).kind),
    rw read.is_high own_row.high,
    omega (arith, sizes, length_part own (length ws) ws (omega arith)),
  )

  -- what it gives: block b' put back
  pub advanced : (v : LogView) (s : List ℕ) (r : Step) (b' : List ℕ) →
      Ends (takes_left kind) (takes_right kind) v (part own (length ws) ws) r b' →
      ((φ : Formula) (c : ℕ) → Fields φ kind c low high → Steps φ v s (part own (length ws) ws) r b') →
      Advances t v s k own ws r (put_back own (length ws) b' ws)
  advanced v s r b' ends steps =
      let e = part_end own (length ws) ws refl in
      let put : drop own (put_back own (length ws) b' ws) ≡ b' =
      ap (drop own) (back_from own (length ws) b' ws own_inside) ∙ drop_back_last own (length ws) b' ws own_inside refl in
      record {
        before = take_at (take own ws) (b' ++ drop (length ws - own) (drop own ws)) own (length-take-le own ws own_inside);
        ends = rw put (rw (e, read.is_kind) at ends);
        steps = λ φ row.
            rw put
            (rw e at
            (steps φ
            (row_at t k).letter
            (record {
              kind = read.is_kind ∙ row.fields.kind;
              letter = row.fields.letter;
              low = read.is_low ∙ row.fields.low;
              high = read.is_high ∙ row.fields.high;
            })));
      }

-- THE LOOP

pub stands_first : (t : List Row) (v : LogView) (s : List ℕ) (k : ℕ) (ws : List ℕ) → StillStands t v s k ws ws
stands_first t v s k ws = (λ φ entered. all_refl φ ws, λ φ L g entered never agrees state. state)

-- the row of entry k as `answer` and `fill` read it: its operands have a and c words, and it has `end` in all
pub record Reading (t : List Row) (k a c end : ℕ) : Type 0 where
  pub is_a : a ≡ (row_at t k).left_words
  pub is_c : c ≡ (row_at t k).right_words
  pub few : k < 128
  pub rows : RowsOk t k
  pub all : end ≡ (row_at t k).words

-- words ws, which stand for what words ws₀ stood for
pub record Standing (t : List Row) (v : LogView) (s : List ℕ) (k a c end : ℕ) (ws₀ ws : List ℕ) : Type 0 where
  pub read : Reading t k a c end
  pub last : length ws ≡ end
  pub stands : StillStands t v s k ws₀ ws

-- the same from what the functions require
pub standing : {t : List Row} {v : LogView} {s : List ℕ} {k : ℕ} {ws₀ ws : List ℕ} → k < 128 → RowsOk t k → length ws₀ ≡ (row_at t k).words →
    length ws ≡ length ws₀ → StillStands t v s k ws₀ ws → Standing t v s k (row_at t k).left_words (row_at t k).right_words (length ws₀) ws₀ ws
standing few rows all last stands = record { read = record { is_a = refl; is_c = refl; few = few; rows = rows; all = all }; last = last; stands = stands }

-- one step of entry k, from words ws to words ws'
pub record Turn (t : List Row) (v : LogView) (s : List ℕ) (k a c end : ℕ) (ws₀ ws : List ℕ) (r : Step) (ws' : List ℕ) : Type 0 where
  pub here : Standing t v s k a c end ws₀ ws
  pub step : Advances t v s k (a + c) ws r ws'

-- what a step says that wants an operand
abbrev pub wants : Side → Step
wants on_left = Left
wants on_right = Right

abbrev pub takes : Side → ℕ → Bool
takes on_left = takes_left
takes on_right = takes_right

module _ {t : List Row} {k a c end : ℕ} (read : Reading t k a c end) where
  this_row : RowOk t k
  this_row = read.rows k (omega arith)

  pub bound : end ≤ 8192
  bound = rw read.all this_row.bound

  pub room : a + c + 16 ≤ end
  room = omega (arith, this_row.words, own_least (kind_at t k) (row_at t k).high, read.is_a, read.is_c, read.all)

  -- what `advance` requires
  pub may_advance : (ws : List ℕ) → length ws ≡ end → (k < 128) × RowsOk t k × (a + c ≡ (row_at t k).left_words + (row_at t k).right_words) × (length ws ≡ (row_at t k).words)
  may_advance ws last = (read.few, read.rows, omega (arith, read.is_a, read.is_c), last ∙ read.all)

  -- an operand's row is an earlier one, with its words
  earlier : (side : Side) → takes side (kind_at t k) ≡ true →
      (entry side (row_at t k).left k < k) × (start side a + (row_at t (entry side (row_at t k).left k)).words ≡ stop side a c)
  earlier on_left has = (
    (this_row.left has).0,
    zero-add (row_at t (row_at t k).left).words ∙ rw read.is_a (this_row.left has).1,
  )
  earlier on_right has =
      let some = (this_row.right has).0 in
      (omega arith, ap (λ (n : ℕ). a + n) ((this_row.right has).1 ∙ sym read.is_c))

  -- what asking an operand requires of its entry
  pub may_ask : (side : Side) → takes side (kind_at t k) ≡ true →
      (entry side (row_at t k).left k < k) ×
      (entry side (row_at t k).left k < 128) ×
      RowsOk t (entry side (row_at t k).left k) ×
      (start side a + (row_at t (entry side (row_at t k).left k)).words ≡ stop side a c)
  may_ask side has =
      let e = earlier side has in
      let few = read.few in
      (e.0, omega arith, λ j le. read.rows j (omega arith), e.1)

-- the same words before the block, and the same block
same_words : (own : ℕ) (ws ws' : List ℕ) → take own ws' ≡ take own ws → drop own ws' ≡ drop own ws → ws' ≡ ws
same_words own ws ws' before block =
    sym (take-append-drop own ws') ∙ ap (λ (l : List ℕ). l ++ drop own ws') before ∙ ap (λ (l : List ℕ). take own ws ++ l) block ∙
    take-append-drop own ws

module _ {t : List Row} {v : LogView} {s : List ℕ} {k a c end : ℕ} {ws₀ ws : List ℕ} (here : Standing t v s k a c end ws₀ ws) where
  -- words ws'' whose blocks have gone on from words ws
  goes_from : (ws'' : List ℕ) → Onward 12 (drop (a + c) ws) (drop (a + c) ws'') →
      ((φ : Formula) → Has φ t k → (x : Side) → OnwardAt x a c φ ws ws'') → GoesOn t k ws₀ ws''
  goes_from ws'' own parts φ entered =
      let e = row φ t k entered in
      all_trans φ ws₀ ws ws'' (here.stands.0 φ entered)
      (all_from φ ws ws'' (here.read.is_a ∙ e.left_words) (here.read.is_c ∙ e.right_words) own (parts φ entered))

  module _ (φ : Formula) (L : Log) (g : ℕ) (entered : Has φ t k) where
    viewed : NeverFalls L → Agrees v s L (first_read φ g) → State φ L g ws₀ → View a c φ L g ws
    viewed never agrees state =
        let e = row φ t k entered in
        view φ L g ws (here.read.is_a ∙ e.left_words) (here.read.is_c ∙ e.right_words) (here.stands.1 φ L g entered never agrees state)

    state_of : (p : ℕ) (ws'' b : List ℕ) → drop (a + c) ws'' ≡ b → Ready φ L p b →
        ((side : Side) → StandsAt side a c φ L b ws'') → State φ L p ws''
    state_of p ws'' b own ready parts =
        let e = row φ t k entered in
        unview φ L p ws'' (here.read.is_a ∙ e.left_words) (here.read.is_c ∙ e.right_words) (view_of a c φ L p ws'' b own ready parts)

-- A STEP'S OUTCOMES

-- what is known of left's buffer where a step wants an operand: right is wanted only where left's has answers
abbrev LeftOf : Side → Formula → List ℕ → Type 0
LeftOf on_left φ b = left_count b ≡ 0
LeftOf on_right φ b = has_left φ ≡ true → 0 < left_count b

short_of : (side : Side) (φ : Formula) (L : Log) (g : ℕ) (b b' : List ℕ) → Short φ L b → Stepped φ L g b (wants side) b' → LeftOf side φ b →
    settled_to φ L ≡ g
short_of on_left φ L g b b' short st none =
    ⊎_elim (λ l. st.1 l.2) (λ r. let some = r.0 st.0 in absurd (omega arith)) short
short_of on_right φ L g b b' short st left =
    ⊎_elim (λ l. let some = left l.0 in let none = l.1 in absurd (omega arith)) (λ r. st.1 r.2) short

module _ {t : List Row} {v : LogView} {s : List ℕ} {k a c end : ℕ} {ws₀ ws ws' : List ℕ} where
  -- the outcome as it was told
  pub told : {r r' : Step} → r ≡ r' → Turn t v s k a c end ws₀ ws r ws' → Turn t v s k a c end ws₀ ws r' ws'
  told e turn = rw e at turn

  module _ {r : Step} (turn : Turn t v s k a c end ws₀ ws r ws') where
    stay : (x : Side) → lent x a c ws' ≡ lent x a c ws
    stay x = lent_before x a c ws ws' turn.step.before

    -- a step goes on in its own block, and its operands' blocks are as they were
    goes_on : Onward 12 (drop (a + c) ws) (drop (a + c) ws') → GoesOn t k ws₀ ws'
    goes_on own = goes_from turn.here ws' own (λ φ entered x e. rw (stay x) (all_refl (of x φ) (lent x a c ws)))

    module _ (φ : Formula) (L : Log) (g : ℕ) (entered : Has φ t k) where
      stepped : NeverFalls L → Agrees v s L (first_read φ g) → View a c φ L g ws → Stepped φ L g (drop (a + c) ws) r (drop (a + c) ws')
      stepped never agrees seen = turn.step.steps φ (row φ t k entered) L g never (agrees_later agrees (step_from φ g)) seen.own

      -- the operands stay where they stand
      moved_on : (p : ℕ) → View a c φ L g ws → Ready φ L p (drop (a + c) ws') → Moved φ (drop (a + c) ws) (drop (a + c) ws') → State φ L p ws'
      moved_on p seen ready moved =
          state_of
          turn.here
          φ
          L
          g
          entered
          p
          ws'
          (drop (a + c) ws')
          refl
          ready
          (by_side
          (λ x. StandsAt x a c φ L (drop (a + c) ws') ws')
          on_left
          (λ e. rw (stay on_left, moved.left e) (operand seen on_left e))
          (λ e. rw (stay on_right, moved.right e) (operand seen on_right e)))

  pub batch_turn : {bits n : ℕ} → Turn t v s k a c end ws₀ ws (Batch (record { bits = bits; count = n })) ws' → Answers t v s k ws₀ (Some (record { bits = bits; count = n })) ws'
  batch_turn {bits} {n} turn = (
    goes_on turn turn.step.ends,
    λ φ L g entered never agrees state.
        let seen = viewed turn.here φ L g entered never agrees state in
        let st = stepped turn φ L g entered never agrees seen in
        (st.0, moved_on turn φ L g entered (g + n) seen st.1 st.2),
  )

  -- a batch of no position, which no formula's words bring about
  pub none_turn : {bits n : ℕ} → n ≡ 0 → Turn t v s k a c end ws₀ ws (Batch (record { bits = bits; count = n })) ws' → Answers t v s k ws₀ None ws'
  none_turn {bits} {n} e turn =
      let all = batch_turn turn in (
        all.0,
        λ φ L g entered never agrees state.
            let none : ⊥ = omega (arith, (all.1 φ L g entered never agrees state).0.some) in
            absurd none,
      )

  pub again_stands : Turn t v s k a c end ws₀ ws Again ws' → StillStands t v s k ws₀ ws'
  again_stands turn = (
    goes_on turn turn.step.ends.1,
    λ φ L g entered never agrees state.
        let seen = viewed turn.here φ L g entered never agrees state in
        let st = stepped turn φ L g entered never agrees seen in
        moved_on turn φ L g entered g seen st.0 st.1,
  )

  pub open_turn : Turn t v s k a c end ws₀ ws Open ws' → Answers t v s k ws₀ None ws'
  open_turn turn =
      let same = same_words (a + c) ws ws' turn.step.before turn.step.ends in (
        rw same turn.here.stands.0,
        λ φ L g entered never agrees state.
            let seen = viewed turn.here φ L g entered never agrees state in
            (stepped turn φ L g entered never agrees seen, rw same (turn.here.stands.1 φ L g entered never agrees state)),
      )

  -- a step that wants an operand: its buffer is empty, and the words as they were
  module _ (side : Side) (turn : Turn t v s k a c end ws₀ ws (wants side) ws') where
    ended : (side : Side) → Ends (takes_left (kind_at t k)) (takes_right (kind_at t k)) v (drop (a + c) ws) (wants side) (drop (a + c) ws') →
        (drop (a + c) ws' ≡ drop (a + c) ws) × (word (drop (a + c) ws) (slot side) ≡ 0)
    ended on_left e = (e.1, e.2)
    ended on_right e = (e.1, e.2)

    pub unchanged : ws' ≡ ws
    unchanged = same_words (a + c) ws ws' turn.step.before (ended side turn.step.ends).0

    wanted_none : word (drop (a + c) ws) (slot side) ≡ 0
    wanted_none = (ended side turn.step.ends).1

    -- no operand is wanted whose buffer has answers
    pub not_full : Full (takes_left (kind_at t k)) (drop (a + c) ws) → ⊥
    not_full full = empty_side side turn.step.ends
      where
        empty_side : (side : Side) → Ends (takes_left (kind_at t k)) (takes_right (kind_at t k)) v (drop (a + c) ws) (wants side) (drop (a + c) ws') → ⊥
        empty_side on_left e = omega (arith, full.left e.0, e.2)
        empty_side on_right e = omega (arith, full.right, e.2)

    -- where an operand is short of answers, it is the one that is wanted
    pub short_turn : ((φ : Formula) (L : Log) (g : ℕ) → Has φ t k → NeverFalls L → Agrees v s L (first_read φ g) → State φ L g ws₀ → Short φ L (drop (a + c) ws)) →
        Answers t v s k ws₀ None ws'
    short_turn short = (
      rw unchanged turn.here.stands.0,
      λ φ L g entered never agrees state.
          let seen = viewed turn.here φ L g entered never agrees state in
          let st = stepped turn φ L g entered never agrees seen in (
            short_of side φ L g (drop (a + c) ws) (drop (a + c) ws') (short φ L g entered never agrees state) st (ended_left φ entered side turn.step.ends),
            rw unchanged (turn.here.stands.1 φ L g entered never agrees state),
          ),
    )
      where
        ended_left : (φ : Formula) → Has φ t k → (side : Side) →
            Ends (takes_left (kind_at t k)) (takes_right (kind_at t k)) v (drop (a + c) ws) (wants side) (drop (a + c) ws') → LeftOf side φ (drop (a + c) ws)
        ended_left φ entered on_left e = e.2
        ended_left φ entered on_right e = λ h. e.3 (rw (row φ t k entered).fields.kind h)

-- AN OPERAND'S BUFFER

to_do : (side : Side) (v : LogView) (b : List ℕ) →
    left_to_do v b ≡ 3 * (total v - taken b) + empty (word b (slot side)) + empty (word b (slot (other side)))
to_do on_left v b = refl
to_do on_right v b = omega arith

empty_some : (n : ℕ) → 1 ≤ n → empty n ≡ 0
empty_some zero le = omega arith
empty_some (suc n) le = refl

-- an operator of this kind has the operand
pub has_side : (t : List Row) (k : ℕ) (side : Side) (φ : Formula) → Has φ t k → takes side (kind_at t k) ≡ true → has side φ ≡ true
has_side t k on_left φ entered e = rw (row φ t k entered).fields.kind at e
has_side t k on_right φ entered e = rw (row φ t k entered).fields.kind at e

-- words ws'' after an operand's buffer was looked at, and filled if it was empty and the operand had answers, which x says
pub record Topped (t : List Row) (v : LogView) (s : List ℕ) (k a c end : ℕ) (ws₀ ws : List ℕ) (side : Side) (x : Bool) (ws'' : List ℕ) : Type 0 where
  pub here : Standing t v s k a c end ws₀ ws''
  pub less : left_to_do v (drop (a + c) ws'') ≤ left_to_do v (drop (a + c) ws)
  pub beside : word (drop (a + c) ws'') (slot (other side)) ≡ word (drop (a + c) ws) (slot (other side))
  pub some : x ≡ true → 0 < word (drop (a + c) ws'') (slot side)
  pub none : x ≡ false → word (drop (a + c) ws'') (slot side) ≡ 0
  pub settled : x ≡ false → (φ : Formula) (L : Log) (g : ℕ) → Has φ t k → NeverFalls L → Agrees v s L (first_read φ g) → State φ L g ws₀ →
      settled_to (of side φ) L ≡ taken (drop (a + c) ws'')

module _ {t : List Row} {v : LogView} {s : List ℕ} {k a c end : ℕ} {ws₀ ws : List ℕ} (here : Standing t v s k a c end ws₀ ws) (side : Side) (taking : takes side (kind_at t k) ≡ true) where
  inside : a + c ≤ length ws
  inside = omega (arith, room here.read, here.last)

  long : 16 ≤ length (drop (a + c) ws)
  long = simp length-drop (omega (arith, room here.read, here.last))

  -- its buffer is empty: it is asked, at the next position to take
  module _ (none : word (drop (a + c) ws) (slot side) ≡ 0) where
    ask_at : (P : Formula → Log → ℕ → Type 0) →
        ((φ : Formula) (L : Log) (q : ℕ) → Has φ t (entry side (row_at t k).left k) → NeverFalls L → Agrees v s L (first_read φ q) →
        State φ L q (lent side a c ws) → P φ L q) →
        (φ : Formula) (L : Log) (g : ℕ) → Has φ t k → NeverFalls L → Agrees v s L (first_read φ g) → View a c φ L g ws →
        P (of side φ) L (taken (drop (a + c) ws))
    ask_at P promise φ L g entered never agrees seen =
        let b = drop (a + c) ws in
        let e = has_side t k side φ entered taking in
        let at : taken b + word b (slot side) ≡ taken b = omega (arith, none) in
        promise
        (of side φ)
        L
        (taken b)
        (operand_rows φ t k entered side e)
        never
        (agrees_later agrees (operand_from φ L g b seen.own.core.own side))
        (rw at at (operand seen side e))

    -- the operand goes on in its own blocks
    goes_asked : (ws'' ys b : List ℕ) → Asked side a c ws ys ws'' b → Onward 12 (drop (a + c) ws) b →
        GoesOn t (entry side (row_at t k).left k) (lent side a c ws) ys → GoesOn t k ws₀ ws''
    goes_asked ws'' ys b frame own goes =
        goes_from here ws'' (rw frame.own own)
        (λ φ entered.
        by_side
        (λ x. OnwardAt x a c φ ws ws'')
        side
        (λ e. rw frame.here (goes (of side φ) (operand_rows φ t k entered side e)))
        (λ e. rw frame.there (all_refl (of (other side) φ) (lent (other side) a c ws))))

    asked_short : (ws'' : List ℕ) → length ws'' ≡ end → Asks t v s (entry side (row_at t k).left k) (start side a) (stop side a c) (a + c + slot side) ws false ws'' →
        Topped t v s k a c end ws₀ ws side false ws''
    asked_short ws'' last got =
        let ys = got.0 in
        let b = drop (a + c) ws in
        let after = back (start side a) (stop side a c) ys ws in
        let at : taken b + word b (slot side) ≡ taken b = omega (arith, none) in
        let frame = asked side a c ws ys inside got.1 in
        rw got.3.0
        (record {
          here = record {
            read = here.read;
            last = rw got.3.0 at last;
            stands = (
              goes_asked after ys b frame (onward_refl b) got.2,
              λ φ L g entered never agrees state.
                  let seen = viewed here φ L g entered never agrees state in
                  let it = ask_at (λ φ L q. (settled_to φ L ≡ q) × State φ L q ys) got.3.1 φ L g entered never agrees seen in
                  state_of
                  here
                  φ
                  L
                  g
                  entered
                  g
                  after
                  b
                  frame.own
                  seen.own
                  (by_side
                  (λ x. StandsAt x a c φ L b after)
                  side
                  (λ e. rw (frame.here, at) it.1)
                  (λ e. rw frame.there (operand seen (other side) e))),
            );
          };
          less = rw frame.own (omega arith);
          beside = rw frame.own refl;
          some = λ e. absurd (true_and_false e refl);
          none = λ e. rw frame.own none;
          settled = λ e φ L g entered never agrees state.
              rw frame.own
              (ask_at (λ φ L q. (settled_to φ L ≡ q) × State φ L q ys) got.3.1 φ L g entered never agrees (viewed here φ L g entered never agrees state)).0;
        })

    asked_some : (ws'' : List ℕ) → length ws'' ≡ end → Asks t v s (entry side (row_at t k).left k) (start side a) (stop side a c) (a + c + slot side) ws true ws'' →
        Topped t v s k a c end ws₀ ws side true ws''
    asked_some ws'' last got =
        let ys = got.0 in
        let bits = got.3.0 in
        let n = got.3.1 in
        let b = drop (a + c) ws in
        let new = stored b (slot side) bits n in
        let after = stored (back (start side a) (stop side a c) ys ws) (a + c + slot side) bits n in
        let frame = asked_stored side a c ws ys (back (start side a) (stop side a c) ys ws) b bits n (asked side a c ws ys inside got.1) in
        rw got.3.3
        (record {
          here = record {
            read = here.read;
            last = rw got.3.3 at last;
            stands = (
              goes_asked after ys new frame (stored_onward side b long bits n) got.2,
              λ φ L g entered never agrees state.
                  let seen = viewed here φ L g entered never agrees state in
                  let it = ask_at (λ φ L q. Batched φ L q bits n × State φ L (q + n) ys) got.3.4 φ L g entered never agrees seen in
                  state_of
                  here
                  φ
                  L
                  g
                  entered
                  g
                  after
                  new
                  frame.own
                  (ready_filled side b long bits n φ L g seen.own it.0)
                  (by_side
                  (λ x. StandsAt x a c φ L new after)
                  side
                  (λ e. rw (frame.here, stored_at side b long bits n, stored_count side b long bits n) it.1)
                  (λ e.
                  rw (frame.there, stored_at side b long bits n, stored_count_other side b long bits n) (operand seen (other side) e))),
            );
          };
          less =
              rw (
                frame.own,
                to_do side v new,
                to_do side v b,
                stored_at side b long bits n,
                stored_count side b long bits n,
                stored_count_other side b long bits n,
                none,
                empty_some n got.3.2,
              )
              (omega arith);
          beside = rw frame.own (stored_count_other side b long bits n);
          some = λ e. rw (frame.own, stored_count side b long bits n) got.3.2;
          none = λ e. absurd (true_and_false refl e);
          settled = λ e. absurd (true_and_false refl e);
        })

    asked_empty : (x : Bool) (ws'' : List ℕ) → length ws'' ≡ end → Asks t v s (entry side (row_at t k).left k) (start side a) (stop side a c) (a + c + slot side) ws x ws'' →
        Topped t v s k a c end ws₀ ws side x ws''
    asked_empty false ws'' last got = asked_short ws'' last got
    asked_empty true ws'' last got = asked_some ws'' last got

  -- it has answers
  had_some : 0 < word (drop (a + c) ws) (slot side) → (x : Bool) (ws'' : List ℕ) → x ≡ true → ws'' ≡ ws → Topped t v s k a c end ws₀ ws side x ws''
  had_some some x ws'' e same =
      rw (same, e)
      (record {
        here = here;
        less = omega arith;
        beside = refl;
        some = λ e. some;
        none = λ e. absurd (true_and_false refl e);
        settled = λ e. absurd (true_and_false refl e);
      })

  pub topped : (x : Bool) (ws'' : List ℕ) → length ws'' ≡ end → Fills t v s (entry side (row_at t k).left k) (start side a) (stop side a c) (a + c + slot side) ws x ws'' →
      Topped t v s k a c end ws₀ ws side x ws''
  topped x ws'' last fills =
      let same : word ws (a + c + slot side) ≡ word (drop (a + c) ws) (slot side) = sym (get_or-drop (a + c) ws (slot side) 0) in
      ⊎_elim
      (λ le. let e : word (drop (a + c) ws) (slot side) ≡ 0 = omega arith in asked_empty e x ws'' last (fills.none (same ∙ e)))
      (λ some. let kept = fills.some (rw same some) in had_some some x ws'' kept.0 kept.1)
      (le_or_lt (word (drop (a + c) ws) (slot side)) 0)

-- BOTH BUFFERS

module _ {t : List Row} {v : LogView} {s : List ℕ} {k a c end : ℕ} {ws : List ℕ} where
  -- left has no more answers: right is not looked at
  pub left_short : {ws' : List ℕ} → takes_left (kind_at t k) ≡ true → Topped t v s k a c end ws ws on_left false ws' → Refills t v s k (a + c) ws false ws'
  left_short takes top =
      record {
        stands = top.here.stands;
        less = top.less;
        full = λ e. absurd (true_and_false e refl);
        short = λ e φ L g entered never agrees state.
            inl (has_side t k on_left φ entered takes, top.none refl, top.settled refl φ L g entered never agrees state);
      }

  pub short_top : {x : Bool} {ws' : List ℕ} → x ≡ false → Topped t v s k a c end ws ws on_left x ws' → Topped t v s k a c end ws ws on_left false ws'
  short_top e top = rw e at top

  -- left has answers, or there is no left operand
  pub right_last : {mid ws' : List ℕ} {x : Bool} → (takes_left (kind_at t k) ≡ true → 0 < left_count (drop (a + c) mid)) →
      left_to_do v (drop (a + c) mid) ≤ left_to_do v (drop (a + c) ws) → Topped t v s k a c end ws mid on_right x ws' → Refills t v s k (a + c) ws x ws'
  right_last left less top =
      record {
        stands = top.here.stands;
        less = omega (arith, less, top.less);
        full = λ e. record { left = λ takes. rw top.beside (left takes); right = top.some e };
        short = λ e φ L g entered never agrees state.
            inr (
              λ has. rw top.beside (left (rw (row φ t k entered).fields.kind has)),
              top.none e,
              top.settled e φ L g entered never agrees state,
            );
      }

-- A TURN OF THE LOOP

stands_trans : (t : List Row) (v : LogView) (s : List ℕ) (k : ℕ) (ws₀ ws ws' : List ℕ) → StillStands t v s k ws₀ ws → StillStands t v s k ws ws' → StillStands t v s k ws₀ ws'
stands_trans t v s k ws₀ ws ws' first next = (
  λ φ entered. all_trans φ ws₀ ws ws' (first.0 φ entered) (next.0 φ entered),
  λ φ L g entered never agrees state. next.1 φ L g entered never agrees (first.1 φ L g entered never agrees state),
)

-- from words ws the buffers were filled, which x says, and a step was made, whose outcome is r: from `mid` on, as they were filled or after a
-- first step that took positions
pub record Made (t : List Row) (v : LogView) (s : List ℕ) (k a c end : ℕ) (ws₀ ws : List ℕ) (x : Bool) (r : Step) (ws' : List ℕ) : Type 0 where
  pub mid : List ℕ
  pub turn : Turn t v s k a c end ws₀ mid r ws'
  pub less : left_to_do v (drop (a + c) mid) ≤ left_to_do v (drop (a + c) ws)
  pub full : x ≡ true → Full (takes_left (kind_at t k)) (drop (a + c) mid) ⊎ (left_to_do v (drop (a + c) mid) < left_to_do v (drop (a + c) ws))
  pub short : x ≡ false → (φ : Formula) (L : Log) (g : ℕ) → Has φ t k → NeverFalls L → Agrees v s L (first_read φ g) → State φ L g ws₀ →
      Short φ L (drop (a + c) mid)

module _ {t : List Row} {v : LogView} {s : List ℕ} {k a c end : ℕ} {ws₀ ws : List ℕ} where
  pub one_step : {x : Bool} {mid : List ℕ} {r : Step} {ws' : List ℕ} → Standing t v s k a c end ws₀ ws → length mid ≡ end →
      Refills t v s k (a + c) ws x mid → Advances t v s k (a + c) mid r ws' → Made t v s k a c end ws₀ ws x r ws'
  one_step {mid = mid} here last fills step =
      record {
        mid = mid;
        turn = record {
          here = record { read = here.read; last = last; stands = stands_trans t v s k ws₀ ws mid here.stands fills.stands };
          step = step;
        };
        less = fills.less;
        full = λ e. inl (fills.full e);
        short = λ e φ L g entered never agrees state.
            fills.short e φ L g entered never agrees (here.stands.1 φ L g entered never agrees state);
      }

  pub two_steps : {x : Bool} {ws₁ : List ℕ} {r : Step} {ws' : List ℕ} → x ≡ true → length ws₁ ≡ end → Made t v s k a c end ws₀ ws x Again ws₁ →
      Advances t v s k (a + c) ws₁ r ws' → Made t v s k a c end ws₀ ws x r ws'
  two_steps {ws₁ = ws₁} filled last made step =
      let fewer = made.turn.step.ends.0 in
      let less = made.less in
      record {
        mid = ws₁;
        turn = record {
          here = record { read = made.turn.here.read; last = last; stands = again_stands made.turn };
          step = step;
        };
        less = omega arith;
        full = λ e. inr (omega arith);
        short = λ e. absurd (true_and_false filled e);
      }

  module _ {x : Bool} {ws' : List ℕ} where
    pub as_told : {r r' : Step} → r ≡ r' → Made t v s k a c end ws₀ ws x r ws' → Made t v s k a c end ws₀ ws x r' ws'
    as_told e made = rw e at made

    -- positions were taken
    pub again_less : Made t v s k a c end ws₀ ws x Again ws' → left_to_do v (drop (a + c) ws') < left_to_do v (drop (a + c) ws)
    again_less made = omega (arith, made.turn.step.ends.0, made.less)

    -- an operand is wanted: it is open, or it ran out of answers by a first step; beside it stand A, B and C, which are kept
    module _ {r : Step} (side : Side) (told : r ≡ wants side) where
      pub wanted_open : {A B C : Type 0} → x ≡ false → A × B × C × Made t v s k a c end ws₀ ws x r ws' → Answers t v s k ws₀ None ws' × (B × C)
      wanted_open e made =
          let made' = as_told told made.3 in
          (short_turn side made'.turn (made'.short e), (made.1, made.2))

      pub wanted_less : x ≡ true → Made t v s k a c end ws₀ ws x r ws' → left_to_do v (drop (a + c) ws') < left_to_do v (drop (a + c) ws)
      wanted_less e made =
          let made' = as_told told made in
          rw (unchanged side made'.turn) (⊎_elim (λ full. absurd (not_full side made'.turn full)) (λ less. less) (made'.full e))

      pub wanted_stands : {A B C : Type 0} → A × B × C × Made t v s k a c end ws₀ ws x r ws' → A × B × C × StillStands t v s k ws₀ ws'
      wanted_stands made =
          let turn = (as_told told made.3).turn in
          (made.0, made.1, made.2, rw (unchanged side turn) turn.here.stands)

-- an operand's answer, as what was asked for: its words are ys now
module _ (t : List Row) (v : LogView) (s : List ℕ) (o from to slot : ℕ) (ws ys : List ℕ) (ordered : from ≤ to) (inside : to ≤ length ws) (kept : length ys ≡ length (part from to ws)) where
  pub asked_open : Answers t v s o (part from to ws) None ys → Asks t v s o from to slot ws false (put_back from to ys ws)
  asked_open answers = (ys, kept ∙ length_part from to ws inside, answers.0, (back_from from to ys ws ordered, answers.1))

  pub asked_batch : (bits n : ℕ) → 0 < n → Answers t v s o (part from to ws) (Some (record { bits = bits; count = n })) ys → (ws' : List ℕ) →
      ws' ≡ stored (put_back from to ys ws) slot bits n → Asks t v s o from to slot ws true ws'
  asked_batch bits n some answers ws' e = (
    ys,
    kept ∙ length_part from to ws inside,
    answers.0,
    (
      bits,
      n,
      some,
      e ∙ ap (λ (l : List ℕ). stored l slot bits n) (back_from from to ys ws ordered),
      answers.1,
    ),
  )
