-- The table laid out for an accepted rule is the one that the engine's promise asks for.
use Prim.Native.Nat.{ℕ, zero, suc, ◌+◌, ◌-◌, ◌≤◌, ◌<◌}
use mathlib.Core.Bool.{Bool, true, false, cond}
use mathlib.Core.Logic.{◌⊎◌, inl, inr, ⊎_elim}
use mathlib.Core.Path.{◌≡◌, refl, sym, ◌∙◌, ap, ap₂, subst}
use mathlib.Core.List.{List, [], ◌∷◌}
use native.Mathlib.Nat.{not-suc-le-zero}
use native.Mathlib.Omega.{arith}
use lib.ListN.{length, get_or, set, replicate, length-set}
use lib.Seq.{sets, get_or-set_same, get_or-set_other}
use Rattle.mtl.specs.Formula.{Formula}
use Rattle.mtl.specs.Formula.Formula.{letter, not, or, previous, next, since, until}
use Rattle.mtl.proofs.Bounded.{true_and_false, le_or_lt}
use Rattle.rule.specs.declared.Entry.{Entry}
use Rattle.rule.specs.Entries.{entry}
use Rattle.rule.specs.Words.{own}
use Rattle.rule.specs.Postfix.{root}
use Rattle.rule.specs.Operands.{operands, left, subformula_words, FormulaAt, Binary}
use Rattle.rule.specs.Accepted.{WellFormed}
use Rattle.rule.proofs.Spans.{offset_mono}
use Rattle.engine.specs.State.{needed_words, left_words, right_words}
use Rattle.blocks.specs.Kinds.{takes_left, takes_right, Fields}
use Rattle.engine.specs.declared.table.Row.{Row}
use Rattle.engine.specs.Table.{no_row, row_at, kind_at, RowOk, RowsOk, RowOf, Has}
use Rattle.engine.specs.Layout.{subformula_first, first_from, left_from, RowOfEntry, EntryRow, Laid}

-- The values that a function's loop stored one by one.

pub set_below : (f : ℕ → ℕ) (l : List ℕ) (k v : ℕ) → k < length l → ((j : ℕ) → j < k → get_or l j 0 ≡ f j) → v ≡ f k →
    (j : ℕ) → j < k + 1 → get_or (set l k v) j 0 ≡ f j
set_below f l k v h below e j g = ⊎_elim last earlier (le_or_lt k j)
  where
    last : k ≤ j → get_or (set l k v) j 0 ≡ f j
    last h' = let i : k ≡ j = omega arith in rw (← i) (get_or-set_same l k v 0 h ∙ e)

    earlier : j < k → get_or (set l k v) j 0 ≡ f j
    earlier h' = get_or-set_other l k j v 0 (λ i. omega arith) ∙ below j h'

-- several values stored one behind the other

pub sets_out : (vs l : List ℕ) (i m : ℕ) → (m < i) ⊎ (i + length vs ≤ m) → get_or (sets l i vs) m 0 ≡ get_or l m 0
sets_out [] l i m h = refl
sets_out (a ∷ vs) l i m h =
    sets_out vs (set l i a) (suc i) m (⊎_elim (λ b. inl (omega arith)) (λ b. inr (omega arith)) h) ∙
    get_or-set_other l i m a 0 (⊎_elim (λ b e. omega arith) (λ b e. omega arith) h)

pub sets_in : (vs l : List ℕ) (i j : ℕ) → i + length vs ≤ length l → j < length vs → get_or (sets l i vs) (i + j) 0 ≡ get_or vs j 0
sets_in [] l i j h g = absurd (not-suc-le-zero g)
sets_in (a ∷ vs) l i zero h g =
    let e : i + 0 ≡ i = omega arith in
    rw e (sets_out vs (set l i a) (suc i) i (inl (omega arith)) ∙ get_or-set_same l i a 0 (omega arith))
sets_in (a ∷ vs) l i (suc j) h g =
    let e : i + suc j ≡ suc i + j = omega arith in
    let n = length-set l i a in
    rw e (sets_in vs (set l i a) (suc i) j (omega arith) (omega arith))

-- as many as there are, and behind them the same again
pub repeated : {A : Type 0} (n i : ℕ) (x : A) → get_or (replicate n x) i x ≡ x
repeated zero i x = refl
repeated (suc n) zero x = refl
repeated (suc n) (suc i) x = repeated n i x

cond_below : (b : Bool) (x m : ℕ) → x ≤ m → cond b x 0 ≤ m
cond_below true x m h = h
cond_below false x m h = omega arith

-- the operands that a kind takes
data Arity (kind : ℕ) : Type 0 where
  none : takes_left kind ≡ false → takes_right kind ≡ false → operands kind ≡ 0 → Arity kind
  one : takes_left kind ≡ false → takes_right kind ≡ true → operands kind ≡ 1 → Arity kind
  two : takes_left kind ≡ true → takes_right kind ≡ true → operands kind ≡ 2 → Arity kind

arity : (kind : ℕ) → kind ≤ 6 → Arity kind
arity zero h = none refl refl refl
arity (suc zero) h = one refl refl refl
arity (suc (suc zero)) h = two refl refl refl
arity (suc (suc (suc zero))) h = one refl refl refl
arity (suc (suc (suc (suc zero)))) h = one refl refl refl
arity (suc (suc (suc (suc (suc zero))))) h = two refl refl refl
arity (suc (suc (suc (suc (suc (suc zero)))))) h = two refl refl refl
arity (suc (suc (suc (suc (suc (suc (suc k))))))) h = absurd (omega arith)

module _ (t : List Entry) (n : ℕ) (ok : WellFormed t n) where
  arity_at : (k : ℕ) → k < n → Arity (entry t k).kind
  arity_at k h = arity (entry t k).kind (ok.in_range k h).kind

  pub binary_at : (k : ℕ) → k < n → takes_left (entry t k).kind ≡ true → Binary t k
  binary_at k h l = go (arity_at k h)
    where
      go : Arity (entry t k).kind → Binary t k
      go (none f r o) = absurd (true_and_false l f)
      go (one f r o) = absurd (true_and_false l f)
      go (two f r o) = ok.binary k h o

  pub below_at : (k : ℕ) → k < n → takes_right (entry t k).kind ≡ true → 0 < k
  below_at k h l = go (arity_at k h)
    where
      go : Arity (entry t k).kind → 0 < k
      go (none f r o) = absurd (true_and_false l r)
      go (one f r o) = (ok.unary k h o).below
      go (two f r o) = let b = (ok.binary k h o).below in omega arith

  row_sum : (k : ℕ) → k < n →
      cond (takes_left (entry t k).kind) (subformula_words t (left t k)) 0 + cond (takes_right (entry t k).kind) (subformula_words t (k - 1)) 0 +
      own (entry t k) ≡ subformula_words t k
  row_sum k h = go (arity_at k h)
    where
      go : Arity (entry t k).kind →
          cond (takes_left (entry t k).kind) (subformula_words t (left t k)) 0 + cond (takes_right (entry t k).kind) (subformula_words t (k - 1)) 0 +
          own (entry t k) ≡ subformula_words t k
      go (none f r o) = let e = (ok.leaf k h o).part_is in rw (f, r) (omega arith)
      go (one f r o) = let e = (ok.unary k h o).part_is in rw (f, r) (omega arith)
      go (two f r o) = let e = (ok.binary k h o).part_is in rw (f, r) (omega arith)

  -- the words of row k
  row_words : (k : ℕ) {r : Row} → k < n → EntryRow t k r → r.words ≡ subformula_words t k
  row_words k h is = is.words ∙ row_sum k h

  part_bound : (k : ℕ) → k < n → subformula_words t k ≤ 8192
  part_bound k h =
      let g = offset_mono t (suc k) n h in
      let w = ok.within in
      omega arith

  -- the words of an operator's part, from its operands'
  unary_words : (k : ℕ) {e : Entry} {w : ℕ} → k < n → entry t k ≡ e → operands e.kind ≡ 1 → subformula_words t (k - 1) ≡ w → subformula_words t k ≡ w + own e
  unary_words k h e o p = (ok.unary k h (ap (λ x. operands x.kind) e ∙ o)).part_is ∙ ap₂ ◌+◌ p (ap own e)

  binary_words : (k : ℕ) {e : Entry} {w w' : ℕ} → k < n → entry t k ≡ e → operands e.kind ≡ 2 →
      subformula_words t (left t k) ≡ w → subformula_words t (k - 1) ≡ w' → subformula_words t k ≡ w + w' + own e
  binary_words k h e o p q = (ok.binary k h (ap (λ x. operands x.kind) e ∙ o)).part_is ∙ ap₂ ◌+◌ (ap₂ ◌+◌ p q) (ap own e)

  -- THE FIRST ENTRIES

  pub first_step : (firsts : List ℕ) (k : ℕ) → k < n → ((j : ℕ) → j < k → get_or firsts j 0 ≡ subformula_first t j) →
      first_from (entry t k).kind k firsts ≡ subformula_first t k
  first_step firsts k h below = go (arity_at k h)
    where
      go : Arity (entry t k).kind → first_from (entry t k).kind k firsts ≡ subformula_first t k
      go (none f r o) = let s = (ok.leaf k h o).span_is in rw (f, r) (omega arith)
      go (one f r o) =
          let u = ok.unary k h o in
          let b = u.below in
          let s = u.span_is in
          rw (f, r, below (k - 1) (omega arith)) (omega arith)
      go (two f r o) =
          let u = ok.binary k h o in
          let b = u.below in
          let s = u.span_is in
          let e : subformula_first t (k - 1) - 1 ≡ left t k = omega arith in
          rw (f, below (k - 1) (omega arith), e, below (left t k) (omega arith)) (omega arith)

  left_is : (firsts : List ℕ) (k : ℕ) → k < n → ((j : ℕ) → j < k → get_or firsts j 0 ≡ subformula_first t j) →
      left_from (takes_left (entry t k).kind) k firsts ≡ cond (takes_left (entry t k).kind) (left t k) 0
  left_is firsts k h below = go (arity_at k h)
    where
      go : Arity (entry t k).kind →
          left_from (takes_left (entry t k).kind) k firsts ≡ cond (takes_left (entry t k).kind) (left t k) 0
      go (none f r o) = rw f
      go (one f r o) = rw f
      go (two f r o) =
          let b = (ok.binary k h o).below in
          rw (f, below (k - 1) (omega arith)) (omega arith)

  -- THE ROWS

  module _ (table : List Row) where
    column_words : (m k : ℕ) → m ≤ n → Laid t m table → k < m → (row_at table k).words ≡ subformula_words t k
    column_words m k h laid l = row_words k (omega arith) (laid.rows k l)

    left_words_is : (k : ℕ) → k < n → Laid t k table →
        cond (takes_left (entry t k).kind) (row_at table (cond (takes_left (entry t k).kind) (left t k) 0)).words 0 ≡
        cond (takes_left (entry t k).kind) (subformula_words t (left t k)) 0
    left_words_is k h laid = go (arity_at k h)
      where
        go : Arity (entry t k).kind →
            cond (takes_left (entry t k).kind) (row_at table (cond (takes_left (entry t k).kind) (left t k) 0)).words 0 ≡
            cond (takes_left (entry t k).kind) (subformula_words t (left t k)) 0
        go (none f r o) = rw f
        go (one f r o) = rw f
        go (two f r o) =
            let b = (ok.binary k h o).below in
            rw f (column_words k (left t k) (omega arith) laid (omega arith))

    right_words_is : (k : ℕ) → k < n → Laid t k table →
        cond (takes_right (entry t k).kind) (row_at table (k - 1)).words 0 ≡ cond (takes_right (entry t k).kind) (subformula_words t (k - 1)) 0
    right_words_is k h laid = go (takes_right (entry t k).kind) (below_at k h)
      where
        go : (b : Bool) → (b ≡ true → 0 < k) → cond b (row_at table (k - 1)).words 0 ≡ cond b (subformula_words t (k - 1)) 0
        go true below = let b = below refl in column_words k (k - 1) (omega arith) laid (omega arith)
        go false below = refl

    laid_more : (k : ℕ) (r : Row) → k < length table → Laid t k table → EntryRow t k r → Laid t (k + 1) (set table k r)
    laid_more k r h laid is =
        record {
          rows = λ i g. ⊎_elim
              (λ (e : k ≤ i). let same : k ≡ i = omega arith in rw (← same) (rw (get_or-set_same table k r no_row h) is))
              (λ (e : i < k). rw (get_or-set_other table k i r no_row (λ x. omega arith)) (laid.rows i e))
              (le_or_lt k i);
          rest = λ i g. get_or-set_other table k i r no_row (λ x. omega arith) ∙ laid.rest i (omega arith);
        }

-- One turn of `lay_out`: row k from the rows before it.
pub record Next (t : List Entry) (k at a c : ℕ) : Type 0 where
  pub at_is : at ≡ cond (takes_left (entry t k).kind) (left t k) 0
  pub left_is : a ≡ cond (takes_left (entry t k).kind) (subformula_words t (left t k)) 0
  pub right_is : c ≡ cond (takes_right (entry t k).kind) (subformula_words t (k - 1)) 0

pub laid_next : (t : List Entry) (n : ℕ) → WellFormed t n → (table : List Row) (k at a c : ℕ) (r : Row) → k < length table → Laid t k table →
    Next t k at a c → RowOfEntry (entry t k) at a c r → Laid t (k + 1) (set table k r)
laid_next t n ok table k at a c r h laid is row =
    laid_more t n ok table k r h laid (rw (is.at_is, is.left_is, is.right_is) at row)

-- the three numbers as the code has them
module _ (t : List Entry) (n : ℕ) (ok : WellFormed t n) (k : ℕ) (h : k < n) (l : k < 128) where
  pub left_next : (firsts : List ℕ) (takes : Bool) (at : ℕ) → ((j : ℕ) → j < k → get_or firsts j 0 ≡ subformula_first t j) →
      takes ≡ takes_left (entry t k).kind → at ≡ left_from takes k firsts →
      at ≡ cond (takes_left (entry t k).kind) (left t k) 0
  left_next firsts takes at begin e f = f ∙ ap (λ b. left_from b k firsts) e ∙ left_is t n ok firsts k h begin

  pub left_fits : (at : ℕ) → at ≡ cond (takes_left (entry t k).kind) (left t k) 0 → at < 128
  left_fits at e = let b = cond_below (takes_left (entry t k).kind) (left t k) 127 (omega arith) in omega arith

  pub next_row : (firsts : List ℕ) (table : List Row) (takes takes' : Bool) (at before a c : ℕ) →
      ((j : ℕ) → j < k → get_or firsts j 0 ≡ subformula_first t j) → Laid t k table →
      takes ≡ takes_left (entry t k).kind → takes' ≡ takes_right (entry t k).kind →
      at ≡ left_from takes k firsts → before ≡ k - 1 →
      a ≡ cond takes (row_at table at).words 0 → c ≡ cond takes' (row_at table before).words 0 → Next t k at a c
  next_row firsts table takes takes' at before a c begin laid e e' f f' g g' =
      let is = left_next firsts takes at begin e f in
      record {
        at_is = is;
        left_is = g ∙ ap₂ (λ b x. cond b (row_at table x).words 0) e is ∙ left_words_is t n ok table k h laid;
        right_is = g' ∙ ap₂ (λ b x. cond b (row_at table x).words 0) e' f' ∙ right_words_is t n ok table k h laid;
      }

  pub next_fits : (at a c : ℕ) → Next t k at a c → a + c + own (entry t k) ≤ 8192
  next_fits at a c is =
      rw (is.left_is, is.right_is) (subst (λ w. w ≤ 8192) (sym (row_sum t n ok k h)) (part_bound t n ok k h))

-- THEOREMS

-- the words of an entry's part are those of its subformula
pub words_at : (t : List Entry) (n : ℕ) → WellFormed t n → (φ : Formula) (k : ℕ) → k < n → FormulaAt t k φ → subformula_words t k ≡ needed_words φ
unfolding FormulaAt needed_words
words_at t n ok (letter l) k h e = (ok.leaf k h (ap (λ x. operands x.kind) e)).part_is ∙ ap own e
words_at t n ok (not φ) k h (e, b, f) = unary_words t n ok k h e refl (words_at t n ok φ (k - 1) (omega arith) f)
words_at t n ok (or φ ψ) k h (e, b, f, g) =
    binary_words t n ok k h e refl (words_at t n ok φ (left t k) (omega arith) f) (words_at t n ok ψ (k - 1) (omega arith) g)
words_at t n ok (previous low high φ) k h (e, b, f) = unary_words t n ok k h e refl (words_at t n ok φ (k - 1) (omega arith) f)
words_at t n ok (next low high φ) k h (e, b, f) = unary_words t n ok k h e refl (words_at t n ok φ (k - 1) (omega arith) f)
words_at t n ok (since low high φ ψ) k h (e, b, f, g) =
    binary_words t n ok k h e refl (words_at t n ok φ (left t k) (omega arith) f) (words_at t n ok ψ (k - 1) (omega arith) g)
words_at t n ok (until low high φ ψ) k h (e, b, f, g) =
    binary_words t n ok k h e refl (words_at t n ok φ (left t k) (omega arith) f) (words_at t n ok ψ (k - 1) (omega arith) g)

pub fields_of : (φ : Formula) → Fields φ (root φ).kind (root φ).letter (root φ).low (root φ).high
fields_of (letter l) = record { kind = refl; letter = refl; low = refl; high = refl }
fields_of (not φ) = record { kind = refl; letter = refl; low = refl; high = refl }
fields_of (or φ ψ) = record { kind = refl; letter = refl; low = refl; high = refl }
fields_of (previous low high φ) = record { kind = refl; letter = refl; low = refl; high = refl }
fields_of (next low high φ) = record { kind = refl; letter = refl; low = refl; high = refl }
fields_of (since low high φ ψ) = record { kind = refl; letter = refl; low = refl; high = refl }
fields_of (until low high φ ψ) = record { kind = refl; letter = refl; low = refl; high = refl }

module _ (t : List Entry) (n : ℕ) (ok : WellFormed t n) (table : List Row) (laid : Laid t n table) where
  pub column_is_part : (k : ℕ) → k < n → (row_at table k).words ≡ subformula_words t k
  column_is_part k h = column_words t n ok table n k (omega arith) laid h

  pub row_ok : (k : ℕ) → k < n → RowOk table k
  row_ok k h =
      let e : kind_at table k ≡ (entry t k).kind = (laid.rows k h).kind in
      let i = ok.in_range k h in
      record {
        letter = let e' = (laid.rows k h).letter in let l = i.letter in omega arith;
        high = let e' = (laid.rows k h).high in ⊎_elim (λ l. omega arith) (λ l. let u = l.0 in omega arith) i.high;
        left = λ l.
            let l' = sym (ap takes_left e) ∙ l in
            let b = (binary_at t n ok k h l').below in
            let at : (row_at table k).left ≡ left t k = (laid.rows k h).left ∙ (rw l') in
            let is : (row_at table k).left_words ≡ subformula_words t (left t k) = (laid.rows k h).left_is ∙ (rw l') in
            (omega arith, ap (λ (i : ℕ). (row_at table i).words) at ∙ column_is_part (left t k) (omega arith) ∙ sym is);
        right = λ l.
            let l' = sym (ap takes_right e) ∙ l in
            let b = below_at t n ok k h l' in
            let is : (row_at table k).right_words ≡ subformula_words t (k - 1) = (laid.rows k h).right_is ∙ (rw l') in
            (b, column_is_part (k - 1) (omega arith) ∙ sym is);
        words = rw ((laid.rows k h).words, (laid.rows k h).left_is, (laid.rows k h).right_is, e, (laid.rows k h).high);
        bound = rw (column_is_part k h) (part_bound t n ok k h);
      }

  -- row k is that of the operator whose entry it is
  row_is : (φ : Formula) (k : ℕ) → k < n → entry t k ≡ root φ →
      cond (takes_left (root φ).kind) (subformula_words t (left t k)) 0 ≡ left_words φ →
      cond (takes_right (root φ).kind) (subformula_words t (k - 1)) 0 ≡ right_words φ → RowOf φ table k
  row_is φ k h e a c =
      let f = fields_of φ in
      record {
        fields = record {
          kind = (laid.rows k h).kind ∙ ap (λ x. x.kind) e ∙ f.kind;
          letter = (laid.rows k h).letter ∙ ap (λ x. x.letter) e ∙ f.letter;
          low = (laid.rows k h).low ∙ ap (λ x. x.low) e ∙ f.low;
          high = (laid.rows k h).high ∙ ap (λ x. x.high) e ∙ f.high;
        };
        left_words = (laid.rows k h).left_is ∙ ap (λ x. cond (takes_left x.kind) (subformula_words t (left t k)) 0) e ∙ a;
        right_words = (laid.rows k h).right_is ∙ ap (λ x. cond (takes_right x.kind) (subformula_words t (k - 1)) 0) e ∙ c;
      }

  left_column : (k : ℕ) {e : Entry} → k < n → entry t k ≡ e → takes_left e.kind ≡ true → (row_at table k).left ≡ left t k
  left_column k h e l = (laid.rows k h).left ∙ ap (λ x. cond (takes_left x.kind) (left t k) 0) e ∙ (rw l)

-- the table has the subformula that ends at entry k
pub has_at : (t : List Entry) (n : ℕ) → WellFormed t n → (table : List Row) → Laid t n table →
    (φ : Formula) (k : ℕ) → k < n → FormulaAt t k φ → Has φ table k
unfolding FormulaAt Has
has_at t n ok table laid (letter l) k h e = row_is t n ok table laid (letter l) k h e refl refl
has_at t n ok table laid (not φ) k h (e, b, f) = (
  row_is t n ok table laid (not φ) k h e refl (words_at t n ok φ (k - 1) (omega arith) f),
  has_at t n ok table laid φ (k - 1) (omega arith) f,
)
has_at t n ok table laid (previous low high φ) k h (e, b, f) = (
  row_is t n ok table laid (previous low high φ) k h e refl (words_at t n ok φ (k - 1) (omega arith) f),
  has_at t n ok table laid φ (k - 1) (omega arith) f,
)
has_at t n ok table laid (next low high φ) k h (e, b, f) = (
  row_is t n ok table laid (next low high φ) k h e refl (words_at t n ok φ (k - 1) (omega arith) f),
  has_at t n ok table laid φ (k - 1) (omega arith) f,
)
has_at t n ok table laid (or φ ψ) k h (e, b, f, g) = (
  row_is t n ok table laid (or φ ψ) k h e (words_at t n ok φ (left t k) (omega arith) f) (words_at t n ok ψ (k - 1) (omega arith) g),
  rw (left_column t n ok table laid k h e refl) (has_at t n ok table laid φ (left t k) (omega arith) f),
  has_at t n ok table laid ψ (k - 1) (omega arith) g,
)
has_at t n ok table laid (since low high φ ψ) k h (e, b, f, g) = (
  row_is t n ok table laid (since low high φ ψ) k h e (words_at t n ok φ (left t k) (omega arith) f) (words_at t n ok ψ (k - 1) (omega arith) g),
  rw (left_column t n ok table laid k h e refl) (has_at t n ok table laid φ (left t k) (omega arith) f),
  has_at t n ok table laid ψ (k - 1) (omega arith) g,
)
has_at t n ok table laid (until low high φ ψ) k h (e, b, f, g) = (
  row_is t n ok table laid (until low high φ ψ) k h e (words_at t n ok φ (left t k) (omega arith) f) (words_at t n ok ψ (k - 1) (omega arith) g),
  rw (left_column t n ok table laid k h e refl) (has_at t n ok table laid φ (left t k) (omega arith) f),
  has_at t n ok table laid ψ (k - 1) (omega arith) g,
)

-- every row up to the last is one of an accepted rule
pub rows_ok : (t : List Entry) (n : ℕ) → WellFormed t n → (table : List Row) → Laid t n table → 0 < n → RowsOk table (n - 1)
rows_ok t n ok table laid some j h = row_ok t n ok table laid j (omega arith)
