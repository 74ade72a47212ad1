-- A subformula's words entry by entry: the block of entry j stands at `offset t j` in the words W behind the checkpoint's header.
use Prim.Native.Nat.{ℕ, suc, ◌+◌, ◌-◌, ◌≤◌, ◌<◌}
use mathlib.Core.Bool.{Bool, true, false, cond}
use mathlib.Core.Logic.{inl, ⊎_elim}
use mathlib.Core.Path.{◌≡◌, refl, sym, ◌∙◌, ap, subst}
use mathlib.Core.List.{List, []}
use native.Mathlib.Nat.{not-suc-le-zero}
use native.Mathlib.Omega.{arith}
use lib.ListN.{length, get_or, take, drop, length-drop}
use lib.Dec.{eqb}
use lib.Seq.{drop-drop, get_or-take, get_or-drop, length-take-le}
use Rattle.mtl.specs.Formula.{Formula, unbounded}
use Rattle.mtl.specs.Formula.Formula.{letter, not, or, previous, next, since, until}
use Rattle.mtl.specs.Log.{Log, Placed}
use Rattle.mtl.proofs.Bounded.{le_or_lt}
use Rattle.mtl.proofs.Closing.{settled_le_size}
use Rattle.rule.specs.declared.Entry.{Entry}
use Rattle.rule.specs.Entries.{entry}
use Rattle.rule.specs.Words.{ring_words, own_words, own, offset}
use Rattle.rule.specs.Postfix.{root}
use Rattle.rule.specs.Operands.{operands, left, subformula_words, FormulaAt, Unary, Binary}
use Rattle.rule.specs.Accepted.{WellFormed}
use Rattle.rule.proofs.Spans.{own_least, offset_mono}
use Rattle.blocks.specs.Block.{word, taken, left_count, right_count, waiting_head, kind_of, high_of, FreshBlock, Onward, cells_of, InRange, Own, Core, Buffers, Ready}
use Rattle.engine.specs.State.{needed_words, Parts, Absent, State, OnwardParts, OnwardNone, OnwardAll, OnwardFormula}
use Rattle.engine.specs.Layout.{subformula_first}
use Rattle.engine.proofs.Parts.{take_drop_take}
use Rattle.engine.proofs.Rows.{words_at, fields_of}
use Rattle.engine.proofs.Heads.{HeadsWithin, heads_fresh, heads_within}
use Rattle.blocks.proofs.Words.{empty_buffer}
use Rattle.blocks.proofs.Onward.{onward_fewer, onward_same}

-- the words of the subformula that ends at entry k
abbrev pub part_words : List Entry → ℕ → List ℕ → List ℕ
part_words t k W = take (subformula_words t k) (drop (offset t (subformula_first t k)) W)

-- WORDS IN PARTS OF LISTS

-- two lists have the same first n words
abbrev Same : ℕ → List ℕ → List ℕ → Type 0
Same n b b' = (i : ℕ) → i < n → word b i ≡ word b' i

part_same : (W : List ℕ) (o w m n p : ℕ) → o + m ≡ p → m + n ≤ w → Same n (drop m (take w (drop o W))) (drop p W)
part_same W o w m n p e h i l =
    get_or-drop m (take w (drop o W)) i 0 ∙ get_or-take w (drop o W) (m + i) 0 (omega arith) ∙ get_or-drop o W (m + i) 0 ∙
    ap (λ x. get_or W x 0) (omega arith) ∙ sym (get_or-drop p W i 0)

-- a part of a part
part_of_part : (W : List ℕ) (o w a c p : ℕ) → o + a ≡ p → a + c ≤ w → take c (drop a (take w (drop o W))) ≡ take c (drop p W)
part_of_part W o w a c p e h = take_drop_take a c w (drop o W) h ∙ ap (take c) (drop-drop a o W ∙ ap (λ x. drop x W) e)

range_same : {size cells : ℕ} (b b' : List ℕ) → Same 16 b b' → InRange size cells b → InRange size cells b'
range_same b b' same r =
    omega (
      arith,
      same 0 (omega arith),
      same 1 (omega arith),
      same 3 (omega arith),
      same 5 (omega arith),
      same 6 (omega arith),
      same 7 (omega arith),
      same 8 (omega arith),
      same 9 (omega arith),
      same 10 (omega arith),
    )

-- WHERE AN ENTRY'S OWN BLOCK STANDS

module _ (t : List Entry) (W : List ℕ) where
  -- from a part's first entry to behind its last
  pub part_ends : (k : ℕ) → offset t (subformula_first t k) + subformula_words t k ≡ offset t (suc k)
  part_ends k = let g = offset_mono t (subformula_first t k) (suc k) (omega arith) in omega arith

  module _ (k a c : ℕ) (all : subformula_words t k ≡ a + c + own (entry t k)) where
    all_same : Same (own (entry t k)) (drop (a + c) (part_words t k W)) (drop (offset t k) W)
    unfolding offset
    all_same =
        let p = part_ends k in
        part_same W (offset t (subformula_first t k)) (subformula_words t k) (a + c) (own (entry t k)) (offset t k) (omega arith) (omega arith)

    own_same : Same 16 (drop (a + c) (part_words t k W)) (drop (offset t k) W)
    own_same i l = all_same i (omega (arith, own_least (entry t k).kind (entry t k).high))

    -- an until's second head is among them
    waiting_same : (entry t k).kind ≡ 6 → waiting_head (drop (a + c) (part_words t k W)) ≡ waiting_head (drop (offset t k) W)
    waiting_same is = all_same 16 (rw is (omega arith))

    own_room : (n : ℕ) → k < n → offset t n ≤ length W → own (entry t k) ≤ length (drop (a + c) (part_words t k W))
    own_room n h room =
        let p = part_ends k in
        let g = offset_mono t (suc k) n h in
        let d = length-drop (offset t (subformula_first t k)) W in
        let l = length-take-le (subformula_words t k) (drop (offset t (subformula_first t k)) W) (omega arith) in
        let l' = length-drop (a + c) (part_words t k W) in
        omega arith

-- A FRESH BLOCK

module _ (φ : Formula) (L : Log) (b : List ℕ) (fresh : FreshBlock (kind_of φ) b) where
  fresh_core : Own φ L 0 b → Core φ L 0 b
  fresh_core is =
      let zeros = fresh.own in
      record {
        reached = omega arith;
        range =
            omega (
              arith,
              zeros 0 (omega arith),
              zeros 1 (omega arith),
              zeros 3 (omega arith),
              zeros 5 (omega arith),
              zeros 6 (omega arith),
              zeros 7 (omega arith),
              zeros 8 (omega arith),
              zeros 9 (omega arith),
              zeros 10 (omega arith),
            );
        own = is;
        heads = heads_fresh φ L b fresh;
      }

ring_least : (high : ℕ) → 1 ≤ ring_words high
ring_least high = least (eqb high unbounded)
  where
    least : (b : Bool) → 1 ≤ cond b 1 (high + 1)
    least true = omega arith
    least false = omega arith

fresh_own : (φ : Formula) (L : Log) (b : List ℕ) → ((i : ℕ) → i < 12 → word b i ≡ 0) → own_words (kind_of φ) (high_of φ) ≤ length b → Own φ L 0 b
fresh_own (letter k) L b zeros room = zeros 0 (omega arith)
fresh_own (not φ) L b zeros room = zeros 0 (omega arith)
fresh_own (or φ ψ) L b zeros room = zeros 0 (omega arith)
fresh_own (previous low high φ) L b zeros room = (zeros 5 (omega arith), zeros 0 (omega arith))
fresh_own (next low high φ) L b zeros room = let z = zeros 0 (omega arith) in (zeros 5 (omega arith), inl (omega arith))
fresh_own (since low high φ ψ) L b zeros room =
    let z = zeros 9 (omega arith) in
    let r = ring_least high in
    record {
      at = zeros 0 (omega arith);
      times = [];
      ring = record {
        room = room;
        start = omega arith;
        count = zeros 10 (omega arith);
        fits = omega arith;
        at = λ i h. absurd (not-suc-le-zero h);
      };
      alive = record {
        rising = λ i j l h. absurd (not-suc-le-zero h);
        sound = λ i h. absurd (not-suc-le-zero h);
        complete = λ j is near. absurd (not-suc-le-zero is.before);
      };
    }
fresh_own (until low high φ ψ) L b zeros room =
    let z = zeros 0 (omega arith) in (
      zeros 5 (omega arith),
      record {
        ahead = omega arith;
        last_left = λ h. absurd (omega arith);
        last_right = λ h. absurd (omega arith);
        last_time = λ h. absurd (omega arith);
        left_held = λ k g h. absurd (omega arith);
        right_early = λ k g h e. absurd (omega arith);
        not_over = λ h. absurd (omega arith);
      },
    )

fresh_buffers : (φ : Formula) (L : Log) (b : List ℕ) → taken b ≡ 0 → left_count b ≡ 0 → right_count b ≡ 0 → Buffers φ L b
fresh_buffers (letter k) L b z l r = tt
fresh_buffers (not φ) L b z l r = empty_buffer φ L _ _ _ (omega arith) r
fresh_buffers (or φ ψ) L b z l r = (empty_buffer φ L _ _ _ (omega arith) l, empty_buffer ψ L _ _ _ (omega arith) r)
fresh_buffers (previous low high φ) L b z l r = empty_buffer φ L _ _ _ (omega arith) r
fresh_buffers (next low high φ) L b z l r = empty_buffer φ L _ _ _ (omega arith) r
fresh_buffers (since low high φ ψ) L b z l r = (empty_buffer φ L _ _ _ (omega arith) l, empty_buffer ψ L _ _ _ (omega arith) r)
fresh_buffers (until low high φ ψ) L b z l r = (empty_buffer φ L _ _ _ (omega arith) l, empty_buffer ψ L _ _ _ (omega arith) r)

-- the entry's fields in a formula's names
entry_fields : (P : (kind high : ℕ) → Type 0) (φ : Formula) (e : Entry) → e ≡ root φ → P e.kind e.high → P (kind_of φ) (high_of φ)
entry_fields P φ e is p =
    let f = fields_of φ in
    rw (← f.kind, ← f.high) (subst (λ x. P x.kind x.high) is p)

module _ (t : List Entry) (n : ℕ) (W : List ℕ) (room : offset t n ≤ length W) (φ : Formula) (k a c : ℕ) (h : k < n) (is : entry t k ≡ root φ)
    (all : subformula_words t k ≡ a + c + own (entry t k))
    (block : FreshBlock (entry t k).kind (drop (offset t k) W)) (L : Log) where
  fresh_block : FreshBlock (kind_of φ) (drop (a + c) (part_words t k W))
  fresh_block =
      entry_fields (λ kind high. FreshBlock kind (drop (a + c) (part_words t k W))) φ (entry t k) is
      (record {
        own = λ i l. own_same t W k a c all i (omega arith) ∙ block.own i l;
        waiting = λ until. waiting_same t W k a c all until ∙ block.waiting until;
      })

  fresh_ready : Ready φ L 0 (drop (a + c) (part_words t k W))
  fresh_ready =
      let zeros = fresh_block.own in
      let r = entry_fields (λ kind high. own_words kind high ≤ length (drop (a + c) (part_words t k W))) φ (entry t k) is
      (own_room t W k a c all n h room) in
      record {
        core = fresh_core φ L (drop (a + c) (part_words t k W)) fresh_block (fresh_own φ L (drop (a + c) (part_words t k W)) zeros r);
        buffers = fresh_buffers φ L (drop (a + c) (part_words t k W)) (zeros 0 (omega arith)) (zeros 1 (omega arith)) (zeros 3 (omega arith));
      }

  fresh_parts : (Left Right : ℕ → List ℕ → Type 0) (us vs : List ℕ) →
      take a (part_words t k W) ≡ us → take c (drop a (part_words t k W)) ≡ vs → Left 0 us → Right 0 vs →
      Parts (Ready φ L 0) Left Right a c (part_words t k W)
  fresh_parts Left Right us vs e f l r =
      let zeros = fresh_block.own in
      let z = zeros 0 (omega arith) in
      let z' = zeros 1 (omega arith) in
      let z'' = zeros 3 (omega arith) in
      record {
        own = fresh_ready;
        left = subst (λ p. Left p (take a (part_words t k W))) (omega arith) (subst (Left 0) (sym e) l);
        right = subst (λ p. Right p (take c (drop a (part_words t k W)))) (omega arith) (subst (Right 0) (sym f) r);
      }

-- A BLOCK IN ITS RANGES

-- the block of entry j is in its ranges, on a log of so many positions in so many records
abbrev pub Ranged : List Entry → List ℕ → (size records j : ℕ) → Type 0
Ranged t W size records j =
    InRange size (cells_of (entry t j).kind (entry t j).high) (drop (offset t j) W) × HeadsWithin (entry t j).kind records (drop (offset t j) W)

-- a formula's names in the entry's fields
fields_entry : (P : (kind high : ℕ) → Type 0) (φ : Formula) (e : Entry) → e ≡ root φ → P (kind_of φ) (high_of φ) → P e.kind e.high
fields_entry P φ e is p =
    let f = fields_of φ in
    subst (λ x. P x.kind x.high) (sym is) (rw (f.kind, f.high) p)

own_ranged : (t : List Entry) (W : List ℕ) (φ : Formula) (L : Log) (records : ℕ) → Placed L records → (g k a c : ℕ) → entry t k ≡ root φ →
    subformula_words t k ≡ a + c + own (entry t k) → Ready φ L g (drop (a + c) (part_words t k W)) → (j : ℕ) → k ≤ j → j ≤ k → Ranged t W L.size records j
own_ranged t W φ L records placed g k a c is all ready j l l' =
    let b = drop (a + c) (part_words t k W) in
    let b' = drop (offset t k) W in
    let same = own_same t W k a c all in
    let core = ready.core in
    let heads =
    fields_entry (λ kind high. HeadsWithin kind records b) φ (entry t k) is
    (heads_within L records placed g b core.range.at (omega (arith, core.reached, settled_le_size φ L)) φ core.heads) in
    subst (Ranged t W L.size records) (omega arith) (
      fields_entry (λ kind high. InRange L.size (cells_of kind high) b') φ (entry t k) is (range_same b b' same core.range),
      record { own = rw (← same 11 (omega arith)) heads.own; waiting = λ until. rw (← waiting_same t W k a c all until) (heads.waiting until) },
    )

-- A BLOCK THAT HAS GONE ON

-- the block of entry j in W and in W', with the words from w on kept
abbrev pub OnwardEntry : (w : ℕ) → List Entry → (W W' : List ℕ) → ℕ → Type 0
OnwardEntry w t W W' j = Onward w (drop (offset t j) W) (drop (offset t j) W')

own_onward : (w : ℕ) (t : List Entry) (W W' : List ℕ) (k a c : ℕ) → subformula_words t k ≡ a + c + own (entry t k) →
    Onward w (drop (a + c) (part_words t k W)) (drop (a + c) (part_words t k W')) → (j : ℕ) → k ≤ j → j ≤ k → OnwardEntry w t W W' j
own_onward w t W W' k a c all onward j l l' =
    subst (OnwardEntry w t W W') (omega arith)
    (onward_same (drop (a + c) (part_words t k W)) (drop (offset t k) W) (drop (a + c) (part_words t k W')) (drop (offset t k) W')
    (own_same t W k a c all) (own_same t W' k a c all) onward)

-- the block of entry j where entry k is the last of a formula: that one's words 12 and 13 may be written
abbrev pub FormulaEntry : List Entry → (W W' : List ℕ) → (k j : ℕ) → Type 0
FormulaEntry t W W' k j = OnwardEntry 14 t W W' j × ((j ≡ k → ⊥) → OnwardEntry 12 t W W' j)

as_last : (t : List Entry) (W W' : List ℕ) (k j : ℕ) → k ≤ j → j ≤ k → OnwardEntry 14 t W W' j → FormulaEntry t W W' k j
as_last t W W' k j l l' onward = (onward, λ other. absurd (other (omega arith)))

-- BLOCK BY BLOCK

-- every block of the entries from f to k is fresh, in its ranges, or has gone on
abbrev pub FreshFrom : List Entry → List ℕ → ℕ → ℕ → Type 0
FreshFrom t W f k = (j : ℕ) → f ≤ j → j ≤ k → FreshBlock (entry t j).kind (drop (offset t j) W)

abbrev pub RangedFrom : List Entry → List ℕ → (size records : ℕ) → ℕ → ℕ → Type 0
RangedFrom t W size records f k = (j : ℕ) → f ≤ j → j ≤ k → Ranged t W size records j

abbrev pub OnwardFrom : List Entry → (W W' : List ℕ) → ℕ → ℕ → Type 0
OnwardFrom t W W' f k = (j : ℕ) → f ≤ j → j ≤ k → OnwardEntry 12 t W W' j

abbrev pub FormulaFrom : List Entry → (W W' : List ℕ) → ℕ → ℕ → Type 0
FormulaFrom t W W' f k = (j : ℕ) → f ≤ j → j ≤ k → FormulaEntry t W W' k j

-- the operands' entries keep all four words
operand_entries : (t : List Entry) (W W' : List ℕ) (f m k : ℕ) → OnwardFrom t W W' f m → (j : ℕ) → f ≤ j → j ≤ m → FormulaEntry t W W' k j
operand_entries t W W' f m k onward j from to = (onward_fewer (omega arith) (onward j from to), λ other. onward j from to)

-- an entry of χ with one operand φ
module _ (t : List Entry) (n : ℕ) (ok : WellFormed t n) (χ φ : Formula) (k : ℕ) (h : k < n) (is : entry t k ≡ root χ)
    (one : operands (root χ).kind ≡ 1) (at : FormulaAt t (k - 1) φ) where
  unary : Unary t k
  unary = ok.unary k h (ap (λ x. operands x.kind) is ∙ one)

  one_words : needed_words φ ≡ subformula_words t (k - 1)
  one_words = sym (words_at t n ok φ (k - 1) (omega arith) at)

  one_first : subformula_first t (k - 1) ≡ subformula_first t k
  one_first = omega (arith, unary.below, unary.span_is)

  one_part : subformula_words t k ≡ 0 + needed_words φ + own (entry t k)
  one_part = omega (arith, unary.part_is, one_words)

  one_right : (W : List ℕ) → take (needed_words φ) (drop 0 (part_words t k W)) ≡ part_words t (k - 1) W
  one_right W =
      part_of_part W (offset t (subformula_first t k)) (subformula_words t k) 0 (needed_words φ) (offset t (subformula_first t (k - 1))) (rw one_first (omega arith)) (omega (arith, one_part)) ∙
      ap (λ x. take x (drop (offset t (subformula_first t (k - 1))) W)) one_words

  -- entry k itself, and the entries of its operand
  from_one : (P : ℕ → Type 0) → ((j : ℕ) → k ≤ j → j ≤ k → P j) → ((j : ℕ) → subformula_first t (k - 1) ≤ j → j ≤ k - 1 → P j) →
      (j : ℕ) → subformula_first t k ≤ j → j ≤ k → P j
  from_one P here right j from to =
      ⊎_elim (λ (l : k ≤ j). here j l to) (λ (l : j < k). right j (omega (arith, one_first)) (omega arith)) (le_or_lt k j)

  module _ (W W' : List ℕ) (right : OnwardAll φ (part_words t (k - 1) W) (part_words t (k - 1) W') → OnwardFrom t W W' (subformula_first t (k - 1)) (k - 1)) where
    onward_one : OnwardParts 12 OnwardNone (OnwardAll φ) 0 (needed_words φ) (part_words t k W) (part_words t k W') → OnwardFrom t W W' (subformula_first t k) k
    onward_one s =
        from_one (OnwardEntry 12 t W W') (own_onward 12 t W W' k 0 (needed_words φ) one_part s.own) (right (rw (one_right W, one_right W') at s.right))

    formula_one : OnwardParts 14 OnwardNone (OnwardAll φ) 0 (needed_words φ) (part_words t k W) (part_words t k W') → FormulaFrom t W W' (subformula_first t k) k
    formula_one s =
        from_one (FormulaEntry t W W' k) (λ j l l'. as_last t W W' k j l l' (own_onward 14 t W W' k 0 (needed_words φ) one_part s.own j l l'))
        (operand_entries t W W' (subformula_first t (k - 1)) (k - 1) k (right (rw (one_right W, one_right W') at s.right)))

  module _ (W : List ℕ) (L : Log) where
    fresh_one : offset t n ≤ length W → FreshFrom t W (subformula_first t k) k →
        (FreshFrom t W (subformula_first t (k - 1)) (k - 1) → State φ L 0 (part_words t (k - 1) W)) →
        Parts (Ready χ L 0) Absent (State φ L) 0 (needed_words φ) (part_words t k W)
    fresh_one room fresh right =
        fresh_parts t n W room χ k 0 (needed_words φ) h is one_part (fresh k (omega (arith, unary.span_is)) (omega arith)) L Absent (State φ L) _ _ refl (one_right W) tt
        (right (λ j l l'. fresh j (omega (arith, one_first)) (omega arith)))

    ranged_one : (records : ℕ) → Placed L records → (g : ℕ) → Parts (Ready χ L g) Absent (State φ L) 0 (needed_words φ) (part_words t k W) →
        ((p : ℕ) → State φ L p (part_words t (k - 1) W) → RangedFrom t W L.size records (subformula_first t (k - 1)) (k - 1)) →
        RangedFrom t W L.size records (subformula_first t k) k
    ranged_one records placed g s right =
        from_one (Ranged t W L.size records) (own_ranged t W χ L records placed g k 0 (needed_words φ) is one_part s.own)
        (right _ (subst (State φ L _) (one_right W) s.right))

-- an entry of χ with two operands φ and ψ
module _ (t : List Entry) (n : ℕ) (ok : WellFormed t n) (χ φ ψ : Formula) (k : ℕ) (h : k < n) (is : entry t k ≡ root χ)
    (two : operands (root χ).kind ≡ 2) (at_left : FormulaAt t (left t k) φ) (at_right : FormulaAt t (k - 1) ψ) where
  binary : Binary t k
  binary = ok.binary k h (ap (λ x. operands x.kind) is ∙ two)

  two_lefts : needed_words φ ≡ subformula_words t (left t k)
  two_lefts = sym (words_at t n ok φ (left t k) (omega arith) at_left)

  two_rights : needed_words ψ ≡ subformula_words t (k - 1)
  two_rights = sym (words_at t n ok ψ (k - 1) (omega arith) at_right)

  two_first : subformula_first t (left t k) ≡ subformula_first t k
  two_first = omega (arith, binary.below, binary.span_is)

  two_next : subformula_first t (k - 1) ≡ suc (left t k)
  two_next = omega (arith, binary.below)

  two_part : subformula_words t k ≡ needed_words φ + needed_words ψ + own (entry t k)
  two_part = omega (arith, binary.part_is, two_lefts, two_rights)

  two_left : (W : List ℕ) → take (needed_words φ) (part_words t k W) ≡ part_words t (left t k) W
  two_left W =
      part_of_part W (offset t (subformula_first t k)) (subformula_words t k) 0 (needed_words φ) (offset t (subformula_first t (left t k))) (rw two_first (omega arith)) (omega (arith, two_part)) ∙
      ap (λ x. take x (drop (offset t (subformula_first t (left t k))) W)) two_lefts

  two_right : (W : List ℕ) → take (needed_words ψ) (drop (needed_words φ) (part_words t k W)) ≡ part_words t (k - 1) W
  two_right W =
      let e : offset t (subformula_first t k) + needed_words φ ≡ offset t (subformula_first t (k - 1)) = rw (two_next, ← two_first, two_lefts) (part_ends t W (left t k)) in
      part_of_part W (offset t (subformula_first t k)) (subformula_words t k) (needed_words φ) (needed_words ψ) (offset t (subformula_first t (k - 1))) e (omega (arith, two_part)) ∙
      ap (λ x. take x (drop (offset t (subformula_first t (k - 1))) W)) two_rights

  -- entry k itself, and the entries of its operands
  from_two : (P : ℕ → Type 0) → ((j : ℕ) → k ≤ j → j ≤ k → P j) → ((j : ℕ) → subformula_first t (left t k) ≤ j → j ≤ left t k → P j) →
      ((j : ℕ) → subformula_first t (k - 1) ≤ j → j ≤ k - 1 → P j) → (j : ℕ) → subformula_first t k ≤ j → j ≤ k → P j
  from_two P here lefts rights j from to =
      ⊎_elim
      (λ (l : k ≤ j). here j l to)
      (λ (l : j < k).
      ⊎_elim
      (λ (m : j ≤ left t k). lefts j (omega (arith, two_first)) m)
      (λ (m : left t k < j). rights j (omega (arith, two_next)) (omega arith))
      (le_or_lt j (left t k)))
      (le_or_lt k j)

  module _ (W W' : List ℕ) (lefts : OnwardAll φ (part_words t (left t k) W) (part_words t (left t k) W') → OnwardFrom t W W' (subformula_first t (left t k)) (left t k))
      (rights : OnwardAll ψ (part_words t (k - 1) W) (part_words t (k - 1) W') → OnwardFrom t W W' (subformula_first t (k - 1)) (k - 1)) where
    onward_two : OnwardParts 12 (OnwardAll φ) (OnwardAll ψ) (needed_words φ) (needed_words ψ) (part_words t k W) (part_words t k W') → OnwardFrom t W W' (subformula_first t k) k
    onward_two s =
        from_two (OnwardEntry 12 t W W') (own_onward 12 t W W' k (needed_words φ) (needed_words ψ) two_part s.own)
        (lefts (rw (two_left W, two_left W') at s.left))
        (rights (rw (two_right W, two_right W') at s.right))

    formula_two : OnwardParts 14 (OnwardAll φ) (OnwardAll ψ) (needed_words φ) (needed_words ψ) (part_words t k W) (part_words t k W') → FormulaFrom t W W' (subformula_first t k) k
    formula_two s =
        from_two (FormulaEntry t W W' k) (λ j l l'. as_last t W W' k j l l' (own_onward 14 t W W' k (needed_words φ) (needed_words ψ) two_part s.own j l l'))
        (operand_entries t W W' (subformula_first t (left t k)) (left t k) k (lefts (rw (two_left W, two_left W') at s.left)))
        (operand_entries t W W' (subformula_first t (k - 1)) (k - 1) k (rights (rw (two_right W, two_right W') at s.right)))

  module _ (W : List ℕ) (L : Log) where
    fresh_two : offset t n ≤ length W → FreshFrom t W (subformula_first t k) k →
        (FreshFrom t W (subformula_first t (left t k)) (left t k) → State φ L 0 (part_words t (left t k) W)) →
        (FreshFrom t W (subformula_first t (k - 1)) (k - 1) → State ψ L 0 (part_words t (k - 1) W)) →
        Parts (Ready χ L 0) (State φ L) (State ψ L) (needed_words φ) (needed_words ψ) (part_words t k W)
    fresh_two room fresh lefts rights =
        fresh_parts t n W room χ k (needed_words φ) (needed_words ψ) h is two_part (fresh k (omega (arith, binary.span_is)) (omega arith)) L (State φ L) (State ψ L) _ _ (two_left W) (two_right W)
        (lefts (λ j l l'. fresh j (omega (arith, two_first)) (omega arith)))
        (rights (λ j l l'. fresh j (omega (arith, two_first, two_next)) (omega arith)))

    ranged_two : (records : ℕ) → Placed L records → (g : ℕ) → Parts (Ready χ L g) (State φ L) (State ψ L) (needed_words φ) (needed_words ψ) (part_words t k W) →
        ((p : ℕ) → State φ L p (part_words t (left t k) W) → RangedFrom t W L.size records (subformula_first t (left t k)) (left t k)) →
        ((p : ℕ) → State ψ L p (part_words t (k - 1) W) → RangedFrom t W L.size records (subformula_first t (k - 1)) (k - 1)) →
        RangedFrom t W L.size records (subformula_first t k) k
    ranged_two records placed g s lefts rights =
        from_two (Ranged t W L.size records) (own_ranged t W χ L records placed g k (needed_words φ) (needed_words ψ) is two_part s.own)
        (lefts _ (subst (State φ L _) (two_left W) s.left))
        (rights _ (subst (State ψ L _) (two_right W) s.right))

-- THEOREM: the words that open writes have the state at 0, on every log.
pub fresh_state : (t : List Entry) (n : ℕ) → WellFormed t n → (W : List ℕ) → offset t n ≤ length W → (φ : Formula) (k : ℕ) → k < n →
    FormulaAt t k φ → (L : Log) → FreshFrom t W (subformula_first t k) k → State φ L 0 (part_words t k W)
unfolding FormulaAt State
fresh_state t n ok W room (letter l) k h e L fresh =
    let p = ok.leaf k h (ap (λ x. operands x.kind) e) in
    let s = p.span_is in
    let q = p.part_is in
    fresh_parts t n W room (letter l) k 0 0 h e (omega arith) (fresh k (omega arith) (omega arith)) L Absent Absent _ _ refl refl tt tt
fresh_state t n ok W room (not φ) k h (e, b, f) L fresh =
    fresh_one t n ok (not φ) φ k h e refl f W L room fresh (fresh_state t n ok W room φ (k - 1) (omega arith) f L)
fresh_state t n ok W room (or φ ψ) k h (e, b, f, f') L fresh =
    fresh_two t n ok (or φ ψ) φ ψ k h e refl f f' W L room fresh (fresh_state t n ok W room φ (left t k) (omega arith) f L)
    (fresh_state t n ok W room ψ (k - 1) (omega arith) f' L)
fresh_state t n ok W room (previous low high φ) k h (e, b, f) L fresh =
    fresh_one t n ok (previous low high φ) φ k h e refl f W L room fresh (fresh_state t n ok W room φ (k - 1) (omega arith) f L)
fresh_state t n ok W room (next low high φ) k h (e, b, f) L fresh =
    fresh_one t n ok (next low high φ) φ k h e refl f W L room fresh (fresh_state t n ok W room φ (k - 1) (omega arith) f L)
fresh_state t n ok W room (since low high φ ψ) k h (e, b, f, f') L fresh =
    fresh_two t n ok (since low high φ ψ) φ ψ k h e refl f f' W L room fresh (fresh_state t n ok W room φ (left t k) (omega arith) f L)
    (fresh_state t n ok W room ψ (k - 1) (omega arith) f' L)
fresh_state t n ok W room (until low high φ ψ) k h (e, b, f, f') L fresh =
    fresh_two t n ok (until low high φ ψ) φ ψ k h e refl f f' W L room fresh (fresh_state t n ok W room φ (left t k) (omega arith) f L)
    (fresh_state t n ok W room ψ (k - 1) (omega arith) f' L)

-- THEOREM: where the words have the state, every block is in its ranges.
pub state_ranges : (t : List Entry) (n : ℕ) → WellFormed t n → (W : List ℕ) (φ : Formula) (k : ℕ) → k < n → FormulaAt t k φ →
    (L : Log) (records : ℕ) → Placed L records → (g : ℕ) → State φ L g (part_words t k W) → RangedFrom t W L.size records (subformula_first t k) k
unfolding FormulaAt State
state_ranges t n ok W (letter l) k h e L records placed g s =
    let p = ok.leaf k h (ap (λ x. operands x.kind) e) in
    let q = p.span_is in
    let q' = p.part_is in
    λ j from to. own_ranged t W (letter l) L records placed g k 0 0 e (omega arith) s.own j (omega arith) to
state_ranges t n ok W (not φ) k h (e, b, f) L records placed g s =
    ranged_one t n ok (not φ) φ k h e refl f W L records placed g s (state_ranges t n ok W φ (k - 1) (omega arith) f L records placed)
state_ranges t n ok W (or φ ψ) k h (e, b, f, f') L records placed g s =
    ranged_two t n ok (or φ ψ) φ ψ k h e refl f f' W L records placed g s (state_ranges t n ok W φ (left t k) (omega arith) f L records placed)
    (state_ranges t n ok W ψ (k - 1) (omega arith) f' L records placed)
state_ranges t n ok W (previous low high φ) k h (e, b, f) L records placed g s =
    ranged_one t n ok (previous low high φ) φ k h e refl f W L records placed g s (state_ranges t n ok W φ (k - 1) (omega arith) f L records placed)
state_ranges t n ok W (next low high φ) k h (e, b, f) L records placed g s =
    ranged_one t n ok (next low high φ) φ k h e refl f W L records placed g s (state_ranges t n ok W φ (k - 1) (omega arith) f L records placed)
state_ranges t n ok W (since low high φ ψ) k h (e, b, f, f') L records placed g s =
    ranged_two t n ok (since low high φ ψ) φ ψ k h e refl f f' W L records placed g s (state_ranges t n ok W φ (left t k) (omega arith) f L records placed)
    (state_ranges t n ok W ψ (k - 1) (omega arith) f' L records placed)
state_ranges t n ok W (until low high φ ψ) k h (e, b, f, f') L records placed g s =
    ranged_two t n ok (until low high φ ψ) φ ψ k h e refl f f' W L records placed g s (state_ranges t n ok W φ (left t k) (omega arith) f L records placed)
    (state_ranges t n ok W ψ (k - 1) (omega arith) f' L records placed)

-- THEOREM: where no head goes back in a subformula's blocks and words 12 to 15 are kept, so it is in each of its entries' blocks.
pub entries_onward : (t : List Entry) (n : ℕ) → WellFormed t n → (W W' : List ℕ) (φ : Formula) (k : ℕ) → k < n → FormulaAt t k φ →
    OnwardAll φ (part_words t k W) (part_words t k W') → OnwardFrom t W W' (subformula_first t k) k
unfolding FormulaAt OnwardAll
entries_onward t n ok W W' (letter l) k h e s =
    let p = ok.leaf k h (ap (λ x. operands x.kind) e) in
    let q = p.span_is in
    let q' = p.part_is in
    λ j from to. own_onward 12 t W W' k 0 0 (omega arith) s.own j (omega arith) to
entries_onward t n ok W W' (not φ) k h (e, b, f) s =
    onward_one t n ok (not φ) φ k h e refl f W W' (entries_onward t n ok W W' φ (k - 1) (omega arith) f) s
entries_onward t n ok W W' (or φ ψ) k h (e, b, f, f') s =
    onward_two t n ok (or φ ψ) φ ψ k h e refl f f' W W' (entries_onward t n ok W W' φ (left t k) (omega arith) f)
    (entries_onward t n ok W W' ψ (k - 1) (omega arith) f') s
entries_onward t n ok W W' (previous low high φ) k h (e, b, f) s =
    onward_one t n ok (previous low high φ) φ k h e refl f W W' (entries_onward t n ok W W' φ (k - 1) (omega arith) f) s
entries_onward t n ok W W' (next low high φ) k h (e, b, f) s =
    onward_one t n ok (next low high φ) φ k h e refl f W W' (entries_onward t n ok W W' φ (k - 1) (omega arith) f) s
entries_onward t n ok W W' (since low high φ ψ) k h (e, b, f, f') s =
    onward_two t n ok (since low high φ ψ) φ ψ k h e refl f f' W W' (entries_onward t n ok W W' φ (left t k) (omega arith) f)
    (entries_onward t n ok W W' ψ (k - 1) (omega arith) f') s
entries_onward t n ok W W' (until low high φ ψ) k h (e, b, f, f') s =
    onward_two t n ok (until low high φ ψ) φ ψ k h e refl f f' W W' (entries_onward t n ok W W' φ (left t k) (omega arith) f)
    (entries_onward t n ok W W' ψ (k - 1) (omega arith) f') s

-- THEOREM: the same but for words 12 and 13 of the formula's own block.
pub entries_formula : (t : List Entry) (n : ℕ) → WellFormed t n → (W W' : List ℕ) (φ : Formula) (k : ℕ) → k < n → FormulaAt t k φ →
    OnwardFormula φ (part_words t k W) (part_words t k W') → FormulaFrom t W W' (subformula_first t k) k
unfolding FormulaAt
entries_formula t n ok W W' (letter l) k h e s =
    let p = ok.leaf k h (ap (λ x. operands x.kind) e) in
    let q = p.span_is in
    let q' = p.part_is in
    λ j from to. as_last t W W' k j (omega arith) to (own_onward 14 t W W' k 0 0 (omega arith) s.own j (omega arith) to)
entries_formula t n ok W W' (not φ) k h (e, b, f) s =
    formula_one t n ok (not φ) φ k h e refl f W W' (entries_onward t n ok W W' φ (k - 1) (omega arith) f) s
entries_formula t n ok W W' (or φ ψ) k h (e, b, f, f') s =
    formula_two t n ok (or φ ψ) φ ψ k h e refl f f' W W' (entries_onward t n ok W W' φ (left t k) (omega arith) f)
    (entries_onward t n ok W W' ψ (k - 1) (omega arith) f') s
entries_formula t n ok W W' (previous low high φ) k h (e, b, f) s =
    formula_one t n ok (previous low high φ) φ k h e refl f W W' (entries_onward t n ok W W' φ (k - 1) (omega arith) f) s
entries_formula t n ok W W' (next low high φ) k h (e, b, f) s =
    formula_one t n ok (next low high φ) φ k h e refl f W W' (entries_onward t n ok W W' φ (k - 1) (omega arith) f) s
entries_formula t n ok W W' (since low high φ ψ) k h (e, b, f, f') s =
    formula_two t n ok (since low high φ ψ) φ ψ k h e refl f f' W W' (entries_onward t n ok W W' φ (left t k) (omega arith) f)
    (entries_onward t n ok W W' ψ (k - 1) (omega arith) f') s
entries_formula t n ok W W' (until low high φ ψ) k h (e, b, f, f') s =
    formula_two t n ok (until low high φ ψ) φ ψ k h e refl f f' W W' (entries_onward t n ok W W' φ (left t k) (omega arith) f)
    (entries_onward t n ok W W' ψ (k - 1) (omega arith) f') s
