-- THEOREMS of paper 13: every fact written holds, and together they force the verdict on any log in which they hold and no time falls.
use Prim.Native.Nat.{ℕ, suc, ◌+◌, ◌-◌, ◌<◌}
use mathlib.Core.Bool.{Bool, true, false, cond, ◌&&◌, ◌||◌}
use mathlib.Core.Bool.{not as negate}
use mathlib.Core.Logic.{⊎_elim}
use mathlib.Core.Path.{◌≡◌, refl, ◌∙◌, ap}
use mathlib.Core.List.{List, [], ◌∷◌, ◌++◌}
use native.Mathlib.Omega.{arith}
use lib.Dec.{ltb, eqb}
use borrow.Author.Tests.{lt-ltb, eqb-true, eq-eqb}
use Rattle.mtl.specs.Formula.{Formula}
use Rattle.mtl.specs.Log.{Log, NeverFalls}
use Rattle.mtl.specs.Satisfaction.{within, since_by, until_by, previous_at, since_at, until_at, sat}
use Rattle.mtl.specs.Progress.{over, progress}
use Rattle.mtl.proofs.Bounded.{true_and_false, any_iff}
use Rattle.mtl.proofs.Until.{progress_le_size, answered_operands, answered_fits, until_answered, until_yes}
use Rattle.rule.specs.Postfix.{size}
use Rattle.reasons.specs.Reason.{Line, either, if_within, since_witness, until_witness, first_near, after_failure, since_denied, denied_left, first_end, cause, until_denied, reason}
use Rattle.reasons.specs.Reason.Cause.{by_left, by_time}
use Rattle.reasons.specs.Reason.Says.{prev, prev_none, since, until, since_no}
use Rattle.reasons.specs.Reason.Line.{sentence}
use Rattle.reasons.specs.Facts.{Said, Facts}
use Rattle.reasons.proofs.Lines.{since_witness_is, since_forced, since_denied_is, until_witness_is, until_forced, until_denied_is}

-- `at` has the subformulas of φ at their entries, its last entry being k
unfoldable pub LaidAt : (at : ℕ → Formula) → Formula → (k : ℕ) → Type 0
LaidAt at (Formula.letter c) k = at k ≡ Formula.letter c
LaidAt at (Formula.not φ) k = (at k ≡ Formula.not φ) × LaidAt at φ (k - 1)
LaidAt at (Formula.or φ ψ) k = (at k ≡ Formula.or φ ψ) × LaidAt at φ (k - 1 - size ψ) × LaidAt at ψ (k - 1)
LaidAt at (Formula.previous low high φ) k = (at k ≡ Formula.previous low high φ) × LaidAt at φ (k - 1)
LaidAt at (Formula.next low high φ) k = (at k ≡ Formula.next low high φ) × LaidAt at φ (k - 1)
LaidAt at (Formula.since low high φ ψ) k = (at k ≡ Formula.since low high φ ψ) × LaidAt at φ (k - 1 - size ψ) × LaidAt at ψ (k - 1)
LaidAt at (Formula.until low high φ ψ) k = (at k ≡ Formula.until low high φ ψ) × LaidAt at φ (k - 1 - size ψ) × LaidAt at ψ (k - 1)

module _ (at : ℕ → Formula) where
  -- the lines of an or, and those behind a gap

  facts_append : (L : Log) (xs ys : List Line) → Facts at L xs → Facts at L ys → Facts at L (xs ++ ys)
  unfolding Facts
  facts_append L [] ys f g = g
  facts_append L (x ∷ xs) ys f g = (f.0, facts_append L xs ys f.1 g)

  facts_split : (L : Log) (xs ys : List Line) → Facts at L (xs ++ ys) → Facts at L xs × Facts at L ys
  unfolding Facts
  facts_split L [] ys f = (tt, f)
  facts_split L (x ∷ xs) ys f = let (a, b) = facts_split L xs ys f.1 in ((f.0, a), b)

  facts_either : (L : Log) (a b : Bool) (xs ys : List Line) → Facts at L xs → Facts at L ys → Facts at L (either a b xs ys)
  facts_either L true b xs ys f g = f
  facts_either L false true xs ys f g = g
  facts_either L false false xs ys f g = facts_append L xs ys f g

  facts_within : (L : Log) (b : Bool) (xs : List Line) → Facts at L xs → Facts at L (if_within b xs)
  unfolding Facts
  facts_within L true xs f = f
  facts_within L false xs f = tt

  -- EVERY FACT WRITTEN HOLDS

  module _ (L : Log) (falls : NeverFalls L) where
    since_said : (low high : ℕ) (φ ψ : Formula) (i : ℕ) → (b : Bool) → since_at low high L.time (sat φ L) (sat ψ L) i ≡ b →
        Said (Formula.since low high φ ψ) L i
        (cond b (since (since_witness low high L.time (sat φ L) (sat ψ L) i)) (since_denied high L.time (sat φ L) i))
    since_said low high φ ψ i true e =
        let first = since_witness_is low high L.time (sat φ L) (sat ψ L) i e in
        let inside = first.inside in
        (omega arith, first.holds)
    since_said low high φ ψ i false e =
        since_denied_is low high L.time (sat φ L) (sat ψ L) i e (Said (Formula.since low high φ ψ) L i) (λ p cause told. told)

    until_said : (low high : ℕ) (φ ψ : Formula) (i : ℕ) → i < progress (Formula.until low high φ ψ) L → (b : Bool) →
        until_at low high L.time (sat φ L) (sat ψ L) L.size i ≡ b →
        Said (Formula.until low high φ ψ) L i
        (cond b (until (until_witness low high L.time (sat φ L) (sat ψ L) L.size i))
        (until_denied high L.time (sat φ L) L.size (progress φ L) i))
    unfolding sat
    until_said low high φ ψ i a true e =
        let first = until_witness_is low high L.time (sat φ L) (sat ψ L) L.size i e in
        (first.inside, first.holds)
    until_said low high φ ψ i a false e =
        let (h, s) = (until_answered low high φ ψ L falls i).0 a in
        until_denied_is low high L.time (sat φ L) (sat ψ L) L.size i (answered_operands φ ψ L) (progress φ L) (omega arith) e
        (⊎_elim (λ y. absurd (true_and_false (until_yes low high φ ψ L falls i h y) e)) (λ n. n.1) s)
        (answered_fits φ ψ L)
        (Said (Formula.until low high φ ψ) L i) (λ p cause told. told)

    pub facts_hold : (φ : Formula) (k : ℕ) → LaidAt at φ k → (i : ℕ) → i < progress φ L → Facts at L (reason φ k L i)
    unfolding LaidAt progress reason Facts sat
    facts_hold (Formula.letter c) k laid i h = ((h, refl), tt)
    facts_hold (Formula.not φ) k laid i h =
        ((let p = progress_le_size φ L in omega arith, tt), facts_hold φ (k - 1) laid.1 i h)
    facts_hold (Formula.or φ ψ) k laid i h = (
      (let p = progress_le_size φ L in omega arith, tt),
      facts_either L (sat φ L i) (sat ψ L i) (reason φ (k - 1 - size ψ) L i) (reason ψ (k - 1) L i)
          (facts_hold φ (k - 1 - size ψ) laid.1 i (omega arith)) (facts_hold ψ (k - 1) laid.2 i (omega arith)),
    )
    facts_hold (Formula.previous low high φ) k laid i h = by (eqb i 0) refl (λ z. facts_hold φ (k - 1) laid.1 (i - 1) (omega arith))
      where
        by : (b : Bool) → eqb i 0 ≡ b → (0 < i → Facts at L (reason φ (k - 1) L (i - 1))) →
            Facts at L
            (cond b
            (sentence k i prev_none ∷ [])
            (sentence k i (prev (L.time i - L.time (i - 1))) ∷
            if_within (within low high (L.time (i - 1)) (L.time i)) (reason φ (k - 1) L (i - 1))))
        by true e ih = ((omega arith, eqb-true i 0 e), tt)
        by false e ih =
            let z : i ≡ 0 → ⊥ = λ s. true_and_false (eq-eqb i 0 s) e in
            ((omega arith, (omega arith, refl)), facts_within L (within low high (L.time (i - 1)) (L.time i)) (reason φ (k - 1) L (i - 1)) (ih (omega arith)))
    facts_hold (Formula.next low high φ) k laid i h =
        let p = progress_le_size φ L in (
          (omega arith, (omega arith, refl)),
          facts_within L (within low high (L.time i) (L.time (i + 1))) (reason φ (k - 1) L (i + 1)) (facts_hold φ (k - 1) laid.1 (i + 1) (omega arith)),
        )
    facts_hold (Formula.since low high φ ψ) k laid i h =
        let p = progress_le_size φ L in
        ((omega arith, rw laid.0 (since_said low high φ ψ i (since_at low high L.time (sat φ L) (sat ψ L) i) refl)), tt)
    facts_hold (Formula.until low high φ ψ) k laid i h =
        let p = progress_le_size (Formula.until low high φ ψ) L in
        ((omega arith, rw laid.0 (until_said low high φ ψ i h (until_at low high L.time (sat φ L) (sat ψ L) L.size i) refl)), tt)

  -- TOGETHER THEY FORCE THE VERDICT

  -- the same gap is within on both logs or on neither
  same_within : (low high a b a' b' : ℕ) → b - a ≡ b' - a' → within low high a b ≡ within low high a' b'
  same_within low high a b a' b' e = rw e

  module _ (K L : Log) (falls : NeverFalls K) where
    or_forced : (x y x' y' : Bool) (xs ys : List Line) → (Facts at K xs → x ≡ x') → (Facts at K ys → y ≡ y') →
        Facts at K (either x' y' xs ys) → x || y ≡ x' || y'
    or_forced x y true y' xs ys f g told = rw (f told)
    or_forced true y false true xs ys f g told = refl
    or_forced false y false true xs ys f g told = g told
    or_forced x y false false xs ys f g told = let (a, b) = facts_split K xs ys told in rw (f a, g b)

    within_forced : (w x x' : Bool) (xs : List Line) → (Facts at K xs → x ≡ x') → Facts at K (if_within w xs) → w && x ≡ w && x'
    within_forced true x x' xs f told = f told
    within_forced false x x' xs f told = refl

    since_line : (low high : ℕ) (φ ψ : Formula) (i : ℕ) → (b : Bool) →
        Said (Formula.since low high φ ψ) K i
        (cond b (since (since_witness low high L.time (sat φ L) (sat ψ L) i)) (since_denied high L.time (sat φ L) i)) →
        since_at low high K.time (sat φ K) (sat ψ K) i ≡ b
    since_line low high φ ψ i true told =
        (any_iff (suc i) (since_by low high K.time (sat φ K) (sat ψ K) i)).1 (_, let x = told.0 in omega arith, told.1)
    since_line low high φ ψ i false told = by (ltb (first_near high L.time i) (after_failure (sat φ L) i)) told
      where
        by : (b : Bool) → Said (Formula.since low high φ ψ) K i
            (cond b (since_no (after_failure (sat φ L) i - 1) by_left) (since_no (first_near high L.time i) by_time)) →
            since_at low high K.time (sat φ K) (sat ψ K) i ≡ false
        by true t = since_forced low high K.time (sat φ K) (sat ψ K) i (after_failure (sat φ L) i - 1) by_left t
        by false t = since_forced low high K.time (sat φ K) (sat ψ K) i (first_near high L.time i) by_time t

    until_line : (low high : ℕ) (φ ψ : Formula) (i : ℕ) → (b : Bool) →
        Said (Formula.until low high φ ψ) K i
        (cond b (until (until_witness low high L.time (sat φ L) (sat ψ L) L.size i))
        (until_denied high L.time (sat φ L) L.size (progress φ L) i)) →
        until_at low high K.time (sat φ K) (sat ψ K) K.size i ≡ b
    until_line low high φ ψ i true told =
        (any_iff K.size (until_by low high K.time (sat φ K) (sat ψ K) i)).1 (_, told.0, told.1)
    until_line low high φ ψ i false told =
        let end = first_end high L.time (sat φ L) L.size (progress φ L) i in
        until_forced low high K.time (sat φ K) (sat ψ K) K.size i falls end (cause (denied_left (sat φ L) (progress φ L) i end) (over high L.time i end)) told

    pub facts_force : (φ : Formula) (k : ℕ) → LaidAt at φ k → (i : ℕ) → i < progress φ L → Facts at K (reason φ k L i) → sat φ K i ≡ sat φ L i
    unfolding LaidAt progress reason Facts sat
    facts_force (Formula.letter c) k laid i h told = told.0.1
    facts_force (Formula.not φ) k laid i h told = ap negate (facts_force φ (k - 1) laid.1 i h told.1)
    facts_force (Formula.or φ ψ) k laid i h told =
        or_forced (sat φ K i) (sat ψ K i) (sat φ L i) (sat ψ L i) (reason φ (k - 1 - size ψ) L i) (reason ψ (k - 1) L i)
        (facts_force φ (k - 1 - size ψ) laid.1 i (omega arith)) (facts_force ψ (k - 1) laid.2 i (omega arith)) told.1
    facts_force (Formula.previous low high φ) k laid i h told = by (eqb i 0) refl told (λ z. facts_force φ (k - 1) laid.1 (i - 1) (omega arith))
      where
        by : (b : Bool) → eqb i 0 ≡ b →
            Facts at K
            (cond b
            (sentence k i prev_none ∷ [])
            (sentence k i (prev (L.time i - L.time (i - 1))) ∷
            if_within (within low high (L.time (i - 1)) (L.time i)) (reason φ (k - 1) L (i - 1)))) →
            (0 < i → Facts at K (reason φ (k - 1) L (i - 1)) → sat φ K (i - 1) ≡ sat φ L (i - 1)) →
            previous_at low high K.time (sat φ K) i ≡ previous_at low high L.time (sat φ L) i
        by true e t ih = let z : ltb 0 i ≡ false = rw (eqb-true i 0 e) in rw z
        by false e t ih =
            let z : i ≡ 0 → ⊥ = λ s. true_and_false (eq-eqb i 0 s) e in
            let s = same_within low high (K.time (i - 1)) (K.time i) (L.time (i - 1)) (L.time i) t.0.1.1 in
            ap (λ (b : Bool). ltb 0 i && b)
            (ap (λ (b : Bool). b && sat φ K (i - 1)) s ∙
            within_forced (within low high (L.time (i - 1)) (L.time i)) (sat φ K (i - 1)) (sat φ L (i - 1)) (reason φ (k - 1) L (i - 1)) (ih (omega arith)) t.1)
    facts_force (Formula.next low high φ) k laid i h told =
        let p = progress_le_size φ L in
        let s = same_within low high (K.time i) (K.time (i + 1)) (L.time i) (L.time (i + 1)) told.0.1.1 in
        let here = lt-ltb (i + 1) K.size told.0.1.0 in
        let there = lt-ltb (i + 1) L.size (omega arith) in
        rw (here, there)
        (ap (λ (b : Bool). b && sat φ K (i + 1)) s ∙
        within_forced (within low high (L.time i) (L.time (i + 1))) (sat φ K (i + 1)) (sat φ L (i + 1)) (reason φ (k - 1) L (i + 1))
        (facts_force φ (k - 1) laid.1 (i + 1) (omega arith)) told.1)
    facts_force (Formula.since low high φ ψ) k laid i h told =
        since_line low high φ ψ i (since_at low high L.time (sat φ L) (sat ψ L) i) (rw laid.0 at told.0.1)
    facts_force (Formula.until low high φ ψ) k laid i h told =
        until_line low high φ ψ i (until_at low high L.time (sat φ L) (sat ψ L) L.size i) (rw laid.0 at told.0.1)
