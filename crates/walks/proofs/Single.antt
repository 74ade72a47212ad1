-- until's walk: what the last position taken and the next one settle, and how a turn of the walk goes on from there.
use Prim.Native.Nat.{ℕ, ◌+◌, ◌-◌, ◌≤◌, ◌<◌, ◌^◌, min}
use mathlib.Core.Bool.{Bool, true, false, cond, ◌||◌, true≢false}
use mathlib.Core.Logic.{◌⊎◌, inl, inr, ⊎_elim}
use mathlib.Core.Path.{◌≡◌, refl, sym, ◌∙◌, ap}
use native.Mathlib.Omega.{arith}
use lib.Dec.{eqb, leb}
use borrow.Author.Tests.{leb-true, leb-false}
use Rattle.mtl.specs.Formula.{Formula, unbounded}
use Rattle.mtl.specs.Formula.Formula.{until}
use Rattle.mtl.specs.Log.{Log, NeverFalls}
use Rattle.mtl.specs.Satisfaction.{sat}
use Rattle.mtl.specs.Progress.{settled_to}
use Rattle.mtl.proofs.Bounded.{and_iff, true_or_false, le_or_lt, Above, above_small}
use Rattle.mtl.proofs.Closing.{settled_closed, by_closed, both_settled, both_fit, until_settles, until_met, until_unmet, until_ends}
use Rattle.bits.specs.Packed.{number, with_bit}
use Rattle.bits.proofs.Laws.{packed_push}
use Rattle.blocks.specs.Block.{Until, Buffer}
use Rattle.walks.specs.Settle.{is_met, is_over, settle_spec, time_of_none, look_spec, take_spec, ReadsTimes, Walks}
use Rattle.walks.specs.declared.Last.{Last}
use Rattle.std.specs.Prelude.{Option, None, Some}
use Rattle.blocks.proofs.Words.{fits}
use Rattle.walks.proofs.Logic as logic

-- an answer as a word
pub is_number : (x : Bool) → eqb (number x) 1 ≡ x
is_number true = refl
is_number false = refl

-- what was found, by the tests of `look_spec`
abbrev Because : (fresh met over : Bool) → Option Bool → Type 0
Because fresh met over (Some true) = (fresh ≡ false) × (met ≡ true)
Because fresh met over (Some false) = (fresh ≡ false) × (met ≡ false) × (over ≡ true)
Because fresh met over None = (fresh ≡ true) ⊎ ((fresh ≡ false) × (met ≡ false) × (over ≡ false))

because : (fresh met over : Bool) (r : Option Bool) → cond fresh None (cond (met || over) (Some met) None) ≡ r → Because fresh met over r
because fresh met over r e = rw e at (all fresh met over)
  where
    all : (fresh met over : Bool) → Because fresh met over (cond fresh None (cond (met || over) (Some met) None))
    all true met over = inl refl
    all false true over = (refl, refl)
    all false false true = (refl, refl, refl)
    all false false false = inr (refl, refl, refl)

-- a position is known only behind those taken
pub known_behind : (low most : ℕ) (start next : ℕ → ℕ) (lead waiting at : ℕ) (last : Last) (v : Bool) →
    look_spec low most start next lead waiting at last ≡ Some v → waiting < lead + at
known_behind low most start next lead waiting at last v e =
    leb-false (lead + at) waiting
    (not_fresh (leb (lead + at) waiting) (is_met low (start waiting) last) (is_over most (start waiting) last (next at)) v e)
  where
    not_fresh : (fresh met over v : Bool) → cond fresh None (cond (met || over) (Some met) None) ≡ Some v → fresh ≡ false
    not_fresh fresh met over true e = (because fresh met over (Some true) e).0
    not_fresh fresh met over false e = (because fresh met over (Some false) e).0

-- what is seen of the log where g waits and p is the next to take: their times, and whether g is behind all that are taken
pub record Sees (L : Log) (g p start next : ℕ) (fresh : Bool) : Type 0 where
  pub none_taken : fresh ≡ true → p ≤ g
  pub some_taken : fresh ≡ false → g < p
  pub bound : (i : ℕ) → g ≤ i → i < L.size → L.time i < 4294967296
  pub here : g < p → start ≡ L.time g
  pub ahead : p < L.size → next ≡ L.time p
  pub none : p ≡ L.size → next ≡ time_of_none L.closed

-- the heads stand at g and p
module _ (low high most : ℕ) (clamp : most ≡ min high unbounded) (φ ψ : Formula) (L : Log) (falls : NeverFalls L) {g p start next : ℕ} {fresh : Bool}
    (sees : Sees L g p start next fresh) (behind : p ≤ both_settled φ ψ L) (last : Last)
    (u : Until low high L.time (sat φ L) (sat ψ L) g p (number last.left) (number last.right) last.time) where
  -- what each finding says of g
  abbrev pub Means : Option Bool → Type 0
  Means (Some v) = (g < settled_to (until low high φ ψ) L) × (sat (until low high φ ψ) L g ≡ v)
  Means None = logic.Waits low high L.time (sat φ L) (sat ψ L) L.size g p

  -- the log is closed and has no position p
  abbrev Ended : Type 0
  Ended = (L.closed ≡ true) × (p ≡ L.size)

  at_end : L.size ≤ p → p ≡ L.size
  at_end h = omega (arith, both_fit φ ψ L)

  -- left failed at the last position taken, or position p lies more than high after g
  abbrev Late : Type 0
  Late = (eqb (number last.left) 1 ≡ false) ⊎ ((p < L.size) × Above high (L.time p - L.time g))

  module _ (some : g < p) where
    -- what the test for the end of a wait says
    late : is_over most start last next ≡ true → Late ⊎ ((last.left ≡ true) × Ended)
    late d =
        ⊎_elim
        (λ l.
        let v = rw l at d in
        ⊎_elim
        (λ h.
        let end = at_end h in
        by_closed L
        (λ c. inr (l, (c, end)))
        (λ o. let z = rw o at (sees.none end) in absurd (omega (arith, leb-true))))
        (λ h.
        let t = sees.ahead h in
        let b = sees.here some in
        let small = sees.bound p (omega arith) h in
        inl (inr (h, above_small high (L.time g) (L.time p) (omega arith) (omega (arith, leb-true)))))
        (le_or_lt L.size p))
        (λ l. inl (inl (is_number last.left ∙ l)))
        (true_or_false last.left)

    soon : is_over most start last next ≡ false →
        (eqb (number last.left) 1 ≡ true) × (p < L.size → L.time p - L.time g ≤ high) × (Ended → ⊥)
    soon d =
        ⊎_elim
        (λ l.
        let v = rw l at d in
        let b = sees.here some in
        let fit = both_fit φ ψ L in
        let small = sees.bound g (omega arith) (omega arith) in (
          is_number last.left ∙ l,
          λ h. let t = sees.ahead h in omega (arith, leb-false),
          λ e. let z = rw e.0 at (sees.none e.1) in omega (arith, leb-false),
        ))
        (λ l. absurd (true≢false (rw l at d)))
        (true_or_false last.left)

    unmet : is_met low start last ≡ false → eqb (number last.right) 1 ≡ true → last.time - L.time g < low
    unmet e r =
        let h = rw (sym (is_number last.right) ∙ r) at e in
        let b = sees.here some in
        omega (arith, leb-false)

    yes : is_met low start last ≡ true → Means (Some true)
    yes e =
        let both = (and_iff last.right (leb low (last.time - start))).0 e in
        let h = both.1 in
        let b = sees.here some in
        let y = logic.met (both_fit φ ψ L) falls behind u some (is_number last.right ∙ both.0) (omega (arith, leb-true)) in
        let k : g < both_settled φ ψ L = omega arith in
        (until_settles low high φ ψ L falls g k (inl y), until_met low high φ ψ L falls g k y)

    no : is_met low start last ≡ false → is_over most start last next ≡ true → Means (Some false)
    no e d = ⊎_elim over ended (late d)
      where
        over : Late → Means (Some false)
        over l =
            let y = logic.over (both_fit φ ψ L) falls behind u some (unmet e) l in
            let k : g < both_settled φ ψ L = omega arith in
            (until_settles low high φ ψ L falls g k (inr y), until_unmet low high φ ψ L falls g k y)

        -- no position follows the last one taken: what waits is no
        ended : (last.left ≡ true) × Ended → Means (Some false)
        ended (l, (c, end)) =
            let whole = settled_closed (until low high φ ψ) L c in
            let fit = both_fit φ ψ L in
            let waits = logic.waits fit falls behind u some (unmet e) (is_number last.left ∙ l) (λ h. absurd (omega arith)) in
            (omega arith, until_ends low high φ ψ L falls g c (λ y. logic.stuck fit falls behind waits (omega arith) (inl y)))

    waits : is_met low start last ≡ false → is_over most start last next ≡ false → Means None
    waits e d = let s = soon d in logic.waits (both_fit φ ψ L) falls behind u some (unmet e) s.0 s.1

  pub finds : (r : Option Bool) → cond fresh None (settle_spec low most start last next) ≡ r → Means r
  finds (Some true) e =
      let b = because fresh (is_met low start last) (is_over most start last next) (Some true) e in
      yes (sees.some_taken b.0) b.1
  finds (Some false) e =
      let b = because fresh (is_met low start last) (is_over most start last next) (Some false) e in
      no (sees.some_taken b.0) b.1 b.2
  finds None e =
      ⊎_elim
      (λ b. let a = u.ahead in let h = sees.none_taken b in logic.waits_fresh (both_fit φ ψ L) falls behind (omega arith))
      (λ b. waits (sees.some_taken b.0) b.1 b.2)
      (because fresh (is_met low start last) (is_over most start last next) None e)

  -- behind the end of a closed log every position is known
  pub none_waits : cond fresh None (settle_spec low most start last next) ≡ None → Ended → p ≤ g
  none_waits e end =
      ⊎_elim
      sees.none_taken
      (λ b. absurd ((soon (sees.some_taken b.0) b.2).2 end))
      (because fresh (is_met low start last) (is_over most start last next) None e)

-- what a walk sees
pub sees_log : (start next : ℕ → ℕ) (lead n count took : ℕ) → count < 64 → took ≤ n → {L : Log} {g at : ℕ} → at ≡ g + lead → at + n ≤ L.size →
    ReadsTimes start next L g at n → Sees L (g + count) (at + took) (start count) (next took) (leb (lead + took) count)
sees_log start next lead n count took few all e inside reads =
    record {
      none_taken = λ t. let h = leb-true (lead + took) count t in omega arith;
      some_taken = λ t. let h = leb-false (lead + took) count t in omega arith;
      bound = λ i a b. reads.bound i (omega arith) b;
      here = λ h. reads.waiting count few (omega arith);
      ahead = reads.ahead took all;
      none = λ z. let t : took ≡ n = omega arith in ap next t ∙ reads.none (omega arith);
    }

-- one turn of a walk
module _ (low most : ℕ) (start next : ℕ → ℕ) (lead n left right : ℕ) (from : Last) (bits count took : ℕ) (last : Last) (few : count < 64) (all : took ≤ n) where
  -- all n positions lie below the operands' numbers
  operands : {φ ψ : Formula} {L : Log} {at : ℕ} → Buffer φ L at n left → Buffer ψ L at n right → at + took ≤ both_settled φ ψ L
  operands a b = let x = a.within in let y = b.within in omega arith

  pub walks_known : (v : Bool) → look_spec low most start next lead count took last ≡ Some v → bits < 2 ^ count →
      Walks low most start next lead n left right from bits count took last →
      Walks low most start next lead n left right from (with_bit bits count v) (count + 1) took last
  walks_known v e small walks high φ ψ L g at clamp behind falls reads a b begun =
      let r = walks high φ ψ L g at clamp behind falls reads a b begun in
      let m = finds low high most clamp φ ψ L falls (sees_log start next lead n count took few all behind (fits a) reads) (operands a b) last r.heads (Some v) e in
      let some = known_behind low most start next lead count took last v e in
      let inside = m.0 in
      record {
        heads = logic.answered_later (both_fit φ ψ L) falls (operands a b) r.heads (omega arith) (g + (count + 1)) (omega arith) (omega arith);
        answers =
            record {
              within = omega arith;
              packed = packed_push (sat (until low high φ ψ) L) g count bits v few small m.1 r.answers.packed;
            };
      }

  pub walks_unknown : look_spec low most start next lead count took last ≡ None → took < n →
      Walks low most start next lead n left right from bits count took last →
      Walks low most start next lead n left right from bits count (took + 1) (take_spec next took left right)
  walks_unknown e h walks high φ ψ L g at clamp behind falls reads a b begun =
      let r = walks high φ ψ L g at clamp behind falls reads a b begun in
      let w = finds low high most clamp φ ψ L falls (sees_log start next lead n count took few all behind (fits a) reads) (operands a b) last r.heads None e in
      let x = a.within in
      let y = b.within in
      let z = w.ahead in
      let more : at + (took + 1) ≡ at + took + 1 = omega arith in
      record {
        heads =
            rw more
            (logic.taken_next (both_fit φ ψ L) falls (operands a b) w (omega arith)
            (a.packed.same took h ∙ sym (is_number _))
            (b.packed.same took h ∙ sym (is_number _))
            (reads.ahead took all (omega (arith, fits a))));
        answers = r.answers;
      }
