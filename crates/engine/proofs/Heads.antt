-- Where an operator's reading heads stand, by kind: in a block with the same heads, in a fresh one, on a longer log, and within the
-- records. Assumes nothing.
use Prim.Native.Nat.{ℕ, zero, suc, ◌-◌, ◌≤◌}
use mathlib.Core.Path.{◌≡◌, refl, sym, ap, ◌∙◌}
use mathlib.Core.List.{List}
use native.Mathlib.Omega.{arith}
use Rattle.mtl.specs.Formula.{Formula}
use Rattle.mtl.specs.Formula.Formula.{letter, not, or, previous, next, since, until}
use Rattle.mtl.specs.Log.{Log, head_of, Placed, Continues}
use Rattle.blocks.specs.Block.{taken, head, waiting_head, kind_of, Heads, FreshBlock}

-- two blocks, two logs: the heads agree where the log's do
module _ (K L : Log) (g : ℕ) (b b' : List ℕ) (at : taken b' ≡ taken b) (same : head b' ≡ head b) (same_waiting : waiting_head b' ≡ waiting_head b)
    (of_taken : head_of K (taken b) ≡ head_of L (taken b)) (of_before : head_of K (taken b - 1) ≡ head_of L (taken b - 1)) (of_next : head_of K g ≡ head_of L g) where
  by_taken : head b ≡ head_of K (taken b) → head b' ≡ head_of L (taken b')
  by_taken h = same ∙ h ∙ of_taken ∙ ap (head_of L) (sym at)

  heads_of : (φ : Formula) → Heads φ K g b → Heads φ L g b'
  heads_of (letter k) h = by_taken h
  heads_of (not φ) h = same ∙ h
  heads_of (or φ ψ) h = same ∙ h
  heads_of (previous low high φ) h = by_taken h
  heads_of (next low high φ) h = same ∙ h ∙ of_before ∙ ap (λ (p : ℕ). head_of L (p - 1)) (sym at)
  heads_of (since low high φ ψ) h = by_taken h
  heads_of (until low high φ ψ) h = (by_taken h.0, same_waiting ∙ h.1 ∙ of_next)

pub heads_same : (φ : Formula) (L : Log) (g : ℕ) (b b' : List ℕ) → taken b' ≡ taken b → head b' ≡ head b → waiting_head b' ≡ waiting_head b →
    Heads φ L g b → Heads φ L g b'
heads_same φ L g b b' at same waiting = heads_of L L g b b' at same waiting refl refl refl φ

head_longer : (K L : Log) → Continues K L → (p : ℕ) → p ≤ K.size → head_of K p ≡ head_of L p
unfolding head_of
head_longer K L longer zero h = refl
head_longer K L longer (suc p) h = ap suc (longer.same p (omega arith) h).place

pub heads_longer : (φ : Formula) (K L : Log) → Continues K L → (g : ℕ) (b : List ℕ) → taken b ≤ K.size → g ≤ K.size → Heads φ K g b → Heads φ L g b
heads_longer φ K L longer g b h l =
    heads_of K L g b b refl refl refl (head_longer K L longer (taken b) h) (head_longer K L longer (taken b - 1) (omega arith)) (head_longer K L longer g l) φ

pub heads_fresh : (φ : Formula) (L : Log) (b : List ℕ) → FreshBlock (kind_of φ) b → Heads φ L 0 b
unfolding head_of
heads_fresh (letter k) L b fresh = rw (fresh.own 0 (omega arith)) (fresh.own 11 (omega arith))
heads_fresh (not φ) L b fresh = fresh.own 11 (omega arith)
heads_fresh (or φ ψ) L b fresh = fresh.own 11 (omega arith)
heads_fresh (previous low high φ) L b fresh = rw (fresh.own 0 (omega arith)) (fresh.own 11 (omega arith))
heads_fresh (next low high φ) L b fresh = rw (fresh.own 0 (omega arith)) (fresh.own 11 (omega arith))
heads_fresh (since low high φ ψ) L b fresh = rw (fresh.own 0 (omega arith)) (fresh.own 11 (omega arith))
heads_fresh (until low high φ ψ) L b fresh = (rw (fresh.own 0 (omega arith)) (fresh.own 11 (omega arith)), fresh.waiting refl)

-- the heads of a block of this kind stand within so many records
pub record HeadsWithin (kind records : ℕ) (b : List ℕ) : Type 0 where
  pub own : head b ≤ records
  pub waiting : kind ≡ 6 → waiting_head b ≤ records

head_within : (L : Log) (records : ℕ) → Placed L records → (p : ℕ) → p ≤ L.size → head_of L p ≤ records
unfolding head_of
head_within L records placed zero h = omega arith
head_within L records placed (suc p) h = placed.below p h

module _ (L : Log) (records : ℕ) (placed : Placed L records) (g : ℕ) (b : List ℕ) (h : taken b ≤ L.size) (l : g ≤ L.size) where
  -- a kind that has one head
  one_head : (kind p : ℕ) → (kind ≡ 6 → ⊥) → p ≤ L.size → head b ≡ head_of L p → HeadsWithin kind records b
  one_head kind p other inside e = record { own = rw e (head_within L records placed p inside); waiting = λ is. absurd (other is) }

  no_head : (kind : ℕ) → (kind ≡ 6 → ⊥) → head b ≡ 0 → HeadsWithin kind records b
  no_head kind other e = record { own = omega arith; waiting = λ is. absurd (other is) }

  pub heads_within : (φ : Formula) → Heads φ L g b → HeadsWithin (kind_of φ) records b
  heads_within (letter k) e = one_head 0 (taken b) (λ is. omega arith) h e
  heads_within (not φ) e = no_head 1 (λ is. omega arith) e
  heads_within (or φ ψ) e = no_head 2 (λ is. omega arith) e
  heads_within (previous low high φ) e = one_head 3 (taken b) (λ is. omega arith) h e
  heads_within (next low high φ) e = one_head 4 (taken b - 1) (λ is. omega arith) (omega arith) e
  heads_within (since low high φ ψ) e = one_head 5 (taken b) (λ is. omega arith) h e
  heads_within (until low high φ ψ) e =
      record {
        own = rw e.0 (head_within L records placed (taken b) h);
        waiting = λ is. rw e.1 (head_within L records placed g l);
      }
