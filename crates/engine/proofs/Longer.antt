-- The state survives a longer log: what the words say of the records so far stays true when records are added.
use Prim.Native.Nat.{ℕ, ◌+◌, ◌-◌, ◌≤◌, ◌<◌}
use mathlib.Core.Bool.{Bool}
use mathlib.Core.Logic.{inl, inr, ⊎_elim}
use mathlib.Core.Path.{◌≡◌, sym, ◌∙◌}
use mathlib.Core.List.{List}
use native.Mathlib.Omega.{arith}
use Rattle.mtl.specs.Formula.{Formula}
use Rattle.mtl.specs.Formula.Formula.{letter, not, or, previous, next, since, until}
use Rattle.mtl.specs.Log.{Log, NeverFalls, Continues}
use Rattle.mtl.specs.Satisfaction.{sat}
use Rattle.mtl.specs.Progress.{settled_to}
use Rattle.mtl.proofs.Closing.{settled_le_size, settled_since, settled_grows, settled_stays}
use Rattle.bits.proofs.Laws.{packed_same}
use Rattle.blocks.specs.Ring.{Witness, Witnesses}
use Rattle.blocks.specs.Block.{taken, kind_of, high_of, cells_of, InRange, Until, Own, Buffer, Buffers, Ready}
use Rattle.engine.specs.State.{needed_words, Parts, Absent, State}
use Rattle.engine.proofs.Heads.{heads_longer}

-- a witness is one by the truth values below its position
witness_same : (n : ℕ) (left right left' right' : ℕ → Bool) →
    ((k : ℕ) → k < n → left k ≡ left' k) → ((k : ℕ) → k < n → right k ≡ right' k) →
    (j : ℕ) → Witness left right n j → Witness left' right' n j
witness_same n left right left' right' lefts rights j w =
    let h = w.before in
    record {
      before = h;
      held = sym (rights j h) ∙ w.held;
      since = λ k g l. sym (lefts k l) ∙ w.since k g l;
    }

-- What a block says of the operands depends only on the times and truth values below the positions that it speaks of.
module _ (time time' : ℕ → ℕ) (n : ℕ) (times : (k : ℕ) → k < n → time k ≡ time' k)
    (left right left' right' : ℕ → Bool)
    (lefts : (k : ℕ) → k < n → left k ≡ left' k)
    (rights : (k : ℕ) → k < n → right k ≡ right' k) where
  witnesses_same : (low high : ℕ) (qs : List ℕ) → Witnesses low high time left right n qs → Witnesses low high time' left' right' n qs
  witnesses_same low high qs w =
      record {
        rising = w.rising;
        sound = λ i h.
            let (j, is, at, near) = w.sound i h in
            let below = is.before in (
              j,
              witness_same n left right left' right' lefts rights j is,
              sym (times j below) ∙ at,
              rw (← (times (n - 1) (omega arith))) near,
            );
        complete = λ j is near.
            let below = is.before in
            let was = witness_same n left' right' left right (λ k l. sym (lefts k l)) (λ k l. sym (rights k l)) j is in
            let (i, h, e) = w.complete j was (rw (times (n - 1) (omega arith), times j below) near) in
            (i, h, rw (← (times j below)) e);
      }

  until_same : (low high g ll lr lt : ℕ) → Until low high time left right g n ll lr lt → Until low high time' left' right' g n ll lr lt
  until_same low high g ll lr lt u =
      record {
        ahead = u.ahead;
        last_left = λ h. sym (lefts (n - 1) (omega arith)) ∙ u.last_left h;
        last_right = λ h. sym (rights (n - 1) (omega arith)) ∙ u.last_right h;
        last_time = λ h. u.last_time h ∙ times (n - 1) (omega arith);
        left_held = λ k l h. sym (lefts k (omega arith)) ∙ u.left_held k l h;
        right_early = λ k l h e.
            let early = u.right_early k l h (rights k (omega arith) ∙ e) in
            rw (← (times k (omega arith)), ← (times g (omega arith))) early;
        not_over = λ h.
            let over = u.not_over h in
            rw (← (times (n - 1) (omega arith)), ← (times g (omega arith))) over;
      }

module _ (K L : Log) (longer : Continues K L) (falls : NeverFalls L) where
  time_stays : (φ : Formula) (n : ℕ) → n ≤ settled_to φ K → (k : ℕ) → k < n → K.time k ≡ L.time k
  time_stays φ n h k l =
      let s = settled_le_size φ K in
      (longer.same k (omega arith) (omega arith)).time

  sat_stays : (φ : Formula) (n : ℕ) → n ≤ settled_to φ K → (k : ℕ) → k < n → sat φ K k ≡ sat φ L k
  sat_stays φ n h k l = settled_stays φ K L longer falls k (omega arith)

  pub buffer_longer : (φ : Formula) (p count bits : ℕ) → Buffer φ K p count bits → Buffer φ L p count bits
  buffer_longer φ p count bits b =
      let g = settled_grows φ K L longer falls in
      let w = b.within in
      record {
        within = omega arith;
        packed = packed_same (sat φ K) (sat φ L) p p count bits (λ i l. sym (settled_stays φ K L longer falls (p + i) (omega arith))) b.packed;
      }

  range_longer : (cells : ℕ) (b : List ℕ) → InRange K.size cells b → InRange L.size cells b
  range_longer cells b r = let l = longer.longer in omega arith

  buffers_longer : (φ : Formula) (b : List ℕ) → Buffers φ K b → Buffers φ L b
  buffers_longer (letter k) b x = x
  buffers_longer (not φ) b x = buffer_longer φ _ _ _ x
  buffers_longer (or φ ψ) b x = (buffer_longer φ _ _ _ x.0, buffer_longer ψ _ _ _ x.1)
  buffers_longer (previous low high φ) b x = buffer_longer φ _ _ _ x
  buffers_longer (next low high φ) b x = buffer_longer φ _ _ _ x
  buffers_longer (since low high φ ψ) b x = (buffer_longer φ _ _ _ x.0, buffer_longer ψ _ _ _ x.1)
  buffers_longer (until low high φ ψ) b x = (buffer_longer φ _ _ _ x.0, buffer_longer ψ _ _ _ x.1)

  own_longer : (φ : Formula) (g : ℕ) (b : List ℕ) → g ≤ settled_to φ K → Buffers φ K b → Own φ K g b → Own φ L g b
  own_longer (letter k) g b h x o = o
  own_longer (not φ) g b h x o = o
  own_longer (or φ ψ) g b h x o = o
  own_longer (previous low high φ) g b h x o = o
  own_longer (next low high φ) g b h x o = (
    o.0,
    ⊎_elim inl (λ e. let kept = longer.ended e.0 in inr (kept.0, e.1 ∙ sym kept.1, e.2 ∙ sym kept.1)) o.1,
  )
  own_longer (since low high φ ψ) g b h x o =
      let l : g ≤ settled_to φ K = omega (arith, settled_since K φ ψ low high) in
      let r : g ≤ settled_to ψ K = omega (arith, settled_since K φ ψ low high) in
      record {
        at = o.at;
        times = o.times;
        ring = o.ring;
        alive = witnesses_same K.time L.time g (time_stays φ g l) (sat φ K) (sat ψ K) (sat φ L) (sat ψ L)
            (sat_stays φ g l) (sat_stays ψ g r) low high o.times o.alive;
      }
  own_longer (until low high φ ψ) g b h x o =
      let l : taken b ≤ settled_to φ K = (let w = x.0.within in omega arith) in
      let r : taken b ≤ settled_to ψ K = (let w = x.1.within in omega arith) in (
        o.0,
        until_same K.time L.time (taken b) (time_stays φ (taken b) l) (sat φ K) (sat ψ K) (sat φ L) (sat ψ L)
            (sat_stays φ (taken b) l) (sat_stays ψ (taken b) r) low high g _ _ _ o.1,
      )

  ready_longer : (φ : Formula) (g : ℕ) (b : List ℕ) → Ready φ K g b → Ready φ L g b
  ready_longer φ g b r =
      let c = r.core in
      let p = settled_grows φ K L longer falls in
      let h = c.reached in
      record {
        core = record {
          reached = omega arith;
          range = range_longer (cells_of (kind_of φ) (high_of φ)) b c.range;
          own = own_longer φ g b h r.buffers c.own;
          heads = heads_longer φ K L longer g b c.range.at (omega (arith, settled_le_size φ K)) c.heads;
        };
        buffers = buffers_longer φ b r.buffers;
      }

-- parts of which each is replaced by what follows from it
parts_map : (Own Own' : List ℕ → Type 0) (Left Left' Right Right' : ℕ → List ℕ → Type 0) (a c : ℕ) (ws : List ℕ) →
    ((b : List ℕ) → Own b → Own' b) → ((p : ℕ) (us : List ℕ) → Left p us → Left' p us) → ((p : ℕ) (us : List ℕ) → Right p us → Right' p us) →
    Parts Own Left Right a c ws → Parts Own' Left' Right' a c ws
parts_map Own Own' Left Left' Right Right' a c ws own left right p =
    record { own = own _ p.own; left = left _ _ p.left; right = right _ _ p.right }

absent : (p : ℕ) (us : List ℕ) → Absent p us → Absent p us
absent p us x = x

pub state_longer : (φ : Formula) (K L : Log) → Continues K L → NeverFalls L → (g : ℕ) (ws : List ℕ) → State φ K g ws → State φ L g ws
unfolding State
state_longer (letter k) K L longer falls g ws s =
    parts_map _ _ Absent Absent Absent Absent 0 0 ws (ready_longer K L longer falls (letter k) g) absent absent s
state_longer (not φ) K L longer falls g ws s =
    parts_map _ _ Absent Absent _ _ 0 (needed_words φ) ws (ready_longer K L longer falls (not φ) g) absent (state_longer φ K L longer falls) s
state_longer (or φ ψ) K L longer falls g ws s =
    parts_map _ _ _ _ _ _ (needed_words φ) (needed_words ψ) ws (ready_longer K L longer falls (or φ ψ) g)
    (state_longer φ K L longer falls) (state_longer ψ K L longer falls) s
state_longer (previous low high φ) K L longer falls g ws s =
    parts_map _ _ Absent Absent _ _ 0 (needed_words φ) ws (ready_longer K L longer falls (previous low high φ) g) absent (state_longer φ K L longer falls) s
state_longer (next low high φ) K L longer falls g ws s =
    parts_map _ _ Absent Absent _ _ 0 (needed_words φ) ws (ready_longer K L longer falls (next low high φ) g) absent (state_longer φ K L longer falls) s
state_longer (since low high φ ψ) K L longer falls g ws s =
    parts_map _ _ _ _ _ _ (needed_words φ) (needed_words ψ) ws (ready_longer K L longer falls (since low high φ ψ) g)
    (state_longer φ K L longer falls) (state_longer ψ K L longer falls) s
state_longer (until low high φ ψ) K L longer falls g ws s =
    parts_map _ _ _ _ _ _ (needed_words φ) (needed_words ψ) ws (ready_longer K L longer falls (until low high φ ψ) g)
    (state_longer φ K L longer falls) (state_longer ψ K L longer falls) s
