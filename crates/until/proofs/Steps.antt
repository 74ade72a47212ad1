-- until's step on a block: the windows opened from its heads show the log, and what a walk over them does to its words.
use Prim.Native.Nat.{ℕ, zero, suc, ◌+◌, ◌-◌, ◌≤◌, ◌<◌, ◌^◌, min}
use mathlib.Core.Bool.{Bool, true, false, cond, ◌||◌, true≢false}
use mathlib.Core.List.{List, [], ◌∷◌}
use mathlib.Core.Logic.{◌⊎◌, inl, inr, ⊎_elim}
use mathlib.Core.Path.{◌≡◌, refl, sym, ◌∙◌, ap}
use native.Mathlib.Nat.{add-zero}
use native.Mathlib.Omega.{arith}
use lib.Dec.{eqb, leb, ltb}
use lib.ListN.{length, get_or}
use borrow.Author.Tests.{ltb-true, ltb-false, lt-ltb, le-ltb, ne_eqb}
use Rattle.mtl.specs.Formula.{Formula, unbounded}
use Rattle.mtl.specs.Formula.Formula.{until}
use Rattle.mtl.specs.Log.{Log, NeverFalls, head_of}
use Rattle.mtl.specs.Satisfaction.{sat}
use Rattle.mtl.specs.Progress.{settled_to}
use Rattle.mtl.proofs.Bounded.{or_iff, le_or_lt}
use Rattle.mtl.proofs.Closing.{settled_closed, by_closed, both_settled, both_fit, until_open}
use Rattle.bits.specs.Packed.{number}
use Rattle.bits.proofs.Laws.{number_lt, packed_none}
use Rattle.trace.specs.Format.{time_at}
use Rattle.window.specs.View.{slice_first, total, skips, closed, in_slice}
use Rattle.trace.specs.Positions.{place}
use Rattle.window.specs.Window.{window_of, Opened, Windowed, Passed, FirstTime}
use Rattle.window.specs.declared.Window.{Window}
use Rattle.window.proofs.Reading.{shown_time_bound}
use Rattle.window.specs.declared.view.View.{View}
use Rattle.window.specs.declared.KeptCopy.{KeptCopy}
use Rattle.blocks.specs.Block.{word, taken, left_count, left_bits, right_count, right_bits, answered, last_left, last_right, head, waiting_head, Onward, Heads, Until, Buffer, Ready}
use Rattle.blocks.specs.Step.{Agrees, Moved, Stepped, Ends}
use Rattle.walks.specs.Settle.{settle_spec, time_of_none, next_of, ReadsTimes, Reached, StillWaits, Walk}
use Rattle.until.specs.Code.{HasRecords, starts_of, ahead_of, last_taken, walked, FitsRoom, OpensAhead, Waiting, Strides, Stuck, Wants}
use Rattle.walks.specs.declared.Last.{Last}
use Rattle.until.specs.declared.Room.{Room}
use Rattle.until.specs.declared.Stride.{Stride}
use Rattle.walks.specs.declared.Walked.{Walked}
use Rattle.std.specs.Prelude.{None}
use Rattle.blocks.specs.declared.Step.{Step}
use Rattle.blocks.specs.declared.Step.TheVariants.{Batch, Left, Right, Again, Open}
use Rattle.blocks.proofs.Words.{Store, put, after, word_stores, stores_onward, fits, less_to_do, available}
use Rattle.blocks.proofs.Taking.{both_stores, first_of, taken_both}
use Rattle.blocks.proofs.Reading.{readable, read_slice, read_first, read_time, head_passed}
use Rattle.walks.proofs.Logic as logic
use Rattle.walks.proofs.Single.{Sees, sees_log, finds, none_waits}

-- an answer that was read from a word
number_is : (d : ℕ) → d ≤ 1 → number (eqb d 1) ≡ d
number_is zero h = refl
number_is (suc zero) h = refl
number_is (suc (suc d)) h = absurd (omega arith)

taken_fits : (l r n : ℕ) → n ≤ min l r → (n ≤ l) × (n ≤ r)
taken_fits l r n h = omega arith

-- how far a step may go
pub room : (b : List ℕ) (total : ℕ) {take look answer : ℕ} → taken b ≤ total →
    take ≡ min (min (min (left_count b) (right_count b)) (total - taken b)) 64 → taken b + take < 2 ^ 64 → look ≡ min (take + 1) (total - taken b) →
    answer ≡ min (taken b - answered b + take) 64 → FitsRoom b total (record { take = take; look = look; answer = answer })
room b total {take = take} h e number ahead waiting =
    let a = available (taken b) (min (left_count b) (right_count b)) total take e in
    let most = taken_fits (left_count b) (right_count b) take a.most in
    record {
      left = most.0;
      right = most.1;
      few = a.few;
      inside = ⊎_elim (λ z. omega arith) (λ p. a.inside p) (le_or_lt take 0);
      number = number;
      all = a.all;
      ahead = ahead;
      waiting = waiting;
    }

-- what is looked at ahead, and what may be answered, lies within the log
ahead_fits : (at take look total : ℕ) → at + take ≤ total → look ≡ min (take + 1) (total - at) →
    (take ≤ look) × (at + look ≤ total) × (at + take < total → take < look) × (at + take ≡ total → look ≤ take)
ahead_fits at take look total h e = (omega arith, omega arith, λ l. omega arith, λ l. omega arith)

waiting_fits : (g at take answer : ℕ) → g ≤ at → answer ≡ min (at - g + take) 64 →
    (g + answer ≤ at + take) × ((i : ℕ) → i ≤ 64 → g + i ≤ at + take → i ≤ answer)
waiting_fits g at take answer h e = (omega arith, λ i few l. omega arith)

module _ {v : View} {s b : List ℕ} {r : Room} {ahead : Window} {copy : KeptCopy} (opens : OpensAhead v s b r ahead copy) where
  looks : (r.take ≤ r.look) × (taken b + r.look ≤ total v) × (taken b + r.take < total v → r.take < r.look) × (taken b + r.take ≡ total v → r.look ≤ r.take)
  looks = ahead_fits (taken b) r.take r.look (total v) opens.fits.inside opens.fits.ahead

  answers : (answered b + r.answer ≤ taken b + r.take) × ((i : ℕ) → i ≤ 64 → answered b + i ≤ taken b + r.take → i ≤ r.answer)
  answers = waiting_fits (answered b) (taken b) r.take r.answer opens.behind opens.fits.waiting

  -- a walk can go and read so far
  pub walk_fits : (16 ≤ length b) × (r.take ≤ 64) × (r.take ≤ r.look) × (taken b - answered b + r.take < 2 ^ 64)
  walk_fits =
      let room = opens.room in
      let number = opens.fits.number in
      (omega arith, opens.fits.few, looks.0, omega arith)

  pub ahead_holds : HasRecords ahead s copy r.look
  ahead_holds = record { inside = readable v (head b) opens.next; long = opens.next.long }

  pub some_holds : HasRecords ahead s copy r.take
  some_holds = let long = ahead_holds.long in let l = looks.0 in record { inside = ahead_holds.inside; long = omega arith }

  -- those that wait lie within the log
  module _ {L : Log} {g : ℕ} (agrees : Agrees v s L g) (at : answered b ≡ g) where
    waiting_inside : g + r.answer ≤ L.size
    waiting_inside = let inside = answers.0 in let fit = opens.fits.inside in let size = agrees.size in omega arith

  -- their window, and the times that it shows
  module _ {starts : Window} {waiting : KeptCopy} (opened : Opened (skips v) s (in_slice (slice_first v) (waiting_head b)) r.answer starts waiting) where
    pub starts_holds : HasRecords starts s waiting (min (taken b - answered b + r.take) 64)
    starts_holds = record { inside = readable v (waiting_head b) opened; long = rw opens.fits.waiting at opened.long }

    pub window_waits : Waiting v s b r (starts_of starts s waiting)
    window_waits L g agrees at there = read_time agrees g there (omega arith) (waiting_inside agrees at) opened

  -- the time of the first, and those of the others, none of which is read
  module _ (first : ℕ) where
    abbrev pub from_first : ℕ → ℕ
    from_first i = cond (eqb i 0) first (time_at s (place (skips v) s (in_slice (slice_first v) (waiting_head b)) i))

    pub first_waits : FirstTime v s (waiting_head b) first → Waiting v s b r from_first
    first_waits read L g agrees at there zero h =
        read_first agrees g there (omega arith) (waiting_inside agrees at) h first read ∙ ap L.time (sym (add-zero g))
    first_waits read L g agrees at there (suc i) h =
        rw (ne_eqb (suc i) 0 (omega arith)) (read_slice agrees g there (omega arith) (waiting_inside agrees at) (suc i) h)

  -- a walk, by whatever times of those that wait
  module _ {low most : ℕ} {start : ℕ → ℕ} {w : Walked}
      (walk : Walk low most start (ahead_of ahead s copy r.take r.look (closed v)) (taken b - answered b) r.take (left_bits b) (right_bits b) (last_taken b) w) where
    answered_some : w.count ≤ r.answer
    answered_some =
        let l = walk.limits in
        let most = l.most in
        let behind = opens.behind in
        let count = l.behind in
        answers.1 w.count l.few (omega arith)

    beyond_some : w.count - (taken b - answered b) ≤ r.look
    beyond_some = let l = looks.0 in let most = walk.limits.most in let count = walk.limits.behind in omega arith

    pub starts_windowed : {starts : Window} {waiting : KeptCopy} → Opened (skips v) s (in_slice (slice_first v) (waiting_head b)) r.answer starts waiting →
        Windowed v s (waiting_head b) w.count starts
    starts_windowed {waiting = waiting} opened = (r.answer, waiting, answered_some, opened)

    pub beyond_windowed : Windowed v s (head b) (w.count - (taken b - answered b)) ahead
    beyond_windowed = (r.look, copy, beyond_some, opens.next)

  -- by their window
  pub by_window : {low most : ℕ} {starts : Window} {waiting : KeptCopy} → Opened (skips v) s (in_slice (slice_first v) (waiting_head b)) r.answer starts waiting →
      {w : Walked} {k : ℕ} →
      Walk low most (starts_of starts s waiting) (ahead_of ahead s copy r.take r.look (closed v)) (taken b - answered b) r.take (left_bits b) (right_bits b) (last_taken b) w →
      Passed v s (waiting_head b) w.count starts k → Strides low most v s b r ahead copy (record { walked = w; head = k })
  by_window {starts = starts} {waiting} opened {w} {k} walk passed =
      record {
        start = starts_of starts s waiting;
        waits = window_waits opened;
        walk = walk;
        onward = λ L g agrees at there here. head_passed agrees g there (omega arith) (waiting_inside agrees at) opened w.count k (answered_some walk) passed;
      }

  -- by the first of them, or by the last taken: none is answered, or all are
  module _ (first : ℕ) (read : FirstTime v s (waiting_head b) first) {low most : ℕ} {w : Walked}
      (walk : Walk low most (from_first first) (ahead_of ahead s copy r.take r.look (closed v)) (taken b - answered b) r.take (left_bits b) (right_bits b) (last_taken b) w) where
    pub by_first_none : w.count ≡ 0 → Strides low most v s b r ahead copy (record { walked = w; head = waiting_head b })
    by_first_none none =
        record {
          start = from_first first;
          waits = first_waits first read;
          walk = walk;
          onward = λ L g agrees at there here. there ∙ ap (head_of L) (omega arith);
        }

    -- with none taken for it
    pub by_last : w.count ≡ taken b - answered b → Strides low most v s b r ahead copy (record { walked = w; head = head b })
    by_last all =
        let behind = opens.behind in
        record {
          start = from_first first;
          waits = first_waits first read;
          walk = walk;
          onward = λ L g agrees at there here. here ∙ ap (head_of L) (omega arith);
        }

    pub by_first_all : taken b - answered b < w.count → {k : ℕ} → Passed v s (head b) (w.count - (taken b - answered b)) ahead k →
        Strides low most v s b r ahead copy (record { walked = w; head = k })
    by_first_all all {k} passed =
        record {
          start = from_first first;
          waits = first_waits first read;
          walk = walk;
          onward = λ L g agrees at there here.
              let size = agrees.size in
              let behind = opens.behind in
              head_passed agrees (taken b) here (omega arith) (rw size at looks.1) opens.next (w.count - (taken b - answered b)) k (beyond_some walk) passed ∙
              ap (head_of L) (omega arith);
        }

  -- what is read is the log
  reads : {start : ℕ → ℕ} → Waiting v s b r start → ((i : ℕ) → get_or s i 0 < 256) → {L : Log} {g : ℕ} → Agrees v s L g → answered b ≡ g → head b ≡ head_of L (taken b) → waiting_head b ≡ head_of L g →
      ReadsTimes start (ahead_of ahead s copy r.take r.look (closed v)) L g (taken b) r.take
  reads waits byte {L = L} {g = g} agrees at here there =
      let size = agrees.size in
      let behind = opens.behind in
      let fit = opens.fits.inside in
      let ahead_time = read_time agrees (taken b) here (omega arith) (rw size at looks.1) opens.next in
      record {
        bound = λ i h l. shown_time_bound byte (agrees.shows i h l);
        waiting = λ i few l. waits L g agrees at there i (let m = answers.1 (suc i) few (omega arith) in omega arith);
        ahead = λ i l h.
            ⊎_elim
            (λ m.
            let e : i ≡ r.take = omega arith in
            rw (e, le-ltb r.take r.take (omega arith), lt-ltb r.take r.look (looks.2 (omega arith))) (ahead_time r.take (looks.2 (omega arith))))
            (λ m. let k = looks.0 in rw (lt-ltb i r.take m) (ahead_time i (omega arith)))
            (le_or_lt r.take i);
        none = λ e.
            rw (le-ltb r.take r.take (omega arith), le-ltb r.take r.look (looks.3 (omega arith)), agrees.ends);
      }

-- what a step writes: the stores of `walked`
abbrev walked_stores : Walked → (head waiting_head : ℕ) → List ℕ → List Store
walked_stores w head waiting_head b =
    both_stores w.took b
    (put 5 (answered b + w.count) ∷
    put 6 (number w.last.left) ∷
    put 7 (number w.last.right) ∷
    put 8 w.last.time ∷
    put 11 head ∷
    put 16 waiting_head ∷ [])

-- an operand is wanted, and the block is as it was
pub wanted_ends : (v : View) (b : List ℕ) (r : Step) → Wants b r → Ends true true v b r b
wanted_ends v b (Batch a) t = absurd t
wanted_ends v b Again t = absurd t
wanted_ends v b Left t = (refl, refl, t)
wanted_ends v b Right t = (refl, refl, t.1, λ e. t.0)
wanted_ends v b Open t = refl

-- the test for a block that stands outside the log
pub stands_outside : (total at g : ℕ) → ltb total at || ltb at g ≡ true → (total < at) ⊎ (at < g)
stands_outside total at g e = ⊎_elim (λ t. inl (ltb-true total at t)) (λ t. inr (ltb-true at g t)) ((or_iff (ltb total at) (ltb at g)).0 e)

pub stands_inside : (total at g : ℕ) → ltb total at || ltb at g ≡ false → (g ≤ at) × (at ≤ total)
stands_inside total at g e = let t = logic.neither (ltb total at) (ltb at g) e in (ltb-false at g t.1, ltb-false total at t.0)

-- where g is not settled and nothing is to be taken, there is no answer
module _ {low high most : ℕ} (clamp : most ≡ min high unbounded) (φ ψ : Formula) (L : Log) (falls : NeverFalls L) {g p start next : ℕ} {fresh : Bool}
    (sees : Sees L g p start next fresh) (behind : p ≤ both_settled φ ψ L) (last : Last)
    (u : Until low high L.time (sat φ L) (sat ψ L) g p (number last.left) (number last.right) last.time)
    (unknown : cond fresh None (settle_spec low most start last next) ≡ None) (reached : g ≤ settled_to (until low high φ ψ) L) where
  -- on a closed log it is the end
  at_last : both_settled φ ψ L ≡ p → L.closed ≡ true → settled_to (until low high φ ψ) L ≡ g
  at_last e c =
      let ahead = u.ahead in
      let f = settled_closed φ L c in
      let k = settled_closed ψ L c in
      let past = none_waits low high most clamp φ ψ L falls sees behind last u unknown (c, omega arith) in
      omega (arith, settled_closed (until low high φ ψ) L c)

  -- on an open one it waits
  not_yet : both_settled φ ψ L ≡ p → L.closed ≡ false → settled_to (until low high φ ψ) L ≡ g
  not_yet e o =
      let finding = finds low high most clamp φ ψ L falls sees behind last u None unknown in
      let never : g < settled_to (until low high φ ψ) L → ⊥ =
      λ l. logic.stuck (both_fit φ ψ L) falls behind finding (omega arith) (until_open low high φ ψ L falls g o l) in
      omega arith

  none_left : both_settled φ ψ L ≡ p → settled_to (until low high φ ψ) L ≡ g
  none_left e = by_closed L (at_last e) (not_yet e)

module _ {low high : ℕ} {φ ψ : Formula} {L : Log} {g : ℕ} {b : List ℕ} (ready : Ready (until low high φ ψ) L g b) where
  -- the smaller of the operands' numbers, where one of them has no more answers
  both_taken : (settled_to φ L ≡ taken b) ⊎ (settled_to ψ L ≡ taken b) → both_settled φ ψ L ≡ taken b
  both_taken d =
      let x = ready.buffers.0.within in
      let y = ready.buffers.1.within in
      ⊎_elim (λ e. omega arith) (λ e. omega arith) d

  taken_behind : taken b ≤ both_settled φ ψ L
  taken_behind = let x = ready.buffers.0.within in let y = ready.buffers.1.within in omega arith

  stands_at : let last = last_taken b in Until low high L.time (sat φ L) (sat ψ L) g (taken b) (number last.left) (number last.right) last.time
  stands_at = let range = ready.core.range in rw (number_is (last_left b) range.last_left, number_is (last_right b) range.last_right) ready.core.own.1

  -- an operand is wanted where none can be taken
  pub wants_more : {v : View} {s : List ℕ} {r : Room} → Agrees v s L g → FitsRoom b (total v) r → r.take ≡ 0 →
      ((settled_to φ L ≡ taken b) ⊎ (settled_to ψ L ≡ taken b) → settled_to (until low high φ ψ) L ≡ g) → (t : Step) → Wants b t →
      Stepped (until low high φ ψ) L g b t b
  wants_more agrees room none open' (Batch a) t = absurd t
  wants_more agrees room none open' Again t = absurd t
  wants_more agrees room none open' Left t = (refl, λ e. open' (inl e))
  wants_more agrees room none open' Right t = (refl, λ e. open' (inr e))
  wants_more agrees room none open' Open t =
      let l = ready.buffers.0 in
      let f = l.packed.few in
      let all = room.all (omega arith) (omega (arith, fits l, agrees.size)) in
      absurd (omega arith)

-- none waits
pub stuck_fresh : (low most : ℕ) (v : View) (s b : List ℕ) → ((i : ℕ) → get_or s i 0 < 256) → taken b ≡ answered b → Stuck low most v s b
stuck_fresh low most v s b byte e high φ ψ L g clamp falls agrees ready d =
    let at = ready.core.own.0 in
    ⊎_elim
    (λ h. by (time_of_none L.closed) (λ l. absurd (omega arith)) (λ l. refl))
    (λ h. by (L.time (taken b)) (λ l. refl) (λ l. absurd (omega arith)))
    (le_or_lt L.size (taken b))
  where
    by : (next : ℕ) → (taken b < L.size → next ≡ L.time (taken b)) → (taken b ≡ L.size → next ≡ time_of_none L.closed) → settled_to (until low high φ ψ) L ≡ g
    by next ahead none =
        let at = ready.core.own.0 in
        let sees : Sees L g (taken b) 0 next true =
        record {
          none_taken = λ t. omega arith;
          some_taken = λ t. absurd (true≢false t);
          bound = λ i a l. shown_time_bound byte (agrees.shows i a l);
          here = λ l. absurd (omega arith);
          ahead = ahead;
          none = none;
        } in
        none_left clamp φ ψ L falls sees (taken_behind ready) (last_taken b) (stands_at ready) refl ready.core.reached (both_taken ready d)

-- the first that waits is not settled by the windows' first records
pub record First (low most : ℕ) (v : View) (s b : List ℕ) (end : ℕ) (ahead : Window) (copy : KeptCopy) (first : ℕ) : Type 0 where
  pub byte : (i : ℕ) → get_or s i 0 < 256
  pub some : answered b < taken b
  pub inside : taken b ≤ total v
  pub ends : end ≡ min 1 (total v - taken b)
  pub next : Opened (skips v) s (in_slice (slice_first v) (head b)) end ahead copy
  pub start : FirstTime v s (waiting_head b) first
  pub unknown :
      settle_spec low most first (last_taken b) (next_of (time_at (window_of ahead s copy)) end (time_of_none (closed v)) 0) ≡ None

pub stuck_first : {low most : ℕ} {v : View} {s b : List ℕ} {end : ℕ} {ahead : Window} {copy : KeptCopy} {first : ℕ} →
    First low most v s b end ahead copy first → Stuck low most v s b
stuck_first {low} {most} {v} {s} {b} {end} {ahead} {copy} {first} f high φ ψ L g clamp falls agrees ready d =
    let at = ready.core.own.0 in
    let size = agrees.size in
    let some = f.some in
    let inside = f.inside in
    let ends = f.ends in
    let sees : Sees L g (taken b) first (next_of (time_at (window_of ahead s copy)) end (time_of_none (closed v)) 0) false =
    record {
      none_taken = λ t. absurd (true≢false (sym t));
      some_taken = λ t. omega arith;
      bound = λ i a l. shown_time_bound f.byte (agrees.shows i a l);
      here = λ l. read_first agrees g ready.core.heads.1 (omega arith) {n = 1} (omega arith) (omega arith) first f.start;
      ahead = λ l.
          rw (lt-ltb 0 end (omega arith))
          (read_time agrees (taken b) ready.core.heads.0 (omega arith) (omega arith) f.next 0 (omega arith) ∙ ap L.time (add-zero (taken b)));
      none = λ l. rw (le-ltb 0 end (omega arith), agrees.ends) refl;
    } in
    none_left clamp φ ψ L falls sees (taken_behind ready) (last_taken b) (stands_at ready) f.unknown ready.core.reached (both_taken ready d)

-- a step on block b that has walked over the window ahead
pub record Went (low high most : ℕ) (v : View) (s b : List ℕ) (r : Room) (ahead : Window) (copy : KeptCopy) (t : Stride) : Type 0 where
  pub opens : OpensAhead v s b r ahead copy
  pub byte : (i : ℕ) → get_or s i 0 < 256
  pub clamp : most ≡ min high unbounded
  pub strides : Strides low most v s b r ahead copy t

module _ {low high most : ℕ} {v : View} {s b : List ℕ} {r : Room} {ahead : Window} {copy : KeptCopy} {t : Stride} (went : Went low high most v s b r ahead copy t) where
  abbrev opens : OpensAhead v s b r ahead copy
  opens = went.opens

  abbrev w : Walked
  w = t.walked

  abbrev start : ℕ → ℕ
  start = went.strides.start

  abbrev walk :
      Walk low most start (ahead_of ahead s copy r.take r.look (closed v)) (taken b - answered b) r.take (left_bits b) (right_bits b) (last_taken b) w
  walk = went.strides.walk

  took_some : w.took ≤ r.look
  took_some = let most = walk.limits.most in let l = (looks opens).0 in omega arith

  -- what it has taken and answered can be written, and the heads moved on
  pub put_back_fits : (17 ≤ length b) × (w.took ≤ left_count b) × (w.took ≤ right_count b) × (taken b + w.took < 2 ^ 64) × (answered b + w.count < 2 ^ 64)
  put_back_fits =
      let l = walk.limits in
      let most = l.most in
      let count = l.behind in
      let behind = opens.behind in
      let left = opens.fits.left in
      let right = opens.fits.right in
      let number = opens.fits.number in
      (opens.room, omega arith, omega arith, omega arith, omega arith)

  pub ahead_windowed : Windowed v s (head b) w.took ahead
  ahead_windowed = (r.look, copy, took_some, opens.next)

  module _ {h : ℕ} (ahead_passed : Passed v s (head b) w.took ahead h) where
    abbrev b' : List ℕ
    b' = walked w h t.head b

    at : (i : ℕ) → word b' i ≡ after (walked_stores w h t.head b) (word b) i
    at = let room = opens.room in word_stores (walked_stores w h t.head b) b (omega arith)

    pub walked_onward : Onward 12 b b'
    walked_onward =
        let room = opens.room in
        let on = ahead_passed.onward in
        stores_onward (walked_stores w h t.head b) b (omega arith) (omega arith) (omega arith)

    -- what is left to do falls with every position taken
    pub took_ends : 0 < w.took → Ends true true v b Again b'
    took_ends some =
        let most = walk.limits.most in
        let inside = opens.fits.inside in
        (less_to_do v b b' w.took some (omega arith) (at 0), walked_onward)

  module _ (φ ψ : Formula) (L : Log) (g : ℕ) (falls : NeverFalls L) (agrees : Agrees v s L g) (ready : Ready (until low high φ ψ) L g b) where
    -- the first positions of a buffer
    first_some : {χ : Formula} {count bits : ℕ} → r.take ≤ count → Buffer χ L (taken b) count bits → Buffer χ L (taken b) r.take bits
    first_some h x = let i = x.within in record { within = omega arith; packed = first_of r.take h x }

    lefts : Buffer φ L (taken b) r.take (left_bits b)
    lefts = first_some opens.fits.left ready.buffers.0

    rights : Buffer ψ L (taken b) r.take (right_bits b)
    rights = first_some opens.fits.right ready.buffers.1

    begun : Reached low high φ ψ L g (taken b) 0 0 0 (last_taken b)
    begun =
        let range = ready.core.range in
        let i = ready.core.reached in
        let e : g + 0 ≡ g = omega arith in
        let f : taken b + 0 ≡ taken b = omega arith in
        record {
          heads = rw (e, f, number_is (last_left b) range.last_left, number_is (last_right b) range.last_right) ready.core.own.1;
          answers = record { within = omega arith; packed = packed_none (sat (until low high φ ψ) L) g 0 };
        }

    lead : taken b ≡ g + (taken b - answered b)
    lead = let i = ready.core.own.0 in let behind = opens.behind in omega arith

    seen : ReadsTimes start (ahead_of ahead s copy r.take r.look (closed v)) L g (taken b) r.take
    seen = reads opens went.strides.waits went.byte agrees ready.core.own.0 ready.core.heads.0 ready.core.heads.1

    reached : Reached low high φ ψ L g (taken b) w.bits w.count w.took w.last
    reached = walk.walks high φ ψ L g (taken b) went.clamp lead falls seen lefts rights begun

    -- the block after it
    module _ {h : ℕ} (ahead_passed : Passed v s (head b) w.took ahead h) where
      abbrev b'' : List ℕ
      b'' = walked w h t.head b

      word_is : (i : ℕ) → word b'' i ≡ after (walked_stores w h t.head b) (word b) i
      word_is = at ahead_passed

      -- the heads stand behind what was taken and answered
      heads : Heads (until low high φ ψ) L (g + w.count) b''
      heads =
          let size = agrees.size in
          let behind = opens.behind in
          let i = ready.core.own.0 in
          let inside = (answers opens).0 in
          let fit = opens.fits.inside in
          let next = head_passed agrees (taken b) ready.core.heads.0 (omega arith) (rw size at (looks opens).1) opens.next w.took h took_some ahead_passed in
          let start = went.strides.onward L g agrees ready.core.own.0 ready.core.heads.1 ready.core.heads.0 in
          (word_is 11 ∙ next ∙ ap (head_of L) (sym (word_is 0)), word_is 16 ∙ start)

      stands : Ready (until low high φ ψ) L (g + w.count) b'' × Moved (until low high φ ψ) b b''
      stands =
          let range = ready.core.range in
          let x = reached.heads.ahead in
          let y = reached.answers.within in
          let i = ready.core.own.0 in
          let z = lefts.within in
          let l = number_lt w.last.left in
          let m = number_lt w.last.right in
          let most = walk.limits.most in
          let t = walk.limits.bound range.last_time in
          let left = opens.fits.left in
          let right = opens.fits.right in
          taken_both (until low high φ ψ) b w.took (g + w.count) b'' y
          (omega (arith, word_is 0, word_is 1, word_is 3, word_is 5, word_is 6, word_is 7, word_is 8, word_is 9, word_is 10, fits lefts))
          (word_is 5 ∙ ap (λ (q : ℕ). q + w.count) i, rw (word_is 0, word_is 6, word_is 7, word_is 8) reached.heads)
          heads
          (λ q. q)
          (omega arith)
          (omega arith)
          (record { right = record { at = word_is 0; count = word_is 3; bits = word_is 4 }; count = word_is 1; bits = word_is 2 })
          ready.buffers.0
          ready.buffers.1

      pub answers_some : 0 < w.count → Stepped (until low high φ ψ) L g b (Batch (record { bits = w.bits; count = w.count })) b''
      answers_some some = (record { some = some; buffer = reached.answers }, stands.0, stands.1)

      pub takes_some : w.count ≡ 0 → Stepped (until low high φ ψ) L g b Again b''
      takes_some e = let f : g + w.count ≡ g = omega arith in (rw f at stands.0, stands.1)

    -- with nothing to take, g stays open
    module _ (none : w.count ≡ 0) (nothing : w.took ≡ 0) where
      -- what is known of it
      unknown : StillWaits low most start (ahead_of ahead s copy r.take r.look (closed v)) (taken b - answered b) r.take w.count w.took w.last
      unknown = walk.waiting none nothing

      behind : taken b + w.took ≤ both_settled φ ψ L
      behind = let x = lefts.within in let y = rights.within in omega arith

      sees : Sees L (g + w.count) (taken b + w.took) (start w.count) (ahead_of ahead s copy r.take r.look (closed v) w.took) (leb (taken b - answered b + w.took) w.count)
      sees =
          sees_log start (ahead_of ahead s copy r.take r.look (closed v)) (taken b - answered b) r.take w.count w.took
          (omega arith)
          walk.limits.most
          lead
          (fits lefts)
          seen

      pub wants : (t : Step) → Wants b t → Stepped (until low high φ ψ) L g b t b
      wants =
          let i = ready.core.reached in
          let z = unknown.all in
          wants_more ready agrees opens.fits (omega arith)
          (λ d.
          let e = both_taken ready d in
          let n = none_left went.clamp φ ψ L falls sees behind w.last reached.heads unknown.unknown (omega arith) (omega arith) in
          omega arith)
