-- The ring as a list: what each of its operations makes of the times in its cells.
use Prim.Native.Nat.{ℕ, zero, suc, ◌+◌, ◌-◌, ◌≤◌, ◌<◌}
use mathlib.Core.Bool.{Bool, true, false, ◌&&◌}
use mathlib.Core.Bool.{not as negate}
use mathlib.Core.Logic.{◌⊎◌, inl, inr, ⊎_elim}
use mathlib.Core.Path.{◌≡◌, refl, sym, ◌∙◌, ap}
use mathlib.Core.List.{List, [], ◌∷◌, ◌++◌}
use native.Mathlib.Omega.{arith}
use native.Mathlib.Nat.{add-zero, eq-or-lt_of_le}
use lib.Dec.{eqb, leb, ltb}
use lib.ListN.{length, get_or, set, length-append, length-set, get_or-append}
use lib.Seq.{get_or-append_seam, get_or-set_same, get_or-set_other}
use borrow.Author.Tests.{lt-ltb, le-ltb, eq-eqb, ne_eqb, eqb-true, eqb-false}
use Rattle.mtl.proofs.Bounded.{le_or_lt}
use Rattle.bits.specs.Packed.{bit, number}
use Rattle.bits.proofs.Laws.{number_lt}
use Rattle.blocks.specs.Ring.{Ring, Rings, wrap, unexpired, kept, newest_is, pushed, reaches, newest_of, oldest_of, one, pushes}

-- places in the ring

pub wrap_low : (cells at : ℕ) → at < cells → wrap cells at ≡ at
wrap_low cells at h = rw (lt-ltb at cells h)

pub wrap_high : (cells at : ℕ) → cells ≤ at → wrap cells at ≡ at - cells
wrap_high cells at h = rw (le-ltb at cells h)

wrap_less : (cells at : ℕ) → at < cells + cells → wrap cells at < cells
wrap_less cells at h =
    ⊎_elim
    (λ l. let e = wrap_high cells at l in omega arith)
    (λ l. let e = wrap_low cells at l in omega arith)
    (le_or_lt cells at)

-- two of the ring's places are two cells
wrap_apart : (cells s i j : ℕ) → s < cells → i < j → j < cells → wrap cells (s + i) ≡ wrap cells (s + j) → ⊥
wrap_apart cells s i j hs h hj e =
    ⊎_elim
    (λ l.
    let p = wrap_high cells (s + i) l in
    let q = wrap_high cells (s + j) (omega arith) in
    omega arith)
    (λ l.
    let p = wrap_low cells (s + i) l in
    ⊎_elim
    (λ m. let q = wrap_high cells (s + j) m in omega arith)
    (λ m. let q = wrap_low cells (s + j) m in omega arith)
    (le_or_lt cells (s + j)))
    (le_or_lt cells (s + i))

-- from the next cell on, the places are one further on
wrap_next : (cells s i : ℕ) → s < cells → i < cells → wrap cells (wrap cells (s + 1) + i) ≡ wrap cells (s + suc i)
wrap_next cells s i hs hi =
    ⊎_elim
    (λ l.
    let p = wrap_high cells (s + 1) l in
    let q = wrap_high cells (s + suc i) (omega arith) in
    let r = wrap_low cells (wrap cells (s + 1) + i) (omega arith) in
    omega arith)
    (λ l. let p = wrap_low cells (s + 1) l in ap (wrap cells) (omega arith))
    (le_or_lt cells (s + 1))

-- the times that stand in count cells from `start` on
pub record Held (cells : ℕ) (b : List ℕ) (start count : ℕ) (times : List ℕ) : Type 0 where
  pub counted : count ≡ length times
  pub fits : length times ≤ cells
  pub at : (i : ℕ) → i < length times → get_or b (16 + wrap cells (start + i)) 0 ≡ get_or times i 0

pub held : (cells : ℕ) (b times : List ℕ) → Ring cells b times → Held cells b (get_or b 9 0) (get_or b 10 0) times
held cells b times r = record { counted = r.count; fits = r.fits; at = r.at }

-- the first of them
first : (cells : ℕ) (b : List ℕ) (start count q : ℕ) (qs : List ℕ) → Held cells b start count (q ∷ qs) → get_or b (16 + wrap cells start) 0 ≡ q
first cells b start count q qs h =
    let e : start ≡ start + 0 = omega arith in ap (λ (s : ℕ). get_or b (16 + wrap cells s) 0) e ∙ h.at 0 (omega arith)

-- all but the first
rest : (cells : ℕ) (b : List ℕ) (start count q : ℕ) (qs : List ℕ) → start < cells →
    Held cells b start count (q ∷ qs) → Held cells b (wrap cells (start + 1)) (count - 1) qs
rest cells b start count q qs l h =
    let n = h.counted in
    let f = h.fits in
    record {
      counted = omega arith;
      fits = omega arith;
      at =
          λ i k.
          let e = wrap_next cells start i l (omega arith) in
          ap (λ (s : ℕ). get_or b (16 + s) 0) e ∙ h.at (suc i) (omega arith);
    }

-- words 9 and 10 written: the ring begins there
module _ (cells : ℕ) (b : List ℕ) (room : 16 + cells ≤ length b) (start count : ℕ) where
  abbrev pub begun : List ℕ
  begun = set (set b 9 start) 10 count

  begun_other : (i : ℕ) → (i ≡ 9 → ⊥) → (i ≡ 10 → ⊥) → get_or begun i 0 ≡ get_or b i 0
  begun_other i h k = get_or-set_other (set b 9 start) 10 i count 0 k ∙ get_or-set_other b 9 i start 0 h

  begun_start : get_or begun 9 0 ≡ start
  begun_start = get_or-set_other (set b 9 start) 10 9 count 0 (omega arith) ∙ get_or-set_same b 9 start 0 (omega arith)

  begun_count : get_or begun 10 0 ≡ count
  begun_count = get_or-set_same (set b 9 start) 10 count 0 (let e = length-set b 9 start in omega arith)

  begun_ring : start < cells → (times : List ℕ) → Held cells b start count times → Ring cells begun times
  begun_ring l times h =
      let e = length-set b 9 start in
      let e' = length-set (set b 9 start) 10 count in
      let s = begun_start in
      record {
        room = omega arith;
        start = omega arith;
        count = begun_count ∙ h.counted;
        fits = h.fits;
        at = λ i k. rw s (begun_other (16 + wrap cells (start + i)) (omega arith) (omega arith) ∙ h.at i k);
      }

-- dropping the old ones: what is left to do gives the same
module _ (cells high at : ℕ) (b : List ℕ) where
  abbrev pub Remains : (start count : ℕ) → Type 0
  Remains start count =
      (qs : List ℕ) → Ring cells b qs → (rs : List ℕ) × Held cells b start count rs × (unexpired high at rs ≡ unexpired high at qs)

  pub remains_all : (start count : ℕ) → (get_or b 9 0 < cells → start ≡ get_or b 9 0) → (get_or b 10 0 ≤ cells → count ≡ get_or b 10 0) → Remains start count
  remains_all start count s n qs r =
      let f = r.fits in
      let e = r.count in
      rw (s r.start, n (omega arith)) (qs, held cells b qs r, refl)

  -- the first is too old
  pub remains_less : (start count cell next : ℕ) → start < cells → 0 < count → cell ≡ 16 + wrap cells start → next ≡ 16 + wrap cells (start + 1) →
      high < at - get_or b cell 0 → Remains start count → Remains (next - 16) (count - 1)
  unfolding unexpired
  remains_less start count cell next l some e e' old m qs r = step (m qs r)
    where
      step : (rs : List ℕ) × Held cells b start count rs × (unexpired high at rs ≡ unexpired high at qs) →
          (rs : List ℕ) × Held cells b (next - 16) (count - 1) rs × (unexpired high at rs ≡ unexpired high at qs)
      step ([], h, d) = absurd (let n = h.counted in omega arith)
      step (q ∷ rs, h, d) =
          let p : next - 16 ≡ wrap cells (start + 1) = omega arith in
          let f : get_or b cell 0 ≡ q = ap (λ (s : ℕ). get_or b s 0) e ∙ first cells b start count q rs h in
          let o : ltb high (at - q) ≡ true = lt-ltb high (at - q) (omega arith) in
          rw p (rs, rest cells b start count q rs l h, sym (rw o refl) ∙ d)

  -- none is left, or the first is not too old
  abbrev pub Stopped : (start count : ℕ) → Type 0
  Stopped start count = (count ≡ 0) ⊎ ((cell : ℕ) × (cell ≡ 16 + wrap cells start) × (at - get_or b cell 0 ≤ high))

  pub remains_done : (room : 16 + cells ≤ length b) (start count : ℕ) → start < cells →
      Stopped start count → Remains start count → Rings cells (unexpired high at) b (begun cells b room start count)
  unfolding unexpired
  remains_done room start count l stop m =
      record {
        others = λ i k n9 n10. begun_other cells b room start count i n9 n10;
        ring = λ qs r. let (rs, h, d) = m qs r in rw (sym d ∙ all rs h stop) (begun_ring cells b room start count l rs h);
      }
    where
      all : (rs : List ℕ) → Held cells b start count rs → Stopped start count → unexpired high at rs ≡ rs
      all [] h s = refl
      all (q ∷ rs) h (inl e) = absurd (let n = h.counted in omega arith)
      all (q ∷ rs) h (inr (cell, e, near)) =
          let f : get_or b cell 0 ≡ q = ap (λ (s : ℕ). get_or b s 0) e ∙ first cells b start count q rs h in
          let o : ltb high (at - q) ≡ false = le-ltb high (at - q) (omega arith) in
          rw o refl

-- nothing is written
pub unwritten : (cells : ℕ) (f : List ℕ → List ℕ) (b : List ℕ) → ((qs : List ℕ) → Ring cells b qs → f qs ≡ qs) → Rings cells f b b
unwritten cells f b same = record { others = λ i k n9 n10. refl; ring = λ qs r. rw (same qs r) r }

-- none is kept
pub emptied : (cells : ℕ) (b : List ℕ) → 16 ≤ length b → Rings cells (kept false) b (set b 10 0)
emptied cells b l =
    let e = length-set b 10 0 in
    let s = get_or-set_other b 10 9 0 0 (omega arith) in
    record {
      others = λ i k n9 n10. get_or-set_other b 10 i 0 0 n10;
      ring =
          λ qs r.
          let room = r.room in
          let start = r.start in
          record {
            room = omega arith;
            start = omega arith;
            count = get_or-set_same b 10 0 0 (omega arith);
            fits = omega arith;
            at = λ i h. absurd (omega arith);
          };
    }

-- adding: right holds, there is room, and `at` is not the newest
no_push : (right room newest : Bool) → (right && room ≡ false) ⊎ (newest ≡ true) → right && (room && negate newest) ≡ false
no_push false room newest e = refl
no_push true false newest e = refl
no_push true true true e = refl
no_push true true false (inl e) = e
no_push true true false (inr e) = sym e

one_push : (right room newest : Bool) → right && room ≡ true → newest ≡ false → right && (room && negate newest) ≡ true
one_push false room newest e n = e
one_push true false newest e n = e
one_push true true true e n = sym n
one_push true true false e n = refl

-- start and count are words 9 and 10, where these are those of a ring
module _ (cells : ℕ) (b : List ℕ) (start count : ℕ) (s : get_or b 9 0 < cells → start ≡ get_or b 9 0) (n : get_or b 10 0 ≤ cells → count ≡ get_or b 10 0) where
  start_is : (qs : List ℕ) → Ring cells b qs → start ≡ get_or b 9 0
  start_is qs r = s r.start

  count_is : (qs : List ℕ) → Ring cells b qs → count ≡ length qs
  count_is qs r = let f = r.fits in let e = r.count in n (omega arith) ∙ e

  -- the time at a place
  at_place : (qs : List ℕ) → Ring cells b qs → (i : ℕ) → i < length qs → (cell : ℕ) → cell ≡ 16 + wrap cells (start + i) → get_or b cell 0 ≡ get_or qs i 0
  at_place qs r i h cell e = rw (e, start_is qs r) (r.at i h)

  module _ (at : ℕ) (right : Bool) where
    pub not_pushed : right && ltb count cells ≡ false → Rings cells (pushed cells right at) b b
    not_pushed e =
        unwritten cells (pushed cells right at) b
        (λ qs r. let f = rw (count_is qs r) at e in rw (no_push right (ltb (length qs) cells) (newest_is at qs) (inl f)))

    -- where the newest stands
    module _ (cell : ℕ) (some : 0 < count) (e : cell ≡ 16 + wrap cells (start + count - 1)) where
      newest_at : (qs : List ℕ) → Ring cells b qs → get_or b cell 0 ≡ get_or qs (length qs - 1) 0
      newest_at qs r =
          let c = count_is qs r in
          at_place qs r (length qs - 1) (omega arith) cell (e ∙ ap (λ (i : ℕ). 16 + wrap cells i) (omega arith))

      pub newest_already : get_or b cell 0 ≡ at → Rings cells (pushed cells right at) b b
      newest_already same =
          unwritten cells (pushed cells right at) b
          (λ qs r.
          let c = count_is qs r in
          let f : newest_is at qs ≡ true =
          rw (lt-ltb 0 (length qs) (omega arith), eq-eqb (get_or qs (length qs - 1) 0) at (sym (newest_at qs r) ∙ same)) in
          rw (no_push right (ltb (length qs) cells) (newest_is at qs) (inr f)))

      newest_other : (get_or b cell 0 ≡ at → ⊥) → (qs : List ℕ) → Ring cells b qs → newest_is at qs ≡ false
      newest_other other qs r =
          let c = count_is qs r in
          rw (lt-ltb 0 (length qs) (omega arith), ne_eqb (get_or qs (length qs - 1) 0) at (λ p. other (newest_at qs r ∙ p)))

    -- none is there, or the newest is another
    abbrev pub Other : Type 0
    Other = (count ≡ 0) ⊎ ((cell : ℕ) × (0 < count) × (cell ≡ 16 + wrap cells (start + count - 1)) × (get_or b cell 0 ≡ at → ⊥))

    no_newest : Other → (qs : List ℕ) → Ring cells b qs → newest_is at qs ≡ false
    no_newest (inl e) qs r = let c = count_is qs r in rw (le-ltb 0 (length qs) (omega arith))
    no_newest (inr (cell, some, e, other)) qs r = newest_other cell some e other qs r

    module _ (room : 16 + cells ≤ length b) (end : ℕ) (behind : 16 ≤ end) (e : start < cells → end ≡ 16 + wrap cells (start + count)) where
      abbrev pub grown : List ℕ
      grown = set (set b end at) 10 (count + 1)

      grown_other : (i : ℕ) → (i ≡ 10 → ⊥) → (i ≡ end → ⊥) → get_or grown i 0 ≡ get_or b i 0
      grown_other i n10 k = get_or-set_other (set b end at) 10 i (count + 1) 0 n10 ∙ get_or-set_other b end i at 0 k

      grown_ring : count < cells → (qs : List ℕ) → Ring cells b qs → Ring cells grown (qs ++ (at ∷ []))
      grown_ring free qs r =
          let c = count_is qs r in
          let st = start_is qs r in
          let low = r.start in
          let l = length-set b end at in
          let l' = length-set (set b end at) 10 (count + 1) in
          let m : length (qs ++ (at ∷ [])) ≡ length qs + 1 = length-append qs (at ∷ []) in
          let s9 : get_or grown 9 0 ≡ start = grown_other 9 (omega arith) (omega arith) ∙ sym st in
          let there : end ≡ 16 + wrap cells (start + count) = e (omega arith) in
          let w = wrap_less cells (start + count) (omega arith) in
          let last : get_or grown end 0 ≡ at = get_or-set_other (set b end at) 10 end (count + 1) 0 (omega arith) ∙ get_or-set_same b end at 0 (omega arith) in
          record {
            room = omega arith;
            start = omega arith;
            count = get_or-set_same (set b end at) 10 (count + 1) 0 (omega arith) ∙ omega arith;
            fits = omega arith;
            at =
                λ i h.
                rw s9
                (⊎_elim
                (λ q.
                let p : 16 + wrap cells (start + i) ≡ end = ap (λ (k : ℕ). 16 + wrap cells (start + k)) (q ∙ sym c) ∙ sym there in
                ap (λ (k : ℕ). get_or grown k 0) p ∙ last ∙ sym (ap (λ (k : ℕ). get_or (qs ++ (at ∷ [])) k 0) q ∙ get_or-append_seam qs at [] 0))
                (λ b.
                let apart = wrap_apart cells start i count (omega arith) (omega arith) free in
                let f : 16 + wrap cells (start + i) ≡ end → ⊥ = λ p. apart (omega arith) in
                grown_other (16 + wrap cells (start + i)) (omega arith) f ∙ at_place qs r i b (16 + wrap cells (start + i)) refl ∙
                sym (get_or-append qs (at ∷ []) 0 i b))
                (eq-or-lt_of_le {n = i} {m = length qs} (omega arith)));
          }

      pub is_pushed : count < cells → right && ltb count cells ≡ true → Other → Rings cells (pushed cells right at) b grown
      is_pushed free yes' other =
          record {
            others = λ i k n9 n10. grown_other i n10 (omega arith);
            ring =
                λ qs r.
                let f = rw (count_is qs r) at yes' in
                rw (one_push right (ltb (length qs) cells) (newest_is at qs) f (no_newest other qs r)) (grown_ring free qs r);
          }

-- whether the oldest lies at least low back
pub oldest : (cells : ℕ) (b : List ℕ) (start cell low at gap : ℕ) → (get_or b 9 0 < cells → start ≡ get_or b 9 0) → cell ≡ 16 + wrap cells start → gap ≡ at - get_or b cell 0 →
    (qs : List ℕ) → Ring cells b qs → ltb 0 (get_or b 10 0) && leb low gap ≡ reaches low at qs
oldest cells b start cell low at gap s e g [] r = rw r.count
oldest cells b start cell low at gap s e g (q ∷ qs) r =
    let f : get_or b cell 0 ≡ q =
    ap (λ (k : ℕ). get_or b k 0) e ∙ ap (λ (k : ℕ). get_or b (16 + wrap cells k) 0) (s r.start) ∙ first cells b (get_or b 9 0) (get_or b 10 0) q qs (held cells b (q ∷ qs) r) in
    rw (r.count, g, f)

-- the newest, where there is one
pub none_newest : (cells : ℕ) (b : List ℕ) (count : ℕ) → (get_or b 10 0 ≤ cells → count ≡ get_or b 10 0) → count ≡ 0 →
    (none : ℕ) (qs : List ℕ) → Ring cells b qs → none ≡ newest_of none qs
none_newest cells b count n z none qs r =
    let f = r.fits in
    let e = r.count in
    let c = n (omega arith) in
    rw (le-ltb 0 (length qs) (omega arith)) refl

pub some_newest : (cells : ℕ) (b : List ℕ) (start count cell : ℕ) → (get_or b 9 0 < cells → start ≡ get_or b 9 0) → (get_or b 10 0 ≤ cells → count ≡ get_or b 10 0) → 0 < count →
    (start < cells → count ≤ cells → cell ≡ 16 + wrap cells (start + count - 1)) → (none : ℕ) (qs : List ℕ) → Ring cells b qs → get_or b cell 0 ≡ newest_of none qs
some_newest cells b start count cell s n some e none qs r =
    let c = count_is cells b start count s n qs r in
    let st = start_is cells b start count s n qs r in
    let low = r.start in
    let f = r.fits in
    rw (lt-ltb 0 (length qs) (omega arith))
    (at_place cells b start count s n qs r (length qs - 1) (omega arith) cell
    (e (omega arith) (omega arith) ∙ ap (λ (i : ℕ). 16 + wrap cells i) (omega arith)))

-- the oldest, where there is one
pub none_oldest : (cells : ℕ) (b : List ℕ) → get_or b 10 0 ≡ 0 → (none : ℕ) (qs : List ℕ) → Ring cells b qs → none ≡ oldest_of none qs
none_oldest cells b z none qs r = let e = r.count in rw (le-ltb 0 (length qs) (omega arith)) refl

pub some_oldest : (cells : ℕ) (b : List ℕ) (start cell : ℕ) → (get_or b 10 0 ≡ 0 → ⊥) → (get_or b 9 0 < cells → start ≡ get_or b 9 0) → cell ≡ 16 + wrap cells start →
    (none : ℕ) (qs : List ℕ) → Ring cells b qs → get_or b cell 0 ≡ oldest_of none qs
some_oldest cells b start cell some s e none [] r = absurd (some r.count)
some_oldest cells b start cell some s e none (q ∷ qs) r =
    rw (lt-ltb 0 (length (q ∷ qs)) (omega arith))
    (ap (λ (k : ℕ). get_or b k 0) e ∙ ap (λ (k : ℕ). get_or b (16 + wrap cells k) 0) (s r.start) ∙ first cells b (get_or b 9 0) (get_or b 10 0) q qs (held cells b (q ∷ qs) r))

-- one time alone, or none
module _ (b : List ℕ) (some : Bool) (flag time : ℕ) (is : flag ≡ number some) (room : 17 ≤ length b) where
  abbrev pub alone : List ℕ
  alone = set (set (set b 9 0) 10 flag) 16 time

  alone_other : (i : ℕ) → (i ≡ 9 → ⊥) → (i ≡ 10 → ⊥) → (i ≡ 16 → ⊥) → get_or alone i 0 ≡ get_or b i 0
  alone_other i n9 n10 n16 =
      get_or-set_other (set (set b 9 0) 10 flag) 16 i time 0 n16 ∙ get_or-set_other (set b 9 0) 10 i flag 0 n10 ∙ get_or-set_other b 9 i 0 0 n9

  alone_start : get_or alone 9 0 ≡ 0
  alone_start =
      get_or-set_other (set (set b 9 0) 10 flag) 16 9 time 0 (omega arith) ∙ get_or-set_other (set b 9 0) 10 9 flag 0 (omega arith) ∙ get_or-set_same b 9 0 0 (omega arith)

  alone_count : get_or alone 10 0 ≡ flag
  alone_count =
      get_or-set_other (set (set b 9 0) 10 flag) 16 10 time 0 (omega arith) ∙ get_or-set_same (set b 9 0) 10 flag 0 (let e = length-set b 9 0 in omega arith)

  alone_time : get_or alone 16 0 ≡ time
  alone_time =
      get_or-set_same (set (set b 9 0) 10 flag) 16 time 0 (let e = length-set b 9 0 in let f = length-set (set b 9 0) 10 flag in omega arith)

  how_many : (x : Bool) → length (one x time) ≡ number x
  how_many true = refl
  how_many false = refl

  the_time : (x : Bool) → 0 < length (one x time) → get_or (one x time) 0 0 ≡ time
  the_time true h = refl
  the_time false h = absurd (omega arith)

  pub put_alone : (cells : ℕ) → Rings cells (λ qs. one some time) b alone
  put_alone cells = record {
    others = λ i k n9 n10. alone_other i n9 n10 (omega arith);
    ring = λ qs r.
        let low = r.start in
        let n = how_many some in
        let few = number_lt some in
        let e = length-set b 9 0 in
        let f = length-set (set b 9 0) 10 flag in
        let k = length-set (set (set b 9 0) 10 flag) 16 time in
        let s = alone_start in
        let all = r.room in
        record {
          room = omega arith;
          start = omega arith;
          count = alone_count ∙ is ∙ sym n;
          fits = omega arith;
          at = λ i h.
              let z : i ≡ 0 = omega arith in
              let w : 16 + wrap cells (0 + 0) ≡ 16 = ap (λ (k : ℕ). 16 + k) (wrap_low cells 0 (omega arith)) in
              rw (z, s, w) (alone_time ∙ sym (the_time some (omega arith)));
        };
  }

-- words below the ring's own, and the head, are no part of it
pub ring_kept : (cells : ℕ) (b b' qs : List ℕ) → length b' ≡ length b → ((i : ℕ) → 9 ≤ i → (i ≡ 11 → ⊥) → get_or b' i 0 ≡ get_or b i 0) → Ring cells b qs → Ring cells b' qs
ring_kept cells b b' qs l same r =
    let room = r.room in
    let start = r.start in
    let e = same 9 (omega arith) (omega arith) in
    record {
      room = omega arith;
      start = omega arith;
      count = same 10 (omega arith) (omega arith) ∙ r.count;
      fits = r.fits;
      at = λ i h. rw e (same (16 + wrap cells (get_or b 9 0 + i)) (omega arith) (omega arith) ∙ r.at i h);
    }

-- one thing after the other
pub followed : {cells : ℕ} {f h : List ℕ → List ℕ} {b d e : List ℕ} → Rings cells f b d → Rings cells h d e → Rings cells (λ qs. h (f qs)) b e
followed {f} p q =
    record {
      others = λ i k n9 n10. q.others i k n9 n10 ∙ p.others i k n9 n10;
      ring = λ qs r. q.ring (f qs) (p.ring qs r);
    }

-- a time written behind those that are held: it is one of them now, unless it was the newest already
module _ (cells start : ℕ) (b : List ℕ) (count newest at : ℕ) (first_cell : start < cells) (free : count < cells) (room : 16 + cells ≤ length b) (small : at < 4294967296) where
  abbrev pub written : List ℕ
  written = set b (16 + wrap cells (start + count)) at

  place : 16 + wrap cells (start + count) < length b
  place = let w = wrap_less cells (start + count) (omega arith) in omega arith

  module _ (times : List ℕ) (h : Held cells b start count times) (is : newest ≡ newest_of 4294967296 times) where
    still : (i : ℕ) → i < length times → get_or written (16 + wrap cells (start + i)) 0 ≡ get_or times i 0
    still i l =
        let c = h.counted in
        let apart = wrap_apart cells start i count first_cell (omega arith) free in
        get_or-set_other b (16 + wrap cells (start + count)) (16 + wrap cells (start + i)) at 0 (λ p. apart (omega arith)) ∙ h.at i l

    some_newest_is : 0 < length times → newest ≡ get_or times (length times - 1) 0
    some_newest_is some = is ∙ rw (lt-ltb 0 (length times) some) refl

    already : at ≡ newest → newest_is at times ≡ true
    already same =
        ⊎_elim
        (λ none. let e : newest ≡ 4294967296 = is ∙ rw (le-ltb 0 (length times) none) refl in absurd (omega arith))
        (λ some. rw (lt-ltb 0 (length times) some, eq-eqb (get_or times (length times - 1) 0) at (sym (same ∙ some_newest_is some))) refl)
        (le_or_lt (length times) 0)

    another : (at ≡ newest → ⊥) → newest_is at times ≡ false
    another other =
        ⊎_elim
        (λ none. rw (le-ltb 0 (length times) none) refl)
        (λ some. rw (lt-ltb 0 (length times) some, ne_eqb (get_or times (length times - 1) 0) at (λ e. other (sym (some_newest_is some ∙ e)))) refl)
        (le_or_lt (length times) 0)

    one_more : Held cells written start (count + 1) (times ++ (at ∷ []))
    one_more =
        let c = h.counted in
        let m : length (times ++ (at ∷ [])) ≡ length times + 1 = length-append times (at ∷ []) in
        record {
          counted = omega arith;
          fits = omega arith;
          at = λ i l.
              ⊎_elim
              (λ q.
              ap (λ (k : ℕ). get_or written (16 + wrap cells (start + k)) 0) (q ∙ sym c)
              ∙ get_or-set_same b (16 + wrap cells (start + count)) at 0 place
              ∙ sym (ap (λ (k : ℕ). get_or (times ++ (at ∷ [])) k 0) q ∙ get_or-append_seam times at [] 0))
              (λ before. still i before ∙ sym (get_or-append times (at ∷ []) 0 i before))
              (eq-or-lt_of_le {n = i} {m = length times} (omega arith));
        }

    newest_now : at ≡ newest_of 4294967296 (times ++ (at ∷ []))
    newest_now =
        let m : length (times ++ (at ∷ [])) ≡ length times + 1 = length-append times (at ∷ []) in
        let e : length (times ++ (at ∷ [])) - 1 ≡ length times = omega arith in
        rw (lt-ltb 0 (length (times ++ (at ∷ []))) (omega arith), e) (sym (get_or-append_seam times at [] 0))

    pub adds : Held cells written start (count + number (negate (eqb at newest))) (pushed cells true at times) × (at ≡ newest_of 4294967296 (pushed cells true at times))
    adds = by (eqb at newest) refl
      where
        by : (same : Bool) → eqb at newest ≡ same →
            Held cells written start (count + number (negate same)) (pushed cells true at times) × (at ≡ newest_of 4294967296 (pushed cells true at times))
        by true e =
            let same = eqb-true at newest e in
            let stays : pushed cells true at times ≡ times = rw (no_push true (ltb (length times) cells) (newest_is at times) (inr (already same))) refl in
            let c = h.counted in
            rw stays (record { counted = omega arith; fits = h.fits; at = still }, same ∙ is)
        by false e =
            let c = h.counted in
            let grows : pushed cells true at times ≡ times ++ (at ∷ []) =
            rw (one_push true (ltb (length times) cells) (newest_is at times) (lt-ltb (length times) cells (omega arith)) (another (eqb-false at newest e))) refl in
            rw grows (one_more, newest_now)

-- the times of some positions, one after the other, with their number and the newest beside the block
module _ (cells : ℕ) (at : ℕ → ℕ) (right from : ℕ) (b : List ℕ) (start : ℕ) where
  pub record Pushing (i : ℕ) (d : List ℕ) (count newest : ℕ) : Type 0 where
    pub others : (k : ℕ) → k < 16 → get_or d k 0 ≡ get_or b k 0
    pub held : (qs : List ℕ) → Ring cells b qs → Held cells d start count (pushes cells at right from (i - from) qs)
    pub last : (qs : List ℕ) → Ring cells b qs → newest ≡ newest_of 4294967296 (pushes cells at right from (i - from) qs)

  none_yet : (qs : List ℕ) → pushes cells at right from (from - from) qs ≡ qs
  unfolding pushes
  none_yet qs = let none : from - from ≡ 0 = omega arith in rw none refl

  pub pushing_none : (count newest : ℕ) → (get_or b 9 0 < cells → start ≡ get_or b 9 0) → (get_or b 10 0 ≤ cells → count ≡ get_or b 10 0) →
      ((qs : List ℕ) → Ring cells b qs → newest ≡ newest_of 4294967296 qs) → Pushing from b count newest
  pushing_none count newest begun counted is = record {
    others = λ k h. refl;
    held = λ qs r.
        let f = r.fits in
        let e = r.count in
        rw (none_yet qs, begun r.start, counted (omega arith)) (held cells b qs r);
    last = λ qs r. rw (none_yet qs) (is qs r);
  }

  module _ (i : ℕ) (d : List ℕ) (count newest : ℕ) (h : from ≤ i) (so_far : Pushing i d count newest) where
    next_is : (qs : List ℕ) → pushes cells at right from (i + 1 - from) qs ≡ pushed cells (bit right i) (at i) (pushes cells at right from (i - from) qs)
    unfolding pushes
    next_is qs =
        let more : i + 1 - from ≡ suc (i - from) = omega arith in
        let here : from + (i - from) ≡ i = omega arith in
        rw more (ap (λ (k : ℕ). pushed cells (bit right k) (at k) (pushes cells at right from (i - from) qs)) here)

    pub pushing_skip : bit right i && ltb count cells ≡ false → Pushing (i + 1) d count newest
    pushing_skip e =
        let same : (qs : List ℕ) → Ring cells b qs → pushes cells at right from (i + 1 - from) qs ≡ pushes cells at right from (i - from) qs =
        λ qs r.
        next_is qs ∙
        rw (no_push (bit right i) (ltb (length (pushes cells at right from (i - from) qs)) cells) (newest_is (at i) (pushes cells at right from (i - from) qs))
        (inl (rw (so_far.held qs r).counted at e))) refl in
        record {
          others = so_far.others;
          held = λ qs r. rw (same qs r) (so_far.held qs r);
          last = λ qs r. rw (same qs r) (so_far.last qs r);
        }

    module _ (first_cell : start < cells) (free : count < cells) (room : 16 + cells ≤ length d) (small : at i < 4294967296) (yes : bit right i ≡ true) where
      pub pushing_next : Pushing (i + 1) (written cells start d count newest (at i) first_cell free room small) (count + number (negate (eqb (at i) newest))) (at i)
      pushing_next =
          let grows : (qs : List ℕ) → pushes cells at right from (i + 1 - from) qs ≡ pushed cells true (at i) (pushes cells at right from (i - from) qs) =
          λ qs. next_is qs ∙ ap (λ (x : Bool). pushed cells x (at i) (pushes cells at right from (i - from) qs)) yes in
          record {
            others = λ k l. get_or-set_other d (16 + wrap cells (start + count)) k (at i) 0 (omega arith) ∙ so_far.others k l;
            held = λ qs r. rw (grows qs) (adds cells start d count newest (at i) first_cell free room small (pushes cells at right from (i - from) qs) (so_far.held qs r) (so_far.last qs r)).0;
            last = λ qs r. rw (grows qs) (adds cells start d count newest (at i) first_cell free room small (pushes cells at right from (i - from) qs) (so_far.held qs r) (so_far.last qs r)).1;
          }

  -- right does not hold any more
  pub pushing_rest : (i k : ℕ) (d : List ℕ) (count newest : ℕ) → from ≤ i → ((j : ℕ) → i ≤ j → j < i + k → bit right j ≡ false) → Pushing i d count newest →
      Pushing (i + k) d count newest
  pushing_rest i zero d count newest h none so_far = rw (add-zero i) so_far
  pushing_rest i (suc k) d count newest h none so_far =
      let e : i + suc k ≡ i + k + 1 = omega arith in
      rw e
      (pushing_skip (i + k) d count newest (omega arith) (pushing_rest i k d count newest h (λ j a b. none j a (omega arith)) so_far)
      (rw (none (i + k) (omega arith) (omega arith)) refl))

  pub pushing_done : (n : ℕ) (d : List ℕ) (count newest : ℕ) → (get_or b 9 0 < cells → start ≡ get_or b 9 0) → 16 + cells ≤ length d → Pushing n d count newest →
      Rings cells (pushes cells at right from (n - from)) b (set d 10 count)
  pushing_done n d count newest begun room all = record {
    others = λ k l n9 n10. get_or-set_other d 10 k count 0 n10 ∙ all.others k l;
    ring = λ qs r.
        let h = all.held qs r in
        let s = begun r.start in
        let low = r.start in
        let e = length-set d 10 count in
        let nine : get_or (set d 10 count) 9 0 ≡ start = get_or-set_other d 10 9 count 0 (omega arith) ∙ all.others 9 (omega arith) ∙ sym s in
        record {
          room = omega arith;
          start = omega arith;
          count = get_or-set_same d 10 count 0 (omega arith) ∙ h.counted;
          fits = h.fits;
          at = λ i l. rw nine (get_or-set_other d 10 (16 + wrap cells (start + i)) count 0 (omega arith) ∙ h.at i l);
        };
  }
