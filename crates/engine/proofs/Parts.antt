-- Laws on a part of a list that is lent and put back, and on a batch stored in a buffer.
use Prim.Native.Nat.{ℕ, zero, suc, ◌+◌, ◌-◌, ◌≤◌, zero-le}
use mathlib.Core.Path.{◌≡◌, refl, sym, ap, ◌∙◌}
use mathlib.Core.List.{List, [], ◌∷◌, ◌++◌, append_assoc, append-nil}
use native.Mathlib.Omega.{arith}
use native.Mathlib.Nat.{sub-zero}
use lib.ListN.{length, take, drop, set, length-append, length-drop, take-append-drop, drop_of_length-le}
use lib.Seq.{length-take-le, take_all, take-take, take-append-le, drop-append-le, drop-drop, drop_at, take_at, take-set-le, drop-set-add}
use Rattle.engine.specs.Ask.{part, back, stored}

-- a part of the first w words
pub take_drop_take : (a c w : ℕ) (l : List ℕ) → a + c ≤ w → take c (drop a (take w l)) ≡ take c (drop a l)
take_drop_take zero c w l h = take-take c w l (omega arith)
take_drop_take (suc a) c zero l h = absurd (omega arith)
take_drop_take (suc a) c (suc w) [] h = refl
take_drop_take (suc a) c (suc w) (x ∷ l) h = take_drop_take a c w l (omega arith)

-- a part up to the list's end
pub part_end : (from to : ℕ) (ws : List ℕ) → length ws ≡ to → part from to ws ≡ drop from ws
part_end from to ws last = take_all (to - from) (drop from ws) (simp length-drop (omega arith))

pub length_part : (from to : ℕ) (ws : List ℕ) → to ≤ length ws → length (part from to ws) ≡ to - from
length_part from to ws inside = length-take-le (to - from) (drop from ws) (simp length-drop (omega arith))

-- how the borrow checker writes what comes back
abbrev pub put_back : (from to : ℕ) → List ℕ → List ℕ → List ℕ
put_back from to ys ws = take from ws ++ (ys ++ drop (to - from) (drop from ws))

pub back_from : (from to : ℕ) (ys ws : List ℕ) → from ≤ to → put_back from to ys ws ≡ back from to ys ws
back_from from to ys ws ordered =
    let sum : from + (to - from) ≡ to = omega arith in
    ap (λ (l : List ℕ). take from ws ++ (ys ++ l)) (drop-drop (to - from) from ws ∙ ap (λ (n : ℕ). drop n ws) sum)

part_front : (p q : List ℕ) (i n : ℕ) → i + n ≤ length p → take n (drop i (p ++ q)) ≡ take n (drop i p)
part_front p q i n le =
    ap (λ (l : List ℕ). take n l) (drop-append-le i p q (omega arith)) ∙
    take-append-le n (drop i p) q (simp length-drop (omega arith))

module _ (from to : ℕ) (ys ws : List ℕ) (ordered : from ≤ to) (inside : to ≤ length ws) (kept : length ys ≡ to - from) where
  front : length (take from ws) ≡ from
  front = length-take-le from ws (omega arith)

  drop_back_end : drop to (back from to ys ws) ≡ drop to ws
  drop_back_end =
      ap (λ (l : List ℕ). drop to l) (sym (append_assoc (take from ws) ys (drop to ws))) ∙
      drop_at (take from ws ++ ys) (drop to ws) to (simp (length-append, front, kept) (omega arith))

  pub drop_back : (i : ℕ) → to ≤ i → drop i (back from to ys ws) ≡ drop i ws
  drop_back i le =
      let sum : to + (i - to) ≡ i = omega arith in
      ap (λ (n : ℕ). drop n (back from to ys ws)) (sym sum) ∙
      sym (drop-drop (i - to) to (back from to ys ws)) ∙
      ap (λ (l : List ℕ). drop (i - to) l) drop_back_end ∙
      drop-drop (i - to) to ws ∙
      ap (λ (n : ℕ). drop n ws) sum

  pub part_back : part from to (back from to ys ws) ≡ ys
  part_back =
      ap (λ (l : List ℕ). take (to - from) l) (drop_at (take from ws) (ys ++ drop to ws) from front) ∙
      take_at ys (drop to ws) (to - from) kept

  pub part_before : (i n : ℕ) → i + n ≤ from → take n (drop i (back from to ys ws)) ≡ take n (drop i ws)
  part_before i n le =
      let fits : i + n ≤ length (take from ws) = omega (arith, front) in
      part_front (take from ws) (ys ++ drop to ws) i n fits ∙
      sym (part_front (take from ws) (drop from ws) i n fits) ∙
      ap (λ (l : List ℕ). take n (drop i l)) (take-append-drop from ws)

-- a part put back at the list's end
pub drop_back_last : (from to : ℕ) (ys ws : List ℕ) → from ≤ to → length ws ≡ to → drop from (back from to ys ws) ≡ ys
drop_back_last from to ys ws ordered last =
    let past : length ws ≤ to = omega arith in
    drop_at (take from ws) (ys ++ drop to ws) from (length-take-le from ws (omega arith)) ∙
    ap (λ (l : List ℕ). ys ++ l) (drop_of_length-le ws past) ∙
    append-nil ys

-- a batch stored behind a part leaves the part
module _ (ws : List ℕ) (bits count : ℕ) where
  pub take_stored : (slot i : ℕ) → i ≤ slot → take i (stored ws slot bits count) ≡ take i ws
  take_stored slot i le =
      take-set-le i (set ws slot count) (slot + 1) bits (omega arith) ∙ take-set-le i ws slot count le

  pub drop_stored : (from j : ℕ) → drop from (stored ws (from + j) bits count) ≡ stored (drop from ws) j bits count
  drop_stored from j =
      let sum : from + j + 1 ≡ from + (j + 1) = omega arith in
      ap (λ (n : ℕ). drop from (set (set ws (from + j) count) n bits)) sum ∙
      drop-set-add from (set ws (from + j) count) (j + 1) bits ∙
      ap (λ (l : List ℕ). set l (j + 1) bits) (drop-set-add from ws j count)

pub part_stored : (ws : List ℕ) (bits count slot from size : ℕ) → from + size ≤ slot →
    take size (drop from (stored ws slot bits count)) ≡ take size (drop from ws)
part_stored ws bits count slot from size le =
    let sum : from + (slot - from) ≡ slot = omega arith in
    ap (λ (n : ℕ). take size (drop from (stored ws n bits count))) (sym sum) ∙
    ap (λ (l : List ℕ). take size l) (drop_stored ws bits count from (slot - from)) ∙
    take_stored (drop from ws) bits count (slot - from) size (omega arith)

-- an operator's two operands
pub data Side : Type 0 where
  on_left : Side
  on_right : Side

abbrev pub other : Side → Side
other on_left = on_right
other on_right = on_left

pub by_side : (P : Side → Type 0) (side : Side) → P side → P (other side) → (x : Side) → P x
by_side P on_left here there on_left = here
by_side P on_left here there on_right = there
by_side P on_right here there on_left = there
by_side P on_right here there on_right = here

-- where an operand's words begin and end, if the left one has a words and the right one c, and the first word of its buffer
abbrev pub start : Side → (a : ℕ) → ℕ
start on_left a = 0
start on_right a = a

abbrev pub stop : Side → (a c : ℕ) → ℕ
stop on_left a c = a
stop on_right a c = a + c

abbrev pub slot : Side → ℕ
slot on_left = 1
slot on_right = 3

abbrev pub lent : Side → (a c : ℕ) → List ℕ → List ℕ
lent side a c ws = part (start side a) (stop side a c) ws

pub record Within (side : Side) (a c : ℕ) : Type 0 where
  pub ordered : start side a ≤ stop side a c
  pub inside : stop side a c ≤ a + c

pub within : (side : Side) (a c : ℕ) → Within side a c
within on_left a c = record { ordered = zero-le; inside = omega arith }
within on_right a c = record { ordered = omega arith; inside = omega arith }

pub lent_left : (a c : ℕ) (ws : List ℕ) → lent on_left a c ws ≡ take a ws
lent_left a c ws = rw sub-zero

pub lent_right : (a c : ℕ) (ws : List ℕ) → lent on_right a c ws ≡ take c (drop a ws)
lent_right a c ws =
    let size : a + c - a ≡ c = omega arith in
    rw size

-- what keeps the words before the operator's own block keeps its operands' words
pub lent_before : (side : Side) (a c : ℕ) (ws ws' : List ℕ) → take (a + c) ws' ≡ take (a + c) ws → lent side a c ws' ≡ lent side a c ws
lent_before side a c ws ws' same =
    let w = within side a c in
    let from = start side a in
    let size = stop side a c - start side a in
    sym (take_drop_take from size (a + c) ws' (omega arith)) ∙ ap (λ (l : List ℕ). take size (drop from l)) same ∙
    take_drop_take from size (a + c) ws (omega arith)

-- the words after an operand's part was put back: its own are ys, the others are as they were
pub record Asked (side : Side) (a c : ℕ) (ws ys ws' b : List ℕ) : Type 0 where
  pub own : drop (a + c) ws' ≡ b
  pub here : lent side a c ws' ≡ ys
  pub there : lent (other side) a c ws' ≡ lent (other side) a c ws

pub asked : (side : Side) (a c : ℕ) (ws ys : List ℕ) → a + c ≤ length ws → length ys ≡ stop side a c - start side a →
    Asked side a c ws ys (back (start side a) (stop side a c) ys ws) (drop (a + c) ws)
asked side a c ws ys room kept =
    let w = within side a c in
    let inside : stop side a c ≤ length ws = omega arith in
    record {
      own = drop_back (start side a) (stop side a c) ys ws w.ordered inside kept (a + c) w.inside;
      here = part_back (start side a) (stop side a c) ys ws w.ordered inside kept;
      there = beside side kept;
    }
  where
    beside : (side : Side) → length ys ≡ stop side a c - start side a →
        lent (other side) a c (back (start side a) (stop side a c) ys ws) ≡ lent (other side) a c ws
    beside on_left kept =
        ap (λ (l : List ℕ). take (a + c - a) l) (drop_back 0 a ys ws zero-le (omega arith) kept a (omega arith))
    beside on_right kept =
        part_before a (a + c) ys ws (omega arith) room kept 0 (a - 0) (omega arith)

-- and after a batch was stored in its buffer
pub asked_stored : (side : Side) (a c : ℕ) (ws ys ws' b : List ℕ) (bits count : ℕ) → Asked side a c ws ys ws' b →
    Asked side a c ws ys (stored ws' (a + c + slot side) bits count) (stored b (slot side) bits count)
asked_stored side a c ws ys ws' b bits count e =
    record {
      own =
          drop_stored ws' bits count (a + c) (slot side) ∙ ap (λ (l : List ℕ). stored l (slot side) bits count) e.own;
      here = before side ∙ e.here;
      there = before (other side) ∙ e.there;
    }
  where
    before : (x : Side) → lent x a c (stored ws' (a + c + slot side) bits count) ≡ lent x a c ws'
    before x =
        let w = within x a c in
        part_stored ws' bits count (a + c + slot side) (start x a) (stop x a c - start x a) (omega arith)
