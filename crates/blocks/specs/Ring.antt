-- The ring of a since: the times of the witnesses still alive, oldest first, in the cells behind the block's 16 words.
use Rattle.std.specs.Prelude.{ℕ, zero, suc, ◌+◌, ◌-◌, ◌≤◌, ◌<◌, Bool, true, cond, ◌&&◌, not as negate, ◌≡◌, List, [], ◌∷◌, ◌++◌, ◌⊎◌, get_or, length, ltb, leb, eqb}
use Rattle.bits.specs.Packed.{bit, last_zero, Packed}
use Rattle.mtl.specs.Formula.{unbounded}
use Rattle.mtl.specs.Satisfaction.{since_at}
use Rattle.rule.specs.Words.{ring_words}

-- the cell that is `at` cells behind the first, in a ring of `cells`: past the last comes the first again
abbrev pub wrap : (cells at : ℕ) → ℕ
wrap cells at = cond (ltb at cells) at (at - cells)

-- words 9 and 10 of the block say where the oldest time stands and how many there are
pub record Ring (cells : ℕ) (b : List ℕ) (times : List ℕ) : Type 0 where
  pub room : 16 + cells ≤ length b
  pub start : get_or b 9 0 < cells
  pub count : get_or b 10 0 ≡ length times
  pub fits : length times ≤ cells
  pub at : (i : ℕ) → i < length times → get_or b (16 + wrap cells (get_or b 9 0 + i)) 0 ≡ get_or times i 0

-- j witnesses the since from position g on as far as left is concerned: right holds at j, left from j + 1 up to g - 1
pub record Witness (left right : ℕ → Bool) (g j : ℕ) : Type 0 where
  pub before : j < g
  pub held : right j ≡ true
  pub since : (k : ℕ) → j < k → k < g → left k ≡ true

-- a time in the ring serves for that of a witness
abbrev pub Serves : (low high there time : ℕ) → Type 0
Serves low high there time = (there ≡ time) ⊎ (((high ≡ unbounded) × (there ≤ time)) ⊎ ((low ≡ 0) × (time ≤ there)))

-- the times, oldest first, of the witnesses at g that lie at most high before the last position taken;
-- without upper end the oldest alone is enough, and where low is 0 the newest
pub record Witnesses (low high : ℕ) (time : ℕ → ℕ) (left right : ℕ → Bool) (g : ℕ) (times : List ℕ) : Type 0 where
  pub rising : (i j : ℕ) → i < j → j < length times → get_or times i 0 < get_or times j 0
  pub sound : (i : ℕ) → i < length times →
      (j : ℕ) × Witness left right g j × (time j ≡ get_or times i 0) × (time (g - 1) - get_or times i 0 ≤ high)
  pub complete : (j : ℕ) → Witness left right g j → time (g - 1) - time j ≤ high →
      (i : ℕ) × (i < length times) × Serves low high (get_or times i 0) (time j)

-- the times that are left at a position of time `at`: those at most high before it
unfoldable pub unexpired : (high at : ℕ) → List ℕ → List ℕ
unexpired high at [] = []
unexpired high at (q ∷ qs) = cond (ltb high (at - q)) (unexpired high at qs) (q ∷ qs)

-- none of them where left fails
abbrev pub kept : (left : Bool) → List ℕ → List ℕ
kept left qs = cond left qs []

-- `at` is the newest already
abbrev pub newest_is : ℕ → List ℕ → Bool
newest_is at qs = ltb 0 (length qs) && eqb (get_or qs (length qs - 1) 0) at

-- where right holds `at` is added as the newest, unless it is that already or the ring is full
abbrev pub pushed : (cells : ℕ) (right : Bool) (at : ℕ) → List ℕ → List ℕ
pushed cells right at qs = cond (right && (ltb (length qs) cells && negate (newest_is at qs))) (qs ++ (at ∷ [])) qs

-- one position's turn
abbrev pub turned : (cells high : ℕ) (left right : Bool) (at : ℕ) → List ℕ → List ℕ
turned cells high left right at qs = pushed cells right at (kept left (unexpired high at qs))

-- the oldest lies at least low back
abbrev pub reaches : (low at : ℕ) → List ℕ → Bool
reaches low at qs = ltb 0 (length qs) && leb low (at - get_or qs 0 0)

-- the turns of n positions, whose times are `at`, where left and right are words of answers
unfoldable pub turns : (cells high : ℕ) (at : ℕ → ℕ) (left right : ℕ) → ℕ → List ℕ → List ℕ
turns cells high at left right zero qs = qs
turns cells high at left right (suc n) qs =
    turned cells high (bit left n) (bit right n) (at n) (turns cells high at left right n qs)

-- what the i-th of them answers
abbrev pub reached : (low cells high : ℕ) (at : ℕ → ℕ) (left right : ℕ) → List ℕ → ℕ → Bool
reached low cells high at left right qs i = reaches low (at i) (turns cells high at left right (suc i) qs)

-- what is done to a ring: its list by f, and every other word of the block as it was
pub record Rings (cells : ℕ) (f : List ℕ → List ℕ) (b b' : List ℕ) : Type 0 where
  pub others : (i : ℕ) → i < 16 → (i ≡ 9 → ⊥) → (i ≡ 10 → ⊥) → get_or b' i 0 ≡ get_or b i 0
  pub ring : (qs : List ℕ) → Ring cells b qs → Ring cells b' (f qs)

-- the turns of n positions on the block of a since: its ring, and the word of what they answer
pub record Turns (low high : ℕ) (at : ℕ → ℕ) (left right n : ℕ) (b : List ℕ) (answers : ℕ) (b' : List ℕ) : Type 0 where
  pub rings : Rings (ring_words high) (turns (ring_words high) high at left right n) b b'
  pub packed : (qs : List ℕ) → Ring (ring_words high) b qs → Packed (reached low (ring_words high) high at left right qs) 0 n answers

-- the newest of the times, and `none` where there is none
abbrev pub newest_of : (none : ℕ) → List ℕ → ℕ
newest_of none qs = cond (ltb 0 (length qs)) (get_or qs (length qs - 1) 0) none

-- the oldest of them
abbrev pub oldest_of : (none : ℕ) → List ℕ → ℕ
oldest_of none qs = cond (ltb 0 (length qs)) (get_or qs 0 0) none

-- one time, or none
abbrev pub one : Bool → ℕ → List ℕ
one some time = cond some (time ∷ []) []

-- the time of the last of n positions that is marked, and `first` where none is
unfoldable pub newest_at : (at : ℕ → ℕ) (marks first : ℕ) → ℕ → ℕ
newest_at at marks first zero = first
newest_at at marks first (suc n) = cond (bit marks n) (at n) (newest_at at marks first n)

-- position i lies at least low and at most high after the last that is marked
abbrev pub in_reach : (low high : ℕ) (at : ℕ → ℕ) (marks first : ℕ) → ℕ → Bool
in_reach low high at marks first i =
    leb low (at i - newest_at at marks first (suc i)) && leb (at i - newest_at at marks first (suc i)) high

-- the times of n positions from `from` on are added where right holds
unfoldable pub pushes : (cells : ℕ) (at : ℕ → ℕ) (right from : ℕ) → ℕ → List ℕ → List ℕ
pushes cells at right from zero qs = qs
pushes cells at right from (suc n) qs = pushed cells (bit right (from + n)) (at (from + n)) (pushes cells at right from n qs)

-- a word of n positions of which none drops a time: where left fails, what was there before goes
abbrev pub word_turned : (cells : ℕ) (at : ℕ → ℕ) (left right n : ℕ) → List ℕ → List ℕ
word_turned cells at left right n qs =
    pushes cells at right (last_zero n left - 1) (n - (last_zero n left - 1)) (kept (eqb (last_zero n left) 0) qs)

-- the times of n positions never fall, and `first` is not later
abbrev pub Rises : (at : ℕ → ℕ) (n first : ℕ) → Type 0
Rises at n first = ((i j : ℕ) → i ≤ j → j < n → at i ≤ at j) × (first ≤ at 0)

-- n positions from g on: `at` tells their times, which never fall, and two words what left and right answer there
pub record Shown (time : ℕ → ℕ) (lefts rights : ℕ → Bool) (g n : ℕ) (at : ℕ → ℕ) (left right : ℕ) : Type 0 where
  pub falls : (i j : ℕ) → i ≤ j → j < g + n → time i ≤ time j
  pub small : (i : ℕ) → i < n → at i < 4294967296
  pub same : (i : ℕ) → i < n → time (g + i) ≡ at i
  pub left_word : Packed lefts g n left
  pub right_word : Packed rights g n right

-- what a since makes of n positions: its ring goes on to hold the times of the witnesses, and the word answers since at each of them
pub record Takes (low high : ℕ) (at : ℕ → ℕ) (left right n : ℕ) (b : List ℕ) (answers : ℕ) (b' : List ℕ) : Type 0 where
  pub others : (i : ℕ) → i < 16 → (i ≡ 9 → ⊥) → (i ≡ 10 → ⊥) → get_or b' i 0 ≡ get_or b i 0
  pub takes : (time : ℕ → ℕ) (lefts rights : ℕ → Bool) (g : ℕ) (times : List ℕ) → Shown time lefts rights g n at left right →
      Ring (ring_words high) b times → Witnesses low high time lefts rights g times →
      ((times' : List ℕ) × Ring (ring_words high) b' times' × Witnesses low high time lefts rights (g + n) times') ×
      Packed (since_at low high time lefts rights) g n answers
