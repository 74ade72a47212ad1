-- A window opened from a block's head on: what is read of it, and where the head stands behind it. Assumes nothing.
use Prim.Native.Nat.{ℕ, zero, suc, ◌+◌, ◌*◌, ◌≤◌, ◌<◌}
use native.Mathlib.Omega.{arith}
use native.Mathlib.Nat.{zero-add, add-zero}
use mathlib.Core.Bool.{true, ◌&&◌}
use mathlib.Core.Bool.{not as negate}
use mathlib.Core.List.{List}
use mathlib.Core.Path.{◌≡◌, sym, ap, ◌∙◌}
use lib.Dec.{leb}
use lib.ListN.{length}
use borrow.Author.Tests.{leb-true}
use Rattle.mtl.specs.Log.{Log, head_of}
use Rattle.mtl.proofs.Bounded.{and_iff}
use Rattle.bits.specs.Packed.{Packed}
use Rattle.bits.proofs.Laws.{packed_same}
use Rattle.trace.specs.Format.{record_count, time_at}
use Rattle.window.specs.View.{slice_first, skips, in_slice, Shows}
use Rattle.trace.specs.Positions.{place}
use Rattle.window.specs.Window.{window_of, some_service, letter_at, Lettered, Opened, Passed, FirstTime}
use Rattle.window.specs.declared.Letters.{Letters}
use Rattle.window.specs.declared.Window.{Window}
use Rattle.window.proofs.Reading.{shown_inside, shown_time, shown_letter, head_behind, window_time}
use Rattle.window.specs.declared.view.View.{View}
use Rattle.window.specs.declared.KeptCopy.{KeptCopy}
use Rattle.blocks.specs.Step.{Agrees}

-- whatever the words hold: the window can be read
module _ (v : View) (h : ℕ) {s : List ℕ} {n : ℕ} {w : Window} {copy : KeptCopy} (opened : Opened (skips v) s (in_slice (slice_first v) h) n w copy) where
  pub readable : w.dense ≡ true → w.at * 8 ≤ length s
  readable e =
      let at = in_slice (slice_first v) h in
      let start = opened.start in
      let all = leb (at + n) (record_count s) in
      let inside = leb-true (at + n) (record_count s) ((and_iff all (negate (skips v && some_service s at n))).0 (opened.own e)).0 in
      omega arith

-- where view and slice tell the log, they show n positions from p on, which the log has
shows : {v : View} {s : List ℕ} {L : Log} {g : ℕ} → Agrees v s L g → (p n : ℕ) → g ≤ p → p + n ≤ L.size → (i : ℕ) → p ≤ i → i < p + n →
    Shows (skips v) s (slice_first v) L i
shows agrees p n from inside i l m = agrees.shows i (omega arith) (omega arith)

-- the head is that of position p: a letter at these positions, and the head behind them
module _ {v : View} {s : List ℕ} {L : Log} {g : ℕ} (agrees : Agrees v s L g) {h : ℕ} (p : ℕ) (head : h ≡ head_of L p) (from : g ≤ p) {n : ℕ} (inside : p + n ≤ L.size)
    {k : ℕ} {r : Letters} (lettered : Lettered (skips v) s k (in_slice (slice_first v) h) n r) where
  letters : Lettered (skips v) s k (in_slice (slice_first v) (head_of L p)) n r
  letters = rw head at lettered

  pub read_letters : Packed (λ i. L.letters i k) p n r.bits
  read_letters =
      packed_same (letter_at (skips v) s k (in_slice (slice_first v) (head_of L p))) (λ i. L.letters i k) 0 p n r.bits
      (λ i l. rw (zero-add i) (sym (shown_letter (skips v) s (slice_first v) L p n (shows agrees p n from inside) k i l)))
      (letters.answers (shown_inside (skips v) s (slice_first v) L p n (shows agrees p n from inside)))

  pub letters_end : 0 < n → slice_first v + r.end ≡ head_of L (p + n)
  letters_end some =
      ap (λ (e : ℕ). slice_first v + e) (letters.end (shown_inside (skips v) s (slice_first v) L p n (shows agrees p n from inside))) ∙
      head_behind (skips v) s (slice_first v) L p n (shows agrees p n from inside) n some (omega arith)

-- their times
module _ {v : View} {s : List ℕ} {L : Log} {g : ℕ} (agrees : Agrees v s L g) {h : ℕ} (p : ℕ) (head : h ≡ head_of L p) (from : g ≤ p) {n : ℕ} (inside : p + n ≤ L.size) where
  pub read_slice : (i : ℕ) → i < n → time_at s (place (skips v) s (in_slice (slice_first v) h) i) ≡ L.time (p + i)
  read_slice = rw head (shown_time (skips v) s (slice_first v) L p n (shows agrees p n from inside))

  -- that of the first, as it is read without a window
  pub read_first : 0 < n → (r : ℕ) → FirstTime v s h r → r ≡ L.time p
  read_first some r first =
      let window = shown_inside (skips v) s (slice_first v) L p n (shows agrees p n from inside) in
      first (rw head (λ i l. window i (omega arith))) ∙ read_slice 0 some ∙ ap L.time (add-zero p)

-- a window of them
module _ {v : View} {s : List ℕ} {L : Log} {g : ℕ} (agrees : Agrees v s L g) {h : ℕ} (p : ℕ) (head : h ≡ head_of L p) (from : g ≤ p) {n : ℕ} (inside : p + n ≤ L.size)
    {w : Window} {copy : KeptCopy} (opened : Opened (skips v) s (in_slice (slice_first v) h) n w copy) where
  here : Opened (skips v) s (in_slice (slice_first v) (head_of L p)) n w copy
  here = rw head at opened

  -- record i of the window is position p + i
  pub read_time : (i : ℕ) → i < n → time_at (window_of w s copy) i ≡ L.time (p + i)
  read_time = window_time (skips v) s (slice_first v) L p n (shows agrees p n from inside) w copy here

  -- and the head behind some of them is the log's
  pub head_passed : (m r : ℕ) → m ≤ n → Passed v s h m w r → r ≡ head_of L (p + m)
  head_passed zero r l passed = passed.still (omega arith) ∙ head ∙ ap (head_of L) (sym (add-zero p))
  head_passed (suc m) r l passed =
      let window = shown_inside (skips v) s (slice_first v) L p n (shows agrees p n from inside) in
      rw head at (passed.behind n copy l opened (rw head window) (omega arith)) ∙
      head_behind (skips v) s (slice_first v) L p n (shows agrees p n from inside) (suc m) (omega arith) l
