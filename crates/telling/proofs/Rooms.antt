-- The room of an entry's lines and of its operands', and what is lent to an earlier entry. Assumes nothing.
use Prim.Native.Nat.{ℕ, ◌+◌, ◌-◌, ◌≤◌, ◌<◌}
use mathlib.Core.Bool.{true}
use mathlib.Core.Path.{◌≡◌, refl}
use mathlib.Core.List.{List}
use native.Mathlib.Omega.{arith}
use lib.ListN.{length}
use Rattle.rule.proofs.Spans.{own_least}
use Rattle.window.specs.Window.{Keeps}
use Rattle.window.specs.declared.view.View.{View}
use Rattle.window.specs.declared.KeptCopy.{KeptCopy}
use Rattle.blocks.specs.Kinds.{takes_right}
use Rattle.engine.specs.Table.{row_at, kind_at}
use Rattle.engine.specs.declared.table.Row.{Row}
use Rattle.sentences.specs.Said.{Lent}

module _ {t : List Row} {v : View} {s words : List ℕ} {copy waiting : KeptCopy} {k : ℕ} (lent : Lent t v s words copy waiting k) where
  -- an entry has words of its own besides its operands'
  pub own_room : (row_at t k).left_words + (row_at t k).right_words + 16 ≤ (row_at t k).words
  own_room = let all = (lent.rows k (omega arith)).words in let least = own_least (kind_at t k) (row_at t k).high in omega arith

  -- the right operand, or the only one, and the left one of an or
  pub right_room : takes_right (kind_at t k) ≡ true → (0 < k) × ((row_at t (k - 1)).words ≡ (row_at t k).right_words)
  right_room takes = (lent.rows k (omega arith)).right takes

  pub or_right : kind_at t k ≡ 2 → (0 < k) × ((row_at t (k - 1)).words ≡ (row_at t k).right_words)
  or_right kind = right_room (rw kind refl)

  pub or_left : kind_at t k ≡ 2 → ((row_at t k).left < k) × ((row_at t (row_at t k).left).words ≡ (row_at t k).left_words)
  or_left kind = (lent.rows k (omega arith)).left (rw kind refl)

  pub lent_below : {words' : List ℕ} {copy' waiting' : KeptCopy} (j : ℕ) → j ≤ k → length words' ≡ length words → Keeps s copy' × Keeps s waiting' → Lent t v s words' copy' waiting' j
  lent_below j below kept copies =
      let entry = lent.entry in
      let room = lent.words_room in
      record {
        entry = omega arith;
        rows = λ q h. lent.rows q (omega arith);
        words_room = omega arith;
        copy_keeps = copies.0;
        waiting_keeps = copies.1;
        views = lent.views;
        few = lent.few;
      }
