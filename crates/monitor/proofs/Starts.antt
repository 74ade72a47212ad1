-- A fresh checkpoint stands for its rule on a log with no record.
use Prim.Native.Nat.{ℕ, ◌+◌, ◌≤◌, ◌<◌, zero-le}
use native.Mathlib.Omega.{arith}
use mathlib.Core.Bool.{false}
use mathlib.Core.Logic.{inr}
use mathlib.Core.Path.{◌≡◌, refl, sym, ap, subst, ◌∙◌}
use mathlib.Core.List.{List, ◌++◌}
use lib.ListN.{length, take, drop, length-drop}
use lib.Seq.{get_or-take, take_at, drop_at, length_front, length-take-le}
use borrow.Author.Tests.{lt-ltb, le-ltb}
use Rattle.mtl.specs.Formula.{Formula}
use Rattle.mtl.specs.Log.{Log}
use Rattle.mtl.specs.Wanted.{wanted}
use Rattle.verdicts.specs.Counts.{count_of, latest_no}
use Rattle.rule.specs.Entries.{version, count, decoded, entry}
use Rattle.rule.specs.Postfix.{most_formulas, formula}
use Rattle.rule.specs.Refusal.{refusal}
use Rattle.rule.specs.Words.{header_words, offset}
use Rattle.rule.proofs.Acceptance.{accepted}
use Rattle.rule.proofs.Spans.{header_least}
use Rattle.blocks.specs.Block.{word, FreshBlock}
use Rattle.blocks.proofs.Words.{empty_buffer}
use Rattle.engine.specs.State.{State}
use Rattle.engine.proofs.Formulas.{last_entry, last_below, fresh_rule}
use Rattle.checkpoint.specs.Checkpoint.{last, log_kind, need, block_at}
use Rattle.checkpoint.specs.Fresh.{Fresh}
use Rattle.checks.specs.Refusal.{open_refusal}
use Rattle.checkpoint.proofs.Offsets.{in_block, block_fits, noes_within}
use Rattle.checkpoint.proofs.Copies.{fresh_own, foreign_within}
use Rattle.refusal.specs.declared.Refusal.{Refusal}
use Rattle.refusal.specs.Number.{number_of}
use Rattle.refusal.proofs.Numbers.{number_positive}
use Rattle.meaning.specs.Verdicts.{formulas_of}
use Rattle.held.specs.Top.{top_count, top_bits, part_of, Waiting, Top}
use Rattle.monitor.specs.Open.{done, refused_with, Opens}
use Rattle.monitor.specs.Stands.{Stands}
use Rattle.monitor.proofs.Meaning.{rule_whole, few_columns, part_is, held_word}

module _ (rule ws : List ℕ) (fine : refusal rule ≡ 0) (size : length ws ≡ need rule) (f : Fresh (version rule) (decoded rule) (count rule) ws) (L : Log) where
  abbrev base : ℕ
  base = header_words (version rule)

  abbrev fs : List Formula
  fs = formulas_of rule

  fresh_block : (j : ℕ) → j < count rule → FreshBlock (entry (decoded rule) j).kind (drop (offset (decoded rule) j) (drop base ws))
  fresh_block j h =
      record {
        own = λ i l. in_block base (decoded rule) ws j i ∙ f.blocks j h i (omega arith);
        waiting = λ until. in_block base (decoded rule) ws j 16 ∙ f.waiting j h until;
      }

  fresh_waiting : (k : ℕ) → k < length fs → Waiting (formula fs k) L 0 (part_of base fs k ws)
  fresh_waiting k h =
      let t = decoded rule in
      let n = count rule in
      let ok = (accepted rule fine).well_formed in
      let whole = rule_whole rule fine in
      let φ = formula fs k in
      let none : top_count φ (part_of base fs k ws) ≡ 0 =
      held_word base t n ok fs whole k h ws ∙ f.blocks (last_entry fs k) (last_below t n ok fs whole k h) 12 (omega arith) in
      let state = fresh_rule t n ok fs whole (drop base ws) (omega (arith, length-drop base ws)) fresh_block L k h in
      record {
        buffer = empty_buffer φ L 0 (top_count φ (part_of base fs k ws)) (top_bits φ (part_of base fs k ws)) zero-le none;
        state = rw none (subst (State φ L 0) (sym (part_is base fs k ws)) state);
      }

  fresh_top : Top base fs L 0 ws
  fresh_top =
      record {
        at = f.header 1 (omega arith) (omega (arith, header_least (version rule))) (omega arith);
        within = zero-le;
        each = fresh_waiting;
      }

module _ (rule p : List ℕ) (ok : refusal rule ≡ 0) (room : need rule ≤ length p) (f : Fresh (version rule) (decoded rule) (count rule) (take (need rule) p)) where
  own_word : (i : ℕ) → i < need rule → word p i ≡ word (take (need rule) p) i
  own_word i h = sym (get_or-take (need rule) p i 0 h)

  -- the header's words are 0, but for the format's and the copy's
  clear : (i : ℕ) → 0 < i → i < header_words (version rule) → (i ≡ 4 → ⊥) → word p i ≡ 0
  clear i h l ne = own_word i (omega arith) ∙ f.header i h l ne

  -- no time and no log's version is noted
  fresh_header : (last p ≡ 0) × (log_kind p ≡ 0)
  fresh_header =
      let least = header_least (version rule) in
      (clear 3 (omega arith) (omega arith) (omega arith), clear 6 (omega arith) (omega arith) (omega arith))

  fresh_stands : (L : Log) → L.size ≡ 0 → L.closed ≡ false → Stands rule L 0 0 p
  unfolding count_of latest_no
  fresh_stands L none is_open =
      let v = version rule in
      let t = decoded rule in
      let n = count rule in
      let least = header_least v in
      let noes = noes_within v in
      let closed_is = clear 5 (omega arith) (omega arith) (omega arith) in
      let no_counted : (k : ℕ) → k < most_formulas v → word p (8 + k) ≡ 0 = λ k h. clear (8 + k) (omega arith) (omega arith) (omega arith) in
      let no_latest : (k : ℕ) → k < most_formulas v → word p (8 + most_formulas v + k) ≡ 0 =
      λ k h. clear (8 + most_formulas v + k) (omega arith) (omega arith) (omega arith) in
      record {
        enough = room;
        own = foreign_within v t n p (take (need rule) p) own_word ∙ fresh_own v t n (take (need rule) p) f;
        size = clear 2 (omega arith) (omega arith) (omega arith);
        placed = record { rising = λ i j h l. absurd (omega arith); below = λ i h. absurd (omega arith) };
        closed = closed_is ∙ rw is_open;
        wanted = rw (le-ltb (wanted (formulas_of rule) 0) L.size (omega arith)) (clear 7 (omega arith) (omega arith) (omega arith));
        top = fresh_top rule (take (need rule) p) ok (length-take-le (need rule) p room) f L;
        noes = λ k h.
            let in_most : k < most_formulas v = omega (arith, few_columns rule ok) in
            rw (no_counted k in_most, no_latest k in_most);
        in_range = record {
          few = omega arith;
          fits = omega (arith, fresh_header.0);
          kind = rw (fresh_header.1, closed_is);
          unused = λ k h l. (no_counted k l, no_latest k l);
          spare = λ j h.
              let inside = block_fits (header_words v) t n j h in
              inr (own_word (block_at (header_words v) t j + 12) (omega arith) ∙ f.blocks j h 12 (omega arith));
        };
      }

-- `open`, where a refusal is met
pub opens_refused : (rule p : List ℕ) (e : Refusal) → number_of e ≡ open_refusal rule (length p) → Opens rule p (refused_with (number_of e)) p
opens_refused rule p e number =
    let some = number_positive e in
    record { outcome = rw (lt-ltb 0 (open_refusal rule (length p)) (omega arith)) (ap refused_with number); length = refl; words = refl }

-- and once a fresh checkpoint stands in the first words, as many as the rule needs
pub opens_done : (rule p ws : List ℕ) (k : ℕ) → refusal rule ≡ 0 → need rule ≤ length p → k ≡ need rule → length ws ≡ length (take k p) →
    Fresh (version rule) (decoded rule) (count rule) ws → Opens rule p done (ws ++ drop k p)
opens_done rule p ws k fine enough same l f =
    let m = length-take-le k p (omega arith) in
    let size : length ws ≡ need rule = omega arith in
    let p' = ws ++ drop k p in
    let room : need rule ≤ length p' = omega (arith, length_front p ws k l) in
    let fresh : Fresh (version rule) (decoded rule) (count rule) (take (need rule) p') = rw (take_at ws (drop k p) (need rule) size) f in
    let noted = fresh_header rule p' fine room fresh in
    record {
      outcome = rw (fine, le-ltb (length p) (need rule) enough);
      length = length_front p ws k l;
      words = (
        drop_at ws (drop k p) (need rule) size ∙ ap (λ (i : ℕ). drop i p) same,
        noted.0,
        noted.1,
        fresh_stands rule p' fine room fresh,
      );
    }
