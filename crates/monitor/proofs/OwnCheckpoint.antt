-- A checkpoint that stands for its rule and a log never meets refusal 11 with that rule. Assumes nothing.
-- (Examples is named first so that the table of worked examples is checked before any theorem.)
use Rattle.monitor.specs.Examples
use Prim.Native.Nat.{ℕ, zero, suc, ◌+◌, ◌-◌, ◌≤◌, ◌<◌, ◌^◌}
use mathlib.Core.Bool.{Bool, true, false, cond}
use mathlib.Core.Logic.{⊎_elim}
use mathlib.Core.Path.{◌≡◌, refl, sym, ap, subst, ◌∙◌}
use mathlib.Core.List.{List}
use native.Mathlib.Omega.{arith}
use lib.Dec.{leb, eqb}
use lib.ListN.{length, take, drop}
use lib.Seq.{get_or-take, get_or-drop}
use borrow.Author.Tests.{le-leb, le-ltb, lt-ltb, eq-eqb, ne_eqb, eqb-true}
use Rattle.mtl.specs.Log.{Log, Placed}
use Rattle.mtl.specs.Wanted.{wanted, wanted_record}
use Rattle.mtl.proofs.Bounded.{le_or_lt, any_false_iff}
use Rattle.mtl.proofs.Closing.{settled_le_size}
use Rattle.verdicts.proofs.Noes.{noes_ranged}
use Rattle.rule.specs.Entries.{version, count, decoded, entry}
use Rattle.rule.specs.Postfix.{most_formulas, formula, start}
use Rattle.rule.specs.Words.{own, header_words, offset}
use Rattle.rule.specs.Refusal.{refusal}
use Rattle.rule.proofs.Acceptance.{accepted}
use Rattle.rule.proofs.Spans.{header_least, own_least}
use Rattle.blocks.specs.Block.{word, cells_of}
use Rattle.engine.specs.State.{State}
use Rattle.engine.proofs.Entries.{Ranged}
use Rattle.engine.proofs.Formulas.{last_entry, last_next, rule_ranges}
use Rattle.checkpoint.specs.Checkpoint.{given, seen, last, closed_with, log_kind, first_wanted, no_count, after_latest, need, block_at, waiting_in_range, block_outside, noes_outside, closed_in_range, kind_in_range, words_outside}
use Rattle.verdicts.specs.Counts.{noes_in_range}
use Rattle.checkpoint.proofs.Offsets.{until_words, in_block, block_within, block_fits}
use Rattle.meaning.specs.Verdicts.{formulas_of, columns, verdicts}
use Rattle.held.specs.Top.{top_count, part_of}
use Rattle.monitor.specs.Stands.{Stands}
use Rattle.monitor.proofs.Meaning.{rule_whole, part_is, held_word}

-- WHAT A LOG'S PLACES SAY OF THE RECORDS SEEN

module _ (L : Log) (n : ℕ) (placed : Placed L n) where
  place_least : (i : ℕ) → i < L.size → i ≤ L.place i
  place_least zero h = omega arith
  place_least (suc i) h = omega (arith, place_least i (omega arith), placed.rising i (suc i) (omega arith) h)

  -- no more positions than records
  pub positions_few : L.size ≤ n
  positions_few =
      ⊎_elim
      (λ (none : L.size ≤ 0). omega arith)
      (λ (some : 0 < L.size). omega (arith, place_least (L.size - 1) (omega arith), placed.below (L.size - 1) (omega arith)))
      (le_or_lt L.size 0)

  -- the first wanted record is one of those seen, or the next
  pub wanted_within : (q : ℕ) → wanted_record L n q ≤ n
  wanted_within q =
      ⊎_elim
      (λ past. rw (le-ltb q L.size past) (omega arith))
      (λ there. rw (lt-ltb q L.size there) (omega (arith, placed.below q there)))
      (le_or_lt L.size q)

-- RANGES

closed_ranged : (b : Bool) (w m seen : ℕ) → w ≡ cond b (suc m) 0 → seen ≡ m → closed_in_range w seen ≡ true
closed_ranged true w m seen e f = rw (e, f, ne_eqb (suc m) 0 (λ z. omega arith), eq-eqb (suc m - 1) m (omega arith))
closed_ranged false w m seen e f = rw e

waiting_ranged : (kind size : ℕ) (b : List ℕ) → (kind ≡ 6 → word b 16 ≤ size) → waiting_in_range kind size b ≡ true
waiting_ranged kind size b low = by (eqb kind 6) refl
  where
    by : (test : Bool) → eqb kind 6 ≡ test → cond test (leb (word b 16) size) true ≡ true
    by true e = le-leb (word b 16) size (low (eqb-true kind 6 e))
    by false e = refl

module _ (rule : List ℕ) (K : Log) (n d : ℕ) (p : List ℕ) (fine : refusal rule ≡ 0) (stands : Stands rule K n d p) where
  abbrev base : ℕ
  base = header_words (version rule)

  -- the rule's own words, and those behind the header
  abbrev own_part : List ℕ
  own_part = take (need rule) p

  abbrev behind : List ℕ
  behind = drop base own_part

  own_word : (i : ℕ) → i < need rule → word own_part i ≡ word p i
  own_word i h = get_or-take (need rule) p i 0 h

  -- the verdicts given, as the checkpoint has them
  pub own_given : given p ≡ d
  own_given = sym (own_word 1 (omega (arith, header_least (version rule)))) ∙ stands.top.at

  -- no more of them than positions, nor than records seen
  pub own_within : (d ≤ K.size) × (K.size ≤ n)
  own_within = (stands.top.within, positions_few K n stands.placed)

  ranged : (j : ℕ) → j < count rule → Ranged (decoded rule) behind K.size n j
  ranged =
      let fs = formulas_of rule in
      rule_ranges (decoded rule) (count rule) (accepted rule fine).well_formed fs (rule_whole rule fine) behind K n stands.placed
      (λ k h. (
        d + top_count (formula fs k) (part_of base fs k own_part),
        subst (State (formula fs k) K _) (part_is base fs k own_part) (stands.top.each k h).state,
      ))

  block_word : (j i : ℕ) → j < count rule → i < own (entry (decoded rule) j) →
      word (drop (offset (decoded rule) j) behind) i ≡ word p (block_at base (decoded rule) j + i)
  block_word j i h l =
      let r = block_within base (decoded rule) (count rule) j h in
      in_block base (decoded rule) own_part j i ∙ own_word (block_at base (decoded rule) j + i) (omega arith)

  -- the block in the checkpoint has the words of the block behind the header
  same_word : (j i : ℕ) → j < count rule → i < own (entry (decoded rule) j) → word (drop (block_at base (decoded rule) j) p) i ≡ word (drop (offset (decoded rule) j) behind) i
  same_word j i h l = get_or-drop (block_at base (decoded rule) j) p i 0 ∙ sym (block_word j i h l)

  -- what an entry holds is at most one word, and of records seen
  held_ranged : (j : ℕ) → j < count rule → (word p (block_at base (decoded rule) j + 12) ≤ 64) × (d + word p (block_at base (decoded rule) j + 12) ≤ K.size)
  held_ranged j h =
      let fs = formulas_of rule in
      let t = decoded rule in
      let ok = (accepted rule fine).well_formed in
      let whole = rule_whole rule fine in
      ⊎_elim
      (λ (is : (k : ℕ) × (k < length fs) × (suc j ≡ start fs (suc k))).
      let (k, l, e) = is in
      let φ = formula fs k in
      let same : last_entry fs k ≡ j = omega (arith, last_next t (count rule) ok fs whole k l) in
      let r = block_fits base t (count rule) j h in
      let count_is : top_count φ (part_of base fs k own_part) ≡ word p (block_at base t j + 12) =
      held_word base t (count rule) ok fs whole k l own_part ∙ ap (λ (m : ℕ). word own_part (block_at base t m + 12)) same ∙
      own_word (block_at base t j + 12) (omega arith) in
      let b = (stands.top.each k l).buffer in
      omega (arith, b.packed.few, b.within, settled_le_size φ K, count_is))
      (λ (none : word p (block_at base t j + 12) ≡ 0). omega (arith, own_within.0))
      (stands.in_range.spare j h)

  in_range : (j : ℕ) → j < count rule → block_outside base (decoded rule) p j ≡ false
  in_range j h =
      let e = entry (decoded rule) j in
      let b = drop (block_at base (decoded rule) j) p in
      let cells = cells_of e.kind e.high in
      let size = stands.size in
      let (r, heads) = ranged j h in
      let held = held_ranged j h in
      let few = own_within.1 in
      let wide = own_least e.kind e.high in
      let at : word b 12 ≡ word p (block_at base (decoded rule) j + 12) = get_or-drop (block_at base (decoded rule) j) p 12 0 in
      rw (
        le-leb (word b 0) (seen p) (omega (arith, same_word j 0 h (omega arith))),
        le-leb (word b 1) 64 (omega (arith, same_word j 1 h (omega arith))),
        le-leb (word b 3) 64 (omega (arith, same_word j 3 h (omega arith))),
        le-leb (word b 5) (seen p) (omega (arith, same_word j 5 h (omega arith))),
        le-leb (word b 6) 1 (omega (arith, same_word j 6 h (omega arith))),
        le-leb (word b 7) 1 (omega (arith, same_word j 7 h (omega arith))),
        lt-ltb (word b 8) (2 ^ 32) (omega (arith, same_word j 8 h (omega arith))),
        le-leb (word b 9) cells (omega (arith, same_word j 9 h (omega arith))),
        le-leb (word b 10) cells (omega (arith, same_word j 10 h (omega arith))),
        le-leb (word b 11) (seen p) (omega (arith, heads.own, same_word j 11 h (omega arith))),
        le-leb (word b 12) 64 (omega arith),
        le-leb (word b 12) (seen p) (omega arith),
        le-leb (given p) (seen p - word b 12) (omega (arith, own_given)),
        waiting_ranged e.kind (seen p) b
            (λ until. omega (arith, heads.waiting until, same_word j 16 h (omega (arith, until_words e until)))),
      )

  -- each formula's no are among the verdicts given, and those of no formula are none
  own_noes : (k : ℕ) → k < most_formulas (version rule) → noes_outside (most_formulas (version rule)) p k ≡ false
  own_noes k h =
      let m = most_formulas (version rule) in
      let fs = formulas_of rule in
      ⊎_elim
      (λ (none : columns fs ≤ k).
      let z = stands.in_range.unused k none h in
      rw (z.0, z.1, le-leb 0 (given p) (omega arith)))
      (λ (some : k < columns fs).
      let fits : noes_in_range (given p) (no_count p k) (after_latest m p k) ≡ true =
      rw own_given (noes_ranged k (verdicts fs K d) d (no_count p k) (after_latest m p k) (stands.noes k some)) in
      rw fits)
      (le_or_lt (columns fs) k)

  -- a closing was accepted of the records seen, or none
  own_closed : closed_in_range (closed_with p) (seen p) ≡ true
  own_closed = closed_ranged K.closed (closed_with p) n (seen p) stands.closed stands.size

  -- its version is noted where a record was seen or a closing accepted
  own_kind : kind_in_range (log_kind p) (seen p) (closed_with p) ≡ true
  own_kind = rw stands.size stands.in_range.kind

  -- refusal 11 is not met
  pub not_outside : words_outside (version rule) (decoded rule) (count rule) p ≡ false
  not_outside =
      let few = stands.in_range.few in
      let size = stands.size in
      rw (
        le-leb (seen p) 1000000 (omega arith),
        le-leb (given p) (seen p) (omega (arith, own_given, own_within)),
        lt-ltb (last p) (2 ^ 32) stands.in_range.fits,
        own_closed,
        own_kind,
        le-leb (first_wanted p) (seen p) (omega (arith, stands.wanted, wanted_within K n stands.placed (wanted (formulas_of rule) d))),
        (any_false_iff (most_formulas (version rule)) (noes_outside (most_formulas (version rule)) p)).1 own_noes,
        (any_false_iff (count rule) (block_outside base (decoded rule) p)).1 in_range,
      )
