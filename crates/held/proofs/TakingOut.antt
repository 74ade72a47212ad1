-- The words once n verdicts are taken out of every formula's answers, and the no among them counted.
use Prim.Native.Nat.{ℕ, zero, suc, ◌+◌, ◌-◌, ◌/◌, ◌≤◌, ◌<◌, ◌^◌}
use mathlib.Core.Logic.{⊎_elim}
use mathlib.Core.Path.{◌≡◌, refl, sym, ap, ap₂, ◌∙◌}
use mathlib.Core.List.{List}
use native.Mathlib.Omega.{arith}
use lib.ListN.{length, drop, set, length-set, length-take, length-drop, get_or-eq_default}
use lib.Seq.{get_or-set_same, get_or-set_other}
use Rattle.mtl.specs.Formula.{Formula}
use Rattle.mtl.specs.Log.{Log}
use Rattle.mtl.proofs.Bounded.{le_or_lt}
use Rattle.bits.specs.Packed.{zeros, last_zero}
use Rattle.verdicts.specs.Counts.{laid_behind, latest_of, later_end}
use Rattle.verdicts.proofs.Noes.{noes, noes_of_bits, latest_end}
use Rattle.rule.specs.Postfix.{formula}
use Rattle.blocks.specs.Block.{word}
use Rattle.blocks.proofs.Words.{later}
use Rattle.engine.specs.State.{needed_words, own_at, words_before, OnwardFormula}
use Rattle.engine.specs.Tops.{held_at}
use Rattle.engine.specs.declared.table.Row.{Row}
use Rattle.engine.specs.declared.tops.Top.{Top as TopPlace}
use Rattle.engine.proofs.Held.{HeldWords, held_state, formula_held}
use Rattle.engine.proofs.Beside.{before_grows}
use Rattle.checkpoint.specs.Checkpoint.{given, stored_noes}
use Rattle.held.specs.Top.{top_count, top_bits, Waiting, part_of, Top}
use Rattle.held.specs.Code.{plan, Fits, HeldApart, taken_answers, taken_out, taken_verdicts, CanTake}
use Rattle.held.proofs.Places.{part_word, place_in, held_inside, count_at, bits_at, apart}

-- formula k's counts and answers, which stand at four places one behind the other
record Four (held at late size : ℕ) : Type 0 where
  first : at < late
  second : late < held
  inside : held + 1 < size

module _ (held at late d n : ℕ) (ws : List ℕ) (four : Four held at late (length ws)) where
  abbrev bits : ℕ
  bits = word ws (held + 1)

  abbrev one : List ℕ
  one = set ws at (word ws at + zeros n bits)

  abbrev two : List ℕ
  two = set one late (later_end (word ws late) d (last_zero n bits))

  abbrev three : List ℕ
  three = set two held (word ws held - n)

  length_one : length (taken_answers held at late d n ws) ≡ length ws
  length_one = simp length-set

  one_other : (i : ℕ) → (i ≡ at → ⊥) → (i ≡ late → ⊥) → (i ≡ held → ⊥) → (i ≡ held + 1 → ⊥) → word (taken_answers held at late d n ws) i ≡ word ws i
  one_other i a b c e =
      get_or-set_other three (held + 1) i _ 0 e ∙ get_or-set_other two held i _ 0 c ∙ get_or-set_other one late i _ 0 b ∙ get_or-set_other ws at i _ 0 a

  one_count : word (taken_answers held at late d n ws) at ≡ word ws at + zeros n bits
  one_count =
      let f = four in
      get_or-set_other three (held + 1) at _ 0 (λ e. omega (arith, f.first, f.second)) ∙ get_or-set_other two held at _ 0 (λ e. omega (arith, f.first, f.second)) ∙
      get_or-set_other one late at _ 0 (λ e. omega (arith, f.first)) ∙ get_or-set_same ws at _ 0 (omega (arith, f.first, f.second, f.inside))

  one_late : word (taken_answers held at late d n ws) late ≡ later_end (word ws late) d (last_zero n bits)
  one_late =
      let f = four in
      get_or-set_other three (held + 1) late _ 0 (λ e. omega (arith, f.second)) ∙ get_or-set_other two held late _ 0 (λ e. omega (arith, f.second)) ∙
      get_or-set_same one late _ 0 (simp length-set (omega (arith, f.second, f.inside)))

  one_held : word (taken_answers held at late d n ws) held ≡ word ws held - n
  one_held =
      let f = four in
      get_or-set_other three (held + 1) held _ 0 (λ e. omega arith) ∙ get_or-set_same two held _ 0 (simp length-set (omega (arith, f.inside)))

  one_bits : word (taken_answers held at late d n ws) (held + 1) ≡ bits / 2 ^ n
  one_bits = let f = four in get_or-set_same three (held + 1) _ 0 (simp length-set f.inside)

-- index i is none of the first k formulas'
abbrev pub Away : (held : ℕ → ℕ) (most k i : ℕ) → Type 0
Away held most k i = (j : ℕ) → j < k → (i ≡ 8 + j → ⊥) × (i ≡ 8 + most + j → ⊥) × (i ≡ held j → ⊥) × (i ≡ held j + 1 → ⊥)

-- formula j's words once n of its answers are taken
pub record TakenAt (held : ℕ → ℕ) (most d n j : ℕ) (ws ws' : List ℕ) : Type 0 where
  pub count : word ws' (8 + j) ≡ word ws (8 + j) + zeros n (word ws (held j + 1))
  pub late : word ws' (8 + most + j) ≡ later_end (word ws (8 + most + j)) d (last_zero n (word ws (held j + 1)))
  pub held_count : word ws' (held j) ≡ word ws (held j) - n
  pub held_bits : word ws' (held j + 1) ≡ word ws (held j + 1) / 2 ^ n

module _ (held : ℕ → ℕ) (most d n number : ℕ) (ws : List ℕ) (row : HeldApart held most number (length ws)) where
  pub length_taken_out : (k : ℕ) → length (taken_out held most d n k ws) ≡ length ws
  unfolding taken_out
  length_taken_out zero = refl
  length_taken_out (suc k) = simp length-set (length_taken_out k)

  four_of : (k : ℕ) → k < number → Four (held k) (8 + k) (8 + most + k) (length (taken_out held most d n k ws))
  four_of k h =
      record {
        first = omega (arith, row.formulas);
        second = omega (arith, row.formulas, row.above k h);
        inside = omega (arith, length_taken_out k, row.inside k h);
      }

  pub taken_out_away : (k : ℕ) → k ≤ number → (i : ℕ) → Away held most k i → word (taken_out held most d n k ws) i ≡ word ws i
  unfolding taken_out
  taken_out_away zero h i away = refl
  taken_out_away (suc k) h i away =
      let (a, b, c, e) = away k (omega arith) in
      one_other (held k) (8 + k) (8 + most + k) d n (taken_out held most d n k ws) (four_of k h) i a b c e ∙
      taken_out_away k (omega arith) i (λ j l. away j (omega arith))

  -- those of formula j are away from the others'
  pub its_away : (j k : ℕ) → j < number → k ≤ j →
      Away held most k (8 + j) × Away held most k (8 + most + j) × Away held most k (held j) × Away held most k (held j + 1)
  its_away j k h l =
      let f = row.formulas in
      let a = row.above j h in (
        λ m below. let b = row.above m (omega arith) in omega arith,
        λ m below. let b = row.above m (omega arith) in omega arith,
        λ m below. let b = row.apart m j (omega arith) h in omega arith,
        λ m below. let b = row.apart m j (omega arith) h in omega arith,
      )

  pub taken_out_at : (k : ℕ) → k ≤ number → (j : ℕ) → j < k → TakenAt held most d n j ws (taken_out held most d n k ws)
  unfolding taken_out
  taken_out_at zero h j l = absurd (omega arith)
  taken_out_at (suc k) h j l =
      ⊎_elim
      (λ (late : k ≤ j).
      let same : j ≡ k = omega arith in
      let before = taken_out held most d n k ws in
      let f = four_of k h in
      let (a, b, c, e) = its_away k k h (omega arith) in
      let at_count = taken_out_away k (omega arith) (8 + k) a in
      let at_late = taken_out_away k (omega arith) (8 + most + k) b in
      let at_held = taken_out_away k (omega arith) (held k) c in
      let at_bits = taken_out_away k (omega arith) (held k + 1) e in
      rw same
      (record {
        count = one_count (held k) (8 + k) (8 + most + k) d n before f ∙ ap₂ (λ (x y : ℕ). x + zeros n y) at_count at_bits;
        late = one_late (held k) (8 + k) (8 + most + k) d n before f ∙ ap₂ (λ (x y : ℕ). later_end x d (last_zero n y)) at_late at_bits;
        held_count = one_held (held k) (8 + k) (8 + most + k) d n before f ∙ ap (λ (x : ℕ). x - n) at_held;
        held_bits = one_bits (held k) (8 + k) (8 + most + k) d n before f ∙ ap (λ (x : ℕ). x / 2 ^ n) at_bits;
      }))
      (λ (early : j < k).
      let before = taken_out held most d n k ws in
      let f = four_of k h in
      let s = taken_out_at k (omega arith) j early in
      let m = row.formulas in
      let p = row.above k h in
      let p' = row.above j (omega arith) in
      let q = row.apart j k early h in
      let stays : (i : ℕ) → (i ≡ 8 + k → ⊥) → (i ≡ 8 + most + k → ⊥) → (i ≡ held k → ⊥) → (i ≡ held k + 1 → ⊥) → word (taken_out held most d n (suc k) ws) i ≡ word before i =
      one_other (held k) (8 + k) (8 + most + k) d n before f in
      record {
        count = stays (8 + j) (λ z. omega arith) (λ z. omega arith) (λ z. omega arith) (λ z. omega arith) ∙ s.count;
        late = stays (8 + most + j) (λ z. omega arith) (λ z. omega arith) (λ z. omega arith) (λ z. omega arith) ∙ s.late;
        held_count = stays (held j) (λ z. omega arith) (λ z. omega arith) (λ z. omega arith) (λ z. omega arith) ∙ s.held_count;
        held_bits = stays (held j + 1) (λ z. omega arith) (λ z. omega arith) (λ z. omega arith) (λ z. omega arith) ∙ s.held_bits;
      })
      (le_or_lt k j)

pub taken_out_none : (held : ℕ → ℕ) (most d n : ℕ) (ws : List ℕ) → ws ≡ taken_out held most d n 0 ws
unfolding taken_out
taken_out_none held most d n ws = refl

pub taken_out_next : (held : ℕ → ℕ) (most d n k : ℕ) (ws : List ℕ) →
    taken_answers (held k) (8 + k) (8 + most + k) d n (taken_out held most d n k ws) ≡ taken_out held most d n (k + 1) ws
unfolding taken_out
taken_out_next held most d n k ws = let e : suc k ≡ k + 1 = omega arith in ap (λ (m : ℕ). taken_out held most d n m ws) e

-- what taking formula k's answers needs, once those of the formulas before it are taken
pub may_take : (tops : List TopPlace) (most n : ℕ) (ws : List ℕ) → CanTake tops most n ws → (k : ℕ) → k < length tops → (held : ℕ) (ws₁ : List ℕ) →
    held ≡ held_at tops k → ws₁ ≡ taken_out (held_at tops) most (given ws) n k ws →
    (n ≤ 64) × (8 + k < length ws₁) × (8 + most + k < length ws₁) × (held + 1 < length ws₁) × (n ≤ word ws₁ held) × (word ws₁ (8 + k) + n < 2 ^ 64) × (given ws + n < 2 ^ 64)
may_take tops most n ws able k h held ws₁ at is =
    let d = given ws in
    let row = able.row in
    let f = row.formulas in
    let a = row.above k h in
    let i = row.inside k h in
    let long = length_taken_out (held_at tops) most d n (length tops) ws row k in
    let (x, y, z, w) = its_away (held_at tops) most d n (length tops) ws row k k h (omega arith) in
    let same_count = taken_out_away (held_at tops) most d n (length tops) ws row k (omega arith) (8 + k) x in
    let same_held = taken_out_away (held_at tops) most d n (length tops) ws row k (omega arith) (held_at tops k) z in
    rw (at, is) (
      able.few,
      omega arith,
      omega arith,
      omega arith,
      omega (arith, able.held k h),
      omega (arith, able.counted k h),
      able.given,
    )

-- THE WORDS OF FORMULAS THAT FIT

module _ {table : List Row} {tops : List TopPlace} {base : ℕ} {fs : List Formula} (most n : ℕ) (ws : List ℕ)
    (fits : Fits (plan table tops) base fs (length ws)) (counts : 8 + most + most ≤ base) (few : length tops ≤ most) where
  abbrev taken_out_all : List ℕ
  taken_out_all = taken_verdicts tops most n ws

  pub its_row : HeldApart (held_at tops) most (length tops) (length ws)
  its_row =
      let all = fits.laid.number in
      record {
        formulas = few;
        above = λ k h. omega (arith, (held_inside fits k (omega arith)).1);
        apart = λ j k l h. apart fits j k l (omega arith);
        inside = λ k h. (held_inside fits k (omega arith)).0;
      }

  pub length_all : length taken_out_all ≡ length ws
  length_all = simp length-set (length_taken_out (held_at tops) most (given ws) n (length tops) ws its_row (length tops))

  not_given_word : (i : ℕ) → (i ≡ 1 → ⊥) → word taken_out_all i ≡ word (taken_out (held_at tops) most (given ws) n (length tops) ws) i
  not_given_word i ne = get_or-set_other (taken_out (held_at tops) most (given ws) n (length tops) ws) 1 i (given ws + n) 0 ne

  away_word : (i : ℕ) → (i ≡ 1 → ⊥) → Away (held_at tops) most (length tops) i → word taken_out_all i ≡ word ws i
  away_word i ne away = not_given_word i ne ∙ taken_out_away (held_at tops) most (given ws) n (length tops) ws its_row (length tops) (omega arith) i away

  -- the header: the verdicts given, the words that stay, and the counts of the formulas
  pub now_given : given taken_out_all ≡ given ws + n
  now_given =
      get_or-set_same (taken_out (held_at tops) most (given ws) n (length tops) ws) 1 (given ws + n) 0
      (omega (arith, length_taken_out (held_at tops) most (given ws) n (length tops) ws its_row (length tops), fits.header, fits.all))

  pub now_header : (i : ℕ) → i < 8 → (i ≡ 1 → ⊥) → word taken_out_all i ≡ word ws i
  now_header i low ne = away_word i ne (λ j h. let a = its_row.above j h in omega arith)

  pub now_spare : (k : ℕ) → length tops ≤ k → k < most → (word taken_out_all (8 + k) ≡ word ws (8 + k)) × (word taken_out_all (8 + most + k) ≡ word ws (8 + most + k))
  now_spare k late h = (
    away_word (8 + k) (λ e. omega arith) (λ j l. let a = its_row.above j l in omega arith),
    away_word (8 + most + k) (λ e. omega arith) (λ j l. let a = its_row.above j l in omega arith),
  )

  pub now_noes : (k : ℕ) → k < length tops →
      stored_noes most taken_out_all k ≡ laid_behind (stored_noes most ws k) (given ws) (noes_of_bits n (word ws (held_at tops k + 1)))
  now_noes k h =
      let at = taken_out_at (held_at tops) most (given ws) n (length tops) ws its_row (length tops) (omega arith) k h in
      let bits = word ws (held_at tops k + 1) in
      ap₂ (λ (c a : ℕ). noes c (latest_of a)) (not_given_word (8 + k) (λ e. omega arith) ∙ at.count) (not_given_word (8 + most + k) (λ e. omega arith) ∙ at.late) ∙
      ap (noes (word ws (8 + k) + zeros n bits)) (latest_end (word ws (8 + most + k)) (given ws) (last_zero n bits))

  -- formula k's words
  module _ (k : ℕ) (h : k < length fs) where
    abbrev φ : Formula
    φ = formula fs k

    below : k < length tops
    below = omega (arith, fits.laid.number)

    pub now_count : top_count φ (part_of base fs k taken_out_all) ≡ top_count φ (part_of base fs k ws) - n
    now_count =
        let at = taken_out_at (held_at tops) most (given ws) n (length tops) ws its_row (length tops) (omega arith) k below in
        let a = its_row.above k below in
        count_at fits k h taken_out_all ∙ not_given_word (held_at tops k) (λ e. omega arith) ∙ at.held_count ∙
        sym (ap (λ (m : ℕ). m - n) (count_at fits k h ws))

    pub now_bits : top_bits φ (part_of base fs k taken_out_all) ≡ top_bits φ (part_of base fs k ws) / 2 ^ n
    now_bits =
        let at = taken_out_at (held_at tops) most (given ws) n (length tops) ws its_row (length tops) (omega arith) k below in
        let a = its_row.above k below in
        bits_at fits k h taken_out_all ∙ not_given_word (held_at tops k + 1) (λ e. omega arith) ∙ at.held_bits ∙
        sym (ap (λ (m : ℕ). m / 2 ^ n) (bits_at fits k h ws))

    -- its other words
    away_part : (i : ℕ) → i < needed_words φ → (i ≡ own_at φ + 12 → ⊥) → (i ≡ own_at φ + 13 → ⊥) →
        Away (held_at tops) most (length tops) (base + words_before fs k + i)
    away_part i l ne ne' j m =
        let p = place_in fits k h in
        let q = place_in fits j (omega (arith, fits.laid.number)) in
        let r = (fits.laid.each k h).held in
        let r' = (fits.laid.each j (omega (arith, fits.laid.number))).held in (
          λ e. omega arith,
          λ e. omega arith,
          λ e. not_its j m i l ne ne' 0 (omega arith) (omega (arith, e)),
          λ e. not_its j m i l ne ne' 1 (omega arith) (omega (arith, e)),
        )
      where
        not_its : (j : ℕ) → j < length tops → (i : ℕ) → i < needed_words φ → (i ≡ own_at φ + 12 → ⊥) → (i ≡ own_at φ + 13 → ⊥) → (o : ℕ) → o < 2 →
            base + words_before fs k + i ≡ held_at tops j + o → ⊥
        not_its j m i l ne ne' o small e =
            let p = place_in fits k h in
            let q = place_in fits j (omega (arith, fits.laid.number)) in
            let r' = (fits.laid.each j (omega (arith, fits.laid.number))).held in
            ⊎_elim
            (λ (x : j ≤ k).
            ⊎_elim
            (λ (y : k ≤ j).
            let same : j ≡ k = omega arith in
            let s = ap (words_before fs) same in
            let t = ap (λ (m : ℕ). own_at (formula fs m)) same in
            ⊎_elim (λ (z : 1 ≤ o). ne' (omega arith)) (λ (z : o < 1). ne (omega arith)) (le_or_lt 1 o))
            (λ (y : j < k). omega (arith, before_grows fs (suc j) k y, q.next, q.block))
            (le_or_lt k j))
            (λ (x : k < j). omega (arith, before_grows fs (suc k) j x, p.next))
            (le_or_lt j k)

    length_now : length (part_of base fs k taken_out_all) ≡ length (part_of base fs k ws)
    length_now =
        omega (
          arith,
          length-take (needed_words φ) (drop (base + words_before fs k) taken_out_all),
          length-take (needed_words φ) (drop (base + words_before fs k) ws),
          length-drop (base + words_before fs k) taken_out_all,
          length-drop (base + words_before fs k) ws,
          length_all,
        )

    now_held : HeldWords (own_at φ) (part_of base fs k ws) (part_of base fs k taken_out_all)
    now_held =
        record {
          room = omega (arith, length_now);
          same = λ i ne ne'.
              ⊎_elim
              (λ (l : needed_words φ ≤ i).
              get_or-eq_default (part_of base fs k taken_out_all) 0 {n = i} (omega (arith, length-take (needed_words φ) (drop (base + words_before fs k) taken_out_all))) ∙
              sym (get_or-eq_default (part_of base fs k ws) 0 {n = i} (omega (arith, length-take (needed_words φ) (drop (base + words_before fs k) ws)))))
              (λ (l : i < needed_words φ).
              part_word base fs k taken_out_all i l ∙
              away_word (base + words_before fs k + i) (λ e. omega (arith, fits.header)) (away_part i l ne ne') ∙ sym (part_word base fs k ws i l))
              (le_or_lt (needed_words φ) i);
        }

    pub now_onward : OnwardFormula φ (part_of base fs k ws) (part_of base fs k taken_out_all)
    now_onward = formula_held φ (part_of base fs k ws) (part_of base fs k taken_out_all) now_held

    now_waiting : (L : Log) (d : ℕ) → n ≤ top_count φ (part_of base fs k ws) → Waiting φ L d (part_of base fs k ws) → Waiting φ L (d + n) (part_of base fs k taken_out_all)
    now_waiting L d some waits =
        let top_column : d + top_count φ (part_of base fs k ws) ≡ d + n + (top_count φ (part_of base fs k ws) - n) = omega arith in
        record {
          buffer = later n some refl now_count now_bits waits.buffer;
          state = rw now_count (rw top_column at (held_state φ L (d + top_count φ (part_of base fs k ws)) (part_of base fs k ws) (part_of base fs k taken_out_all) now_held waits.state));
        }

  -- the words then stand for the later position
  pub top_taken_out : (L : Log) (d : ℕ) → ((k : ℕ) → k < length fs → n ≤ top_count (formula fs k) (part_of base fs k ws)) → d + n ≤ L.size →
      Top base fs L d ws → Top base fs L (d + n) taken_out_all
  top_taken_out L d some within top =
      record {
        at = now_given ∙ ap (λ (m : ℕ). m + n) top.at;
        within = within;
        each = λ k h. now_waiting k h L d (some k h) (top.each k h);
      }
