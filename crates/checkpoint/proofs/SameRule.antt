-- Refusal 10 compares the rule, its version included: no two accepted rules have the copy that one checkpoint holds. Assumes nothing.
use Prim.Native.Nat.{ℕ, zero, suc, ◌+◌, ◌-◌, ◌*◌, ◌/◌, ◌%◌, ◌≤◌, ◌<◌, ◌^◌}
use mathlib.Core.Bool.{false, ◌&&◌, ◌||◌}
use mathlib.Core.Bool.{not as negate}
use mathlib.Core.Logic.{⊎_elim}
use mathlib.Core.Path.{◌≡◌, refl, sym, ◌∙◌, ap, ap₂}
use mathlib.Core.List.{List}
use native.Mathlib.Omega.{arith}
use lib.Dec.{eqb, ltb}
use lib.ListN.{length}
use lib.Seq.{ext_get_or}
use borrow.Author.Tests.{eqb-true, not-false}
use Rattle.mtl.specs.Satisfaction.{any}
use Rattle.mtl.proofs.Bounded.{any_false_iff, le_or_lt, and_iff}
use Rattle.rule.specs.declared.Entry.{Entry}
use Rattle.rule.specs.Bytes.{byte, word32}
use Rattle.rule.specs.Entries.{version, count, decoded, entry, entry_of}
use Rattle.rule.specs.Words.{header_words, offset, own}
use Rattle.rule.specs.Refusal.{marked, unmarked, unknown_version, wrong_size, header_refusal, entries_refusal, refusal}
use Rattle.rule.specs.Accepted.{FieldsInRange}
use Rattle.rule.proofs.Headers.{first_zero, before_none, or_left, or_right}
use Rattle.rule.proofs.Decoded.{decoded_at}
use Rattle.rule.proofs.Acceptance.{accepted}
use Rattle.blocks.specs.Block.{word}
use Rattle.checkpoint.specs.Checkpoint.{format, copy_start, block_at, copy_head, copy_ends, copy_differs, foreign}

-- a list of bytes; past the end it reads as 0
abbrev pub Bytes : List ℕ → Type 0
Bytes s = (i : ℕ) → byte s i < 256

-- an equation of two bytes also stands at an equal position
moved : (a b : List ℕ) (at i : ℕ) → at ≡ i → byte a at ≡ byte b at → byte a i ≡ byte b i
moved a b at i e same = rw e at same

-- the last of two numbers' bytes, and what stands before it
last_byte : (a b c d : ℕ) → b < 256 → d < 256 → a * 256 + b ≡ c * 256 + d → (a ≡ c) × (b ≡ d)
last_byte a b c d l r same = (omega arith, omega arith)

-- WHAT THE BYTES OF A RULE ARE

-- the header of an accepted rule: mark and spare bytes
record Header (s : List ℕ) : Type 0 where
  first_mark : byte s 0 ≡ 0x4B
  second_mark : byte s 1 ≡ 0x52
  third_mark : byte s 2 ≡ 0x4C
  first_spare : byte s 6 ≡ 0
  second_spare : byte s 7 ≡ 0

header_of : (s : List ℕ) → header_refusal s ≡ 0 → Header s
unfolding header_refusal
header_of s e =
    let a = first_zero 0 (unmarked s) _ e in
    let b = first_zero 1 (unknown_version s) _ a.1 in
    let d = first_zero 3 (wrong_size s) 0 b.1 in
    let marks = (and_iff (eqb (byte s 0) 0x4B && eqb (byte s 1) 0x52) (eqb (byte s 2) 0x4C)).0
    (not-false (marked s) (or_right (ltb (length s) 8) (negate (marked s)) a.0)) in
    let two = (and_iff (eqb (byte s 0) 0x4B) (eqb (byte s 1) 0x52)).0 marks.0 in
    let spares = or_left (ltb 128 (count s) || negate (eqb (byte s 6) 0) || negate (eqb (byte s 7) 0)) (negate (eqb (length s) (8 + count s * 10))) d.0 in
    record {
      first_mark = eqb-true (byte s 0) 0x4B two.0;
      second_mark = eqb-true (byte s 1) 0x52 two.1;
      third_mark = eqb-true (byte s 2) 0x4C marks.1;
      first_spare =
          eqb-true (byte s 6) 0
          (not-false _ (or_right (ltb 128 (count s)) (negate (eqb (byte s 6) 0)) (or_left _ (negate (eqb (byte s 7) 0)) spares)));
      second_spare =
          eqb-true (byte s 7) 0 (not-false _ (or_right (ltb 128 (count s) || negate (eqb (byte s 6) 0)) (negate (eqb (byte s 7) 0)) spares));
    }

header_accepted : (s : List ℕ) → refusal s ≡ 0 → header_refusal s ≡ 0
header_accepted s e = (before_none (header_refusal s) (entries_refusal (version s) (decoded s) (count s)) e).0

-- WHAT A COPY IS

-- an entry in its ranges, by its copy
same_entry : (e f : Entry) → FieldsInRange e → FieldsInRange f → copy_head e ≡ copy_head f → copy_ends e ≡ copy_ends f → e ≡ f
same_entry e f range range' head ends =
    let letter = range.letter in
    let letter' = range'.letter in
    let high = below e range in
    let high' = below f range' in
    let first = last_byte e.kind e.letter f.kind f.letter (omega arith) (omega arith) head in
    let low_same : e.low ≡ f.low = omega arith in
    let high_same : e.high ≡ f.high = omega arith in
    λ i. record { kind = first.0 i; letter = first.1 i; low = low_same i; high = high_same i }
  where
    below : (e : Entry) → FieldsInRange e → e.high < 2 ^ 32
    below e range = ⊎_elim (λ finite. omega arith) (λ none. let is = none.0 in omega arith) range.high

both_equal : (v w x y : ℕ) → negate (eqb v w && eqb x y) ≡ false → (v ≡ w) × (x ≡ y)
both_equal v w x y e = let both = (and_iff (eqb v w) (eqb x y)).0 (not-false _ e) in (eqb-true v w both.0, eqb-true x y both.1)

-- a checkpoint with a rule's copy: its version and count, and its entries in their blocks
record Copied (version : ℕ) (t : List Entry) (n : ℕ) (p : List ℕ) : Type 0 where
  start : word p 4 ≡ copy_start version n
  head : (k : ℕ) → k < n → word p (block_at (header_words version) t k + 14) ≡ copy_head (entry t k)
  ends : (k : ℕ) → k < n → word p (block_at (header_words version) t k + 15) ≡ copy_ends (entry t k)

copied : (version : ℕ) (t : List Entry) (n : ℕ) (p : List ℕ) → foreign version t n p ≡ false → Copied version t n p
copied version t n p fits =
    let other = negate (eqb (word p 4) (copy_start version n)) in
    let differs = copy_differs (header_words version) t p in
    let rest = or_right (negate (eqb (word p 0) format)) (other || any n differs) fits in
    let none = (any_false_iff n differs).0 (or_right other (any n differs) rest) in
    record {
      start = eqb-true (word p 4) (copy_start version n) (not-false _ (or_left other (any n differs) rest));
      head = λ k h. (both_equal _ (copy_head (entry t k)) _ (copy_ends (entry t k)) (none k h)).0;
      ends = λ k h. (both_equal _ (copy_head (entry t k)) _ (copy_ends (entry t k)) (none k h)).1;
    }

-- TWO RULES

module _ (a b : List ℕ) (bytes : Bytes a) (bytes' : Bytes b) where
  -- the four bytes of a number
  word32_bytes : (at : ℕ) → word32 a at ≡ word32 b at → (r : ℕ) → r < 4 → byte a (at + r) ≡ byte b (at + r)
  word32_bytes at same r h =
      let fourth = last_byte (byte a at * 65536 + byte a (at + 1) * 256 + byte a (at + 2)) (byte a (at + 3))
      (byte b at * 65536 + byte b (at + 1) * 256 + byte b (at + 2)) (byte b (at + 3)) (bytes (at + 3)) (bytes' (at + 3)) (omega arith) in
      let third = last_byte (byte a at * 256 + byte a (at + 1)) (byte a (at + 2)) (byte b at * 256 + byte b (at + 1)) (byte b (at + 2))
      (bytes (at + 2)) (bytes' (at + 2)) (omega (arith, fourth.0)) in
      let second = last_byte (byte a at) (byte a (at + 1)) (byte b at) (byte b (at + 1)) (bytes (at + 1)) (bytes' (at + 1)) third.0 in
      by r h second.0 second.1 third.1 fourth.1
    where
      by : (r : ℕ) → r < 4 → byte a at ≡ byte b at → byte a (at + 1) ≡ byte b (at + 1) → byte a (at + 2) ≡ byte b (at + 2) →
          byte a (at + 3) ≡ byte b (at + 3) → byte a (at + r) ≡ byte b (at + r)
      by zero h one two three four = moved a b at (at + 0) (omega arith) one
      by (suc zero) h one two three four = two
      by (suc (suc zero)) h one two three four = three
      by (suc (suc (suc zero))) h one two three four = four
      by (suc (suc (suc (suc r)))) h one two three four = absurd (omega arith)

  -- the ten bytes of an entry
  entry_bytes : (k : ℕ) → entry_of a k ≡ entry_of b k → (r : ℕ) → r < 10 → byte a (8 + k * 10 + r) ≡ byte b (8 + k * 10 + r)
  entry_bytes k same zero h = moved a b (8 + k * 10) (8 + k * 10 + 0) (omega arith) (ap (λ e. e.kind) same)
  entry_bytes k same (suc zero) h = ap (λ e. e.letter) same
  entry_bytes k same (suc (suc r)) h =
      ⊎_elim
      (λ (l : 4 ≤ r).
      moved a b (8 + k * 10 + 6 + (r - 4)) (8 + k * 10 + suc (suc r)) (omega arith)
      (word32_bytes (8 + k * 10 + 6) (ap (λ e. e.high) same) (r - 4) (omega arith)))
      (λ (l : r < 4).
      moved a b (8 + k * 10 + 2 + r) (8 + k * 10 + suc (suc r)) (omega arith) (word32_bytes (8 + k * 10 + 2) (ap (λ e. e.low) same) r l))
      (le_or_lt 4 r)

  module _ (fine : refusal a ≡ 0) (fine' : refusal b ≡ 0) where
    header_bytes : version a ≡ version b → count a ≡ count b → (i : ℕ) → i < 8 → byte a i ≡ byte b i
    header_bytes versions counts i h = by i h (header_of a (header_accepted a fine)) (header_of b (header_accepted b fine'))
      where
        by : (i : ℕ) → i < 8 → Header a → Header b → byte a i ≡ byte b i
        by zero h x y = x.first_mark ∙ sym y.first_mark
        by (suc zero) h x y = x.second_mark ∙ sym y.second_mark
        by (suc (suc zero)) h x y = x.third_mark ∙ sym y.third_mark
        by (suc (suc (suc zero))) h x y = (last_byte (byte a 3) (byte a 4) (byte b 3) (byte b 4) (bytes 4) (bytes' 4) versions).0
        by (suc (suc (suc (suc zero)))) h x y = (last_byte (byte a 3) (byte a 4) (byte b 3) (byte b 4) (bytes 4) (bytes' 4) versions).1
        by (suc (suc (suc (suc (suc zero))))) h x y = counts
        by (suc (suc (suc (suc (suc (suc zero)))))) h x y = x.first_spare ∙ sym y.first_spare
        by (suc (suc (suc (suc (suc (suc (suc zero))))))) h x y = x.second_spare ∙ sym y.second_spare
        by (suc (suc (suc (suc (suc (suc (suc (suc i)))))))) h x y = absurd (omega arith)

    -- the same version and entries are the same bytes
    pub same_bytes : version a ≡ version b → count a ≡ count b → ((k : ℕ) → k < count a → entry (decoded a) k ≡ entry (decoded b) k) → a ≡ b
    same_bytes versions counts same =
        let x = accepted a fine in
        let y = accepted b fine' in
        let size = x.size in
        let size' = y.size in
        let few = x.few_entries in
        ext_get_or 0 a b (omega arith)
        (λ i h.
        ⊎_elim
        (λ (l : 8 ≤ i).
        let k = (i - 8) / 10 in
        let inside : k < count a = omega arith in
        let entries = sym (decoded_at a k (omega arith)) ∙ same k inside ∙ decoded_at b k (omega arith) in
        moved a b (8 + k * 10 + (i - 8) % 10) i (omega arith) (entry_bytes k entries ((i - 8) % 10) (omega arith)))
        (λ (l : i < 8). header_bytes versions counts i l)
        (le_or_lt 8 i))

    -- THE THEOREM: a checkpoint that has the copies of both has one rule's copy
    module _
        (p : List ℕ)
        (own_a : foreign (version a) (decoded a) (count a) p ≡ false)
        (own_b : foreign (version b) (decoded b) (count b) p ≡ false)
      where
        starts_same : (version a ≡ version b) × (count a ≡ count b)
        starts_same =
            last_byte (version a) (count a) (version b) (count b) (bytes 5) (bytes' 5)
            (sym (copied (version a) (decoded a) (count a) p own_a).start ∙ (copied (version b) (decoded b) (count b) p own_b).start)

        versions_same : version a ≡ version b
        versions_same = starts_same.0

        counts_same : count a ≡ count b
        counts_same = starts_same.1

        -- the same entry, where the blocks before it are as long
        same_at : (k : ℕ) → k < count a → offset (decoded a) k ≡ offset (decoded b) k → entry (decoded a) k ≡ entry (decoded b) k
        same_at k h e =
            let x = copied (version a) (decoded a) (count a) p own_a in
            let y = copied (version b) (decoded b) (count b) p own_b in
            let base = ap header_words versions_same in
            let h' : k < count b = omega (arith, counts_same) in
            same_entry (entry (decoded a) k) (entry (decoded b) k) ((accepted a fine).well_formed.in_range k h) ((accepted b fine').well_formed.in_range k h')
            (sym (x.head k h) ∙ ap₂ (λ (b o : ℕ). word p (b + o + 14)) base e ∙ y.head k h')
            (sym (x.ends k h) ∙ ap₂ (λ (b o : ℕ). word p (b + o + 15)) base e ∙ y.ends k h')

        offsets_same : (k : ℕ) → k ≤ count a → offset (decoded a) k ≡ offset (decoded b) k
        unfolding offset
        offsets_same zero h = refl
        offsets_same (suc k) h =
            let before = offsets_same k (omega arith) in
            ap₂ (λ o w. o + w) before (ap own (same_at k h before))

        pub same_rule : a ≡ b
        same_rule = same_bytes versions_same counts_same (λ k h. same_at k h (offsets_same k (omega arith)))
