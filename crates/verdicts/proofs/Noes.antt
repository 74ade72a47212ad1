-- The count of no and the latest of them, for formula k: of bytes laid end to end, of a word of answers, and as a checkpoint holds them.
-- Assumes nothing.
use Prim.Native.Nat.{ℕ, zero, suc, ◌+◌, ◌-◌, ◌≤◌, ◌<◌}
use mathlib.Core.Bool.{Bool, true, false, cond, beq}
use mathlib.Core.Path.{◌≡◌, refl, sym, ap, ap₂, ◌∙◌}
use mathlib.Core.List.{List}
use mathlib.Core.Option.{Option, none, some}
use native.Mathlib.Omega.{arith}
use lib.Dec.{eqb}
use lib.ListN.{length, get_or}
use borrow.Author.Tests.{le-leb, ne_eqb}
use Rattle.bits.specs.Packed.{bit, zeros, last_zero}
use Rattle.verdicts.specs.Bytes.{bytes_of}
use Rattle.verdicts.specs.Counts.{count_of, latest_no, Noes, noes_in, later, laid_behind, latest_of, later_end, noes_in_range}
use Rattle.verdicts.proofs.Bytes.{byte_at, bit_of_verdict}
use Rattle.verdicts.proofs.Tallies.{count_le}
use Rattle.verdicts.proofs.Written.{written, written_before, written_at}

abbrev pub noes : ℕ → Option ℕ → Noes
noes count latest = record { count = count; latest = latest }

-- one answer more, at position n
abbrev one_more : Noes → ℕ → Bool → Noes
one_more x n b = noes (x.count + cond (beq b false) 1 0) (cond b x.latest (some n))

-- they are of the answers alone: those of formula k in one sheet may be those of formula l in another
pub noes_same_bits : (k l : ℕ) (s t : List ℕ) (n : ℕ) → ((i : ℕ) → i < n → bit (get_or s i 0) k ≡ bit (get_or t i 0) l) → noes_in k s n ≡ noes_in l t n
unfolding count_of latest_no
noes_same_bits k l s t zero same = refl
noes_same_bits k l s t (suc n) same =
    ap₂ (λ (x : Noes) (b : Bool). one_more x n b) (noes_same_bits k l s t n (λ i h. same i (omega arith))) (same n (omega arith))

pub noes_same : (k : ℕ) (s t : List ℕ) (n : ℕ) → ((i : ℕ) → i < n → get_or s i 0 ≡ get_or t i 0) → noes_in k s n ≡ noes_in k t n
noes_same k s t n same = noes_same_bits k k s t n (λ i h. ap (λ (v : ℕ). bit v k) (same i h))

pub behind_none : (x : Noes) (d : ℕ) → x ≡ laid_behind x d (noes 0 none)
behind_none x d = ap (λ (c : ℕ). noes c x.latest) (omega arith)

behind_more : (b : Bool) (x y : Noes) (d n : ℕ) → one_more (laid_behind x d y) (d + n) b ≡ laid_behind x d (one_more y n b)
behind_more true x y d n = ap (λ (c : ℕ). noes c (later x.latest d y.latest)) (omega arith)
behind_more false x y d n = ap (λ (c : ℕ). noes c (some (d + n))) (omega arith)

-- n bytes behind d others
pub noes_behind : (k : ℕ) (s t : List ℕ) (d n : ℕ) → ((i : ℕ) → i < n → get_or s (d + i) 0 ≡ get_or t i 0) →
    noes_in k s (d + n) ≡ laid_behind (noes_in k s d) d (noes_in k t n)
unfolding count_of latest_no
noes_behind k s t d zero same =
    let place : d + 0 ≡ d = omega arith in ap (noes_in k s) place ∙ behind_none (noes_in k s d) d
noes_behind k s t d (suc n) same =
    let place : d + suc n ≡ suc (d + n) = omega arith in
    let before = noes_behind k s t d n (λ i h. same i (omega arith)) in
    ap (noes_in k s) place ∙
    ap₂ (λ (x : Noes) (byte : ℕ). one_more x (d + n) (bit byte k)) before (same n (omega arith)) ∙
    behind_more (bit (get_or t n 0) k) (noes_in k s d) (noes_in k t n) d n

-- and others behind these
pub behind_behind : (x y : Noes) (d n : ℕ) (count : ℕ) (latest : Option ℕ) →
    laid_behind (laid_behind x d y) (d + n) (noes count latest) ≡ laid_behind x d (laid_behind y n (noes count latest))
behind_behind x y d n count none = ap (λ (c : ℕ). noes c (later x.latest d y.latest)) (omega arith)
behind_behind x y d n count (some i) = ap₂ (λ (c j : ℕ). noes c (some j)) (omega arith) (omega arith)

-- OF A WORD OF ANSWERS: of its first n bits

abbrev pub noes_of_bits : (n bits : ℕ) → Noes
noes_of_bits n bits = noes (zeros n bits) (latest_of (last_zero n bits))

bits_more : (b : Bool) (count last n : ℕ) →
    one_more (noes count (latest_of last)) n b ≡ noes (count + cond b 0 1) (latest_of (cond b last (suc n)))
bits_more true count last n = refl
bits_more false count last n = refl

pub noes_bits : (k : ℕ) (s : List ℕ) (n bits : ℕ) → ((i : ℕ) → i < n → bit (get_or s i 0) k ≡ bit bits i) → noes_in k s n ≡ noes_of_bits n bits
unfolding count_of latest_no zeros last_zero
noes_bits k s zero bits same = refl
noes_bits k s (suc n) bits same =
    ap₂ (λ (x : Noes) (b : Bool). one_more x n b) (noes_bits k s n bits (λ i h. same i (omega arith))) (same n (omega arith)) ∙
    bits_more (bit bits n) (zeros n bits) (last_zero n bits) n

-- the bytes made from words of answers: those of word k
pub noes_bytes : (k : ℕ) (words : List ℕ) (n : ℕ) → k < length words → noes_in k (bytes_of words n) n ≡ noes_of_bits n (get_or words k 0)
noes_bytes k words n h =
    noes_bits k (bytes_of words n) n (get_or words k 0)
    (λ i l. ap (λ (v : ℕ). bit v k) (byte_at words n i l) ∙ bit_of_verdict words i k h)

-- a sheet with n verdicts written from `from` on
pub noes_written : (k from n : ℕ) (words sheet : List ℕ) → k < length words → from + n ≤ length sheet →
    noes_in k (written from n words sheet) (from + n) ≡ laid_behind (noes_in k sheet from) from (noes_of_bits n (get_or words k 0))
noes_written k from n words sheet h inside =
    noes_behind k (written from n words sheet) (bytes_of words n) from n
    (λ i l. written_at from n words sheet inside i l ∙ sym (byte_at words n i l))
    ∙ ap₂ (λ (x y : Noes). laid_behind x from y)
    (noes_same k (written from n words sheet) sheet from (written_before from n words sheet inside)) (noes_bytes k words n h)

-- AS A CHECKPOINT HOLDS THEM

-- the position that a checkpoint's word says
pub latest_end : (old d last : ℕ) → latest_of (later_end old d last) ≡ later (latest_of old) d (latest_of last)
latest_end old d zero = refl
latest_end old d (suc i) =
    let sum : d + suc i ≡ suc (d + i) = omega arith in
    rw (ne_eqb (suc i) 0 (omega arith)) (ap latest_of sum)

pub latest_some : (after : ℕ) → 0 < after → some (after - 1) ≡ latest_of after
latest_some zero h = absurd (omega arith)
latest_some (suc i) h = let same : suc i - 1 ≡ i = omega arith in ap some same

-- the word is 0 exactly if the count is
abbrev both : (count after : ℕ) → Bool
both count after = beq (eqb count 0) (eqb after 0)

after_by : (b : Bool) (n count after : ℕ) (before : Option ℕ) → latest_of after ≡ cond b before (some n) →
    (latest_of after ≡ before → (after ≤ n) × (both count after ≡ true)) →
    (after ≤ suc n) × (both (count + cond (beq b false) 1 0) after ≡ true)
after_by false n count zero before e earlier = let z : ◌≡◌ {A = ℕ} 0 1 = cc in absurd (omega arith)
after_by false n count (suc i) before e earlier =
    let same : i ≡ n = cc in
    (omega arith, rw (ne_eqb (count + 1) 0 (omega arith), ne_eqb (suc i) 0 (omega arith)))
after_by true n count after before e earlier =
    let (within, agree) = earlier e in
    let sum : count + 0 ≡ count = omega arith in
    (omega arith, rw sum agree)

after_is : (k : ℕ) (s : List ℕ) (n after : ℕ) → latest_of after ≡ latest_no k s n → (after ≤ n) × (both (count_of false k s n) after ≡ true)
unfolding count_of latest_no
after_is k s zero zero e = (omega arith, refl)
after_is k s zero (suc i) e = let z : ◌≡◌ {A = ℕ} 0 1 = cc in absurd (omega arith)
after_is k s (suc n) after e =
    after_by (bit (get_or s n 0) k) n (count_of false k s n) after (latest_no k s n) e (after_is k s n after)

pub noes_ranged : (k : ℕ) (s : List ℕ) (n count after : ℕ) → noes count (latest_of after) ≡ noes_in k s n → noes_in_range n count after ≡ true
noes_ranged k s n count after e =
    let c : count ≡ count_of false k s n = ap (λ (x : Noes). x.count) e in
    let (within, agree) = after_is k s n after (ap (λ (x : Noes). x.latest) e) in
    rw (le-leb count n (omega (arith, count_le k s false n)), le-leb after n within, c) agree
