-- The buffer of a rule: an entry's ten bytes, and the entries that the buffer holds.
use Prim.Native.Nat.{ℕ, suc, ◌+◌, ◌-◌, ◌*◌, ◌/◌, ◌%◌, ◌≤◌, ◌<◌, min}
use native.Mathlib.Omega.{arith}
use borrow.Author.Tests.{lt-ltb, le-ltb}
use borrow.Rule.Slice.PartMut.{put_mid}
use mathlib.Core.Path.{◌≡◌, refl, sym, ap, ◌∙◌}
use mathlib.Core.Logic.{⊎_elim}
use mathlib.Core.List.{List, [], ◌∷◌, ◌++◌, append_assoc, append-nil}
use mathlib.Core.Bool.{cond}
use Rattle.mtl.proofs.Bounded.{le_or_lt}
use lib.Dec.{ltb}
use lib.ListN.{length, take, drop, set, length-append, length-set, length-drop}
use lib.Seq.{sets-eq, take_at, length-take-le}
use Rattle.std.proofs.lemmas.Slice.{take-put_mid}
use Rattle.rule.specs.declared.Entry.{Entry}
use Rattle.rule.specs.Encoding.{number_bytes, entry_bytes, body, rule_header}
use Rattle.text.specs.declared.entries.Buffer.{Buffer}
use Rattle.text.specs.Reader.{Contains, Puts}

two : (l : List ℕ) (i a b : ℕ) → i + 2 ≤ length l → take (i + 2) (set (set l i a) (i + 1) b) ≡ take i l ++ (a ∷ b ∷ [])
two l i a b fits =
    let vs : List ℕ = a ∷ b ∷ [] in
    let e1 : i + 1 ≡ suc i = omega arith in
    let at : length (take i l ++ vs) ≡ i + 2 = length-append (take i l) vs ∙ ap (λ (n : ℕ). n + 2) (length-take-le i l (omega arith)) in
    simp e1 (ap (take (i + 2)) (sets-eq vs l i fits) ∙ take_at (take i l ++ vs) (drop (i + 2) l) (i + 2) at)

length-put_mid : (a k : ℕ) (xs ys : List ℕ) → a + k ≤ length xs → length ys ≡ k → length (put_mid a k xs ys) ≡ length xs
length-put_mid a k xs ys fits e =
    length-append (take a xs) (ys ++ drop k (drop a xs))
    ∙ omega (arith, length-append ys (drop k (drop a xs)), length-take-le a xs (omega arith), length-drop k (drop a xs), length-drop a xs)

-- an entry's bytes, written from i on
module _ (l : List ℕ) (i a b : ℕ) (us vs : List ℕ) (fits : i + 10 ≤ length l) (four : length us ≡ 4) (four' : length vs ≡ 4) where
  abbrev begun : List ℕ
  begun = set (set l i a) (i + 1) b

  begun_length : length begun ≡ length l
  begun_length = simp length-set

  abbrev half : List ℕ
  half = put_mid (i + 2) (i + 6 - (i + 2)) begun us

  half_length : length half ≡ length l
  half_length = length-put_mid (i + 2) (i + 6 - (i + 2)) begun us (omega (arith, begun_length)) (omega arith) ∙ begun_length

  pub placed : take (i + 10) (put_mid (i + 6) (i + 10 - (i + 6)) half vs) ≡ take i l ++ (a ∷ b ∷ us ++ vs)
  placed =
      take-put_mid (i + 6) (i + 10 - (i + 6)) half vs (i + 10) (omega arith) (omega (arith, half_length))
      ∙ ap (λ (s : List ℕ). s ++ vs)
      (take-put_mid (i + 2) (i + 6 - (i + 2)) begun us (i + 6) (omega arith) (omega (arith, begun_length))
      ∙ ap (λ (s : List ℕ). s ++ us) (two l i a b (omega arith)))
      ∙ ap (λ (s : List ℕ). s ++ vs) (append_assoc (take i l) (a ∷ b ∷ []) us)
      ∙ append_assoc (take i l) (a ∷ b ∷ us) vs

body_append : (xs ys : List Entry) → body (xs ++ ys) ≡ body xs ++ body ys
unfolding body
body_append [] ys = refl
body_append (e ∷ xs) ys = ap (λ (l : List ℕ). entry_bytes e ++ l) (body_append xs ys) ∙ sym (append_assoc (entry_bytes e) (body xs) (body ys))

body_last : (xs : List Entry) (e : Entry) → body (xs ++ (e ∷ [])) ≡ body xs ++ entry_bytes e
unfolding body
body_last xs e = body_append xs (e ∷ []) ∙ ap (λ (l : List ℕ). body xs ++ l) (append-nil (entry_bytes e))

-- an entry put behind those that the buffer holds
pub holds_put : (out out' : Buffer) (e : Entry) (es : List Entry) → Puts out e out' → Contains out es → Contains out' (es ++ (e ∷ []))
holds_put out out' e es p h =
    record {
      counts = let c : cond (ltb out.count 128) (out.count + 1) 129 ≡ min (length (es ++ (e ∷ []))) 129 = ⊎_elim many few (le_or_lt 128 out.count) in p.counts ∙ c;
      bytes = λ l. written (omega (arith, longer, h.counts)) (omega (arith, longer));
    }
  where
    longer : length (es ++ (e ∷ [])) ≡ length es + 1
    longer = length-append es (e ∷ [])

    few : out.count < 128 → cond (ltb out.count 128) (out.count + 1) 129 ≡ min (length (es ++ (e ∷ []))) 129
    few l = simp (lt-ltb out.count 128 l) (omega (arith, longer, h.counts))

    many : 128 ≤ out.count → cond (ltb out.count 128) (out.count + 1) 129 ≡ min (length (es ++ (e ∷ []))) 129
    many l = simp (le-ltb out.count 128 l) (omega (arith, longer, h.counts))

    written : out.count < 128 → length es ≤ 128 → take (8 + out'.count * 10) out'.bytes ≡ rule_header 0 ++ body (es ++ (e ∷ []))
    written l m =
        let c : cond (ltb out.count 128) (out.count + 1) 129 ≡ out.count + 1 = simp (lt-ltb out.count 128 l) in
        let k : 8 + out'.count * 10 ≡ 8 + out.count * 10 + 10 = omega (arith, p.counts ∙ c) in
        ap (λ (i : ℕ). take i out'.bytes) k
        ∙ p.bytes l
        ∙ ap (λ (s : List ℕ). s ++ entry_bytes e) (h.bytes m)
        ∙ append_assoc (rule_header 0) (body es) (entry_bytes e)
        ∙ ap (λ (s : List ℕ). rule_header 0 ++ s) (sym (body_last es e))

pub four_bytes : (n : ℕ) → n < 4294967296 → (n / 16777216 % 256 ∷ n / 65536 % 256 ∷ n / 256 % 256 ∷ n % 256 ∷ []) ≡ number_bytes n
four_bytes n h = let e : n / 16777216 % 256 ≡ n / 16777216 = omega arith in ap (λ (b : ℕ). b ∷ n / 65536 % 256 ∷ n / 256 % 256 ∷ n % 256 ∷ []) e
