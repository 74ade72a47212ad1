-- Bytes written one after the other into a text whose rest is free. Assumes nothing.
use Prim.Native.Nat.{ℕ, ◌+◌, ◌-◌, ◌≤◌}
use mathlib.Core.Path.{◌≡◌, sym, ◌∙◌, ap, ap₂}
use mathlib.Core.List.{List, ◌++◌, append_assoc}
use native.Mathlib.Omega.{arith}
use lib.ListN.{length, take, drop, length-append}
use lib.Seq.{take_at, drop_at, take-add, take-take, length-take-le}
use Rattle.decimal.specs.Text.{Writes}
use Rattle.decimal.specs.Written.{Cuts}
use Rattle.decimal.specs.declared.Text.{Text}
use Rattle.telling.specs.Lines.{Wrote}

-- what is written with the rest kept
pub wrote_line : {t t' xs : List ℕ} {at e : ℕ} → Writes t at xs e t' → at ≤ length t → Wrote t at xs e t'
wrote_line {t} {t'} {xs} {at} {e} w h =
    let ends = w.ends in
    let sum = length-append (take at t) xs in
    let front = length-take-le at t h in
    record {
      ends = w.ends;
      content = ap (take e) w.content ∙ take_at (take at t ++ xs) (drop e t) e (omega arith);
    }

pub wrote_more : {t t' t'' xs ys : List ℕ} {at m e : ℕ} → Wrote t at xs m t' → Wrote t' m ys e t'' → Wrote t at (xs ++ ys) e t''
wrote_more {t} {t'} {t''} {xs} {ys} {at} {m} {e} v w =
    record {
      ends = let a = v.ends in let b = w.ends in let c = length-append xs ys in omega arith;
      content = w.content ∙ ap (λ l. l ++ ys) v.content ∙ append_assoc (take at t) xs ys;
    }

-- of a text that is long enough, the front has its length
front : {t t' xs : List ℕ} {at m : ℕ} → Wrote t at xs m t' → at ≤ length t → length (take m t') ≡ m
front {t} {t'} {xs} {at} {m} v h =
    let a = ap length v.content in
    let b = length-append (take at t) xs in
    let c = length-take-le at t h in
    let d = v.ends in
    omega arith

-- left's bytes are taken out: right's move to their place
pub wrote_cut : {t t' : List ℕ} {xs ys : List ℕ} {at m : ℕ} {both cut : Text} → Wrote t at xs m t' → Wrote t' m ys both.at both.bytes.now → at ≤ length t → at ≤ m → m ≤ both.at →
    Cuts both at m cut → Wrote t at ys cut.at cut.bytes.now
wrote_cut {t} {t'} {xs} {ys} {at} {m} {both} {cut} v w room a b s =
    let e = both.at in
    let t'' = both.bytes.now in
    let f = front v room in
    let start : take m t'' ≡ take m t' = sym (take-take m e t'' b) ∙ ap (take m) w.content ∙ take_at (take m t') ys m f in
    let first : take at t'' ≡ take at t =
    sym (take-take at m t'' a) ∙ ap (take at) (start ∙ v.content) ∙ take_at (take at t) xs at (length-take-le at t room) in
    let sum : m + (e - m) ≡ e = omega arith in
    let whole : take m t'' ++ take (e - m) (drop m t'') ≡ take m t' ++ ys =
    sym (take-add m (e - m) t'') ∙ ap (λ n. take n t'') sum ∙ w.content in
    let part : take (e - m) (drop m t'') ≡ ys =
    sym (drop_at (take m t'') (take (e - m) (drop m t'')) m (ap length start ∙ f)) ∙ ap (drop m) whole ∙ drop_at (take m t') ys m f in
    record {
      ends = let x = s.ends in let y = w.ends in omega arith;
      content = s.content ∙ ap₂ (λ x y. x ++ y) first part;
    }
