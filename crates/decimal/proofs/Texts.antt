-- Bytes written into a lent text one after the other. Assumes nothing.
use Prim.Native.Nat.{ℕ, ◌≤◌}
use mathlib.Core.Path.{◌≡◌, refl, sym, ◌∙◌, ap, ap₂}
use mathlib.Core.List.{List, [], ◌++◌, append_assoc, append-nil}
use native.Mathlib.Omega.{arith}
use lib.ListN.{length, take, drop, length-append, take-append-drop}
use lib.Seq.{length-take-le, take_at, drop_at, drop-drop}
use Rattle.std.specs.Borrow.{MutBor}
use Rattle.decimal.specs.Text.{Writes}
use Rattle.decimal.specs.Written.{Begins, Puts}
use Rattle.decimal.specs.declared.Text.{Text}

-- nothing written
pub writes_none : (t : List ℕ) (from : ℕ) → Writes t from [] from t
writes_none t from =
    record {
      ends = omega arith;
      content = sym (ap (λ s. s ++ drop from t) (append-nil (take from t)) ∙ take-append-drop from t);
    }

module _ {t : List ℕ} {from : ℕ} {bytes : List ℕ} {to : ℕ} {t' : List ℕ} (w : Writes t from bytes to t') (room : to ≤ length t) where
  head_length : length (take from t ++ bytes) ≡ to
  head_length =
      let ends = w.ends in
      let sum = length-append (take from t) bytes in
      let head = length-take-le from t (omega arith) in
      omega arith

  -- bytes behind those written before
  pub writes_more : {more : List ℕ} {end : ℕ} {t'' : List ℕ} → Writes t' to more end t'' → Writes t from (bytes ++ more) end t''
  writes_more {more} {end} {t''} v =
      let sum = length-append bytes more in
      let first = w.ends in
      let second = v.ends in
      let kept : take to t' ≡ take from t ++ bytes = ap (take to) w.content ∙ take_at (take from t ++ bytes) (drop to t) to head_length in
      let behind : drop to t' ≡ drop to t = ap (drop to) w.content ∙ drop_at (take from t ++ bytes) (drop to t) to head_length in
      let rest : drop end t' ≡ drop end t =
      ap (λ k. drop k t') second ∙ sym (drop-drop (length more) to t') ∙ ap (drop (length more)) behind ∙ drop-drop (length more) to t ∙
      ap (λ k. drop k t) (sym second) in
      record {
        ends = omega arith;
        content = v.content ∙ ap₂ (λ a b. a ++ more ++ b) kept rest ∙
            ap (λ a. a ++ drop end t) (append_assoc (take from t) bytes more);
      }

-- the same of texts that are being written
pub puts_none : (t : Text) → t.at ≤ length t.bytes.now → Puts t [] t
puts_none t fits = record { same = refl; size = refl; fits = fits; writes = writes_none t.bytes.now t.at }

pub puts_more : {t : Text} {piece more : List ℕ} {t' t'' : Text} → Puts t piece t' → Puts t' more t'' → Puts t (piece ++ more) t''
puts_more p q =
    record {
      same = q.same ∙ p.same;
      size = q.size ∙ p.size;
      fits = omega (arith, p.size, q.fits);
      writes = writes_more p.writes p.fits q.writes;
    }

-- a lent buffer that the text was written into
pub wrote : {bytes : MutBor (List ℕ)} {t : Text} {piece : List ℕ} {t' : Text} → Begins bytes t → Puts t piece t' → Writes bytes.now 0 piece t'.at t'.bytes.now
wrote {bytes} {t} {piece} {t'} b p = rw (b.lent, b.nothing) at p.writes
