use native.Mathlib.Omega.{arith}
use Prim.Native.Nat.{◌+◌, ◌*◌, ◌≤◌}
use mathlib.Core.Path.{◌≡◌, ap, ap₂, ◌∙◌}
use mathlib.Core.List.{List, ◌∷◌, ◌++◌}
use Prim.Native.Nat.{ℕ}
use borrow.Author.Tests.{lt-ltb, le-ltb}
use lib.ListN.{length, take}
use Rattle.rule.specs.Encoding.{number_bytes}
use Rattle.text.proofs.Buffer.{placed, four_bytes}
use Rattle.text.proofs.entries.Buffer.put.Goals as goal

pub returns-then-self-ge-MOST : goal.returns-then-self-ge-MOST
returns-then-self-ge-MOST c = record { counts = simp (le-ltb _ 128 c.if-self-ge-MOST.true); bytes = λ h. absurd (omega arith) }

pub returns : goal.returns
returns c =
    let e = c.args.e in
    let at : ℕ = 8 + c.args.self.now.count * 10 in
    let low : c.copy_from_slice.new.self ≡ number_bytes e.low = c.copy_from_slice.ensures.after ∙ c.to_be_bytes.ensures ∙ four_bytes e.low (omega arith) in
    let high : c.copy_from_slice-2.new.self ≡ number_bytes e.high = c.copy_from_slice-2.ensures.after ∙ c.to_be_bytes-2.ensures ∙ four_bytes e.high (omega arith) in
    let four : length c.copy_from_slice.new.self ≡ 4 = ap length low in
    let four' : length c.copy_from_slice-2.new.self ≡ 4 = ap length high in
    let fits : at + 10 ≤ length c.args.self.now.bytes = omega arith in
    record {
      counts = simp (lt-ltb _ 128 c.if-self-ge-MOST.false);
      bytes = λ h.
          placed c.args.self.now.bytes at e.kind e.letter c.copy_from_slice.new.self c.copy_from_slice-2.new.self fits four four'
          ∙ ap₂ (λ (us vs : List ℕ). take at c.args.self.now.bytes ++ (e.kind ∷ e.letter ∷ us ++ vs)) low high;
    }
