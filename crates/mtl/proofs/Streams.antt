-- A settled verdict is the formula's truth value on every stream that begins with the log.
use Prim.Native.Nat.{ℕ, ◌+◌, ◌-◌, ◌<◌}
use mathlib.Core.Bool.{true}
use mathlib.Core.Logic.Iff
use mathlib.Core.Logic.{◌↔◌}
use mathlib.Core.Path.{◌≡◌, sym, ◌∙◌}
use native.Mathlib.Omega.{arith}
use Rattle.mtl.specs.Formula.{Formula}
use Rattle.mtl.specs.Formula.Formula.{letter, not, or, previous, next, since, until}
use Rattle.mtl.specs.Log.{Log, Stream, NeverFalls, StreamNeverFalls, Begins}
use Rattle.mtl.specs.Satisfaction.{sat}
use Rattle.mtl.specs.Progress.{progress}
use Rattle.mtl.specs.Reading.{Holds, HoldsOn}
use Rattle.mtl.proofs.Bounded.{not_iff}
use Rattle.mtl.proofs.Printed.{or_agrees, previous_agrees, next_agrees, since_agrees}
use Rattle.mtl.proofs.Until.{progress_le_size, answered_operands, answered_fits, settled_agrees, until_settled_iff, until_answered, until_verdict}

-- a log that a stream begins with has the stream's order
pub begin_never_falls : (σ : Stream) (L : Log) → StreamNeverFalls σ → Begins σ L → NeverFalls L
begin_never_falls σ L falls begins i j g h =
    let a = begins.time i (omega arith) in
    let b = begins.time j h in
    let f = falls i j g in
    omega arith

-- THEOREM. What the verdicts of document 01 mean in documents 000 and 002: whatever records follow, the formula holds at an
-- answered position of the stream if the verdict is yes, and does not if it is no.

pub stream_iff : (φ : Formula) (σ : Stream) (L : Log) → StreamNeverFalls σ → Begins σ L →
    (i : ℕ) → i < progress φ L → (sat φ L i ≡ true) ↔ HoldsOn σ φ i
unfolding sat progress Holds
stream_iff (letter k) σ L falls begins i h = let e = begins.letters i h k in (λ v. e ∙ v, λ v. sym e ∙ v)
stream_iff (not φ) σ L falls begins i h = Iff.trans (not_iff (sat φ L i)) (Iff.not (stream_iff φ σ L falls begins i h))
stream_iff (or φ ψ) σ L falls begins i h =
    or_agrees (sat φ L i) (sat ψ L i) (stream_iff φ σ L falls begins i (omega arith)) (stream_iff ψ σ L falls begins i (omega arith))
stream_iff (previous low high φ) σ L falls begins i h =
    previous_agrees low high L.time σ.time (sat φ L) (HoldsOn σ φ) i
    (λ k g. sym (begins.time k (omega arith)))
    (λ l. stream_iff φ σ L falls begins (i - 1) (omega arith))
stream_iff (next low high φ) σ L falls begins i h =
    let p = progress_le_size φ L in
    next_agrees low high L.time σ.time (sat φ L) (HoldsOn σ φ) (λ j. Unit {0}) L.size i
    (λ k l. sym (begins.time k l))
    (λ l. stream_iff φ σ L falls begins (i + 1) (omega arith))
    (λ l. tt, λ u. omega arith)
stream_iff (since low high φ ψ) σ L falls begins i h =
    let p = progress_le_size φ L in
    since_agrees low high L.time σ.time (sat φ L) (sat ψ L) (HoldsOn σ φ) (HoldsOn σ ψ) i
    (λ k g. sym (begins.time k (omega arith)))
    (λ k g. stream_iff φ σ L falls begins k (omega arith))
    (λ k g. stream_iff ψ σ L falls begins k (omega arith))
stream_iff (until low high φ ψ) σ L falls begins i h =
    let log_falls = begin_never_falls σ L falls begins in
    let (b, s) = (until_answered low high φ ψ L log_falls i).0 h in
    rw (until_verdict low high φ ψ L log_falls i h)
    (settled_agrees low high L.time (sat φ L) (sat ψ L) L.size (answered_operands φ ψ L) (answered_fits φ ψ L)
    (λ j. Unit {0}) σ.time (HoldsOn σ φ) (HoldsOn σ ψ)
    (λ j g. tt)
    (λ k g. sym (begins.time k g))
    (λ k g. stream_iff φ σ L falls begins k (omega arith))
    (λ k g. stream_iff ψ σ L falls begins k (omega arith))
    (λ a c g u. falls a c g)
    i b ((until_settled_iff low high φ ψ L i).1 s))
