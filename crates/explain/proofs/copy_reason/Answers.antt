-- `explain::copy_reason` meets its contract.
use Prim.Native.Nat.{ℕ}
use mathlib.Core.List.{List, ◌++◌}
use mathlib.Core.Path.{ap}
use native.Mathlib.Omega.{arith}
use lib.ListN.{drop}
use Rattle.trace.specs.Log.{log_of}
use Rattle.explain.proofs.Calling.{reasoned_ends, copies_all}
use Rattle.explain.proofs.copy_reason.Goals as goal

pub returns : goal.returns
returns c fs ended steady =
    let a = c.args in
    let r = c.reason_of in
    let lines = r.new.text in
    let (one, two, wrote) = reasoned_ends fs (log_of a.skips a.records.now) a.formula a.position _ r.result lines c.in-Some.length c.in-Some.is (r.ensures.1 fs ended steady) in
    copies_all fs (log_of a.skips a.records.now) a.formula a.position a.text.now one two _ lines c.in-Some.length wrote (omega (arith, c.if-text-length.false)) _ (ap (λ (b : List ℕ). b ++ drop c.in-Some.length a.text.now) c.copy_from_slice.ensures.after)
