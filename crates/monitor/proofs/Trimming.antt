-- From what the checks answer to what `trim` promises.
use Prim.Native.Nat.{ℕ, ◌+◌}
use mathlib.Core.Path.{◌≡◌, refl, ap, ◌∙◌}
use mathlib.Core.List.{List}
use native.Mathlib.Omega.{arith}
use borrow.Author.Tests.{eq-eqb, ne_eqb}
use lib.ListN.{length}
use Rattle.trace.specs.Format.{records_from}
use Rattle.trace.specs.Making.{trimmed_bytes, put}
use Rattle.checkpoint.specs.Checkpoint.{first_wanted}
use Rattle.checks.specs.Refusal.{trim_refusal}
use Rattle.refusal.specs.declared.Refusal.{Refusal}
use Rattle.refusal.specs.Number.{number_of}
use Rattle.refusal.proofs.Numbers.{number_positive}
use Rattle.monitor.specs.Trim.{wrote, refused_with, trimmed_log, Trims}

module _ (rule log p out : List ℕ) where
  -- where a refusal is met nothing is written
  pub trim_refused : (e : Refusal) → number_of e ≡ trim_refusal rule log p (length out) → Trims rule log p out (refused_with (number_of e)) out
  trim_refused e number =
      let some = number_positive e in
      record { outcome = rw (← number, ne_eqb (number_of e) 0 (λ z. omega arith)); bytes = refl }

  -- else the records from the first wanted on were written, behind the header and their number
  pub trim_written : trim_refusal rule log p (length out) ≡ 0 → (s : List ℕ) → s ≡ records_from log (first_wanted p) → (n : ℕ) →
      n ≡ 16 + length s → (out' : List ℕ) → out' ≡ put out 0 (trimmed_bytes (first_wanted p) s) → Trims rule log p out (wrote n) out'
  trim_written fine s handed n size out' written =
      let long : n ≡ length (trimmed_log log p) = omega (arith, ap length handed) in
      record {
        outcome = rw (eq-eqb (trim_refusal rule log p (length out)) 0 fine) (ap wrote long);
        bytes = written ∙ ap (λ (s : List ℕ). put out 0 (trimmed_bytes (first_wanted p) s)) handed;
      }
