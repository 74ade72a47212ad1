-- `check_trimmed` meets its contract: each return by the tests that led there.
use Prim.Native.Nat.{ℕ}
use mathlib.Core.Bool.{true, false, not as negate}
use mathlib.Core.Path.{◌≡◌, sym, ap, ◌∙◌}
use mathlib.Core.List.{List}
use lib.Dec.{ltb}
use lib.ListN.{length}
use Rattle.trace.specs.Making.{trimmed}
use Rattle.checkpoint.specs.Checkpoint.{first_wanted}
use Rattle.refusal.proofs.Numbers.{handed_on}
use Rattle.rule.specs.Refusal.{first}
use Rattle.trace.specs.Format.{skips_of}
use Rattle.checks.specs.Refusal.{version_refusal, records_refusal, trimming_refusal}
use Rattle.checks.proofs.Checks.{passed_over, stops, goes_on, version_first, records_first, few_records}
use Rattle.checks.proofs.check_trimmed.Goals as goal

-- what comes last
abbrev short_refusal : (lent : ℕ) (log p : List ℕ) → ℕ
short_refusal lent log p = first 25 (ltb lent (length (trimmed log (first_wanted p)))) 0

module _ (lent : ℕ) (log p : List ℕ) (version : 0 ≡ version_refusal log p 0) where
  -- the log is of a known version, and is that which was noted
  after_version : trimming_refusal lent log p ≡ first 23 (negate (skips_of log)) (records_refusal false log p (short_refusal lent log p))
  after_version = version_first log p _ ∙ goes_on _ _ version

  module _ (skips : skips_of log ≡ true) where
    -- and has service records
    after_skips : trimming_refusal lent log p ≡ records_refusal false log p (short_refusal lent log p)
    after_skips = after_version ∙ passed_over 23 _ _ (ap negate skips)

    -- and its records are those that the checkpoint wants
    after_records : 0 ≡ records_refusal false log p 0 → trimming_refusal lent log p ≡ short_refusal lent log p
    after_records records = after_skips ∙ records_first false log p _ ∙ goes_on _ _ records

pub returns-in_err-check_version : goal.returns-in_err-check_version
returns-in_err-check_version c =
    let a = c.args in
    handed_on c.from_residual.result _ c.from_residual.ensures.1
    ∙ stops _ _ _ c.in_err-check_version.ensures
    ∙ sym (version_first a.log.now a.point.now _)

pub returns-then-not-skips : goal.returns-then-not-skips
returns-then-not-skips c =
    let a = c.args in
    sym (after_version a.lent a.log.now a.point.now c.in_ok-check_version.ensures ∙ simp (ap negate (sym c.skips.ensures ∙ c.if-not-skips.true)))

pub check_records-requires : goal.check_records-requires
check_records-requires c = (c.requires, few_records c.args.log.now c.args.point.now 0 c.in_ok-check_version.ensures)

pub returns-in_err-check_records : goal.returns-in_err-check_records
returns-in_err-check_records c =
    let a = c.args in
    handed_on c.from_residual-in_err-check_records.result _ c.from_residual-in_err-check_records.ensures.1
    ∙ stops _ _ _ c.in_err-check_records.ensures
    ∙ sym
    (after_skips a.lent a.log.now a.point.now c.in_ok-check_version.ensures (sym c.skips.ensures ∙ c.if-not-skips.false)
    ∙ records_first false a.log.now a.point.now _)

pub returns-then-is_short : goal.returns-then-is_short
returns-then-is_short c =
    let a = c.args in
    sym
    (after_records a.lent a.log.now a.point.now c.in_ok-check_version.ensures (sym c.skips.ensures ∙ c.if-not-skips.false) c.in_ok-check_records.ensures
    ∙ simp (sym c.is_short.ensures ∙ c.if-is_short.true))

pub returns : goal.returns
returns c =
    let a = c.args in
    sym
    (after_records a.lent a.log.now a.point.now c.in_ok-check_version.ensures (sym c.skips.ensures ∙ c.if-not-skips.false) c.in_ok-check_records.ensures
    ∙ simp (sym c.is_short.ensures ∙ c.if-is_short.false))
