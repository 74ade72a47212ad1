-- `refusals::decode` meets its contract: its tests are those of `header_refusal`, by what the callees ensure.
use mathlib.Core.Bool.{true, false, not}
use mathlib.Core.Path.{◌≡◌, ap, ◌∙◌}
use Rattle.rule.specs.Refusal.{unmarked, unknown_version, wrong_size, header_refusal}
use Rattle.rule.specs.Contract.{filled}
use Rattle.rule.proofs.Headers.{headed_decoded, version_known}
use Rattle.rule.proofs.refusals.decode.Goals as goal
use Rattle.rule.proofs.refusals.decode.Goals.{Else-is_unmarked, Else-is_unknown, Else-is_malformed}

mark_is : (d : Else-is_unmarked) → unmarked d.args.rule.now ≡ false
mark_is d = rw d.lacks_mark.ensures at d.if-is_unmarked.false

version_is : (d : Else-is_unknown) → unknown_version d.args.rule.now ≡ false
version_is d = ap not (rw d.version_of-version.ensures.0 at d.if-is_unknown.false)

size_is : (d : Else-is_malformed) → wrong_size d.args.rule.now ≡ false
size_is d = rw (d.entry_count-count.ensures.0, d.byte_at.ensures, d.byte_at-2.ensures) at d.if-is_malformed.false

pub returns-then-is_unmarked : goal.returns-then-is_unmarked
unfolding header_refusal
returns-then-is_unmarked c =
    let is : unmarked c.args.rule.now ≡ true = rw c.lacks_mark.ensures at c.if-is_unmarked.true in
    simp is

pub returns-then-is_unknown : goal.returns-then-is_unknown
unfolding header_refusal
returns-then-is_unknown c =
    let is : unknown_version c.args.rule.now ≡ true = ap not (rw c.version_of-version.ensures.0 at c.if-is_unknown.true) in
    simp (mark_is (goal.at.returns-then-is_unknown c).Else-is_unmarked, is)

pub returns-then-is_malformed : goal.returns-then-is_malformed
unfolding header_refusal
returns-then-is_malformed c =
    let is : wrong_size c.args.rule.now ≡ true =
    rw (c.entry_count-count.ensures.0, c.byte_at.ensures, c.byte_at-2.ensures) at c.if-is_malformed.true in
    simp (mark_is (goal.at.returns-then-is_malformed c).Else-is_unmarked, version_is (goal.at.returns-then-is_malformed c).Else-is_unknown, is)

pub returns : goal.returns
unfolding header_refusal
returns c =
    let s = c.args.rule.now in
    let at = goal.at.returns c in
    let ok : header_refusal s ≡ 0 = simp (mark_is at.Else-is_unmarked, version_is at.Else-is_unknown, size_is at.Else-is_malformed) in
    record {
      accepted = ok;
      known = rw c.version_of-version.ensures.0 (version_known s ok);
      version_is = c.version_of-version.ensures.0;
      count_is = c.entry_count-count.ensures.0;
      entries_are = c.entries_of-entries.ensures ∙ ap (filled s) c.entry_count-count.ensures.0 ∙ headed_decoded s ok;
    }
