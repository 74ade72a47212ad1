-- `counting::has_bit_beyond` meets its contract. The loop's invariant: `all` has the bits of the bytes before.
use Rattle.verdicts.proofs.Tallies.{none_beyond, beyond_more}
use Rattle.verdicts.proofs.counting.has_bit_beyond.Goals as goal

pub loop-verdict-init : goal.loop-verdict-init
loop-verdict-init c = none_beyond c.args.formulas c.args.sheet.now

pub loop-verdict-preserved : goal.loop-verdict-preserved
loop-verdict-preserved c =
    let a = c.args in
    let l = c.loop-verdict in
    beyond_more a.formulas a.sheet.now l.verdict-index l.all l.invariant
