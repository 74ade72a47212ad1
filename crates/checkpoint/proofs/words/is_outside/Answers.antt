-- `check::is_outside` meets its contract, by those of `closed_fits`, `kind_fits` and `some_noes_outside`.
use native.Mathlib.Omega.{arith}
use Rattle.checkpoint.proofs.Offsets.{noes_within}
use Rattle.checkpoint.proofs.words.is_outside.Goals as goal

pub some_noes_outside-requires : goal.some_noes_outside-requires
some_noes_outside-requires c = let v = c.args.rule.now.version in omega (arith, noes_within v)

pub returns : goal.returns
returns c =
    rw (
      c.closed_fits.ensures,
      c.kind_fits.ensures,
      c.some_noes_outside.ensures,
      c.most_formulas-most.ensures,
    )
