-- The cycle of calls {atom, ors, prefixed, timed}: each level calls the next tighter one at its own place, itself behind what it
-- has read, and the brackets lead back to the lowest. "Remaining bytes and level fall": the measure is four times the bytes left,
-- and the level.
use Rattle.text.specs.Grammar.{Level}
use Rattle.text.specs.Reader.{remaining}
use Rattle.text.proofs.level.+atom_ors_prefixed_timed.Given as goal

abbrev pub decreases-atom : goal.decreases-atom
decreases-atom l = remaining Level.atom l.text.now l.at

abbrev pub decreases-ors : goal.decreases-ors
decreases-ors l = remaining Level.ors l.text.now l.at

abbrev pub decreases-prefixed : goal.decreases-prefixed
decreases-prefixed l = remaining Level.prefixed l.text.now l.at

abbrev pub decreases-timed : goal.decreases-timed
decreases-timed l = remaining Level.timed l.text.now l.at
