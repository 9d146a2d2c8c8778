-- `units::proper_units`: judging the units that the walk has left gives the whole answer.
-- Assumes nothing.
use Rattle.std.proofs.Common.{◌≡◌, false}
use Rattle.label.specs.Fetched.{halves}
use Rattle.label.specs.Sound.{proper_units}
use Rattle.units.proofs.Decoded.{left}
use Rattle.units.proofs.proper_units.Given as goal

abbrev pub invariant-loop-c : goal.invariant-loop-c
invariant-loop-c l = proper_units false (halves l.us) ≡ proper_units false (left l.c-iterator)
