-- `units::single_count`: judging the units from i on gives the whole answer. Assumes nothing.
use Rattle.std.proofs.Common.{◌≡◌, false, drop}
use Rattle.label.specs.Fetched.{halves}
use Rattle.label.specs.Sound.{proper_units}
use Rattle.units.proofs.single_count.Given as goal

abbrev pub invariant-loop-i : goal.invariant-loop-i
invariant-loop-i l = proper_units false (halves l.us) ≡ proper_units false (drop l.i (halves l.us))
