-- The units from one on, in their bytes. Assumes nothing.
use Rattle.std.proofs.lemmas.Slice.{between_to_end}
use Rattle.label.proofs.Lists.{empty_is}
use Rattle.wire.proofs.Fetched.{halves_drop}

-- for `grind`
pub ruleset from_a_unit = (between_to_end, empty_is, halves_drop)
