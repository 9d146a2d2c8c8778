-- `sheet::Records::of`: a prefix is stripped where the file begins with it (`begins_is`).
-- Assumes nothing.
use Rattle.std.proofs.Common.{sym, ◌∙◌}
use Rattle.label.specs.Bytes.{ascii}
use Rattle.label.specs.Wire.{from_halves}
use Rattle.label.specs.Requests.Sheet.{header}
use Rattle.sheet.proofs.Walk.{begins_is}
use Rattle.sheet.proofs.Records.of.Goals as goal

pub returns-in-Some : goal.returns-in-Some
unfolding header ascii from_halves
returns-in-Some c = let h = c.in-Some.ensures.cases in (sym (begins_is _ _) ∙ h.0, h.1)

pub returns-in-None : goal.returns-in-None
unfolding header ascii from_halves
returns-in-None c = (sym (begins_is _ _) ∙ c.in-None.ensures.cases, c.at.ensures)
