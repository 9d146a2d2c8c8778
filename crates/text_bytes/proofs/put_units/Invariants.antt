-- `text_bytes::put_units`: the output lacks the bytes of the units from i on.
-- Assumes nothing.
use Rattle.std.proofs.Common.{drop}
use Rattle.label.specs.Fetched.{halves}
use Rattle.label.specs.Write.{units_bytes}
use Rattle.label.specs.Requests.Attribute.{as_asked}
use Rattle.octets.proofs.Outputs.{Lacks}
use Rattle.text_bytes.proofs.put_units.Given as goal

abbrev pub invariant-loop-i : goal.invariant-loop-i
invariant-loop-i l =
    Lacks l.initial.out (as_asked l.escape (units_bytes (halves l.us))) l.out (as_asked l.escape (units_bytes (drop l.i (halves l.us))))
