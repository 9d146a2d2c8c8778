-- `wire::unit_count`: the return is `halves_length` of Fetched, read backwards: bytes hold half as many units; the second claim holds by definition. Assumes
-- nothing.
use Rattle.wire.proofs.Fetched.{halves_length}
use mathlib.Core.Path.{sym}
use Rattle.wire.proofs.unit_count.Goals as goal

pub returns-clause-value : goal.returns-clause-value
returns-clause-value c = sym (halves_length c.args.s.now)
