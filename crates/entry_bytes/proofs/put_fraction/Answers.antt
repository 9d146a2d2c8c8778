-- `entry_bytes::put_fraction`: one law of WriteLaws for each return, by how many digits there are.
-- Assumes nothing.
use Rattle.octets.proofs.Outputs.{then, gains_as}
use Rattle.entry_bytes.proofs.WriteLaws.{frac_one, frac_two, frac_three}
use Rattle.entry_bytes.proofs.put_fraction.Goals as goal

pub returns-then-f-eq0 : goal.returns-then-f-eq0
returns-then-f-eq0 c = gains_as (frac_one c.args.f c.if-f-eq0.true) c.put_digit.ensures

pub returns-then-f-eq0-2 : goal.returns-then-f-eq0-2
returns-then-f-eq0-2 c = gains_as (frac_two c.args.f c.if-f-eq0.false c.if-f-eq0-2.true) (then c.put_digit.ensures c.put_digit-2.ensures)

pub returns : goal.returns
returns c =
    gains_as (frac_three c.args.f c.if-f-eq0.false c.if-f-eq0-2.false)
    (then (then c.put_digit.ensures c.put_digit-2.ensures) c.put_digit-3.ensures)
