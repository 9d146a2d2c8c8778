-- `entry_bytes::put_decimal`: the digits are those of a tenth and the last one (`decimal_step`).
-- Assumes nothing.
use Rattle.std.proofs.Common.{arith}
use Rattle.octets.proofs.Outputs.{then, gains_as}
use Rattle.entry_bytes.proofs.DecimalLaws.{decimal_small, decimal_step}
use Rattle.entry_bytes.proofs.+put_decimal.Goals as goal

pub returns-then-n-lt10 : goal.returns-then-n-lt10
returns-then-n-lt10 t c = gains_as (decimal_small c.args.n (omega arith)) c.put_digit.ensures

pub returns : goal.returns
returns t c = gains_as (decimal_step c.args.n (omega arith)) (then c.put_decimal.ensures c.put_digit-2.ensures)
