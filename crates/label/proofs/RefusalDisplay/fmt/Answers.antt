-- What `write!` says in std's digits is said in the document's: the number is small, and the place fits its type.
use Rattle.std.proofs.Common.{rules, arith}
use Rattle.label.specs.Cause.{cause_number}
use Rattle.label.proofs.Causes.{cause_inside}
use Rattle.label.proofs.Decimals.{same_decimal}
use Rattle.label.proofs.RefusalDisplay.fmt.Goals as goal

pub returns-clause-writes : goal.returns-clause-writes
returns-clause-writes g c =
    let x = c.args.self.now in
    rw (← same_decimal (cause_number x.cause) (omega (arith, cause_inside x.cause)), ← same_decimal x.place (omega arith)) (search rules)
