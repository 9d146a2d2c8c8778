-- `number::to_thousandths`: the ensures of `shifted` is the contract where `scaled` and `is_whole` are opened. Assumes nothing.
use Rattle.std.proofs.Common.{rules}
use Rattle.label.specs.Entry.{scaled}
use Rattle.label.specs.Requests.RoundedCount.{is_whole}
use Rattle.number.proofs.to_thousandths.Goals as goal

pub returns : goal.returns
unfolding scaled is_whole
returns c = search rules
