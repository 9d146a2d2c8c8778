-- `attribute::numbered`: the digits left, read behind n, give the value of all digits up to `;`, and they are digits only where all are.
use Rattle.attribute.proofs.Digits.{Behind}
use Rattle.attribute.proofs.numbered.Given as goal

abbrev pub invariant-loop-count : goal.invariant-loop-count
invariant-loop-count l = Behind l.base l.behind l.count l.n
