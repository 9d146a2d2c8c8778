-- `number::shifted`: two cases by the larger shift: the contract is rewritten to one shift by `scale_grow` and `grow_whole`, or `scale_shrink` and
-- `shrink_whole`, of ValueLaws, and is then the call's. Assumes nothing.
use native.Mathlib.Nat.{le_of_lt}
use Rattle.number.proofs.ValueLaws.{scale_grow, scale_shrink, grow_whole, shrink_whole}
use Rattle.number.proofs.shifted.Goals as goal

pub returns-then-down-up : goal.returns-then-down-up
returns-then-down-up c = rw (scale_grow _ _ _ c.if-down-up.true, grow_whole _ _ _ c.if-down-up.true) c.grown.ensures

pub returns-else-down-up : goal.returns-else-down-up
returns-else-down-up c = rw (scale_shrink _ _ _ (le_of_lt c.if-down-up.false), shrink_whole _ _ _ (le_of_lt c.if-down-up.false)) c.shrunk.ensures
