-- `faults::find_entry`: a turn passes an entry, or was at the last one; at the end it is the one that is asked for. Each is one law of Faults.
-- Assumes nothing.
use Rattle.std.proofs.Common.{◌<◌, sym, ◌∙◌, length, arith, rules}
use Rattle.faults.proofs.Faults.{from_nothing, from_start, passes, last, asked}
use Rattle.faults.proofs.find_entry.Goals as goal

pub returns-then-is_empty : goal.returns-then-is_empty
returns-then-is_empty c = from_nothing _ _ (search rules)

pub loop-init : goal.loop-init
loop-init c =
    let some : 0 < length c.args.indices.now = search rules in
    record { within = omega arith; left = from_start _ _ some }

pub returns-in_err-start : goal.returns-in_err-start
returns-in_err-start c =
    let at = c.loop.invariant in
    c.from_residual.ensures ∙ last _ _ at.within _ _ c.loop-test.true c.in_err-start.ensures ∙ sym at.left

pub loop-preserved : goal.loop-preserved
loop-preserved c =
    let at = c.loop.invariant in
    let next = passes _ _ at.within _ _ c.loop-test.true _ c.in_ok-start.ensures in
    record { within = next.0; left = at.left ∙ next.1 }

pub returns : goal.returns
returns c =
    let at = c.loop.invariant in
    asked _ _ at.within _ _ c.loop-test.false _ c.entry_length.ensures ∙ sym at.left
