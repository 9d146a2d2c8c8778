-- `sheet::put_answers`: each step is a law of Storing; what the list gains stands in the slice that it lends on.
-- Assumes nothing.
use Rattle.std.proofs.Common.{◌∙◌, rules, arith}
use Rattle.sheet.specs.Records.{label_of}
use Rattle.octets.proofs.Outputs.{gains_as}
use Rattle.sheet.proofs.Storing.{stored_start, stored_next, stored_end, not_cut, numbers}
use Rattle.sheet.proofs.put_answers.Goals as goal

pub loop-label-init : goal.loop-label-init
loop-label-init c = rw c.into_iter-label-iterator.ensures.into_iter_gives stored_start

pub unreachable-requires : goal.unreachable-requires
unreachable-requires c = not_cut c.loop-label.invariant _ c.requires c.in-Some.ensures.steps c.in_default.is

pub loop-label-preserved : goal.loop-label-preserved
loop-label-preserved c =
    let n = numbers (label_of c.in-Some-label.label) c.answer_to.ensures in
    stored_next c.loop-label.invariant _ c.in-Some.ensures.steps c.in-Some-label.is (n.are ∙ c.answer_to.ensures)
    (gains_as (c.to_le_bytes.ensures ∙ n.number) c.put_bytes.ensures)
    (gains_as (c.to_le_bytes-in-loop-label.ensures ∙ n.place) c.put_bytes-in-loop-label.ensures)

pub returns : goal.returns
returns c =
    let o = c.on-list.ensures in
    let e = stored_end c.loop-label.invariant c.in-None.ensures.steps (rw o.bytes c.requires) o.start (rw o.bytes (omega arith)) in
    let k = rw o.bytes at e in
    search rules
