-- `sheet::put_answers`: the list has gained the answers to the labels that were walked (`Stored`).
-- Assumes nothing.
use Rattle.sheet.proofs.Storing.{Stored}
use Rattle.sheet.proofs.put_answers.Given as goal

abbrev pub invariant-loop-label : goal.invariant-loop-label
invariant-loop-label l = Stored l.fn.records.rest.now l.initial.list l.label-iterator l.list
