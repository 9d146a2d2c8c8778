-- `sheet::count_labels`: as many labels as are counted stand before what is left (`Walked`).
-- Assumes nothing.
use Rattle.std.proofs.Common.{List}
use Rattle.label.specs.Write.{Label}
use Rattle.sheet.proofs.Walk.{Walked}
use Rattle.sheet.proofs.count_labels.Given as goal

abbrev pub invariant-loop-label : goal.invariant-loop-label
invariant-loop-label l = (before : List Label) × Walked l.fn.records.rest.now l.label-iterator l.count before
