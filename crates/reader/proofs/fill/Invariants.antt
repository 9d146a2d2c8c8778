-- `reader::fill`: the loop keeps `Filled`: the parts of the entries that are left are still to store, and with them the buffers hold the run. Assumes nothing.
use Rattle.label.specs.Steps.{run_from}
use Rattle.label.specs.Calls.{clusters_after, glyphs_after}
use Rattle.text.specs.Moves.{units}
use Rattle.entry.specs.Results.{results_left}
use Rattle.reader.proofs.Filling.{Filled}
use Rattle.reader.proofs.fill.Given as goal

abbrev pub invariant-loop-entry : goal.invariant-loop-entry
invariant-loop-entry l =
    let o = run_from (units l.text.passage) l.indices in
    Filled (clusters_after o l.initial.clusters) (glyphs_after o l.initial.glyphs) (units l.text.passage) (results_left l.entry-iterator) l.clusters l.glyphs
    l.at
