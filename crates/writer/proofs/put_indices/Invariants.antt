-- `writer::put_indices`: the output lacks the entries that the walk has left, with the separators that are owed; fewer are owed than there are glyphs.
-- Assumes nothing.
use Rattle.std.proofs.Common.{◌+◌, ◌≤◌, length}
use Rattle.label.specs.Fetched.{words}
use Rattle.label.specs.Sound.{clusters_of, glyphs_of}
use Rattle.label.specs.Write.{indices_of}
use Rattle.octets.proofs.Outputs.{Lacks}
use Rattle.wire.specs.Walks.{entries_left}
use Rattle.writer.proofs.Stores.{left}
use Rattle.writer.proofs.put_indices.Given as goal

abbrev pub invariant-loop-entry : goal.invariant-loop-entry
invariant-loop-entry l =
    let cs = clusters_of (words l.run.clusters.now) in
    let gs = glyphs_of (words l.run.glyphs.now) in
    let rest = entries_left l.entry-iterator in
    record {
      lacks : Lacks l.initial.out (indices_of cs gs) l.out (left l.owed rest);
      few : l.owed + length rest ≤ length l.run.glyphs.now;
    }
