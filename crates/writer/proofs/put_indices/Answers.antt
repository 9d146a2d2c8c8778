-- `writer::put_indices`: a turn stores one entry (`left_next`), and at the end there is none left.
-- Assumes nothing.
use Rattle.std.proofs.Common.{arith, ap, length}
use Rattle.label.specs.Fetched.{words}
use Rattle.octets.proofs.Outputs.{lacks_all, lacks_next, lacks_none, lacks_as}
use Rattle.sound.proofs.Walks.{few_entries}
use Rattle.wire.specs.Walks.{clusters_in, glyphs_in}
use Rattle.wire.proofs.Runs.{glyphs_length}
use Rattle.wire.proofs.Walks.{glyphs_in_length}
use Rattle.writer.proofs.Stores.{left_all, left_next, left_none}
use Rattle.writer.proofs.put_indices.Goals as goal

pub loop-entry-init : goal.loop-entry-init
loop-entry-init c =
    let s = words c.args.run.clusters.now in
    let t = words c.args.run.glyphs.now in
    rw (c.into_iter-entry-iterator.ensures.into_iter_gives, c.entries-entry-items.ensures)
    (record {
      lacks = lacks_as (left_all s t) lacks_all;
      few = omega (arith, few_entries 0 (clusters_in s) (glyphs_in t), glyphs_in_length t, glyphs_length c.args.run.glyphs.now);
    })

pub loop-entry-preserved : goal.loop-entry-preserved
loop-entry-preserved c =
    let l = c.loop-entry in
    record {
      lacks = lacks_next l.invariant.lacks (left_next l.owed c.in-Some.ensures.steps c.put_next-owed.ensures.owed) c.put_next-owed.ensures.bytes;
      few = omega (arith, ap length c.in-Some.ensures.steps);
    }

pub returns : goal.returns
returns c = lacks_none c.loop-entry.invariant.lacks (left_none c.loop-entry.owed c.in-None.ensures.steps.0)
