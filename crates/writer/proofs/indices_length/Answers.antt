-- `writer::indices_length`: an output without bytes counts the indices, which are short in a sound run (`indices_short`).
-- Assumes nothing.
use Rattle.std.proofs.Common.{arith}
use Rattle.writer.proofs.Stores.{indices_short}
use Rattle.writer.proofs.indices_length.Goals as goal

pub returns : goal.returns
returns c =
    let r = c.args.run in
    let m = indices_short r.units.now r.clusters.now r.glyphs.now c.requires in
    omega (arith, (c.put_indices.ensures.put (omega arith)).behind)
