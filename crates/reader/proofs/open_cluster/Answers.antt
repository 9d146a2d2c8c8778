-- `reader::open_cluster`: the cluster's numbers are its places, since they are small, and so are the glyph's, by `from`'s contract. Assumes nothing.
use Rattle.std.proofs.Common.{w32}
use Rattle.std.proofs.Math.Facts.{to_z_pos}
use Rattle.octets.specs.Puts.{puts}
use Rattle.wire.specs.Stores.{cluster_stored}
use Rattle.reader.specs.Stores.{cluster_places}
use Rattle.reader.proofs.open_cluster.Goals as goal

pub returns-clause-clusters : goal.returns-clause-clusters
unfolding puts cluster_stored cluster_places
returns-clause-clusters c = rw (to_z_pos w32 c.requires.counts.0, to_z_pos w32 c.requires.counts.1) at c.put_at.ensures

pub returns-clause-glyphs : goal.returns-clause-glyphs
unfolding puts
returns-clause-glyphs c = rw (← c.from.ensures) c.put_at-2.ensures
