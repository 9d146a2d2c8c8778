-- The indices as the code stores them: each entry behind the separators that are owed before it.
-- Assumes nothing.
use Rattle.std.specs.Prelude.{ℕ, ◌+◌, cond, List, [], ◌++◌, replicate, Option, Some, None}
use Rattle.label.specs.Bytes.{empty}
use Rattle.label.specs.Run.{cluster}
use Rattle.label.specs.Write.{value_bytes, entry_by}
use Rattle.label.specs.declared.Cluster.{Cluster}
use Rattle.wire.specs.Numbers.{as_cluster, as_glyph}
use Rattle.wire.specs.declared.ClusterNumbers.{ClusterNumbers}
use Rattle.wire.specs.declared.EntryNumbers.{EntryNumbers}

-- the cluster that a glyph's entry is written with: the one that it opens, or 1:1
abbrev pub opened : Option ClusterNumbers → Cluster
opened (Some c) = as_cluster c
opened None = cluster 1 1

abbrev pub cluster_of : EntryNumbers → Cluster
cluster_of x = opened x.cluster

-- the bytes of an entry
abbrev pub bytes_of : EntryNumbers → List ℕ
bytes_of x = entry_by value_bytes (cluster_of x).units (cluster_of x).glyphs (as_glyph x.glyph)

-- an entry behind n separators; an entry without bytes is not stored, and its separator is owed
unfoldable pub led : ℕ → List ℕ → List ℕ
led n x = cond (empty x) [] (replicate n 59 ++ x)

-- how many separators are owed before the next entry
unfoldable pub owing : ℕ → List ℕ → ℕ
owing n x = cond (empty x) (n + 1) 1
