-- `entry_bytes::put_entry`: the index and the fields behind it are the entry (`entry_is`), and numbers of 32 bits have few digits (`entry_most`).
-- Assumes nothing.
use Rattle.std.proofs.Common.{rules}
use Rattle.label.specs.Sound.{number_index}
use Rattle.label.specs.Write.{index_bytes}
use Rattle.octets.specs.Outputs.{Gains}
use Rattle.octets.proofs.Outputs.{then, gains_as}
use Rattle.entry_bytes.specs.Fields.{fields}
use Rattle.entry_bytes.proofs.WriteLaws.{entry_is}
use Rattle.entry_bytes.proofs.Lengths.{entry_most}
use Rattle.entry_bytes.proofs.put_entry.Goals as goal

pub returns-clause-gains : goal.returns-clause-gains
returns-clause-gains c =
    let x = c.args.cluster in
    let g = c.args.g in
    let p : Gains c.args.out.now (index_bytes x.units x.glyphs (number_index g.index)) c.put_index.new.out = search rules in
    let q : Gains c.put_index.new.out (fields g.advance g.u g.v) c.put_fields.new.out = search rules in
    gains_as (entry_is x.units x.glyphs g) (then p q)

pub returns-clause-bounds : goal.returns-clause-bounds
returns-clause-bounds c =
    let x = c.args.cluster in
    let g = c.args.g in
    entry_most x.units x.glyphs g (search rules) (search rules) (search rules) (search rules) (search rules) (search rules)
