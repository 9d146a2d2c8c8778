-- The digits that std writes of a count are those of the document.
use Rattle.std.proofs.Common.{arith}
use Rattle.label.proofs.Decimals.{same_decimal}
use Rattle.printing.proofs.print_counts.Goals as goal

pub returns : goal.returns
returns g c =
    let n = c.args.counts in
    rw (
      ← same_decimal n.units (omega arith),
      ← same_decimal n.clusters (omega arith),
      ← same_decimal n.glyphs (omega arith),
    )
    c.writeln.ensures.bytes
