-- `sheet::split_record`: where all four parts are there, they are the record's (Splits).
-- Assumes nothing.
use Rattle.std.proofs.Common.{arith, ◌∙◌}
use Rattle.sheet.proofs.Splits.{text_is, indices_is, label, behind, whole}
use Rattle.sheet.proofs.split_record.Goals as goal

pub returns : goal.returns
returns c =
    let (a, r, l) = c.in_ok-text_length.ensures.cases in
    let (b, u, k) = c.in_ok-indices_length.ensures.cases in
    let t = c.in_ok-text.ensures.cases in
    let i = c.in_ok-indices.ensures.cases in
    let n = text_is c.args.bytes.now a r b u (c.from.ensures ∙ c.from_le_bytes.ensures) in
    let m = indices_is c.args.bytes.now a r b u c.from_le_bytes-2.ensures in
    record {
      whole = whole c.args.bytes.now a r b u n m t.1 t.2 i.1 i.2 (omega arith);
      label = label c.args.bytes.now a r b u n m t.1 t.2 i.1 i.2;
      behind = behind c.args.bytes.now a r b u n m t.1 t.2 i.1 i.2;
      shorter = omega arith;
    }
