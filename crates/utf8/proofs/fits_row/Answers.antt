-- `utf8::fits_row`: the second byte's range and `are_trailing` decide as the row does, by `trail_all` of Rows. Assumes nothing.
use Rattle.std.proofs.Common.{arith, ◌≡◌, true, false, get_or, ap, sym, ◌∙◌}
use Rattle.std.proofs.lemmas.Grind.{common_steps}
use Rattle.std.specs.List.{list_all}
use Rattle.label.specs.Text.{within}
use Rattle.label.proofs.Cursors.{part_rest}
use Rattle.utf8.proofs.Rows.{trail_all}
use Rattle.utf8.proofs.fits_row.Goals as goal

pub returns-then-contains : goal.returns-then-contains
returns-then-contains c =
    let s = c.args.bytes.now in
    let w : within c.args.row.lo c.args.row.hi (get_or s 0 0) ≡ true = grind (arith, common_steps) in
    c.are_trailing.ensures ∙ ap (list_all (within 0x80 0xbf)) (part_rest s 1)
    ∙ sym (rw w at (trail_all c.args.row.lo c.args.row.hi s c.in-len1-up.len_at_least))

pub returns-else-contains : goal.returns-else-contains
returns-else-contains c =
    let s = c.args.bytes.now in
    let w : within c.args.row.lo c.args.row.hi (get_or s 0 0) ≡ false = grind (arith, common_steps) in
    c.if-contains.false ∙ sym (rw w at (trail_all c.args.row.lo c.args.row.hi s c.in-len1-up.len_at_least))
