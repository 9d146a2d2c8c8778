-- `text::count_units`: behind the plain bytes in front the invariant holds (`plain_counted`). Assumes nothing.
use Rattle.text.proofs.Counts.{plain_counted}
use Rattle.text.proofs.count_units.Goals as goal

pub loop-c-init : goal.loop-c-init
loop-c-init c =
    rw (c.into_iter-c-iterator.ensures.into_iter_gives, c.characters_from-c-items.ensures)
    (plain_counted c.args.text.now c.plain_length-plain.result c.plain_length-plain.ensures)
