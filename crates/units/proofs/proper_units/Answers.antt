-- `units::proper_units`: one law of Decoded for the start, each return and a turn; a `char` is no half of a pair, as the walk's laws ask.
-- Assumes nothing.
use Rattle.std.proofs.Common.{◌≡◌, ◌*◌, length, drop, sym, ap, ◌∙◌, false, rules, arith}
use Rattle.std.specs.List.{between}
use Rattle.std.proofs.lemmas.Slice.{between_to_end}
use Rattle.label.specs.Fetched.{halves}
use Rattle.wire.proofs.Fetched.{halves_drop}
use Rattle.std.specs.Char.{InScalarRange}
use Rattle.label.specs.Sound.{proper_units}
use Rattle.units.proofs.Decoded.{at_start, at_char, at_half, at_end}
use Rattle.units.proofs.proper_units.Goals as goal

pub loop-c-init : goal.loop-c-init
loop-c-init c =
    let d = c.decode_utf16-c-items.ensures in
    let s = c.args.us.now in
    let n = c.single_count.result in
    let rest : drop n (halves s) ≡ halves (between (2 * n) (length s) s) =
    halves_drop n s ∙ ap halves (sym (between_to_end s (2 * n) (length s) (omega arith))) in
    c.single_count.ensures.value
    ∙ ap (proper_units false) rest
    ∙ rw c.into_iter-c-iterator.ensures.into_iter_gives (ap (proper_units false) (sym c.of.ensures ∙ at_start _ d.source d.peeked))

pub returns-in_default : goal.returns-in_default
returns-in_default c = sym (c.loop-c.invariant ∙ at_half _ _ c.in-Some.ensures.steps c.in_default.is)

pub returns-then-not-is_xml : goal.returns-then-not-is_xml
returns-then-not-is_xml c =
    let r : InScalarRange c.in-Ok.c = search rules in
    sym (c.loop-c.invariant ∙ at_char _ _ c.in-Some.ensures.steps c.in-Ok.is r ∙ rw (← c.from.ensures, ← c.is_xml.ensures, c.if-not-is_xml.true))

pub loop-c-preserved : goal.loop-c-preserved
loop-c-preserved c =
    let r : InScalarRange c.in-Ok.c = search rules in
    c.loop-c.invariant ∙ at_char _ _ c.in-Some.ensures.steps c.in-Ok.is r ∙ rw (← c.from.ensures, ← c.is_xml.ensures, c.if-not-is_xml.false)

pub returns : goal.returns
returns c = sym (c.loop-c.invariant ∙ at_end _ _ c.in-None.ensures.steps)
