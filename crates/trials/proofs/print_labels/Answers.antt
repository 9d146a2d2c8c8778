-- Each label printed is the first of those that were left; at the end none is left.
-- Assumes nothing.
use Rattle.std.proofs.Common.{[], ◌++◌, refl, sym, ◌∙◌, ap, subst, append_assoc, append-nil}
use Rattle.std.proofs.KnownBytes.{Appends-nil, Appends-trans}
use Rattle.std.specs.Io.KnownBytes.{Appends}
use Rattle.lines.proofs.Printing.{prints_first, prints_none}
use Rattle.trials.proofs.print_labels.Goals as goal

pub loop-label-init : goal.loop-label-init
loop-label-init g c = ([], Appends-nil _, rw c.into_iter-label-iterator.ensures.into_iter_gives refl)

pub loop-label-preserved : goal.loop-label-preserved
loop-label-preserved g c =
    let before = c.loop-label.invariant in
    let step = c.in-Some.ensures.steps in
    let next = prints_first c.loop-label.label-iterator.rest.now _ step.0 step.1 in (
      before.0 ++ _,
      Appends-trans _ _ _ _ _ before.1 c.in_ok-print_label.ensures,
      append_assoc before.0 _ _ ∙ ap (λ l. before.0 ++ l) (sym next) ∙ before.2,
    )

pub returns : goal.returns
returns g c =
    let before = c.loop-label.invariant in
    subst (Appends _ _) (sym (append-nil before.0) ∙ ap (λ l. before.0 ++ l) (sym (prints_none _ c.in-None.ensures.steps.0)) ∙ before.2) before.1
