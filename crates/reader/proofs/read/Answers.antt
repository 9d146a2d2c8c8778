-- `reader::read`: the survey's counts are those of the label's run; 16 to 18 are one law each, and where none holds, `fill` stored that run. Assumes nothing.
use Rattle.std.proofs.Common.{◌≡◌, rules, Ok, Err, arith, sym, ◌∙◌, ap}
use Rattle.label.specs.Calls.{counted, refusal}
use Rattle.label.specs.Checks.{read}
use Rattle.label.specs.Outcome.{ok}
use Rattle.label.specs.Steps.{run_from}
use Rattle.label.specs.declared.Cause.TheVariants as C
use Rattle.text.specs.Moves.{units}
use Rattle.reader.proofs.Calls.{run_is, into_refused, into_16, into_17, into_18, into_run, nothing_read, run_read}
use Rattle.reader.proofs.read.Goals.{In_ok-found}
use Rattle.reader.proofs.read.Goals as goal

-- the label is accepted, with the counts that were found
accepted : (c : In_ok-found) → ok c.in_ok-found.found.reading.counts ≡ counted (read c.args.label.text.now c.args.label.indices.now)
accepted c =
    let was : c.survey.result ≡ Ok c.in_ok-found.found = search rules in
    rw was at c.survey.ensures.reading_value

-- and it reads as the run of the units that were found
run : (c : In_ok-found) → read c.args.label.text.now c.args.label.indices.now ≡ run_from (units c.in_ok-found.found.units.passage) c.args.label.indices.now
run c =
    let was : c.survey.result ≡ Ok c.in_ok-found.found = search rules in
    run_is _ _ _ _ (rw was at c.survey.ensures.units).0 (accepted c)

pub returns-in_err-found : goal.returns-in_err-found
returns-in_err-found c =
    let e = c.in_err-found.field-0.0 in
    let was : c.survey.result ≡ Err e = search rules in
    let r : c.from_residual.result ≡ Err e = search rules in
    rw r (nothing_read _ _ _ _ _ _ (into_refused _ _ _ e (rw was at c.survey.ensures.reading_value)))

pub returns-then-units-counts : goal.returns-then-units-counts
returns-then-units-counts c =
    let h = accepted (goal.at.returns-then-units-counts c).In_ok-found in
    rw c.at.ensures (nothing_read _ _ (refusal C.UnitRoom _) _ _ _ (into_16 _ _ _ _ h c.if-units-counts.true))

pub returns-then-clusters-counts : goal.returns-then-clusters-counts
returns-then-clusters-counts c =
    let h = accepted (goal.at.returns-then-clusters-counts c).In_ok-found in
    let e = into_17 _ _ _ _ h c.if-units-counts.false c.if-clusters-counts.true in
    rw c.at-then-clusters-counts.ensures (nothing_read _ _ (refusal C.ClusterRoom _) _ _ _ e)

pub returns-then-glyphs-counts : goal.returns-then-glyphs-counts
returns-then-glyphs-counts c =
    let h = accepted (goal.at.returns-then-glyphs-counts c).In_ok-found in
    let e = into_18 _ _ _ _ h c.if-units-counts.false c.if-clusters-counts.false c.if-glyphs-counts.true in
    rw c.at-then-glyphs-counts.ensures (nothing_read _ _ (refusal C.GlyphRoom _) _ _ _ e)

pub fill-requires : goal.fill-requires
fill-requires c =
    let p = (goal.at.fill-requires c).In_ok-found in
    record {
      counts = c.in_ok-found.found.reading.counts;
      are = ap counted (sym (run p)) ∙ sym (accepted p);
      units_room = omega (arith, c.if-units-counts.false);
      clusters_room = omega (arith, c.if-clusters-counts.false);
      glyphs_room = omega (arith, c.if-glyphs-counts.false);
    }

pub returns : goal.returns
returns c =
    let p = (goal.at.returns c).In_ok-found in
    let was : c.survey.result ≡ Ok c.in_ok-found.found = search rules in
    let e = into_run _ _ _ _ (accepted p) c.if-units-counts.false c.if-clusters-counts.false c.if-glyphs-counts.false in
    let b = c.fill.ensures in
    run_read _ _ _ _ _ _ _ _ _ _ _ _ e (run p) (accepted p) (rw was at c.survey.ensures.rounded) b.units b.clusters b.glyphs
