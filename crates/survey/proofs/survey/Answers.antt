-- `survey::survey`: 1, a refusal of the text, one of the run and the answer, by a law of Surveying each, over what the calls ensure. Assumes nothing.
use Rattle.std.proofs.Common.{◌≡◌, true, false, sym, ◌∙◌, ap, subst, rules, Ok, Err}
use Rattle.label.specs.Calls.{reading_outcome, refusal}
use Rattle.label.specs.declared.Cause.TheVariants as C
use Rattle.text.specs.Moves.{Reads}
use Rattle.survey.proofs.Surveying.{in_size, refuses, judges, read_long, read_run, read_refused}
use Rattle.survey.proofs.survey.Goals as goal

pub returns-then-is_oversized : goal.returns-then-is_oversized
returns-then-is_oversized c =
    let l = c.args.label in
    let long : in_size l.text.now l.indices.now ≡ false = search rules in
    rw c.at.ensures (refuses l (refusal C.TooManyBytes 0) (read_long l.text.now l.indices.now long))

pub returns-in_err-units : goal.returns-in_err-units
returns-in_err-units c =
    let l = c.args.label in
    let e = c.in_err-units.field-0.0 in
    let fits : in_size l.text.now l.indices.now ≡ true = search rules in
    let was : c.survey_text.result ≡ Err e = search rules in
    let r : c.from_residual.result ≡ Err e = search rules in
    rw r (refuses l e (read_refused l.text.now l.indices.now fits e (subst (Reads l.text.now) was c.survey_text.ensures.read)))

pub returns-in_err-reading : goal.returns-in_err-reading
returns-in_err-reading c =
    let l = c.args.label in
    let e = c.in_err-reading.field-0.0 in
    let fits : in_size l.text.now l.indices.now ≡ true = search rules in
    let units : c.survey_text.result ≡ Ok c.in_ok-units.units = search rules in
    let was : c.survey_run.result ≡ Err e = search rules in
    let r : c.from_residual-in_err-reading.result ≡ Err e = search rules in
    rw r (refuses l e (sym (ap reading_outcome was) ∙ c.survey_run.ensures.result_value
    ∙ read_run l.text.now l.indices.now fits _ (subst (Reads l.text.now) units c.survey_text.ensures.read).0))

pub returns : goal.returns
returns c =
    let l = c.args.label in
    let fits : in_size l.text.now l.indices.now ≡ true = search rules in
    let units : c.survey_text.result ≡ Ok c.in_ok-units.units = search rules in
    let was : c.survey_run.result ≡ Ok c.in_ok-reading.reading = search rules in
    let found = subst (Reads l.text.now) units c.survey_text.ensures.read in
    judges l (record { reading = c.in_ok-reading.reading; units = c.in_ok-units.units })
    (sym (ap reading_outcome was) ∙ c.survey_run.ensures.result_value ∙ read_run l.text.now l.indices.now fits _ found.0)
    (rw was at c.survey_run.ensures.rounded)
    found
    (rw units at c.survey_text.ensures.same_text)
