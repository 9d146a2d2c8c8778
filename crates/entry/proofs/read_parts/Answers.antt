-- `entry::read_parts`: each return is one law of EntryLaws over the parts: `code_wrong`, `code_index`, `code_limits` or `code_read`. Assumes nothing.
use Rattle.std.proofs.Common.{◌≡◌, None, Some, Err, ◌∙◌, rules}
use Rattle.label.specs.Calls.{refusal}
use Rattle.label.specs.declared.Cause.TheVariants as C
use Rattle.entry.specs.Parts.{index_within, glyph_within}
use Rattle.entry.proofs.EntryLaws.{code_wrong, code_index, code_limits, code_read, told_parts}
use Rattle.entry.proofs.read_parts.Goals as goal

pub returns-in_err-p-clause-value : goal.returns-in_err-p-clause-value
returns-in_err-p-clause-value c =
    let e : None ≡ told_parts c.args.e.bytes.now = search rules in
    let r : c.from_residual.result ≡ Err (refusal C.IllFormedEntry c.args.k) = search rules in
    r ∙ code_wrong _ _ e

pub returns-in_err-index-clause-value : goal.returns-in_err-index-clause-value
returns-in_err-index-clause-value c =
    let p : Some c.in_ok-p.p ≡ told_parts c.args.e.bytes.now = search rules in
    let e : None ≡ index_within c.in_ok-p.p.index = search rules in
    let r : c.from_residual-in_err-index.result ≡ Err (refusal C.IndexTooLarge c.args.k) = search rules in
    r ∙ code_index _ _ _ p (search rules) e

pub returns-in_err-glyph-clause-value : goal.returns-in_err-glyph-clause-value
returns-in_err-glyph-clause-value c =
    let p : Some c.in_ok-p.p ≡ told_parts c.args.e.bytes.now = search rules in
    let i : Some c.in_ok-index.index ≡ index_within c.in_ok-p.p.index = search rules in
    let e : None ≡ glyph_within c.in_ok-index.index c.in_ok-p.p = search rules in
    let r : c.from_residual-in_err-glyph.result ≡ Err (refusal C.NumberTooLarge c.args.k) = search rules in
    r ∙ code_limits _ _ _ p (search rules) _ i e

pub returns-clause-value : goal.returns-clause-value
returns-clause-value c =
    let p : Some c.in_ok-p.p ≡ told_parts c.args.e.bytes.now = search rules in
    let i : Some c.in_ok-index.index ≡ index_within c.in_ok-p.p.index = search rules in
    let g : Some c.in_ok-glyph.glyph ≡ glyph_within c.in_ok-index.index c.in_ok-p.p = search rules in
    rw c.item_of.ensures (code_read _ _ _ p (search rules) _ i _ g _ (search rules))
