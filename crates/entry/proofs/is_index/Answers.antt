-- `entry::is_index`: `index_alone` of EntryLaws says that, where all three tests hold, the entry is an index alone. Assumes nothing.
use Rattle.std.proofs.Common.{sym, ◌∙◌, rules}
use Rattle.std.proofs.lemmas.List.{take_rest}
use Rattle.entry.proofs.EntryLaws.{index_alone}
use Rattle.entry.proofs.is_index.Goals as goal

pub returns-then-e-le-INDEX-clause-alone : goal.returns-then-e-le-INDEX-clause-alone
returns-then-e-le-INDEX-clause-alone c = λ e.
    index_alone c.args.e.bytes.now c.args.e.first (search rules) (search rules) c.if-e-le-INDEX.true.0 c.if-e-le-INDEX.true.1
    (rw take_rest at (sym c.ends_entry.ensures ∙ e))
