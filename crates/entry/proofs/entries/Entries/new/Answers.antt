-- `entry::Entries::new`: `results_all` of Results. Assumes nothing.
use Rattle.std.proofs.Common.{◌≡◌, rules}
use Rattle.label.specs.Bytes.{empty}
use Rattle.entry.proofs.Results.{results_all}
use Rattle.entry.proofs.entries.Entries.new.Goals as goal

pub returns : goal.returns
returns c = let e : c.is_empty.result ≡ empty c.args.indices.now = search rules in rw (c.then_some.ensures, e) (results_all c.args.indices)
