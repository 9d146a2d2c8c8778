-- `writer::write_as`: behind 19, which `write_steps` answers, 20 and 21 in order, then both outputs: each return is one law of Answers.
-- Assumes nothing.
use Rattle.std.proofs.Common.{arith, rules}
use Rattle.sound.proofs.Facts.{few_units}
use Rattle.writer.proofs.Answers.{passed, refuses_20, refuses_21, written, text_written, indices_written}
use Rattle.writer.proofs.write_as.Goals as goal

pub text_length-text_bytes-requires : goal.text_length-text_bytes-requires
text_length-text_bytes-requires c = let r = c.args.run in omega (arith, few_units r.units.now r.clusters.now r.glyphs.now (search (rules, passed)))

pub returns-then-text-text_bytes : goal.returns-then-text-text_bytes
returns-then-text-text_bytes c =
    let a = c.args in
    let r = a.run in
    refuses_20 a.escape r.units.now r.clusters.now r.glyphs.now a.text.now a.indices.now (search (rules, passed)) c.text_length-text_bytes.ensures
    c.at.ensures c.if-text-text_bytes.true

pub returns-then-indices-indices_bytes : goal.returns-then-indices-indices_bytes
returns-then-indices-indices_bytes c =
    let a = c.args in
    let r = a.run in
    refuses_21 a.escape r.units.now r.clusters.now r.glyphs.now a.text.now a.indices.now (search (rules, passed)) c.text_length-text_bytes.ensures
    (omega arith) c.indices_length-indices_bytes.ensures
    c.at-then-indices-indices_bytes.ensures c.if-indices-indices_bytes.true

pub returns-clause-result : goal.returns-clause-result
returns-clause-result c =
    let a = c.args in
    let r = a.run in
    written a.escape r.units.now r.clusters.now r.glyphs.now a.text.now a.indices.now (search (rules, passed)) c.text_length-text_bytes.ensures
    (omega arith) c.indices_length-indices_bytes.ensures (omega arith)

pub returns-clause-text : goal.returns-clause-text
returns-clause-text c =
    let a = c.args in
    let r = a.run in
    let p = c.put_text.ensures.put (omega (arith, c.text_length-text_bytes.ensures)) in
    text_written a.escape r.units.now r.clusters.now r.glyphs.now a.text.now a.indices.now (search (rules, passed)) c.text_length-text_bytes.ensures
    (omega arith) c.indices_length-indices_bytes.ensures (omega arith) {p = c.put_text.new.out.at} (search rules)

pub returns-clause-indices : goal.returns-clause-indices
returns-clause-indices c =
    let a = c.args in
    let r = a.run in
    let p = c.put_indices.ensures.put (omega (arith, c.indices_length-indices_bytes.ensures)) in
    indices_written a.escape r.units.now r.clusters.now r.glyphs.now a.text.now a.indices.now (search (rules, passed)) c.text_length-text_bytes.ensures
    (omega arith) c.indices_length-indices_bytes.ensures (omega arith) {p = c.put_indices.new.out.at} (search rules)
