-- `lines::relabel_in`: the buffers hold every run, so 16 to 18 never come; the bytes that the reading filled are the run's (laws of Relabels). Assumes nothing.
use Rattle.std.proofs.Common.{◌≡◌, [], rules, Ok, Err}
use Rattle.lines.proofs.Relabels.{line_refused, line_room, line_written}
use Rattle.lines.proofs.relabel_in.Goals as goal

pub write_places-requires : goal.write_places-requires
write_places-requires c =
    let a = c.args in
    let was : c.read.result ≡ Ok c.in_ok-reading.reading = search rules in
    line_room a.label.text.now a.label.indices.now a.units.now a.clusters.now a.glyphs.now [] [] c.requires.indices_len_bound c.requires.buffers _
    (rw was at c.read.ensures.result) _ _ _ c.read.auto.units c.read.auto.clusters c.read.auto.glyphs

pub returns-in_err-reading : goal.returns-in_err-reading
returns-in_err-reading c =
    let a = c.args in
    let e = c.in_err-reading.field-0.0 in
    let was : c.read.result ≡ Err e = search rules in
    let r : c.from_residual.result ≡ Err e = search rules in
    rw r (line_refused a.label.text.now a.label.indices.now a.units.now a.clusters.now a.glyphs.now a.first.now a.second.now
    c.requires.indices_len_bound c.requires.buffers _ _ (rw was at c.read.ensures.result))

pub returns : goal.returns
returns c =
    let a = c.args in
    let read = c.read.ensures in
    let was : c.read.result ≡ Ok c.in_ok-reading.reading = search rules in
    let written = c.write_places.ensures in
    line_written a.label.text.now a.label.indices.now a.units.now a.clusters.now a.glyphs.now a.first.now a.second.now
    c.requires.indices_len_bound c.requires.buffers _ (rw was at read.result) _ _ _ _ _ _
    c.requires.outputs.0 c.requires.outputs.1 read.units read.clusters read.glyphs written.result written.text written.indices
