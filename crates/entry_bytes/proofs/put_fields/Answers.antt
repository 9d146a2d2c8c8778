-- `entry_bytes::put_fields`: one law of WriteLaws for each return, by the last field that is not empty. What a call gained is said of the number as it was
-- passed, and so once more of the number.
-- Assumes nothing.
use Rattle.std.proofs.Common.{rules}
use Rattle.label.specs.Sound.{number_advance}
use Rattle.label.specs.Write.{value_bytes, advance_by, offset_by}
use Rattle.octets.specs.Outputs.{Gains}
use Rattle.octets.proofs.Outputs.{nothing, then, gains_as}
use Rattle.entry_bytes.proofs.WriteLaws.{fields_none, fields_one, fields_two, fields_three}
use Rattle.entry_bytes.proofs.put_fields.Goals as goal

pub returns-then-v-eq0 : goal.returns-then-v-eq0
returns-then-v-eq0 c = let a = c.args in gains_as (fields_none a.advance a.u a.v (search rules) (search rules) (search rules)) nothing

pub returns-then-v-eq0-2 : goal.returns-then-v-eq0-2
returns-then-v-eq0-2 c =
    let a = c.args in
    let p : Gains c.put_byte.new.self (advance_by value_bytes (number_advance a.advance)) c.put_advance.new.out = search rules in
    gains_as (fields_one a.advance a.u a.v (search rules) (search rules) (search rules)) (then c.put_byte.ensures p)

pub returns-then-v-eq0-3 : goal.returns-then-v-eq0-3
returns-then-v-eq0-3 c =
    let a = c.args in
    let p : Gains c.put_byte.new.self (advance_by value_bytes (number_advance a.advance)) c.put_advance.new.out = search rules in
    let q : Gains c.put_byte-2.new.self (offset_by value_bytes a.u) c.put_offset.new.out = search rules in
    gains_as (fields_two a.advance a.u a.v (search rules) (search rules)) (then c.put_byte.ensures (then p (then c.put_byte-2.ensures q)))

pub returns : goal.returns
returns c =
    let a = c.args in
    let p : Gains c.put_byte.new.self (advance_by value_bytes (number_advance a.advance)) c.put_advance.new.out = search rules in
    let q : Gains c.put_byte-2.new.self (offset_by value_bytes a.u) c.put_offset.new.out = search rules in
    let r : Gains c.put_byte-3.new.self (offset_by value_bytes a.v) c.put_offset-2.new.out = search rules in
    gains_as (fields_three a.advance a.u a.v (search rules))
    (then c.put_byte.ensures (then p (then c.put_byte-2.ensures (then q (then c.put_byte-3.ensures r)))))
