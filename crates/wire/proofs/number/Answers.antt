-- `wire::number`: a number is its four bytes, which are one chunk of the buffer (law `number_in`).
use Rattle.std.proofs.Common.{◌∙◌, arith, rules, w32}
use Rattle.std.proofs.lemmas.Int.{to_z-of_z}
use Rattle.wire.proofs.Fetched.{words_length}
use Rattle.wire.proofs.Runs.{number_in}
use Rattle.wire.proofs.number.Goals as goal

pub bounds-numbers-k : goal.bounds-numbers-k
bounds-numbers-k c = omega (arith, words_length c.args.s.now)

pub offset_bounds-numbers-k : goal.offset_bounds-numbers-k
offset_bounds-numbers-k c = record { fits = omega (arith, words_length c.args.s.now) }

pub returns : goal.returns
returns c =
    to_z-of_z w32 _ (search rules) ∙ c.from_le_bytes.ensures ∙ rw c.as_chunks.ensures.front (number_in c.args.s.now c.args.k c.requires)
