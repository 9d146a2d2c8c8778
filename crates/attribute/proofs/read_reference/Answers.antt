-- `attribute::read_reference`: each return is a law of Ends, of what stands at the front.
use Rattle.std.proofs.Common.{rules, arith}
use Rattle.std.proofs.lemmas.Grind.{common_steps}
use Rattle.attribute.proofs.Names.{name_is}
use Rattle.attribute.proofs.Ends.{char_on, none_on, named_on, sixteen, ten, whole, none_whole, name_whole}
use Rattle.attribute.proofs.read_reference.Goals as goal

pub returns-in_err-c-in-35 : goal.returns-in_err-c-in-35
returns-in_err-c-in-35 c = rw c.from_residual.ensures (none_whole _ (none_on (sixteen _ (search rules) (search rules) (search rules)) c.in_err-c-in-35.ensures))

pub returns-in_err-c-in-35-2 : goal.returns-in_err-c-in-35-2
returns-in_err-c-in-35-2 c = rw c.from_residual-in_err-c-in-35-2.ensures (none_whole _
    (none_on (ten _ (search rules) (search rules) (λ k. grind (arith, common_steps))) c.in_err-c-in-35-2.ensures))

pub returns-in_ok-c-in-35 : goal.returns-in_ok-c-in-35
returns-in_ok-c-in-35 c = whole (char_on (sixteen _ (search rules) (search rules) (search rules)) c.in_ok-c-in-35.ensures)

pub returns-in_ok-c-in-35-2 : goal.returns-in_ok-c-in-35-2
returns-in_ok-c-in-35-2 c = whole (char_on (ten _ (search rules) (search rules) (λ k. grind (arith, common_steps))) c.in_ok-c-in-35-2.ensures)

pub returns-in_default : goal.returns-in_default
returns-in_default c = name_whole _ _ (named_on _ _ (λ k. grind (arith, common_steps)) (rw c.predefined.ensures (name_is _)))
