-- `octets::Output::put_byte`: one byte more is counted, and stored where there is room (`put_one`, `put_past`). Assumes nothing.
use Rattle.std.proofs.Common.{refl, arith}
use Rattle.octets.proofs.Puts.{put_one, put_past}
use Rattle.octets.proofs.Output.put_byte.Goals as goal

pub returns-then-at-self : goal.returns-then-at-self
returns-then-at-self c = record { same = refl; put = λ h. put_one _ _ _ _ refl refl }

pub returns-else-at-self : goal.returns-else-at-self
returns-else-at-self c = record { same = refl; put = λ h. put_past _ _ _ _ (omega arith) refl c.if-at-self.false }
