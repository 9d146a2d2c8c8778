-- `text::plain_length`: the bytes before a turn's are plain. Assumes nothing.
use Rattle.text.specs.Texts.{IsPlain}
use Rattle.text.proofs.plain_length.Given as goal

abbrev pub invariant-loop-count : goal.invariant-loop-count
invariant-loop-count l = IsPlain l.text l.count
