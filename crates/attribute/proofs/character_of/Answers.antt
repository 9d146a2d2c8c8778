-- `attribute::character_of`: a law of Digits.
use Rattle.std.proofs.Common.{◌∙◌, sym}
use Rattle.attribute.proofs.Digits.{as_char}
use Rattle.attribute.proofs.character_of.Goals as goal

pub returns-then-is_xml : goal.returns-then-is_xml
returns-then-is_xml c = as_char _ _ (sym c.is_xml.ensures ∙ c.if-is_xml.true) c.from_u32.ensures.value c.from_u32.ensures.cases
