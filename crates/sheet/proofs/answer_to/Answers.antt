-- `sheet::answer_to`: by what the survey says, which fits 32 bits as every refusal of a reading does (Told).
-- Assumes nothing.
use Rattle.sheet.proofs.Told.{place_small, told}
use Rattle.sheet.proofs.answer_to.Goals as goal

pub overflow_cast-result-in-Err : goal.overflow_cast-result-in-Err
overflow_cast-result-in-Err c = record { sfits = place_small _ _ c.in-Err.ensures.reading_value }

pub returns-in-Err : goal.returns-in-Err
returns-in-Err c = rw c.number.ensures (told _ _ c.in-Err.ensures.reading_value)
