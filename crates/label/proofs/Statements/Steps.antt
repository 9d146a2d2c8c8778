-- The calls are made of the stretches that inner functions promise: the step laws, gathered.
-- Assumes nothing.
use mathlib.Core.List.{[], ◌∷◌}
use borrow.Author.Tests.{lt-ltb}
use lib.IntN.{pos, negsuc}
use Rattle.label.specs.Statements.Steps.{Stretches}
use Rattle.label.proofs.Steps.{read_steps, text_steps, resolve_into_steps, file_steps}
use Rattle.label.proofs.Wire.{halves_back, words_back}

pub stretches : Stretches
stretches =
    record {
      reads = read_steps;
      texts = text_steps;
      resolves = resolve_into_steps;
      labels = file_steps;
      units_back = halves_back;
      naturals_back = λ n h. words_back (pos n ∷ []) (rw (lt-ltb n 2147483648 h));
      negatives_back = λ n h. words_back (negsuc n ∷ []) (rw (lt-ltb n 2147483648 h));
    }
