-- What the list of glyph records promises, proved: by the steps of the listing, at the run that some label reads as.
-- Assumes nothing.
use Prim.Native.Nat.{ℕ, ◌≤◌}
use mathlib.Core.Path.{◌≡◌, refl, sym, ◌∙◌, ap, subst}
use mathlib.Core.List.{List, [], ◌∷◌}
use borrow.Author.Tests.{le-leb}
use lib.ListN.{length}
use Rattle.label.specs.Outcome.{ok}
use Rattle.label.specs.Run.{Run}
use Rattle.label.specs.Places.{Places, Readable}
use Rattle.label.specs.Sound.{run_of}
use Rattle.label.specs.Calls.{filled_after, list_checks, list_into}
use Rattle.label.specs.Statements.Memory.{filled_all, Kept}
use Rattle.label.specs.Statements.Records.{Records}
use Rattle.label.specs.declared.Glyph.{Glyph}
use Rattle.label.proofs.Steps.{list_steps}
use Rattle.label.proofs.Checks.{given_is, kept}
use Rattle.label.proofs.Places.{readable_sound, readable_run}

lists : (room : ℕ) (z : Places) (w : Readable z) → length w.run.glyphs ≤ room → list_into room z ≡ ok w.run.glyphs
lists room z w h =
    let q : run_of z ≡ w.run = readable_run z w in
    let k : length (run_of z).glyphs ≤ room = subst (λ (r : Run). length r.glyphs ≤ room) (sym q) h in
    list_steps room z ∙ rw (readable_sound z w, le-leb (length (run_of z).glyphs) room k) (ap (λ (r : Run). ok r.glyphs) q)

memory : (z : Places) (old : List Glyph)
    → Kept (list_checks (length old) z) (run_of z).glyphs (λ gs. gs ∷ []) (list_into (length old) z) (old ∷ [])
    (filled_after (list_into (length old) z) old ∷ [])
unfolding list_into filled_all
memory z old = kept (list_checks (length old) z) (run_of z).glyphs (λ gs. gs ∷ []) (old ∷ []) (λ o. filled_after o old ∷ []) refl (λ n p. refl)

pub records : Records
records =
    record {
      lists = lists;
      fixed = λ room z n p. unfold list_into in (given_is (list_checks room z) n p (run_of z).glyphs);
      memory = memory;
    }
