-- The record of specs/Statements/Relabel.antt: a line without a line feed is cut off whole.
-- Assumes nothing.
use Prim.Native.Nat.{ℕ}
use mathlib.Core.Path.{◌≡◌, refl, sym, ◌∙◌}
use mathlib.Core.Bool.{Bool, true, not}
use mathlib.Core.List.{List, [], ◌∷◌, ◌++◌}
use borrow.Author.Tests.{leb-true, le-leb}
use lib.Dec.{eqb, leb}
use lib.ListN.{length}
use Rattle.label.specs.Limits.{max_line_bytes}
use Rattle.label.specs.Outcome.{check, above}
use Rattle.label.specs.Bytes.{cut}
use Rattle.label.specs.Run.{said_run}
use Rattle.label.specs.Checks.{label_checks, read}
use Rattle.label.specs.Relabel.{relabel_read, printed, relabel}
use Rattle.label.specs.Statements.Relabel.{one_line, Relabelling}
use Rattle.label.proofs.Basics.{and_l, and_r, need_ok}
use Rattle.label.proofs.Steps.{relabel_steps}
use Rattle.label.proofs.Checks.{given_is}
use Rattle.label.proofs.Splits.{none}
use Rattle.label.proofs.Decimals.{cut_none, cut_found}

abbrev feed : ℕ → Bool
feed b = eqb b 10

no_feed : (s : List ℕ) → one_line s ≡ true → none feed s ≡ true
no_feed [] h = refl
no_feed (b ∷ bs) h = rw (and_l (not (eqb b 10)) (one_line bs) h) (no_feed bs (and_r (not (eqb b 10)) (one_line bs) h))

two_lines_holds : (t i rest : List ℕ) → one_line t ≡ true → one_line i ≡ true → relabel (t ++ (10 ∷ (i ++ (10 ∷ rest)))) ≡ printed (relabel_read t i)
unfolding relabel
two_lines_holds t i rest h k = rw (cut_found feed t 10 (i ++ (10 ∷ rest)) (no_feed t h) refl, cut_found feed i 10 rest (no_feed i k) refl)

unended : (t i : List ℕ) → one_line t ≡ true → one_line i ≡ true → relabel (t ++ (10 ∷ i)) ≡ printed (relabel_read t i)
unfolding relabel
unended t i h k = rw (cut_found feed t 10 i (no_feed t h) refl, cut_none feed i (no_feed i k))

missing : (t : List ℕ) → one_line t ≡ true → relabel t ≡ printed (relabel_read t [])
unfolding relabel cut
missing t h = rw (cut_none feed t (no_feed t h))

pub relabelling : Relabelling
relabelling =
    record {
      two_lines_holds = two_lines_holds;
      unended = unended;
      missing = missing;
      accepted = λ t i r. (
        λ h. let (x, y) = need_ok (leb (length i) max_line_bytes) 1 0 (read t i) r (sym (relabel_steps t i) ∙ h) in (y, leb-true (length i) max_line_bytes x),
        λ h. relabel_steps t i ∙ rw (le-leb (length i) max_line_bytes h.1) h.0,
      );
      refused = λ t i n p. unfold relabel_read in (given_is (check (above (length i) max_line_bytes) 1 0 ∷ label_checks t i) n p (said_run t i));
    }
