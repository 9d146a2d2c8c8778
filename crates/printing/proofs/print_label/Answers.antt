-- The outputs have the lengths that `relabel` asks for, and the lines that are printed are those of the definition: by what comes of the label.
-- Assumes nothing.
use Rattle.std.proofs.Common.{◌≡◌, ℕ, List, take, refl, subst, true, false, arith}
use lib.Seq.{take_at}
use Rattle.label.specs.Outcome.{Outcome, ok, no}
use Rattle.label.specs.Run.{Run}
use Rattle.label.specs.Relabel.{printed}
use Rattle.label.proofs.Basics.{clash}
use Rattle.lines.specs.Lines.{shown, relabelled, text_line, indices_line}
use Rattle.lines.specs.declared.Relabelled.{Relabelled}
use Rattle.printing.specs.Prints.{Prints}
use Rattle.printing.specs.Lines.{run_lines}
use Rattle.printing.proofs.print_label.Goals as goal

-- the lines of a run: the outputs begin with them
lines_are : (o : Outcome Run) (x : Relabelled) (t₀ i₀ : List ℕ) {t i a b : List ℕ} → ok x ≡ relabelled o → t ≡ text_line o t₀ → i ≡ indices_line o i₀
    → a ≡ take x.written.text t → b ≡ take x.written.indices i → run_lines x.read a b ≡ printed o
lines_are (ok r) x t₀ i₀ e f g p q =
    let h : x ≡ shown r = cc in
    rw (p, q, f, g, h, take_at _ _ _ refl, take_at _ _ _ refl) refl
lines_are (no n p) x t₀ i₀ e f g h k = let z : true ≡ false = cc in clash true refl z

refusal_is : (o : Outcome Run) (n p : ℕ) → ◌≡◌ {A = Outcome Relabelled} (no n p) (relabelled o) → printed (no n p) ≡ printed o
refusal_is (no i q) n p e =
    let h : n ≡ i = cc in
    let k : p ≡ q = cc in
    rw (h, k) refl
refusal_is (ok r) n p e = let z : true ≡ false = cc in clash true refl z

pub relabel-requires : goal.relabel-requires
relabel-requires g c = (omega arith, omega arith)

pub returns-in-Ok : goal.returns-in-Ok
returns-in-Ok g c =
    let e = c.in-Ok.ensures in
    subst (Prints _ _ _) (lines_are _ c.in-Ok.x _ _ e.result e.text e.indices c.part.ensures c.part-in-Ok.ensures) c.print_run.ensures

pub returns-in-Err : goal.returns-in-Err
returns-in-Err g c = subst (Prints _ _ _) (refusal_is _ _ _ c.in-Err.ensures.result) c.print_refusal.ensures
