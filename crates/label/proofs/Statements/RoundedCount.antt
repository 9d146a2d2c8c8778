-- What document 02 asks of the count of rounded fields, proved: by the laws of Requests/RoundedCount.antt.
-- Assumes nothing.
use Prim.Native.Nat.{ℕ, ◌+◌, ◌*◌, ◌^◌}
use mathlib.Core.Path.{◌≡◌, sym, ◌∙◌, ap}
use mathlib.Core.Logic.{◌↔◌}
use mathlib.Core.Bool.{Bool, true, false, cond}
use borrow.Author.Tests.{eqb-true, eq-eqb}
use Rattle.label.specs.Entry.{scaled}
use Rattle.label.specs.Requests.RoundedCount.{is_whole, rounded, beside}
use Rattle.label.specs.Statements.RoundedCount.{RoundedCount}
use Rattle.label.proofs.Values.{normal_writer}
use Rattle.label.proofs.Sound.{read_sound}
use Rattle.label.proofs.Requests.RoundedCount.{rounded_most, whole_reads, written_exact}

exact : (m f : ℕ) (down : Bool) (e : ℕ) → (is_whole m f down e ≡ true) ↔
    (scaled m f down e * cond down (10 ^ (f + e)) (10 ^ f) ≡ cond down (m * 10 ^ 3) (m * 10 ^ (e + 3)))
exact m f true e = (
  λ h. eqb-true (scaled m f true e * 10 ^ (f + e)) (m * 10 ^ 3) (sym (whole_reads m f true e) ∙ h),
  λ h. whole_reads m f true e ∙ eq-eqb (scaled m f true e * 10 ^ (f + e)) (m * 10 ^ 3) h,
)
exact m f false e = (
  λ h. eqb-true (scaled m f false e * 10 ^ f) (m * 10 ^ (e + 3)) (sym (whole_reads m f false e) ∙ h),
  λ h. whole_reads m f false e ∙ eq-eqb (scaled m f false e * 10 ^ f) (m * 10 ^ (e + 3)) h,
)

pub counting : RoundedCount
counting =
    record {
      exact = exact;
      accepted = λ room t i r h. ap (beside (rounded i)) h;
      refused = λ room t i n p h. ap (beside (rounded i)) h;
      most = rounded_most;
      written = λ t i r h. written_exact normal_writer r (read_sound t i r h);
    }
