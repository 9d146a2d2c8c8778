-- What an output gains: nothing, a byte, and the bytes of one store behind those of another.
-- Assumes nothing.
use Rattle.std.proofs.Common.{ℕ, ◌≡◌, List, [], ◌++◌, append_assoc, append-nil, arith, length-append, refl, sym, ap, subst, ◌∙◌}
use Rattle.octets.specs.Puts.{Put}
use Rattle.octets.specs.Outputs.{Gains}
use Rattle.octets.specs.declared.Output.{Output}
use Rattle.octets.proofs.Puts.{none, then as put_then}

pub nothing : {s : Output} → Gains s [] s
nothing = record { same = refl; put = λ h. none }

pub then : {s t u : Output} {x y : List ℕ} → Gains s x t → Gains t y u → Gains s (x ++ y) u
then {s} {t} {u} {x} {y} f g =
    record {
      same = g.same ∙ f.same;
      put = λ h.
          let a : Put s.bytes.now s.at x t.at t.bytes.now = f.put (omega (arith, length-append x y)) in
          put_then a (g.put (omega (arith, length-append x y, a.behind)));
    }

-- the same bytes by another name
pub gains_as : {s t : Output} {x y : List ℕ} → x ≡ y → Gains s x t → Gains s y t
gains_as {s} {t} e f = subst (λ (w : List ℕ). Gains s w t) e f

-- ── a loop: what is left to store gives the whole ──

-- since old, now has gained the whole but for the rest
pub record Lacks (old : Output) (whole : List ℕ) (now : Output) (rest : List ℕ) : Type 0 where
  pub stored : List ℕ
  pub gained : Gains old stored now
  pub gives : stored ++ rest ≡ whole

pub lacks_all : {s : Output} {w : List ℕ} → Lacks s w s w
lacks_all = record { stored = []; gained = nothing; gives = refl }

-- a turn stores x, which stands in front of what is left
pub lacks_next : {old s t : Output} {whole x y r : List ℕ} → Lacks old whole s y → y ≡ x ++ r → Gains s x t → Lacks old whole t r
lacks_next {x = x} {r = r} f e g =
    record { stored = f.stored ++ x; gained = then f.gained g; gives = append_assoc f.stored x r ∙ ap (λ y. f.stored ++ y) (sym e) ∙ f.gives }

-- nothing is left
pub lacks_none : {old s : Output} {whole y : List ℕ} → Lacks old whole s y → y ≡ [] → Gains old whole s
lacks_none f e = gains_as (sym (append-nil f.stored) ∙ ap (λ y. f.stored ++ y) (sym e) ∙ f.gives) f.gained

pub lacks_as : {old s : Output} {whole x y : List ℕ} → x ≡ y → Lacks old whole s x → Lacks old whole s y
lacks_as e f = record { stored = f.stored; gained = f.gained; gives = ap (λ y. f.stored ++ y) (sym e) ∙ f.gives }
