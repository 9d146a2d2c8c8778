-- An answer's number and place are its outcome's; every refusal has a number above 0, so number 0 is that of the outcome in which no cause holds.
-- Assumes nothing.
use Prim.Native.Nat.{ℕ, ◌≤◌}
use native.Mathlib.Omega.{arith}
use mathlib.Core.Path.{◌≡◌, refl, sym, ap, subst, ◌∙◌}
use mathlib.Core.Bool.{false}
use mathlib.Core.List.{List, [], ◌∷◌, ◌++◌}
use borrow.Author.Tests.{leb-true, not-false}
use lib.Dec.{leb}
use lib.ListN.{length}
use Rattle.label.specs.Outcome.{Outcome, ok, no, ◌>>◌, Check, check, above, verdict}
use Rattle.label.specs.Calls.{filled, buffer_after, filled_count}
use Rattle.label.specs.Statements.Memory.{refuses, GivenBy}
use Rattle.label.proofs.Basics.{cases, or_l, or_r}
use Rattle.label.proofs.Checks.{given_is, passes, stops}
use Rattle.label.proofs.Refusals.{Placed, refused}
use Rattle.glyph_label.specs.declared.GlyphLabelFilled.{GlyphLabelFilled}
use Rattle.glyph_label.specs.Answers.{filled_answer}
use Rattle.glyph_label.specs.CallContracts.{FillCall}
use Rattle.glyph_label.specs.Promises.Memory.{Fixed, Fills}

-- ── number and place ──

abbrev pub number_in : {A : Type 0} → Outcome A → ℕ
number_in (ok a) = 0
number_in (no n p) = n

abbrev pub place_in : {A : Type 0} → Outcome A → ℕ
place_in (ok a) = 0
place_in (no n p) = p

-- every refusal has a number above 0
abbrev pub Numbered : {A : Type 0} → Outcome A → Type 0
Numbered {A} o = (n p : ℕ) → o ≡ no n p → 1 ≤ n

pub numbered : {A : Type 0} {m k : ℕ} {o : Outcome A} → Placed m k o → Numbered o
numbered {A = A} {m = m} {k = k} h n p e = go (subst (Placed m k) e h)
  where
    go : Placed {A = A} m k (no n p) → 1 ≤ n
    go (refused a b d) = a

-- number 0 is no refusal's
pub accepted : {A : Type 0} (o : Outcome A) → Numbered o → number_in o ≡ 0 → (a : A) × (o ≡ ok a)
accepted (ok a) h z = (a, refl)
accepted (no n p) h z = let l : 1 ≤ n = h n p refl in absurd (omega arith)

-- a call with these checks that says x comes to o, and number and place of its answer are those of o
module _ {A : Type 0} (cs : List Check) (x : A) (o : Outcome A) (e : o ≡ (verdict cs >> ok x)) (h : Numbered o) (number place : ℕ)
    (s : (number ≡ number_in o) × (place ≡ place_in o)) where
  pub says : number ≡ 0 → (refuses cs ≡ false) × (o ≡ ok x)
  says z =
      cases (refuses cs)
      (λ t. let (n, p, v) = stops cs t in
      let r : o ≡ no n p = e ∙ ap (λ w. w >> ok x) v in
      let l : 1 ≤ n = h n p r in
      let m : number ≡ n = s.0 ∙ ap number_in r in
      absurd (omega arith))
      (λ t. (t, e ∙ passes cs (ok x) t))

  pub fixed : Fixed cs number place
  fixed =
      record {
        accepts = (λ z. (says z).0, λ t. s.0 ∙ ap number_in (e ∙ passes cs (ok x) t));
        no_place = λ z. s.1 ∙ ap place_in (says z).1;
        refusal = λ z. go z o refl;
        only = λ n p g. let r : o ≡ no n p = e ∙ (given_is cs n p x).1 g in (s.0 ∙ ap number_in r, s.1 ∙ ap place_in r);
      }
    where
      go : (number ≡ 0 → ⊥) → (v : Outcome A) → o ≡ v → GivenBy cs number place
      go z (ok a) q = absurd (z (s.0 ∙ ap number_in q))
      go z (no n p) q = rw (s.0 ∙ ap number_in q, s.1 ∙ ap place_in q) ((given_is cs n p x).0 (sym e ∙ q))

-- where the last check, "too short", does not hold, there is room
pub has_room : (cs : List Check) (n room k p : ℕ) → refuses (cs ++ (check (above n room) k p ∷ [])) ≡ false → n ≤ room
unfolding refuses
has_room [] n room k p h = leb-true n room (not-false (leb n room) (or_l (above n room) false h))
has_room (c ∷ cs) n room k p h = has_room cs n room k p (or_r c.holds (refuses (cs ++ (check (above n room) k p ∷ []))) h)

-- ── one lent buffer that is filled ──

filled_said : {A : Type 0} (o : Outcome (List A))
    → ((filled_answer (filled_count o)).number ≡ number_in o) × ((filled_answer (filled_count o)).place ≡ place_in o)
filled_said (ok vs) = (refl, refl)
filled_said (no n p) = (refl, refl)

module _ {A : Type 0} (stored : List A → List ℕ) (o : Outcome (List A)) (old : List ℕ) (a : GlyphLabelFilled) (new : List ℕ)
    (c : FillCall stored o old a new) where
  pub fill_said : (a.number ≡ number_in o) × (a.place ≡ place_in o)
  fill_said = rw c.answer (filled_said o)

  -- what an accepted call leaves
  pub fill_ok : (vs : List A) → o ≡ ok vs → (a.number ≡ 0) × (a.filled ≡ length vs) × (new ≡ filled (stored vs) old)
  fill_ok vs e =
      let q : a ≡ filled_answer (ok (length vs)) = c.answer ∙ ap (λ (x : Outcome (List A)). filled_answer (filled_count x)) e in (
        ap (λ (x : GlyphLabelFilled). x.number) q,
        ap (λ (x : GlyphLabelFilled). x.filled) q,
        c.buffer ∙ ap (λ (x : Outcome (List A)). buffer_after stored x old) e,
      )

  -- what a refused one leaves
  pub fill_refused : (a.number ≡ 0 → ⊥) → (o ≡ no a.number a.place) × (a.filled ≡ 0) × (new ≡ old)
  fill_refused z = go o refl
    where
      go : (v : Outcome (List A)) → o ≡ v → (o ≡ no a.number a.place) × (a.filled ≡ 0) × (new ≡ old)
      go (ok ws) e = absurd (z (fill_ok ws e).0)
      go (no n p) e =
          let q : a ≡ filled_answer (no n p) = c.answer ∙ ap (λ (x : Outcome (List A)). filled_answer (filled_count x)) e in (
            e ∙ rw q,
            ap (λ (x : GlyphLabelFilled). x.filled) q,
            c.buffer ∙ ap (λ (x : Outcome (List A)). buffer_after stored x old) e,
          )

  -- the call has these checks and says vs, which has room where none of them holds
  pub fills : (cs : List Check) (vs : List A) → o ≡ (verdict cs >> ok vs) → Numbered o → (refuses cs ≡ false → length (stored vs) ≤ length old)
      → Fills cs (length vs) (stored vs) old a new
  fills cs vs e h m =
      record {
        fixed = fixed cs vs o e h a.number a.place fill_said;
        returns = λ z. (fill_ok vs (is z).1).1;
        holds = λ z. (fill_ok vs (is z).1).2;
        whole = λ z. m (is z).0;
        kept = λ z. let (e, n, k) = fill_refused z in (n, k);
      }
    where
      is : a.number ≡ 0 → (refuses cs ≡ false) × (o ≡ ok vs)
      is z = says cs vs o e h a.number a.place fill_said z
