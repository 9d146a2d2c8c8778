-- What a verdict says: a number is given by the first cause that holds, and memory is filled or kept; by induction over the checks.
-- Assumes nothing.
use Prim.Native.Nat.{ℕ}
use mathlib.Core.Path.{◌≡◌, refl, sym, ◌∙◌, ap}
use mathlib.Core.Logic.{◌↔◌, inl, inr}
use mathlib.Core.Bool.{Bool, true, false, cond, false≢true}
use mathlib.Core.List.{List, [], ◌∷◌, ◌++◌}
use Rattle.label.specs.Outcome.{Outcome, ok, no, ◌>>◌, Check, verdict}
use Rattle.label.specs.Statements.Memory.{refuses, GivenBy}
use Rattle.label.specs.Statements.Memory.{filled_all, Kept}
use Rattle.label.proofs.Basics.{no_ok, or_l, or_r, cases}

first_given : (cs : List Check) (n p : ℕ) → verdict cs ≡ no n p → GivenBy cs n p
unfolding verdict
first_given [] n p h = let z : true ≡ false = cc in absurd (false≢true (sym z))
first_given (c ∷ cs) n p h = go c.holds refl (first_given cs n p)
  where
    go : (b : Bool) → c.holds ≡ b → (verdict cs ≡ no n p → GivenBy cs n p) → GivenBy (c ∷ cs) n p
    go true e r =
        let k : no c.number c.place ≡ no n p = rw e at h in
        let a : c.number ≡ n = cc in
        let b : c.place ≡ p = cc in
        record { earlier = []; it = c; later = cs; in_order = refl; none_earlier = unfold refuses in refl; holds = e; number = a; place = b }
    go false e r =
        let g : GivenBy cs n p = r (rw e at h) in
        record {
          earlier = c ∷ g.earlier;
          it = g.it;
          later = g.later;
          in_order = ap (λ (l : List Check). c ∷ l) g.in_order;
          none_earlier = unfold refuses in (rw e g.none_earlier);
          holds = g.holds;
          number = g.number;
          place = g.place;
        }

given_first : {A : Type 0} (cs : List Check) (n p : ℕ) (o : Outcome A) → GivenBy cs n p → (verdict cs >> o) ≡ no n p
unfolding verdict refuses
given_first cs n p o g =
    ap (λ (l : List Check). verdict l >> o) g.in_order ∙ go g.earlier g.none_earlier ∙ rw (g.number, g.place)
  where
    go : (es : List Check) → refuses es ≡ false → (verdict (es ++ (g.it ∷ g.later)) >> o) ≡ no g.it.number g.it.place
    go [] h = rw g.holds
    go (e ∷ es) h = rw (or_l e.holds (refuses es) h) (go es (or_r e.holds (refuses es) h))

-- a number is given exactly by the first cause that holds
pub given_is : {A : Type 0} (cs : List Check) (n p : ℕ) (a : A) → ((verdict cs >> ok a) ≡ no n p) ↔ GivenBy cs n p
given_is {A = A} cs n p a = (λ h. first_given cs n p (only (verdict cs) h), λ g. given_first cs n p (ok a) g)
  where
    only : (v : Outcome (Unit {0})) → ◌≡◌ {A = Outcome A} (v >> ok a) (no n p) → v ≡ no n p
    only (ok x) h = no_ok n p a (sym h)
    only (no m q) h = cc

-- no cause holds, or the first that does gives its number
pub passes : {A : Type 0} (cs : List Check) (o : Outcome A) → refuses cs ≡ false → (verdict cs >> o) ≡ o
unfolding verdict refuses
passes [] o h = refl
passes (c ∷ cs) o h = go c.holds refl (λ k. passes cs o k)
  where
    go : (b : Bool) → c.holds ≡ b → (refuses cs ≡ false → (verdict cs >> o) ≡ o) → (cond b (no c.number c.place) (verdict cs) >> o) ≡ o
    go true e f = absurd (false≢true (sym (rw e at h)))
    go false e f = f (rw e at h)

pub stops : (cs : List Check) → refuses cs ≡ true → (n : ℕ) × (p : ℕ) × (verdict cs ≡ no n p)
unfolding verdict refuses
stops [] h = absurd (false≢true h)
stops (c ∷ cs) h = go c.holds refl (λ k. stops cs k)
  where
    go : (b : Bool) → c.holds ≡ b → (refuses cs ≡ true → (n : ℕ) × (p : ℕ) × (verdict cs ≡ no n p))
        → (n : ℕ) × (p : ℕ) × (cond b (no c.number c.place) (verdict cs) ≡ no n p)
    go true e f = (c.number, c.place, refl)
    go false e f = f (rw e at h)

-- what a call does with its memory: `new` gives the buffers after an outcome
pub kept : {A B : Type 0} (cs : List Check) (a : A) (gives : A → List (List B)) (old : List (List B)) (new : Outcome A → List (List B))
    → new (ok a) ≡ filled_all (gives a) old → ((n p : ℕ) → new (no n p) ≡ old) → Kept cs a gives (verdict cs >> ok a) old (new (verdict cs >> ok a))
kept cs a gives old new f u =
    cases (refuses cs)
    (λ t. let (n, p, v) = stops cs t in
    let e : (verdict cs >> ok a) ≡ no n p = rw v in
    inr (n, p, (given_is cs n p a).0 e, e, ap new e ∙ u n p))
    (λ t. let e : (verdict cs >> ok a) ≡ ok a = passes cs (ok a) t in inl (t, e, ap new e ∙ f))
