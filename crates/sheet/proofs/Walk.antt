-- Laws of the walk over the records: where a file's begin (`opens`), and how what is walked and what is left make all labels (`Walked`).
-- Assumes nothing.
use Rattle.std.proofs.Common.{◌≡◌, ℕ, ◌+◌, ◌≤◌, Bool, ◌&&◌, nat_eq, eqb, List, [], ◌∷◌, ◌++◌, length, take, Option, Some, None, refl, ap, subst, ◌∙◌, arith, length-append, append_assoc, append-nil, add-one}
use Rattle.std.proofs.lemmas.List.{nil_from_length}
use lib.Pointwise.{pointwise}
use Rattle.label.specs.Outcome.{Outcome, ok, no, ◌>>=◌}
use Rattle.label.specs.Bytes.{begins}
use Rattle.label.specs.Steps.{labels_from}
use Rattle.label.specs.Write.{Label}
use Rattle.label.proofs.Requests.Sheet.{labels_none, labels_cut, labels_whole}
use Rattle.label.specs.declared.Label.{Label as Part}
use Rattle.sheet.specs.declared.Records.{Records}
use Rattle.sheet.specs.Records.{label_of, IsRecord, GivesRecord}

pub begins_is : (w s : List ℕ) → pointwise nat_eq (take (length w) s) w ≡ begins w s
unfolding begins
begins_is [] s = refl
begins_is (x ∷ w) [] = refl
begins_is (x ∷ w) (y ∷ s) = ap (λ (t : Bool). eqb y x && t) (begins_is w s)

-- n labels were walked, and all are they and those that are left
pub record Walked (all : List ℕ) (s : Records) (n : ℕ) (before : List Label) : Type 0 where
  pub count : n ≡ length before
  pub far : labels_from 0 0 all ≡ (labels_from 0 n s.rest.now >>= (λ ls. ok (before ++ ls)))
  pub few : n + length s.rest.now ≤ length all

onto_none : (o : Outcome (List Label)) → o ≡ (o >>= (λ ls. ok ([] ++ ls)))
onto_none (ok ls) = refl
onto_none (no n p) = refl

onto_more : (before : List Label) (l : Label) (o : Outcome (List Label))
    → ((o >>= (λ ls. ok (l ∷ ls))) >>= (λ ls. ok (before ++ ls))) ≡ (o >>= (λ ls. ok ((before ++ (l ∷ [])) ++ ls)))
onto_more before l (ok ls) = rw append_assoc
onto_more before l (no n p) = refl

pub start : (s : Records) → Walked s.rest.now s 0 []
start s = record { count = refl; far = onto_none (labels_from 0 0 s.rest.now); few = omega arith }

module _ {all : List ℕ} {s : Records} {n : ℕ} {before : List Label} (g : Walked all s n before) where
  pub end : length s.rest.now ≡ 0 → labels_from 0 0 all ≡ ok before
  end h = g.far ∙ rw (nil_from_length s.rest.now h, labels_none n) (ap (λ (ls : List Label). ok ls) (append-nil before))

  module _ (t : Records) {q : Option Part} (h : GivesRecord s (Some q) t) where
    pub cut : q ≡ None → labels_from 0 0 all ≡ no 26 n
    cut e =
        let k : GivesRecord s (Some None) t = subst (λ (x : Option Part). GivesRecord s (Some x) t) e h in
        g.far ∙ rw (labels_cut n s.rest.now (omega (arith, k.0)) k.1)

    pub next : {l : Part} → q ≡ Some l → Walked all t (n + 1) (before ++ (label_of l ∷ []))
    next {l} e =
        let k : GivesRecord s (Some (Some l)) t = subst (λ (x : Option Part). GivesRecord s (Some x) t) e h in
        let r : IsRecord s.rest.now l t.rest.now = k.1 in
        record {
          count = omega (arith, g.count, length-append before (label_of l ∷ []));
          far = g.far ∙ rw (labels_whole n s.rest.now (omega (arith, k.0)) r.whole, r.label, ← r.behind, ← add-one n)
              (onto_more before (label_of l) (labels_from 0 (n + 1) t.rest.now));
          few = omega (arith, g.few, r.shorter);
        }
