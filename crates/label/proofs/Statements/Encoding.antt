-- The record of specs/Statements/Encoding.antt: by the law of each row, the rising first bytes, and that the shortest UTF-8 is `utf8`.
-- Assumes nothing.
use Prim.Native.Nat.{ℕ, zero, suc, ◌+◌, ◌≤◌}
use native.Mathlib.Omega.{arith}
use mathlib.Core.Path.{◌≡◌, refl, sym, ◌∙◌, ap}
use mathlib.Core.Logic.{◌↔◌}
use mathlib.Core.Bool.{true, not}
use mathlib.Core.List.{List, [], ◌∷◌, ◌++◌}
use lib.ListN.{length, drop}
use Rattle.label.specs.Outcome.{Outcome, ok, no, ◌>>◌, need}
use Rattle.label.specs.Bytes.{empty}
use Rattle.label.specs.Text.{Row, table, fitting, starts_char, following, code_point, xml_char, units_of}
use Rattle.label.specs.Steps.{decode}
use Rattle.label.specs.Write.{utf8}
use Rattle.label.specs.Statements.Encoding.{is_scalar, Shortest, Starts, StartsScalar, FitsAt, OfItsCodes, Each, Encoding}
use Rattle.label.proofs.Basics.{no_ok, cases}
use Rattle.label.proofs.Steps.{decode_none, decode_inside, decode_char}
use Rattle.label.proofs.Cursors.{onto}
use Rattle.label.proofs.Text.{decode_start}
use Rattle.label.proofs.Utf8.{rising, fits_some, some_fits, one_number, utf8_shortest, shortest_is, scalar_most, Law, laws, find, coded, scalar_of, read_at}

-- the UTF-8 of a scalar value is its shortest, and there is no other
shortest : (c : ℕ) → is_scalar c ≡ true → Shortest c (utf8 c)
shortest c h = utf8_shortest c (omega (arith, scalar_most c h))

starts_here : (c : ℕ) (s rest : List ℕ) → is_scalar c ≡ true → s ≡ utf8 c ++ rest → Starts c s
starts_here c s rest h e = record { bytes = utf8 c; behind = rest; shortest = shortest c h; is = e }

is_utf8 : (c : ℕ) (s : List ℕ) (x : Starts c s) → s ≡ utf8 c ++ x.behind
is_utf8 c s x = x.is ∙ ap (λ (u : List ℕ). u ++ x.behind) (shortest_is c x.bytes x.shortest)

nine : length table ≡ 9
unfolding table
nine = refl

-- where some row fits
fits_scalar : (s : List ℕ) → not (empty (fitting table s)) ≡ true → StartsScalar s
fits_scalar s h = let (c, rest, k, e) = scalar_of table laws s h in (c, k, starts_here c s rest k e)

exactly : (s : List ℕ) → ((i : ℕ) × FitsAt table i s) ↔ StartsScalar s
exactly s = (
  λ (i, f). fits_scalar s (fits_some table i s f),
  λ (c, k, x). let (r, f, n) = find table 0 laws rising c x.behind (coded c k) in
      some_fits table s (rw (is_utf8 c s x, f)),
)

of_codes : (rs : List Row) → Each Law rs → Each OfItsCodes rs
of_codes [] ls = tt
of_codes (r ∷ rs) ls = (
  λ s. (
    λ h. let (c, rest, w, e) = ls.0.here s h in (c, w, starts_here c s rest (ls.0.scalars c w) e),
    λ (c, w, x). rw (is_utf8 c s x) (ls.0.there c x.behind w),
  ),
  of_codes rs ls.1,
)

-- a refusal is at this place or behind it
abbrev From : ℕ → Outcome (List ℕ) → Type 0
From at (ok us) = Unit {0}
From at (no n p) = at ≤ p

from_before : (at : ℕ) (o : Outcome (List ℕ)) → From (suc at) o → From at o
from_before at (ok us) h = tt
from_before at (no n p) h = omega arith

from_onto : (at : ℕ) (us : List ℕ) (o : Outcome (List ℕ)) → From at o → From at (onto us o)
from_onto at us (ok vs) h = tt
from_onto at us (no n p) h = h

decode_from : (s : List ℕ) (skip at : ℕ) → From at (decode skip at s)
decode_from [] skip at = rw (decode_none skip at) tt
decode_from (b ∷ bs) (suc skip) at = rw (decode_inside skip at b bs) (from_before at (decode skip (suc at) bs) (decode_from bs skip (suc at)))
decode_from (b ∷ bs) zero at =
    rw (decode_char at b bs)
    (cases (starts_char b bs)
    (λ t. cases (xml_char (code_point b bs))
    (λ x. let o = decode (following b bs) (suc at) bs in
    rw (t, x) (from_onto at (units_of (code_point b bs)) o (from_before at o (decode_from bs (following b bs) (suc at)))))
    (λ x. rw (t, x) (omega arith)))
    (λ t. rw t (omega arith)))

-- 2 at a place is given by the character there alone
not_two : (at b : ℕ) (bs : List ℕ) → starts_char b bs ≡ true → decode 0 at (b ∷ bs) ≡ no 2 at → ⊥
not_two at b bs t h =
    let k = sym (decode_char at b bs) ∙ h in
    cases (xml_char (code_point b bs))
    (λ x. behind (decode (following b bs) (suc at) bs) (decode_from bs (following b bs) (suc at)) (rw (t, x) at k))
    (λ x. let e : ◌≡◌ {A = Outcome (List ℕ)} (no 3 at) (no 2 at) = rw (t, x) at k in
    let z : ◌≡◌ {A = ℕ} 3 2 = cc in absurd (omega (arith, z)))
  where
    behind : (o : Outcome (List ℕ)) → From (suc at) o → onto (units_of (code_point b bs)) o ≡ no 2 at → ⊥
    behind (ok us) f e = no_ok 2 at _ (sym e)
    behind (no n p) f e = let z : p ≡ at = cc in omega (arith, f, z)

starts_scalar : (b : ℕ) (bs : List ℕ) → (starts_char b bs ≡ true) ↔ StartsScalar (b ∷ bs)
unfolding starts_char
starts_scalar b bs = (
  λ t. fits_scalar (b ∷ bs) t,
  λ (c, k, x). (read_at c b bs x.behind k (is_utf8 c (b ∷ bs) x)).start,
)

two : (at b : ℕ) (bs : List ℕ) → (decode 0 at (b ∷ bs) ≡ no 2 at) ↔ (StartsScalar (b ∷ bs) → ⊥)
two at b bs = (
  λ h x. not_two at b bs ((starts_scalar b bs).1 x) h,
  λ n. cases (starts_char b bs) (λ t. absurd (n ((starts_scalar b bs).0 t))) (λ t. decode_char at b bs ∙ rw t),
)

reads : (at : ℕ) (s : List ℕ) (c : ℕ) (x : Starts c s) → is_scalar c ≡ true
    → decode 0 at s ≡ (need (xml_char c) 3 at >> onto (units_of c) (decode 0 (at + length x.bytes) x.behind))
reads at s c x k =
    decode_start c at s x.behind k (is_utf8 c s x)
    ∙ ap (λ (n : ℕ). need (xml_char c) 3 at >> onto (units_of c) (decode 0 (at + n) x.behind)) (ap length (sym (shortest_is c x.bytes x.shortest)))

pub encoding : Encoding
encoding =
    record {
      nine = nine;
      one = λ s place i j f g. one_number table 0 (drop place s) i j rising f g;
      exactly = λ s place. exactly (drop place s);
      codes = of_codes table laws;
      two = two;
      reads = reads;
      writes = shortest;
    }
