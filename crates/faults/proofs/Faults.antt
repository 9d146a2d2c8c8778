-- The part that a fault shows: where an entry ends, entry k by a walk over the entries (`part_from`), and that the part lies inside its owner.
-- Assumes nothing.
use Prim.Native.Nat.{ℕ, suc, ◌+◌, ◌-◌, ◌≤◌, ◌<◌}
use native.Mathlib.Omega.{arith}
use native.Mathlib.Nat.{zero-add, add-zero}
use mathlib.Core.Path.{◌≡◌, refl, sym, ◌∙◌, ap, subst}
use mathlib.Core.Bool.{Bool, true, false, cond, not, ◌&&◌}
use mathlib.Core.List.{List, [], ◌∷◌}
use borrow.Author.Tests.{lt-ltb, le-ltb, ltb-true, ltb-false, le-leb, lt-leb}
use lib.Dec.{ltb, leb}
use lib.ListN.{length, get_or, drop, length-drop}
use lib.Seq.{drop-drop}
use Rattle.std.proofs.Common.{Option, Some, None, position, unwrap_or, le_antisymm, le_refl, one-add, add-one}
use Rattle.std.specs.List.{position_or_len, between}
use Rattle.std.proofs.lemmas.Slice.{between_to_end}
use Rattle.std.proofs.lemmas.List.Sums.{prefix_len-le-length}
use Rattle.label.specs.Bytes.{cut, on_before, split}
use Rattle.label.specs.Entry.{entries}
use Rattle.label.specs.Fault.{of_text, of_entry, entry_start, portion, of_source, fault_part}
use Rattle.label.specs.declared.Source.{Source}
use Rattle.label.specs.declared.Source.TheVariants.{Text, Indices}
use Rattle.label.specs.declared.Part.{Part}
use Rattle.label.proofs.Basics.{cases, and_r}
use Rattle.entry.specs.Items.{is_semi, here}
use Rattle.faults.specs.Faults.{entry_shown}
use Rattle.entry.proofs.Results.{split_here}
use Rattle.faults.proofs.Standing.{entry_stands}

-- ── where an entry ends ──

counted : (s : List ℕ) → length (here s) ≡ position_or_len is_semi s
unfolding cut
counted [] = refl
counted (b ∷ s) = by (is_semi b) (counted s)
  where
    by : (t : Bool) → length (here s) ≡ position_or_len is_semi s
        → length (cond t (record { before = []; found = true; after = s }) (on_before b (cut is_semi s))).before
        ≡ cond (not t) (1 + position_or_len is_semi s) 0
    by true h = refl
    by false h = rw one-add (ap suc h)

-- the entry in front ends at the first `;`, behind which stand the others, or with the list
abbrev pub Ends : List ℕ → Option ℕ → Type 0
Ends s (Some j) = (j ≡ length (here s)) × (j < length s) × (split 59 s ≡ here s ∷ split 59 (drop (j + 1) s))
Ends s None = split 59 s ≡ here s ∷ []

pub ends : (s : List ℕ) (o : Option ℕ) → o ≡ position is_semi s → Ends s o
ends s o e =
    let p = position_or_len is_semi s in
    let n : length (here s) ≡ p = counted s in
    rw e
    (cases (ltb p (length s))
    (λ k. rw k (
      sym n,
      ltb-true p (length s) k,
      split_here s ∙ rw (n, le-leb (suc p) (length s) (omega (arith, ltb-true p (length s) k)), add-one p) refl,
    ))
    (λ k. rw k (split_here s ∙ rw (n, lt-leb (suc p) (length s) (omega (arith, ltb-false p (length s) k))) refl)))

-- so its length is the place that was found, or else the list's
pub length_here : (s : List ℕ) → unwrap_or (position is_semi s) (length s) ≡ length (here s)
length_here s =
    cases (ltb (position_or_len is_semi s) (length s))
    (λ k. rw k (sym (counted s)))
    (λ k. rw k (le_antisymm (ltb-false _ _ k) (prefix_len-le-length _ s) ∙ sym (counted s)))

-- ── entry k, by a walk over the entries ──

abbrev part_in : List (List ℕ) → ℕ → ℕ → Option Part
part_in es i k = cond (ltb k (length es)) (Some (portion Indices (i + entry_start es k) (length (get_or es k [])))) None

-- entry number r of those from place i on
unfoldable pub part_from : List ℕ → ℕ → ℕ → Option Part
part_from s i r = part_in (split 59 (drop i s)) i r

-- no bytes are no entries
pub from_nothing : (s : List ℕ) (k : ℕ) → length s ≡ 0 → None ≡ entry_shown s k
unfolding entry_shown entries
from_nothing [] k h = rw (le-ltb k 0 (omega arith))
from_nothing (b ∷ s) k h = absurd (omega (arith, h))

pub from_start : (s : List ℕ) (k : ℕ) → 0 < length s → entry_shown s k ≡ part_from s 0 (k - 0)
unfolding entry_shown part_from entries
from_start [] k h = absurd (omega (arith, h))
from_start (b ∷ s) k h =
    let e : k - 0 ≡ k = omega arith in
    rw (e, zero-add (entry_start (split 59 (b ∷ s)) k))

-- passing an entry
in_next : (h : List ℕ) (es : List (List ℕ)) (i r : ℕ) → part_in (h ∷ es) i (suc r) ≡ part_in es (i + length h + 1) r
unfolding entry_start
in_next h es i r =
    let e : i + (length h + 1 + entry_start es r) ≡ i + length h + 1 + entry_start es r = omega arith in
    cases (ltb r (length es))
    (λ t. rw (t, lt-ltb (suc r) (suc (length es)) (omega (arith, ltb-true r (length es) t)), e))
    (λ t. rw (t, le-ltb (suc r) (suc (length es)) (omega (arith, ltb-false r (length es) t))))

-- what stands from place i on, after n entries of those that are passed
module _ (s : List ℕ) (i : ℕ) (hi : i ≤ length s) (k n : ℕ) where
  rest_is : between i (length s) s ≡ drop i s
  rest_is = between_to_end s i (length s) (le_refl (length s))

  found : (o : Option ℕ) → o ≡ position is_semi (between i (length s) s) → Ends (drop i s) o
  found o e = ends (drop i s) o (e ∙ ap (position is_semi) rest_is)

  -- an entry is passed
  pub passes : n < k → (j : ℕ) → Some j ≡ position is_semi (between i (length s) s)
      → (i + (j + 1) ≤ length s) × (part_from s i (k - n) ≡ part_from s (i + (j + 1)) (k - (n + 1)))
  unfolding part_from
  passes h j e =
      let (l, f, p) = found (Some j) e in
      let b : j < length s - i = rw length-drop at f in
      let a : i + length (here (drop i s)) + 1 ≡ i + (j + 1) = omega arith in
      let q : k - n ≡ suc (k - (n + 1)) = omega arith in
      (omega arith, rw (q, p, drop-drop (j + 1) i s) (in_next (here (drop i s)) (split 59 (drop (i + (j + 1)) s)) i (k - (n + 1)) ∙ rw a refl))

  -- it is the last one, as no `;` is left
  pub last : n < k → None ≡ position is_semi (between i (length s) s) → None ≡ part_from s i (k - n)
  unfolding part_from
  last h e =
      let q : 1 ≤ k - n = omega arith in
      rw (found None e, le-ltb (k - n) 1 q)

  -- it is the one that is asked for
  pub asked : k ≤ n → (l : ℕ) → l ≡ length (here (between i (length s) s)) → Some (portion Indices i l) ≡ part_from s i (k - n)
  unfolding part_from entry_start
  asked h l e =
      let z : k - n ≡ 0 = omega arith in
      let r = cond (leb (suc (length (here (drop i s)))) (length (drop i s))) (split 59 (drop (suc (length (here (drop i s)))) (drop i s))) [] in
      rw (z, split_here (drop i s), e, rest_is, lt-ltb 0 (suc (length r)) (omega arith), add-zero i)

-- ── it is inside its owner ──

part_inside : (t s : List ℕ) (n p : ℕ) → (fault_part t s n p).start + (fault_part t s n p).length ≤ length (of_source t s (fault_part t s n p).source)
unfolding fault_part
part_inside t s n p =
    cases (of_text n && ltb p (length t))
    (λ a. let l : p < length t = ltb-true p (length t) (and_r (of_text n) (ltb p (length t)) a) in rw a (omega arith))
    (λ a. cases (of_entry n && ltb p (length (entries s)))
    (λ b. let l : p < length (entries s) = ltb-true p (length (entries s)) (and_r (of_entry n) (ltb p (length (entries s))) b) in rw (a, b)
    (entry_stands s p l).0)
    (λ b. rw (a, b) (omega arith)))

-- the part as the code found it
module _ (t s : List ℕ) (n p : ℕ) (x : Part) (e : x ≡ fault_part t s n p) where
  inside : x.start + x.length ≤ length (of_source t s x.source)
  inside = subst (λ (y : Part). y.start + y.length ≤ length (of_source t s y.source)) (sym e) (part_inside t s n p)

  pub in_indices : x.source ≡ Indices → x.start + x.length ≤ length s
  in_indices h = rw h at inside

  pub in_text : x.source ≡ Text → x.start + x.length ≤ length t
  in_text h = rw h at inside

  pub part_below : (m : ℕ) → length t < m → length s < m → x.start + x.length < m
  part_below m a b = go x.source refl
    where
      go : (o : Source) → x.source ≡ o → x.start + x.length < m
      go Text h = omega (arith, in_text h)
      go Indices h = omega (arith, in_indices h)
