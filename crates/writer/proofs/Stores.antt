-- The indices as they are stored: an entry behind the separators owed before it, and what is left to store of a walk over the entries. Entries stored with
-- what is owed are those that are kept, joined (`owed_kept`).
-- Assumes nothing.
use mathlib.Core.Path.{◌≡◌, refl, sym, ap, ◌∙◌}
use mathlib.Core.Bool.{true, false, cond, ◌&&◌}
use mathlib.Core.List.{List, [], ◌∷◌, ◌++◌, append-nil, append_assoc}
use Prim.Native.Nat.{ℕ, zero, suc, ◌+◌, ◌-◌, ◌≤◌}
use native.Mathlib.Omega.{arith}
use lib.ListN.{length, replicate}
use lib.IntN.{ℤ}
use Rattle.std.proofs.Common.{map}
use Rattle.label.specs.Bytes.{empty, join_rest, join, trim}
use Rattle.label.specs.Fetched.{words}
use Rattle.label.specs.Places.{places}
use Rattle.label.specs.Sound.{nat, is_font, clusters_of, glyphs_of, run_of, sound}
use Rattle.label.specs.Write.{value_bytes, entry_by, entries_by, indices_by, indices_of}
use Rattle.label.proofs.Values.{normal_writer}
use Rattle.label.proofs.Outputs.{empty_is_font}
use Rattle.label.proofs.Places.{sound_places}
use Rattle.label.proofs.Requests.Escaping.{asked_short}
use Rattle.wire.specs.declared.ClusterNumbers.{ClusterNumbers}
use Rattle.wire.specs.declared.EntryNumbers.{EntryNumbers}
use Rattle.wire.specs.declared.GlyphNumbers.{GlyphNumbers}
use Rattle.wire.specs.Numbers.{as_cluster, as_glyph}
use Rattle.wire.specs.Walks.{clusters_in, glyphs_in, entries_in}
use Rattle.wire.proofs.Walks.{clusters_are, glyphs_are}
use Rattle.writer.specs.Entries.{cluster_of, bytes_of, led, owing}

-- ── the separators ──

-- the bytes of these entries, with n separators owed before the first
unfoldable pub owed : ℕ → List (List ℕ) → List ℕ
owed n [] = []
owed n (x ∷ l) = led n x ++ owed (owing n x) l

-- the same, of entries of which the empty ones at the end are dropped
abbrev kept : ℕ → List (List ℕ) → List ℕ
kept n r = cond (empty r) [] (replicate n 59 ++ join 59 r)

semis_more : (n : ℕ) (w : List ℕ) → replicate (n + 1) 59 ++ w ≡ replicate n 59 ++ (59 ∷ w)
semis_more zero w = refl
semis_more (suc n) w = let e : suc n + 1 ≡ suc (n + 1) = omega arith in rw e (ap (λ (l : List ℕ). 59 ∷ l) (semis_more n w))

kept_step : (n : ℕ) (x : List ℕ) (r : List (List ℕ)) → led n x ++ kept (owing n x) r ≡ kept n (cond (empty x && empty r) [] (x ∷ r))
unfolding led owing join join_rest
kept_step n [] [] = refl
kept_step n [] (y ∷ r) = semis_more n (y ++ join_rest 59 r)
kept_step n (a ∷ x) [] = append-nil (replicate n 59 ++ (a ∷ x)) ∙ ap (λ (w : List ℕ). replicate n 59 ++ w) (sym (append-nil (a ∷ x)))
kept_step n (a ∷ x) (y ∷ r) = append_assoc (replicate n 59) (a ∷ x) (59 ∷ (y ++ join_rest 59 r))

owed_kept : (n : ℕ) (l : List (List ℕ)) → owed n l ≡ kept n (trim l)
unfolding owed trim
owed_kept n [] = refl
owed_kept n (x ∷ l) = ap (λ (w : List ℕ). led n x ++ w) (owed_kept (owing n x) l) ∙ kept_step n x (trim l)

kept_none : (r : List (List ℕ)) → kept 0 r ≡ join 59 r
unfolding join
kept_none [] = refl
kept_none (x ∷ r) = refl

-- an entry that is stored or not, and what is owed behind it
module _ (n : ℕ) (x : EntryNumbers) where
  none_is : empty (bytes_of x) ≡ is_font (as_glyph x.glyph)
  none_is = empty_is_font normal_writer (cluster_of x).units (cluster_of x).glyphs (as_glyph x.glyph)

  pub led_none : is_font (as_glyph x.glyph) ≡ true → [] ≡ led n (bytes_of x)
  unfolding led
  led_none h = rw (none_is, h)

  pub owing_more : is_font (as_glyph x.glyph) ≡ true → n + 1 ≡ owing n (bytes_of x)
  unfolding owing
  owing_more h = rw (none_is, h)

  pub led_some : is_font (as_glyph x.glyph) ≡ false → replicate n 59 ++ bytes_of x ≡ led n (bytes_of x)
  unfolding led
  led_some h = rw (none_is, h)

  pub owing_one : is_font (as_glyph x.glyph) ≡ false → 1 ≡ owing n (bytes_of x)
  unfolding owing
  owing_one h = rw (none_is, h)

-- ── what is left ──

-- the bytes of the entries that a walk has left, with n separators owed
abbrev pub left : ℕ → List EntryNumbers → List ℕ
left n l = owed n (map bytes_of l)

entries_are : (lack : ℕ) (cs : List ClusterNumbers) (gs : List GlyphNumbers)
    → map bytes_of (entries_in lack cs gs) ≡ entries_by value_bytes lack (map as_cluster cs) (map as_glyph gs)
unfolding entries_in entries_by
entries_are lack cs [] = refl
entries_are (suc n) cs (g ∷ gs) = ap (λ l. entry_by value_bytes 1 1 (as_glyph g) ∷ l) (entries_are n cs gs)
entries_are zero [] (g ∷ gs) = refl
entries_are zero (c ∷ cs) (g ∷ gs) =
    ap (λ l. entry_by value_bytes (nat c.units) (nat c.glyphs) (as_glyph g) ∷ l) (entries_are (nat c.glyphs - 1) cs gs)

pub left_all : (s t : List ℤ) → indices_of (clusters_of s) (glyphs_of t) ≡ left 0 (entries_in 0 (clusters_in s) (glyphs_in t))
unfolding indices_by
left_all s t =
    let l = entries_by value_bytes 0 (clusters_of s) (glyphs_of t) in
    sym (ap (owed 0) (entries_are 0 (clusters_in s) (glyphs_in t) ∙ rw (clusters_are s, glyphs_are t)) ∙ owed_kept 0 l ∙ kept_none (trim l))

pub left_next : {l r : List EntryNumbers} {x : EntryNumbers} (n : ℕ) {m : ℕ} → l ≡ x ∷ r → m ≡ owing n (bytes_of x)
    → left n l ≡ led n (bytes_of x) ++ left m r
unfolding owed
left_next n e o = rw (e, o)

pub left_none : {l : List EntryNumbers} (n : ℕ) → l ≡ [] → left n l ≡ []
unfolding owed
left_none n e = rw e

-- ── how many bytes ──

-- the indices of a sound run are short
pub indices_short : (us cs gs : List ℕ) → sound (places us cs gs) ≡ true → length (indices_of (clusters_of (words cs)) (glyphs_of (words gs))) ≤ 262144
indices_short us cs gs h = (asked_short false (run_of (places us cs gs)) (sound_places (places us cs gs) h).run_is).for_indices
