-- The count of rounded fields: at most three an entry; a number is exact exactly where the value that it reads as is its exact value; and what a
-- writer writes has no rounded field.
-- Assumes nothing.
use Prim.Native.Nat.{ℕ, suc, ◌+◌, ◌*◌, ◌%◌, ◌/◌, ◌^◌, ◌≤◌, ◌<◌}
use native.Mathlib.Omega.{arith}
use native.Mathlib.Nat.{mul-mod_left, div-add-mod', one-le-pow}
use mathlib.Core.Path.{◌≡◌, sym, ◌∙◌, ap, subst}
use mathlib.Core.Bool.{Bool, true, false, cond, ◌&&◌, ◌||◌}
use mathlib.Core.List.{List, [], ◌∷◌}
use borrow.Author.Tests.{eq-eqb, ne_eqb, eqb-true, eqb-false, leb-true}
use lib.Dec.{eqb, lit<}
use lib.ListN.{length}
use Rattle.label.specs.Limits.{max_glyphs}
use Rattle.label.specs.Outcome.{Outcome, ok, no}
use Rattle.label.specs.Bytes.{empty, trim}
use Rattle.label.specs.Entry.{unsigned, nearest, scaled, entry_part, entries}
use Rattle.label.specs.Run.{Run, Parts, cluster, add_glyph, State, start_state, opens, takes, next}
use Rattle.label.specs.Checks.{read}
use Rattle.label.specs.Steps.{walk}
use Rattle.label.specs.Sound.{fits, sound_run}
use Rattle.label.specs.Write.{entries_by, indices_by, written_label}
use Rattle.label.specs.Requests.RoundedCount.{is_whole, is_exact, rounded_field, rounded_entry, rounded_entries, rounded, beside}
use Rattle.label.specs.declared.Cluster.{Cluster}
use Rattle.label.specs.declared.Glyph.{Glyph}
use Rattle.label.proofs.Basics.{cases}
use Rattle.label.proofs.Splits.{split_length, trim_nil, trim_gone, trim_kept}
use Rattle.label.proofs.Values.{nearest_exact, Writer}
use Rattle.label.proofs.Entry.{entry_exact}
use Rattle.label.proofs.Run.{Walked, walk_ok, entries_joined, Each, written_each, written_semi}
use Rattle.label.proofs.Sound.{WasRead, read_ok, sound_parts}

-- ── how many there can be ──

field_few : (s : List ℕ) → rounded_field s ≤ 1
unfolding rounded_field
field_few s = go (empty s || is_exact (unsigned s))
  where
    go : (b : Bool) → cond b 0 1 ≤ 1
    go true = omega arith
    go false = omega arith

entry_few : (s : List ℕ) → rounded_entry s ≤ 3
unfolding rounded_entry
entry_few s = omega (arith, field_few (entry_part 1 s), field_few (entry_part 2 s), field_few (entry_part 3 s))

entries_few : (ss : List (List ℕ)) → rounded_entries ss ≤ 3 * length ss
unfolding rounded_entries
entries_few [] = omega arith
entries_few (s ∷ ss) = omega (arith, entry_few s, entries_few ss)

pub entries_length : (s : List ℕ) → length (entries s) ≤ suc (length s)
unfolding entries
entries_length [] = omega arith
entries_length (b ∷ s) = split_length 59 (b ∷ s)

-- of any indices
pub rounded_few : (s : List ℕ) → rounded s ≤ 3 * suc (length s)
unfolding rounded
rounded_few s = omega (arith, entries_few (entries s), entries_length s)

pub beside_few : {A : Type 0} (n : ℕ) (o : Outcome A) → beside n o ≤ n
beside_few n (ok a) = omega arith
beside_few n (no i p) = omega arith

-- each entry of an accepted label has a glyph of its own
walk_glyphs : (ss : List (List ℕ)) (bare : Bool) (st : State) (p : Parts) → walk bare st ss ≡ ok p → length ss ≤ length p.glyphs
walk_glyphs [] bare st p h = omega arith
walk_glyphs (s ∷ ss) bare st p h =
    let x : Walked bare st s ss p = walk_ok bare st s ss p h in
    let r : length ss ≤ length x.others.glyphs = walk_glyphs ss bare (next bare st x.first) x.others x.walked in
    subst (λ (q : Parts). suc (length ss) ≤ length q.glyphs) x.is
    (go (opens st) (cluster (takes bare st x.first) x.first.glyphs) x.first.glyph x.others r)
  where
    go : (o : Bool) (c : Cluster) (g : Glyph) (q : Parts) → length ss ≤ length q.glyphs → suc (length ss) ≤ length (add_glyph o c g q).glyphs
    go true c g q r = omega arith
    go false c g q r = omega arith

-- of an accepted label: three for each of its glyphs
pub rounded_most : (text indices : List ℕ) (r : Run) → read text indices ≡ ok r → rounded indices ≤ 3 * max_glyphs
unfolding rounded
rounded_most text indices r h =
    let w : WasRead text indices r = read_ok text indices r h in
    omega (
      arith,
      entries_few (entries indices),
      walk_glyphs (entries indices) (empty w.us) (start_state w.us) w.made w.walked,
      leb-true (length w.made.glyphs) 4096 w.fifteenth,
    )

-- ── what it says ──

-- a / b leaves no remainder exactly where it is the whole number that it is rounded to
whole_nearest : (a b : ℕ) → 0 < b → eqb (a % b) 0 ≡ eqb (nearest a b * b) a
whole_nearest a b h =
    cases (eqb (a % b) 0)
    (λ t. let e : a ≡ a / b * b = sym (div-add-mod' a b) ∙ rw (eqb-true (a % b) 0 t) (omega arith) in
    t ∙ sym (eq-eqb (nearest a b * b) a (ap (λ (n : ℕ). n * b) (nearest_exact a b (a / b) h e) ∙ sym e)))
    (λ t. t ∙ sym (ne_eqb (nearest a b * b) a (λ e. eqb-false (a % b) 0 t (ap (λ (n : ℕ). n % b) (sym e) ∙ mul-mod_left (nearest a b) b))))

-- a number is exact exactly where m × 10^(e − f) × 1000 is the value that it reads as
pub whole_reads : (m f : ℕ) (down : Bool) (e : ℕ)
    → is_whole m f down e ≡ cond down (eqb (scaled m f down e * 10 ^ (f + e)) (m * 10 ^ 3)) (eqb (scaled m f down e * 10 ^ f) (m * 10 ^ (e + 3)))
unfolding is_whole scaled
whole_reads m f true e = whole_nearest (m * 10 ^ 3) (10 ^ (f + e)) (one-le-pow (f + e) 10 (lit< tt))
whole_reads m f false e = whole_nearest (m * 10 ^ (e + 3)) (10 ^ f) (one-le-pow f 10 (lit< tt))

-- ── a writing ──

exact_trim : (l : List (List ℕ)) → Each (λ s. rounded_entry s ≡ 0) l → rounded_entries (trim l) ≡ 0
unfolding rounded_entries
exact_trim [] e = rw trim_nil
exact_trim (x ∷ xs) e =
    cases (empty x && empty (trim xs))
    (λ t. rw (trim_gone x xs t))
    (λ t. rw (trim_kept x xs t, e.0, exact_trim xs e.1))

-- what a writer writes is no finer than thousandths: reading it again rounds nothing
pub written_exact : {w : ℕ → List ℕ} (y : Writer w) (r : Run) → sound_run r ≡ true → rounded (written_label w r).indices ≡ 0
unfolding rounded indices_by
written_exact {w} y r h =
    let f : fits (empty r.units) 0 r.units r.clusters r.glyphs ≡ true = (sound_parts r h).fit in
    rw (entries_joined (entries_by w 0 r.clusters r.glyphs) (written_semi y r.glyphs (empty r.units) r.clusters r.units 0 f))
    (exact_trim (entries_by w 0 r.clusters r.glyphs) (written_each w (λ s. rounded_entry s ≡ 0) (entry_exact y) r.glyphs (empty r.units) r.clusters
    r.units 0 f))
