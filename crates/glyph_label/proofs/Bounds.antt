-- The numbers of every answer are below 2^32. Assumes nothing.
use Rattle.label.proofs.Places.{sound_places}
use Rattle.label.specs.Places.{places, Places}
use Rattle.label.proofs.Steps.{check_last, verdict_append, into_steps, write_steps, units_steps, glyphs_steps}
use Rattle.label.specs.declared.Lengths.{Lengths}
use Rattle.label.specs.declared.Counts.{Counts}
use mathlib.Core.Path.{◌≡◌, refl, sym, subst, ◌∙◌}
use mathlib.Core.Logic.{◌⊎◌, inl, inr, ⊎_elim}
use mathlib.Core.Bool.{Bool, true, false}
use mathlib.Core.List.{List, [], ◌∷◌, ◌++◌}
use Prim.Native.Nat.{ℕ, zero, suc, ◌+◌, ◌-◌, ◌*◌, ◌<◌, ◌≤◌}
use native.Mathlib.Omega.{arith}
use borrow.Author.Tests.{leb-false}
use lib.Dec.{leb, ltb}
use lib.ListN.{length}
use Rattle.label.specs.Outcome.{Outcome, ok, no, ◌>>=◌, ◌>>◌, need, Check, check, above, verdict}
use Rattle.label.specs.Bytes.{begins, each, Piece, pieces, each_numbered, from_piece}
use Rattle.label.specs.Run.{Run}
use Rattle.label.specs.Checks.{read}
use Rattle.label.specs.Fetched.{halves, words}
use Rattle.label.specs.Sound.{clusters_of, glyphs_of, run_of, sound}
use Rattle.label.specs.Write.{Label, normal}
use Rattle.label.specs.Pick.{holding, touched, turned, inside, pick_units, pick_glyphs}
use Rattle.label.specs.Calls.{read_into, counted, asked_for, write_asked, lengths}
use Rattle.label.specs.Requests.RoundedCount.{rounded, beside}
use Rattle.label.specs.Requests.Attribute.{is_good, further, raw_check, raw_checks, raw_gives, resolve_checks, resolve_into}
use Rattle.label.specs.Requests.Sheet.{header, is_record, record_check, sheet_records, file_labels, file_checks, answers, sheet_checks, sheet_into}
use Rattle.label.specs.declared.Cluster.{Cluster}
use Rattle.label.specs.declared.Stretch.{Stretch}
use Rattle.label.proofs.Basics.{cases, no_ok}
use Rattle.label.proofs.Sizes.{sound_roomy}
use Rattle.label.proofs.Sound.{read_sound}
use Rattle.label.proofs.Statements.Demands.{into_read}
use Rattle.label.proofs.Requests.RoundedCount.{rounded_most, beside_few}
use Rattle.label.proofs.Refusals.{Placed, fine, refused, need_placed, bind_placed, read_placed}
use Rattle.label.proofs.Requests.Escaping.{asked_short}
use Rattle.sound.specs.Sounds.{unit_sum}
use Rattle.sound.proofs.Facts.{few_units, few_glyphs, units_add_up, glyphs_add_up}
use Rattle.glyph_label.specs.Fits.{Small32, ReadingFits, WritingFits, StretchFits}

-- ── a reading ──

-- a refusal of a reading has a number from 1 to 18
pub reading_placed : (room : Counts) (text indices : List ℕ) → Placed 18 262145 (read_into room text indices)
reading_placed room text indices =
    rw (into_steps room text indices) (bind_placed 18 262145 (read text indices) _ (wider (read_placed text indices))
    (λ r e. let s = sound_roomy r (read_sound text indices r e) in
    need_placed 18 262145 (leb (length r.units) room.units) 16 _ _ (omega arith, omega arith) (omega (arith, s.for_units))
    (λ _. need_placed 18 262145 (leb (length r.clusters) room.clusters) 17 _ _ (omega arith, omega arith) (omega (arith, s.for_clusters))
    (λ _. need_placed 18 262145 (leb (length r.glyphs) room.glyphs) 18 _ _ (omega arith, omega arith) (omega (arith, s.for_glyphs)) (λ _. fine)))))
  where
    wider : {o : Outcome Run} → Placed 15 262145 o → Placed 18 262145 o
    wider fine = fine
    wider (refused a b d) = refused a (omega arith) d

pub reading_fits : (room : Counts) (text indices : List ℕ) → ReadingFits (counted (read_into room text indices))
reading_fits room text indices = of (read_into room text indices) refl (reading_placed room text indices)
  where
    of : (o : Outcome Run) → read_into room text indices ≡ o → Placed 18 262145 o → ReadingFits (counted o)
    of (no n p) e (refused a b d) = (omega arith, omega arith)
    of (ok r) e x =
        let s = sound_roomy r (read_sound text indices r (into_read text indices r room e).0) in
        (omega (arith, s.for_units), omega (arith, s.for_clusters), omega (arith, s.for_glyphs))

-- the count of rounded fields
bind_fits : (n : ℕ) (o : Outcome Run) (f : Run → Outcome Run) → ((r : Run) → o ≡ ok r → Small32 n) → Small32 (beside n (o >>= f))
bind_fits n (ok r) f h = omega (arith, beside_few n (f r), h r refl)
bind_fits n (no i p) f h = omega arith

pub rounded_fits : (room : Counts) (text indices : List ℕ) → Small32 (beside (rounded indices) (read_into room text indices))
rounded_fits room text indices =
    rw (into_steps room text indices) (bind_fits (rounded indices) (read text indices) _ (λ r e. omega (arith, rounded_most text indices r e)))

-- ── a writing ──

-- a refusal of a writing has a number from 1 to 21
pub writing_placed : (e : Bool) (room : Lengths) (z : Places) → Placed 21 262144 (write_asked e room z)
writing_placed e room z =
    let l : Label = asked_for e (normal (run_of z)) in
    rw (write_steps e room z) (need_placed 21 262144 (sound z) 19 0 _ (omega arith, omega arith) (omega arith)
    (λ s. let r = asked_short e (run_of z) (sound_places z s).run_is in
    need_placed 21 262144 (leb (length l.text) room.text) 20 _ _ (omega arith, omega arith) (omega (arith, r.for_text))
    (λ _. need_placed 21 262144 (leb (length l.indices) room.indices) 21 _ _ (omega arith, omega arith) (omega (arith, r.for_indices)) (λ _. fine))))

pub writing_fits : (e : Bool) (room : Lengths) (z : Places) → WritingFits (lengths (write_asked e room z))
writing_fits e room z =
    rw (write_steps e room z)
    (let l : Label = asked_for e (normal (run_of z)) in
    cases (sound z)
    (λ s.
    -- the two lengths of a sound run's writing, escaped or not
    let r = asked_short e (run_of z) (sound_places z s).run_is in
    let a = r.for_text in
    let b = r.for_indices in
    cases (leb (length l.text) room.text)
    (λ p. cases (leb (length l.indices) room.indices) (λ q. rw (s, p, q) (omega arith, omega arith)) (λ q. rw (s, p, q) (omega arith, omega arith)))
    (λ p. rw (s, p) (omega arith, omega arith)))
    (λ s. rw s (omega arith, omega arith)))

-- ── calls that fill one buffer ──

-- a call whose last check is room is refused by one before it, or by the last
last_refusal : {A : Type 0} (cs : List Check) (m room k q : ℕ) (x : A) (n p : ℕ)
    → ◌≡◌ {A = Outcome A} (verdict (cs ++ (check (above m room) k q ∷ [])) >> ok x) (no n p)
    → (verdict cs ≡ no n p) ⊎ ((n ≡ k) × (p ≡ q) × (room < m))
last_refusal {A = A} cs m room k q x n p h = go (verdict cs) (sym (verdict_append cs _ (ok x)) ∙ h)
  where
    last : ◌≡◌ {A = Outcome A} (need (leb m room) k q >> ok x) (no n p) → (n ≡ k) × (p ≡ q) × (room < m)
    last e =
        cases (leb m room)
        (λ t. no_ok n p x (sym (rw t at e)))
        (λ t. let f : ◌≡◌ {A = Outcome A} (no k q) (no n p) = rw t at e in
        let a : n ≡ k = cc in
        let b : p ≡ q = cc in (a, b, leb-false m room t))

    go : (v : Outcome (Unit {0})) → ◌≡◌ {A = Outcome A} (v >> (verdict (check (above m room) k q ∷ []) >> ok x)) (no n p)
        → (v ≡ no n p) ⊎ ((n ≡ k) × (p ≡ q) × (room < m))
    go (ok y) e = inr (last (sym (check_last (leb m room) k q (ok x)) ∙ e))
    go (no i j) e = inl cc

-- checks of number m, whose places are below k
abbrev OneNumber : ℕ → ℕ → Outcome (Unit {0}) → Type 0
OneNumber m k (ok x) = Unit {0}
OneNumber m k (no n p) = (n ≡ m) × (p < k)

-- ── resolving ──

raw_checks_holds : (k : ℕ) (bs : List ℕ) (skip at : ℕ) → at + length bs ≤ k → OneNumber 23 k (verdict (each raw_check (pieces further skip at bs)))
unfolding verdict each pieces
raw_checks_holds k [] skip at h = tt
raw_checks_holds k (b ∷ bs) (suc skip) at h = raw_checks_holds k bs skip (suc at) (omega arith)
raw_checks_holds k (b ∷ bs) zero at h =
    cases (is_good b bs) (λ t. rw t (raw_checks_holds k bs (further b bs) (suc at) (omega arith))) (λ t. rw t (refl, omega arith))

-- a refusal is 23 at a byte of the raw value, or 24 with the bytes needed
pub resolve_refusal : (room : ℕ) (raw : List ℕ) (n p : ℕ) → resolve_into room raw ≡ no n p
    → ((n ≡ 23) × (p < length raw)) ⊎ ((n ≡ 24) × (p ≡ length (raw_gives raw)) × (room < p))
unfolding resolve_into resolve_checks
resolve_refusal room raw n p e =
    ⊎_elim (λ v. inl (subst (OneNumber 23 (length raw)) v (raw_checks_holds (length raw) raw 0 0 (omega arith)))) (λ l. inr (l.0, l.1, omega arith))
    (last_refusal (raw_checks raw) (length (raw_gives raw)) room 24 (length (raw_gives raw)) (raw_gives raw) n p e)

pub resolve_number : (room : ℕ) (raw : List ℕ) (n p : ℕ) → resolve_into room raw ≡ no n p → 1 ≤ n
resolve_number room raw n p e = ⊎_elim (λ x. omega arith) (λ x. omega arith) (resolve_refusal room raw n p e)

-- ── a sheet ──

record_checks : (k : ℕ) (ps : List Piece) (n : ℕ) → n + length ps ≤ k → OneNumber 26 k (verdict (each_numbered record_check n ps))
unfolding verdict each_numbered
record_checks k [] n h = tt
record_checks k (r ∷ ps) n h =
    cases (is_record (from_piece r)) (λ t. rw t (record_checks k ps (suc n) (omega arith))) (λ t. rw t (refl, omega arith))

-- a refusal is 25, or 26 with the number of a record, or 27 with the labels in the file
pub sheet_refusal : (room : ℕ) (file : List ℕ) (n p : ℕ) → sheet_into room file ≡ no n p
    → ((n ≡ 25) × (p ≡ 0)) ⊎ ((n ≡ 26) × (p < length (sheet_records file))) ⊎ ((n ≡ 27) × (p ≡ length (file_labels file)) × (room < 2 * p))
unfolding sheet_into sheet_checks verdict
sheet_refusal room file n p e =
    ⊎_elim first (λ l. inr (inr (l.0, l.1, omega arith)))
    (last_refusal (file_checks file) (2 * length (file_labels file)) room 27 (length (file_labels file)) (answers (file_labels file)) n p e)
  where
    first : verdict (file_checks file) ≡ no n p
        → ((n ≡ 25) × (p ≡ 0)) ⊎ ((n ≡ 26) × (p < length (sheet_records file))) ⊎ ((n ≡ 27) × (p ≡ length (file_labels file)) × (room < 2 * p))
    first v =
        cases (begins header file)
        (λ t. inr (inl (subst (OneNumber 26 (length (sheet_records file))) (rw t at v)
        (record_checks (length (sheet_records file)) (sheet_records file) 0 (omega arith)))))
        (λ t. let f : ◌≡◌ {A = Outcome (Unit {0})} (no 25 0) (no n p) = rw t at v in
        let a : n ≡ 25 = cc in
        let b : p ≡ 0 = cc in inl (a, b))

pub sheet_number : (room : ℕ) (file : List ℕ) (n p : ℕ) → sheet_into room file ≡ no n p → 1 ≤ n
sheet_number room file n p e =
    ⊎_elim (λ x. omega arith) (λ y. ⊎_elim (λ x. omega arith) (λ x. omega arith) y) (sheet_refusal room file n p e)

-- ── a pick ──

holding_below : (cs : List Cluster) (n u : ℕ) → ((holding n u cs).first ≤ u + unit_sum cs) × ((holding n u cs).end ≤ u + unit_sum cs)
unfolding holding unit_sum
holding_below [] n u = (omega arith, omega arith)
holding_below (c ∷ cs) n u =
    let (a, b) = holding_below cs (n - c.glyphs) (u + c.units) in
    cases (ltb n c.glyphs) (λ t. rw t (omega arith, omega arith)) (λ t. rw t (omega arith, omega arith))

touched_fits : (first end : ℕ) (cs : List Cluster) → unit_sum cs ≤ 4096 → StretchFits (ok (touched first end cs))
unfolding touched
touched_fits first end cs h =
    let a = (holding_below cs first 0).0 in
    let b = (holding_below cs (end - 1) 0).1 in
    (omega arith, omega arith)

pick_fits : (s q : Bool) (x : Stretch) → (s ≡ true → StretchFits (ok x)) → StretchFits (need s 19 0 >> (need q 22 0 >> ok x))
pick_fits false q x h = (omega arith, omega arith)
pick_fits true false x h = (omega arith, omega arith)
pick_fits true true x h = h refl

pub units_fits : (us cs gs : List ℕ) (first end : ℕ) → StretchFits (pick_units (places us cs gs) first end)
units_fits us cs gs first end =
    rw (units_steps (places us cs gs) first end)
    (pick_fits (sound (places us cs gs)) (inside first end (length (glyphs_of (words gs)))) (touched first end (clusters_of (words cs)))
    (λ s. touched_fits first end (clusters_of (words cs)) (let e = units_add_up us cs gs s in omega (arith, few_units us cs gs s))))

pub glyphs_fits : (us cs gs : List ℕ) (first end : ℕ) → StretchFits (pick_glyphs (places us cs gs) first end)
glyphs_fits us cs gs first end =
    rw (glyphs_steps (places us cs gs) first end)
    (pick_fits (sound (places us cs gs)) (inside first end (length (halves us))) (touched first end (turned (clusters_of (words cs))))
    (λ s. touched_fits first end (turned (clusters_of (words cs))) (let e = glyphs_add_up us cs gs s in omega (arith, few_glyphs us cs gs s))))
