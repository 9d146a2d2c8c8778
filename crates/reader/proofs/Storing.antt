-- A run's parts stored one by one: storing what is left at the place that is reached gives what storing the whole where it begins gives (`Storing`).
-- Clusters and glyphs are laid out alike (`Flattens`).
-- Assumes nothing.
use Rattle.std.proofs.Common.{◌≡◌, refl, sym, ap, ◌∙◌, true, List, [], ◌∷◌, ◌++◌, ℕ, suc, ◌+◌, ◌*◌, ◌/◌, ◌≤◌, ◌<◌, arith, length, add-one, length-append}
use native.Mathlib.Nat.{mul-zero, mul-suc, zero-add}
use lib.Seq.{sets, sets-eq, length-sets}
use Rattle.label.specs.Run.{Parts, add_glyph}
use Rattle.label.specs.Wire.{from_words}
use Rattle.label.specs.Places.{flat_clusters, flat_glyphs}
use Rattle.label.specs.Calls.{filled}
use Rattle.label.specs.declared.Cluster.{Cluster}
use Rattle.label.specs.declared.Glyph.{Glyph}
use Rattle.octets.proofs.Puts.{sets_append}
use Rattle.wire.specs.Stores.{glyph_places}
use Rattle.reader.specs.Stores.{cluster_bytes, glyph_bytes, cluster_places}

-- ── clusters and glyphs alike: things as bytes, w of them each ──

record Flattens {A : Type 0} (flat : List A → List ℕ) (one : A → List ℕ) (w : ℕ) : Type 0 where
  nil : flat [] ≡ []
  cons : (x : A) (xs : List A) → flat (x ∷ xs) ≡ one x ++ flat xs
  long : (x : A) → length (one x) ≡ w

clusters_flatten : Flattens cluster_bytes cluster_places 8
unfolding flat_clusters from_words cluster_bytes cluster_places
clusters_flatten = record { nil = refl; cons = λ c cs. refl; long = λ c. refl }

glyphs_flatten : Flattens glyph_bytes glyph_places 16
unfolding flat_glyphs from_words glyph_bytes glyph_places
glyphs_flatten = record { nil = refl; cons = λ g gs. refl; long = λ g. refl }

module _ {A : Type 0} (flat : List A → List ℕ) (one : A → List ℕ) (w : ℕ) (f : Flattens flat one w) where
  flat_length : (xs : List A) → length (flat xs) ≡ w * length xs
  flat_length [] = ap length f.nil ∙ sym (mul-zero w)
  flat_length (x ∷ xs) =
      let e : length (one x ++ flat xs) ≡ length (one x) + length (flat xs) = length-append (one x) (flat xs) in
      let l : length (one x) ≡ w = f.long x in
      let r : length (flat xs) ≡ w * length xs = flat_length xs in
      let s : w * suc (length xs) ≡ w * length xs + w = mul-suc w (length xs) in
      ap length (f.cons x xs) ∙ omega arith

  -- one thing of those to store from thing number c on
  one_stored : (x : A) (xs : List A) (out out' whole : List ℕ) (c : ℕ) → out' ≡ sets out (w * c) (one x) → sets out (w * c) (flat (x ∷ xs)) ≡ whole
      → sets out' (w * (c + 1)) (flat xs) ≡ whole
  one_stored x xs out out' whole c e q =
      let p : w * (c + 1) ≡ w * c + length (one x) = rw (add-one c, mul-suc w c, f.long x) in
      rw (e, p) (sets_append (one x) (flat xs) out (w * c) ∙ ap (sets out (w * c)) (sym (f.cons x xs)) ∙ q)

  -- stored from the start on, as far as there is room
  all_stored : (xs : List A) (out : List ℕ) → w * length xs ≤ length out → sets out 0 (flat xs) ≡ filled (flat xs) out
  all_stored xs out h = rw zero-add at (sets-eq (flat xs) out 0 (omega (arith, flat_length xs)))

-- ── what is still to store ──

-- the parts p are still to store, from cluster n and glyph k on: there is room for them, and with them the buffers cs and gs hold cw and gw
pub record Storing (cw gw : List ℕ) (p : Parts) (cs gs : List ℕ) (n k : ℕ) : Type 0 where
  pub clusters_room : 8 * (n + length p.clusters) ≤ length cs
  pub glyphs_room : 16 * (k + length p.glyphs) ≤ length gs
  pub clusters : sets cs (8 * n) (cluster_bytes p.clusters) ≡ cw
  pub glyphs : sets gs (16 * k) (glyph_bytes p.glyphs) ≡ gw

-- where nothing is left
pub storing_end : {cw gw cs gs : List ℕ} {n k : ℕ} → Storing cw gw (record { clusters = []; glyphs = [] }) cs gs n k → (cs ≡ cw) × (gs ≡ gw)
storing_end s = (rw clusters_flatten.nil at s.clusters, rw glyphs_flatten.nil at s.glyphs)

module _ {cw gw cs gs : List ℕ} {n k : ℕ} {g : Glyph} {p : Parts} where
  -- a cluster and its first glyph
  module _ {c : Cluster} (s : Storing cw gw (add_glyph true c g p) cs gs n k) where
    pub opened_room : (n < length cs / 8) × (k < length gs / 16)
    opened_room = (omega (arith, s.clusters_room), omega (arith, s.glyphs_room))

    pub storing_opened : {cs' gs' : List ℕ} → cs' ≡ sets cs (8 * n) (cluster_places c) → gs' ≡ sets gs (16 * k) (glyph_places g)
        → Storing cw gw p cs' gs' (n + 1) (k + 1)
    storing_opened {cs'} {gs'} ec eg =
        let a : length cs' ≡ length cs = ap length ec ∙ length-sets cs (8 * n) (cluster_places c) in
        let b : length gs' ≡ length gs = ap length eg ∙ length-sets gs (16 * k) (glyph_places g) in
        record {
          clusters_room = omega (arith, s.clusters_room);
          glyphs_room = omega (arith, s.glyphs_room);
          clusters = one_stored cluster_bytes cluster_places 8 clusters_flatten c p.clusters cs cs' cw n ec s.clusters;
          glyphs = one_stored glyph_bytes glyph_places 16 glyphs_flatten g p.glyphs gs gs' gw k eg s.glyphs;
        }

  -- a further glyph
  module _ (s : Storing cw gw (record { clusters = p.clusters; glyphs = g ∷ p.glyphs }) cs gs n k) where
    pub added_room : k < length gs / 16
    added_room = omega (arith, s.glyphs_room)

    pub storing_added : {gs' : List ℕ} → gs' ≡ sets gs (16 * k) (glyph_places g) → Storing cw gw p cs gs' n (k + 1)
    storing_added {gs'} eg =
        let b : length gs' ≡ length gs = ap length eg ∙ length-sets gs (16 * k) (glyph_places g) in
        record {
          clusters_room = s.clusters_room;
          glyphs_room = omega (arith, s.glyphs_room);
          clusters = s.clusters;
          glyphs = one_stored glyph_bytes glyph_places 16 glyphs_flatten g p.glyphs gs gs' gw k eg s.glyphs;
        }

-- ── a whole run ──

pub clusters_all : (cs : List Cluster) (out : List ℕ) → 8 * length cs ≤ length out → sets out 0 (cluster_bytes cs) ≡ filled (cluster_bytes cs) out
clusters_all cs out h = all_stored cluster_bytes cluster_places 8 clusters_flatten cs out h

pub glyphs_all : (gs : List Glyph) (out : List ℕ) → 16 * length gs ≤ length out → sets out 0 (glyph_bytes gs) ≡ filled (glyph_bytes gs) out
glyphs_all gs out h = all_stored glyph_bytes glyph_places 16 glyphs_flatten gs out h
