-- Numbers go to bytes and back: a number is the sum of its bytes, by division and remainder.
-- Assumes nothing.
use Prim.Native.Nat.{ℕ, zero, suc, ◌+◌, ◌*◌, ◌-◌, ◌/◌, ◌%◌, ◌≤◌, ◌<◌}
use native.Mathlib.Omega.{arith}
use native.Mathlib.Nat.{div-div-eq-div-mul}
use mathlib.Core.Path.{◌≡◌, refl}
use mathlib.Core.Bool.{Bool, true, ◌&&◌, false≢true}
use mathlib.Core.List.{List, [], ◌∷◌, ◌++◌}
use borrow.Author.Tests.{ltb-true, lt-ltb, le-ltb, leb-true}
use lib.Dec.{ltb, leb}
use lib.IntN.{ℤ, pos, negsuc}
use lib.ListN.{length, drop}
use lib.Signed.{mag}
use Rattle.label.specs.Wire.{from_halves, bits_of, from_words}
use Rattle.label.specs.Fetched.{halves, signed, words, even_bytes, word_bytes}
use Rattle.label.specs.Places.{index_number, advance_number, flat_clusters, flat_glyphs}
use Rattle.label.specs.Sound.{size, index_fits, advance_fits, glyph_fits, fits}
use Rattle.label.specs.Statements.Demands.{unit_counts, glyph_counts, all_bytes}
use Rattle.label.specs.declared.Index.{Index}
use Rattle.label.specs.declared.Index.TheVariants.{Named, Font}
use Rattle.label.specs.declared.Advance.{Advance}
use Rattle.label.specs.declared.Advance.TheVariants.{Given, Own}
use Rattle.label.specs.declared.Glyph.{Glyph}
use Rattle.label.specs.declared.Cluster.{Cluster}
use Rattle.label.proofs.Basics.{and_l, and_r, cases, clash}
use Rattle.label.proofs.Run.{Further, fits_further, Opening, fits_opening}
use Rattle.label.proofs.Parts.{sum}

pub length_halves : (us : List ℕ) → length (from_halves us) ≡ 2 * length us
unfolding from_halves
length_halves [] = refl
length_halves (u ∷ us) = omega (arith, length_halves us)

pub length_words : (zs : List ℤ) → length (from_words zs) ≡ 4 * length zs
unfolding from_words
length_words [] = refl
length_words (z ∷ zs) = omega (arith, length_words zs)

pub words_append : (xs ys : List ℤ) → from_words (xs ++ ys) ≡ from_words xs ++ from_words ys
unfolding from_words
words_append [] ys = refl
words_append (x ∷ xs) ys = rw (words_append xs ys)

pub halves_back : (us : List ℕ) → halves (from_halves us) ≡ us
unfolding halves from_halves
halves_back [] = refl
halves_back (u ∷ us) = let e : u % 256 + 256 * (u / 256) ≡ u = omega arith in rw (e, halves_back us)

pub halves_even : (us : List ℕ) → even_bytes (from_halves us) ≡ true
unfolding even_bytes from_halves
halves_even [] = refl
halves_even (u ∷ us) = halves_even us

abbrev pub in32 : ℤ → Bool
in32 (pos n) = ltb n 2147483648
in32 (negsuc n) = ltb n 2147483648

abbrev pub all32 : List ℤ → Bool
all32 [] = true
all32 (z ∷ zs) = in32 z && all32 zs

-- the bound that the machine's numbers have
pub in32_below : (z : ℤ) → in32 z ≡ true → mag z < 2147483648
in32_below (pos n) h = ltb-true n 2147483648 h
in32_below (negsuc n) h = ltb-true n 2147483648 h

signed_back : (z : ℤ) → in32 z ≡ true → signed (bits_of z) ≡ z
unfolding signed
signed_back (pos n) h = rw (lt-ltb n 2147483648 (ltb-true n 2147483648 h))
signed_back (negsuc n) h =
    let l : n < 2147483648 = ltb-true n 2147483648 h in
    let e : 4294967295 - (4294967295 - n) ≡ n = omega arith in
    rw (le-ltb (4294967295 - n) 2147483648 (omega arith), e)

pub four_bytes_holds : (n : ℕ) → n % 256 + 256 * (n / 256 % 256) + 65536 * (n / 65536 % 256) + 16777216 * (n / 16777216) ≡ n
four_bytes_holds n = omega (arith, div-div-eq-div-mul n 256 256, div-div-eq-div-mul n 65536 256)

pub words_back : (zs : List ℤ) → all32 zs ≡ true → words (from_words zs) ≡ zs
unfolding words from_words
words_back [] h = refl
words_back (z ∷ zs) h =
    rw (four_bytes_holds (bits_of z), signed_back z (and_l (in32 z) (all32 zs) h), words_back zs (and_r (in32 z) (all32 zs) h))

-- ── the bytes of a run ──

-- a number by its low byte and the rest
pub cells : (a b : ℕ) → a < 256 → ((a + 256 * b) % 256 ≡ a) × ((a + 256 * b) / 256 ≡ b)
cells a b l = (omega arith, omega arith)

pub halves_forth : (s : List ℕ) → all_bytes s ≡ true → even_bytes s ≡ true → from_halves (halves s) ≡ s
unfolding all_bytes even_bytes halves from_halves
halves_forth [] h e = refl
halves_forth (a ∷ []) h e = absurd (false≢true e)
halves_forth (a ∷ b ∷ s) h e =
    let (p, q) = cells a b (ltb-true a 256 (and_l (ltb a 256) (ltb b 256 && all_bytes s) h)) in
    rw (p, q, halves_forth s (and_r (ltb b 256) (all_bytes s) (and_r (ltb a 256) (ltb b 256 && all_bytes s) h)) e)

signed_forth : (n : ℕ) → n < 4294967296 → bits_of (signed n) ≡ n
unfolding signed
signed_forth n l = cases (ltb n 2147483648) (λ h. rw h) (λ h. let e : 4294967295 - (4294967295 - n) ≡ n = omega arith in rw (h, e))

pub record Four (a b c d n : ℕ) : Type 0 where
  pub p : n % 256 ≡ a
  pub q : n / 256 % 256 ≡ b
  pub r : n / 65536 % 256 ≡ c
  pub s : n / 16777216 ≡ d

-- a number by its four bytes
pub four : (a b c d : ℕ) → a < 256 → b < 256 → c < 256 → Four a b c d (a + 256 * b + 65536 * c + 16777216 * d)
four a b c d i j k = record { p = omega arith; q = omega arith; r = omega arith; s = omega arith }

pub words_forth : (s : List ℕ) → all_bytes s ≡ true → word_bytes s ≡ true → from_words (words s) ≡ s
unfolding all_bytes word_bytes words from_words
words_forth [] h e = refl
words_forth (a ∷ []) h e = absurd (false≢true e)
words_forth (a ∷ b ∷ []) h e = absurd (false≢true e)
words_forth (a ∷ b ∷ c ∷ []) h e = absurd (false≢true e)
words_forth (a ∷ b ∷ c ∷ d ∷ s) h e =
    let h1 = and_r (ltb a 256) (ltb b 256 && (ltb c 256 && (ltb d 256 && all_bytes s))) h in
    let h2 = and_r (ltb b 256) (ltb c 256 && (ltb d 256 && all_bytes s)) h1 in
    let h3 = and_r (ltb c 256) (ltb d 256 && all_bytes s) h2 in
    let la : a < 256 = ltb-true a 256 (and_l (ltb a 256) (ltb b 256 && (ltb c 256 && (ltb d 256 && all_bytes s))) h) in
    let lb : b < 256 = ltb-true b 256 (and_l (ltb b 256) (ltb c 256 && (ltb d 256 && all_bytes s)) h1) in
    let lc : c < 256 = ltb-true c 256 (and_l (ltb c 256) (ltb d 256 && all_bytes s) h2) in
    let ld : d < 256 = ltb-true d 256 (and_l (ltb d 256) (all_bytes s) h3) in
    let f : Four a b c d (a + 256 * b + 65536 * c + 16777216 * d) = four a b c d la lb lc in
    let g : bits_of (signed (a + 256 * b + 65536 * c + 16777216 * d)) ≡ a + 256 * b + 65536 * c + 16777216 * d = signed_forth
    (a + 256 * b + 65536 * c + 16777216 * d) (omega arith) in
    rw (g, f.p, f.q, f.r, f.s, words_forth s (and_r (ltb d 256) (all_bytes s) h3) e)

pub words_whole : (zs : List ℤ) → word_bytes (from_words zs) ≡ true
unfolding word_bytes from_words
words_whole [] = refl
words_whole (z ∷ zs) = words_whole zs

-- a sound run's numbers have 32 bits
index_32 : (i : Index) → index_fits i ≡ true → in32 (index_number i) ≡ true
index_32 (Named n) h = let l : n ≤ 65535 = leb-true n 65535 h in lt-ltb n 2147483648 (omega arith)
index_32 Font h = refl

advance_32 : (i : Advance) → advance_fits i ≡ true → in32 (advance_number i) ≡ true
advance_32 (Given n) h = let l : n ≤ 1000000000 = leb-true n 1000000000 h in lt-ltb n 2147483648 (omega arith)
advance_32 Own h = refl

offset_32 : (z : ℤ) → leb (size z) 1000000000 ≡ true → in32 z ≡ true
offset_32 (pos n) h = let l : n ≤ 1000000000 = leb-true n 1000000000 h in lt-ltb n 2147483648 (omega arith)
offset_32 (negsuc n) h = let l : suc n ≤ 1000000000 = leb-true (suc n) 1000000000 h in lt-ltb n 2147483648 (omega arith)

glyph_32 : (g : Glyph) (zs : List ℤ) → glyph_fits g ≡ true → all32 zs ≡ true
    → all32 (index_number g.index ∷ advance_number g.advance ∷ g.u ∷ g.v ∷ zs) ≡ true
glyph_32 g zs h k =
    let i = index_fits g.index in
    let a = advance_fits g.advance in
    let u = leb (size g.u) 1000000000 in
    let v = leb (size g.v) 1000000000 in
    let h1 = and_l (i && a && u) v h in
    let h2 = and_l (i && a) u h1 in
    rw (
      index_32 g.index (and_l i a h2),
      advance_32 g.advance (and_r i a h2),
      offset_32 g.u (and_r (i && a) u h1),
      offset_32 g.v (and_r (i && a && u) v h),
      k,
    )

pub glyphs_32 : (gs : List Glyph) (bare : Bool) (lack : ℕ) (us : List ℕ) (cs : List Cluster) → fits bare lack us cs gs ≡ true → all32 (flat_glyphs gs) ≡ true
unfolding flat_glyphs
glyphs_32 [] bare lack us cs h = refl
glyphs_32 (g ∷ gs) bare (suc n) us cs h =
    let f : Further bare n us cs g gs = fits_further bare n us cs g gs h in glyph_32 g (flat_glyphs gs) f.small (glyphs_32 gs bare n us cs f.rest)
glyphs_32 (g ∷ gs) bare zero us [] h = clash (fits bare zero us [] (g ∷ gs)) h (unfold fits in refl)
glyphs_32 (g ∷ gs) bare zero us (c ∷ cs) h =
    let f : Opening bare us c cs g gs = fits_opening bare us c cs g gs h in
    glyph_32 g (flat_glyphs gs) f.small (glyphs_32 gs bare (c.glyphs - 1) (drop c.units us) cs f.rest)

pub clusters_32 : (cs : List Cluster) → sum (unit_counts cs) ≤ 4096 → sum (glyph_counts cs) ≤ 4096 → all32 (flat_clusters cs) ≡ true
unfolding flat_clusters
clusters_32 [] h k = refl
clusters_32 (c ∷ cs) h k =
    rw (lt-ltb c.units 2147483648 (omega arith), lt-ltb c.glyphs 2147483648 (omega arith)) (clusters_32 cs (omega arith) (omega arith))
