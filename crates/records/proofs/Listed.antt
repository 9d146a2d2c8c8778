-- Of a sound run each glyph is within its limits; and a listing by its two tests. Assumes nothing.
use Rattle.std.proofs.Common.{◌≡◌, ℕ, zero, suc, ◌-◌, Bool, true, List, [], ◌∷◌, drop, map, refl, IsTrue}
use Rattle.std.proofs.lemmas.Bool.{false≢true}
use Rattle.label.specs.Bytes.{empty}
use Rattle.label.specs.Fetched.{halves, words}
use Rattle.label.specs.Places.{places}
use Rattle.label.specs.Sound.{clusters_of, fits, run_of, sound}
use Rattle.label.specs.declared.Cluster.{Cluster}
use Rattle.label.proofs.Places.{sound_places}
use Rattle.label.proofs.Run.{fits_further, fits_opening}
use Rattle.label.proofs.Sound.{sound_parts}
use Rattle.label.proofs.Steps.{list_steps}
use Rattle.records.specs.Records.{all_fit}
use Rattle.wire.specs.Numbers.{as_glyph}
use Rattle.wire.specs.Walks.{glyphs_in}
use Rattle.wire.specs.declared.GlyphNumbers.{GlyphNumbers}
use Rattle.wire.proofs.Walks.{glyphs_are, glyphs_in_length}

fits_all : (b : Bool) (lack : ℕ) (us : List ℕ) (cs : List Cluster) (gs : List GlyphNumbers) → fits b lack us cs (map as_glyph gs) ≡ true → IsTrue (all_fit gs)
unfolding fits all_fit
fits_all b lack us cs [] h = refl
fits_all b (suc n) us cs (g ∷ gs) h =
    let f = fits_further b n us cs (as_glyph g) (map as_glyph gs) h in
    rw (f.small, fits_all b n us cs gs f.rest)
fits_all b zero us [] (g ∷ gs) h = absurd (false≢true h)
fits_all b zero us (c ∷ cs) (g ∷ gs) h =
    let f = fits_opening b us c cs (as_glyph g) (map as_glyph gs) h in
    rw (f.small, fits_all b (c.glyphs - 1) (drop c.units us) cs gs f.rest)

pub all_fit_is : (us cs gs : List ℕ) → sound (places us cs gs) ≡ true → IsTrue (all_fit (glyphs_in (words gs)))
all_fit_is us cs gs h =
    let z = places us cs gs in
    fits_all (empty (halves us)) 0 (halves us) (clusters_of (words cs)) (glyphs_in (words gs))
    (rw (glyphs_are (words gs)) (sound_parts (run_of z) (sound_places z h).run_is).fit)

pub ruleset listing = (list_steps, all_fit_is, glyphs_are, glyphs_in_length)
