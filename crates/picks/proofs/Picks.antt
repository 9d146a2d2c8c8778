-- A pick by its two tests, either way; and what a sound run's counts add up to. Assumes nothing.
use Rattle.std.proofs.Common.{◌≡◌, ℕ, ◌≤◌, true, List, [], ◌∷◌, refl, arith}
use Rattle.label.specs.Outcome.{ok, ◌>>◌, need}
use Rattle.label.specs.Places.{Places}
use Rattle.label.specs.Fetched.{words}
use Rattle.label.specs.Sound.{clusters_of, sound}
use Rattle.label.specs.Pick.{touched, turned, inside}
use Rattle.label.specs.declared.Cluster.{Cluster}
use Rattle.label.proofs.Steps.{glyphs_steps, units_steps}
use Rattle.sound.specs.Sounds.{unit_sum}
use Rattle.sound.proofs.Facts.{few_units, few_glyphs, units_add_up, glyphs_add_up}
use Rattle.picks.specs.declared.Way.{Way}
use Rattle.picks.specs.declared.Way.TheVariants.{ToUnits, ToGlyphs}
use Rattle.picks.specs.Ways.{along, total, pick_along}

pub pick_is : (w : Way) (z : Places) (first end : ℕ) → pick_along w z first end ≡ (need (sound z) 19 0 >> (need (inside first end (total w z)) 22 0
    >> ok (touched first end (along w (clusters_of (words z.clusters))))))
unfolding along
pick_is ToUnits z first end = units_steps z first end
pick_is ToGlyphs z first end = glyphs_steps z first end

turned_twice : (cs : List Cluster) → turned (turned cs) ≡ cs
unfolding turned
turned_twice [] = refl
turned_twice (c ∷ cs) = rw (turned_twice cs)

-- of a sound run, in the order in which `grind` finds it
pub sums : (w : Way) (z : Places) → sound z ≡ true → (total w z ≤ 4096)
    × (unit_sum (turned (along w (clusters_of (words z.clusters)))) ≡ total w z) × (unit_sum (along w (clusters_of (words z.clusters))) ≤ 4096)
unfolding along
sums ToUnits z h =
    let u = units_add_up z.units z.clusters z.glyphs h in
    let g = glyphs_add_up z.units z.clusters z.glyphs h in
    (few_glyphs z.units z.clusters z.glyphs h, g, omega (arith, u, few_units z.units z.clusters z.glyphs h))
sums ToGlyphs z h =
    let u = units_add_up z.units z.clusters z.glyphs h in
    let g = glyphs_add_up z.units z.clusters z.glyphs h in
    (few_units z.units z.clusters z.glyphs h, rw turned_twice u, omega (arith, g, few_glyphs z.units z.clusters z.glyphs h))

-- so what is picked from, and what a pick adds up, is small
pub few : (w : Way) (z : Places) → sound z ≡ true → (total w z ≤ 4096) × (unit_sum (along w (clusters_of (words z.clusters))) ≤ 4096)
few w z h = let s = sums w z h in (s.0, s.2)

pub ruleset picking = (pick_is, sums)
