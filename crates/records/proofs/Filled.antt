-- A list of records of which the first are stored, and the others as they were. Assumes nothing.
use Rattle.std.proofs.Common.{◌≡◌, ℕ, zero, suc, ◌+◌, ◌<◌, ◌≤◌, List, [], ◌∷◌, ◌++◌, length, take, drop, map, set, arith, IsTrue, ap, refl, le_refl, ◌∙◌, length-drop}
use Rattle.std.proofs.lemmas.List.{length-map, take_all, set-get_or}
use Rattle.label.specs.Calls.{filled}
use Rattle.label.specs.declared.Glyph.{Glyph}
use Rattle.wire.specs.Numbers.{as_glyph}
use Rattle.wire.specs.declared.GlyphNumbers.{GlyphNumbers}

module _ (all : List GlyphNumbers) (k : ℕ) (g : GlyphNumbers) (rest : List GlyphNumbers) (e : drop k all ≡ g ∷ rest) where
  -- a glyph is left
  pub one_left : k < length all
  one_left = let n : length (drop k all) ≡ suc (length rest) = ap length e in omega (arith, length-drop k all, n)

-- it is stored
stored : (old : List Glyph) (all : List GlyphNumbers) (k : ℕ) (g : GlyphNumbers) (rest : List GlyphNumbers) → drop k all ≡ g ∷ rest → k < length old
    → k < length all → set (take k (map as_glyph all) ++ drop k old) k (as_glyph g) ≡ take (k + 1) (map as_glyph all) ++ drop (k + 1) old
stored [] all k g rest e h l = absurd (omega arith)
stored (o ∷ old) [] k g rest e h l = absurd (omega arith)
stored (o ∷ old) (a ∷ all) zero g rest e h l = cc
stored (o ∷ old) (a ∷ all) (suc k) g rest e h l =
    let n : suc k + 1 ≡ suc (k + 1) = omega arith in rw (n, stored old all k g rest e (omega arith) (omega arith))

pub stores : (old : List Glyph) (all : List GlyphNumbers) (k : ℕ) (g : GlyphNumbers) (rest : List GlyphNumbers) → drop k all ≡ g ∷ rest → k < length old
    → set (take k (map as_glyph all) ++ drop k old) k (as_glyph g) ≡ take (k + 1) (map as_glyph all) ++ drop (k + 1) old
stores old all k g rest e h = stored old all k g rest e h (one_left all k g rest e)

-- and the others behind it are left
behind_it : (all : List GlyphNumbers) (k : ℕ) (g : GlyphNumbers) (rest : List GlyphNumbers) → drop k all ≡ g ∷ rest → k < length all → rest ≡ drop (k + 1) all
behind_it [] k g rest e l = absurd (omega arith)
behind_it (a ∷ all) zero g rest e l = cc
behind_it (a ∷ all) (suc k) g rest e l = let n : suc k + 1 ≡ suc (k + 1) = omega arith in rw n (behind_it all k g rest e (omega arith))

pub behind : (all : List GlyphNumbers) (k : ℕ) (g : GlyphNumbers) (rest : List GlyphNumbers) → drop k all ≡ g ∷ rest → rest ≡ drop (k + 1) all
behind all k g rest e = behind_it all k g rest e (one_left all k g rest e)

-- none is left
pub none_left : (all : List GlyphNumbers) (k : ℕ) → drop k all ≡ [] → length all ≤ k
none_left all k e = let n : length (drop k all) ≡ 0 = ap length e in omega (arith, length-drop k all, n)

-- all are stored
pub over : (old : List Glyph) (all : List GlyphNumbers) (k : ℕ) → length all ≤ k → k ≤ length all
    → take k (map as_glyph all) ++ drop k old ≡ filled (map as_glyph all) old
over old all k h l =
    let n : k ≡ length (map as_glyph all) = omega (arith, length-map all as_glyph) in
    rw (n, take_all (length (map as_glyph all)) (map as_glyph all) (le_refl _))

pub ruleset fills = (one_left, stores, behind, none_left, over, set-get_or, length-drop)
