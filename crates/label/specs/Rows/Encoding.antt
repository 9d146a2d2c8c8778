-- Document 02, CR 5, computed: the edges of UTF-8.
-- Assumes nothing.
use Rattle.std.specs.Prelude.{refl, ◌≡◌, map, [], ◌++◌, ◌∷◌, replicate}
use Rattle.label.specs.Outcome.{ok, no, verdict}
use Rattle.label.specs.Bytes.{each, pieces}
use Rattle.label.specs.Text.{table, row_fits, fitting, starts_char, more_bytes, following, scalar, xml_char, units_of}
use Rattle.label.specs.Steps.{decode}
use Rattle.label.specs.Rows.Types.{grin, pair}

-- the first and the last character of each row of Table 3-7; U+0000 and U+FFFF are well-formed, but no XML characters, so U+FFFD stands here as well
pub row_ends : (decode 0 0 (0x00 ∷ []) ≡ no 3 0) × (decode 0 0 (0x7f ∷ []) ≡ ok (0x7f ∷ []))
    × (decode 0 0 (0xc2 ∷ 0x80 ∷ []) ≡ ok (0x80 ∷ [])) × (decode 0 0 (0xdf ∷ 0xbf ∷ []) ≡ ok (0x7ff ∷ []))
    × (decode 0 0 (0xe0 ∷ 0xa0 ∷ 0x80 ∷ []) ≡ ok (0x800 ∷ [])) × (decode 0 0 (0xe0 ∷ 0xbf ∷ 0xbf ∷ []) ≡ ok (0xfff ∷ []))
    × (decode 0 0 (0xe1 ∷ 0x80 ∷ 0x80 ∷ []) ≡ ok (0x1000 ∷ [])) × (decode 0 0 (0xec ∷ 0xbf ∷ 0xbf ∷ []) ≡ ok (0xcfff ∷ []))
    × (decode 0 0 (0xed ∷ 0x80 ∷ 0x80 ∷ []) ≡ ok (0xd000 ∷ [])) × (decode 0 0 (0xed ∷ 0x9f ∷ 0xbf ∷ []) ≡ ok (0xd7ff ∷ []))
    × (decode 0 0 (0xee ∷ 0x80 ∷ 0x80 ∷ []) ≡ ok (0xe000 ∷ [])) × (decode 0 0 (0xef ∷ 0xbf ∷ 0xbd ∷ []) ≡ ok (0xfffd ∷ []))
    × (decode 0 0 (0xef ∷ 0xbf ∷ 0xbf ∷ []) ≡ no 3 0) × (decode 0 0 (0xf0 ∷ 0x90 ∷ 0x80 ∷ 0x80 ∷ []) ≡ ok (0xd800 ∷ 0xdc00 ∷ []))
    × (decode 0 0 (0xf0 ∷ 0xbf ∷ 0xbf ∷ 0xbf ∷ []) ≡ ok (0xd8bf ∷ 0xdfff ∷ [])) × (decode 0 0 (0xf1 ∷ 0x80 ∷ 0x80 ∷ 0x80 ∷ []) ≡ ok (0xd8c0 ∷ 0xdc00 ∷ []))
    × (decode 0 0 (0xf3 ∷ 0xbf ∷ 0xbf ∷ 0xbf ∷ []) ≡ ok (0xdbbf ∷ 0xdfff ∷ [])) × (decode 0 0 (0xf4 ∷ 0x80 ∷ 0x80 ∷ 0x80 ∷ []) ≡ ok (0xdbc0 ∷ 0xdc00 ∷ []))
    × (decode 0 0 (0xf4 ∷ 0x8f ∷ 0xbf ∷ 0xbf ∷ []) ≡ ok (0xdbff ∷ 0xdfff ∷ []))
unfolding table row_fits fitting starts_char more_bytes following scalar xml_char units_of decode each pieces verdict
row_ends = (refl, refl, refl, refl, refl, refl, refl, refl, refl, refl, refl, refl, refl, refl, refl, refl, refl, refl, refl)

-- no well-formed character starts: the second byte just below or just above its row's range, a first or a later byte outside its range, a byte not there
pub row_neighbours : map (λ s. decode 0 0 s)
    ((0xc1 ∷ 0xbf ∷ []) ∷ (0xe0 ∷ 0x9f ∷ 0xbf ∷ []) ∷ (0xed ∷ 0xa0 ∷ 0x80 ∷ []) ∷ (0xf0 ∷ 0x8f ∷ 0xbf ∷ 0xbf ∷ [])
    ∷ (0xf4 ∷ 0x90 ∷ 0x80 ∷ 0x80 ∷ []) ∷ (0x80 ∷ []) ∷ (0xf5 ∷ 0x80 ∷ 0x80 ∷ 0x80 ∷ []) ∷ (0xdf ∷ 0x7f ∷ [])
    ∷ (0xdf ∷ 0xc0 ∷ []) ∷ (0xe1 ∷ 0x7f ∷ 0x80 ∷ []) ∷ (0xec ∷ 0xc0 ∷ 0x80 ∷ []) ∷ (0xee ∷ 0x7f ∷ 0x80 ∷ [])
    ∷ (0xef ∷ 0xc0 ∷ 0x80 ∷ []) ∷ (0xf1 ∷ 0x7f ∷ 0x80 ∷ 0x80 ∷ []) ∷ (0xf3 ∷ 0xc0 ∷ 0x80 ∷ 0x80 ∷ []) ∷ (0xe1 ∷ 0x80 ∷ 0x7f ∷ [])
    ∷ (0xe1 ∷ 0x80 ∷ 0xc0 ∷ []) ∷ (0xf1 ∷ 0x80 ∷ 0x80 ∷ 0x7f ∷ []) ∷ (0xf1 ∷ 0x80 ∷ 0xc0 ∷ 0x80 ∷ []) ∷ (0xe0 ∷ 0xc0 ∷ 0x80 ∷ [])
    ∷ (0xed ∷ 0x7f ∷ 0x80 ∷ []) ∷ (0xf0 ∷ 0xc0 ∷ 0x80 ∷ 0x80 ∷ []) ∷ (0xf4 ∷ 0x7f ∷ 0x80 ∷ 0x80 ∷ []) ∷ (0xdf ∷ [])
    ∷ (0xe1 ∷ 0x80 ∷ []) ∷ (0xf1 ∷ 0x80 ∷ 0x80 ∷ []) ∷ [])
    ≡ replicate 26 (no 2 0)
unfolding table row_fits fitting starts_char more_bytes following scalar xml_char units_of decode each pieces verdict
row_neighbours = refl

-- a place counts bytes: behind `a` a character that is cut by `A`; behind é a character that may not stand; behind A, é, € and U+1F600 a byte that starts none
pub row_places : (decode 0 0 (0x61 ∷ 0xe1 ∷ 0x80 ∷ 0x41 ∷ []) ≡ no 2 1) × (decode 0 0 (0xc3 ∷ 0xa9 ∷ 0x01 ∷ []) ≡ no 3 2)
    × (decode 0 0 (0x41 ∷ 0xc3 ∷ 0xa9 ∷ 0xe2 ∷ 0x82 ∷ 0xac ∷ grin) ≡ ok (0x41 ∷ 0xe9 ∷ 0x20ac ∷ pair))
    × (decode 0 0 (0x41 ∷ 0xc3 ∷ 0xa9 ∷ 0xe2 ∷ 0x82 ∷ 0xac ∷ grin ++ (0xff ∷ [])) ≡ no 2 10)
unfolding table row_fits fitting starts_char more_bytes following scalar xml_char units_of decode each pieces verdict
row_places = (refl, refl, refl, refl)
