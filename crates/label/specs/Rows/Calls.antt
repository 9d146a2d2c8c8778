-- Edges of the calls, computed: soundness and writing, picks, faults, the list of records, buffers.
-- Assumes nothing.
use Rattle.std.specs.Prelude.{refl, ◌≡◌, List, map, [], ◌++◌, ◌∷◌, negsuc, pos, replicate}
use Rattle.label.specs.Outcome.{ok, no, verdict}
use Rattle.label.specs.Bytes.{ascii, split, cut, all_digits, value_from, join_rest, join, trim, decimal_from, decimal, each, pieces}
use Rattle.label.specs.Text.{table, row_fits, fitting, starts_char, more_bytes, following, scalar, xml_char, units_of}
use Rattle.label.specs.Entry.{unsigned, is_decimals, is_number, mantissa_digits, fraction_digits, exponent_digits, nearest, scaled, thousandths, number_fits, is_index_part, index_digits, map_units, map_glyphs, is_advance, is_offset, well_formed, field_fits, index_of, advance_of, offset_of, entry_of, entries}
use Rattle.label.specs.Run.{font_glyph, tail, walk_parts, said_run}
use Rattle.label.specs.Checks.{text_checks, entry_checks, place_checks, walk_checks, run_checks, label_checks, read}
use Rattle.label.specs.Wire.{from_halves, from_words}
use Rattle.label.specs.Fetched.{halves, signed, words, even_bytes, word_bytes}
use Rattle.label.specs.Places.{flat_clusters, flat_glyphs, Places, places}
use Rattle.label.specs.Sound.{whole_clusters, whole_glyphs, clusters_of, glyphs_of, proper_units, all_font, fits, sound_run, sound}
use Rattle.label.specs.Write.{utf8, unit_bytes, units_bytes, text_of, fraction, value_bytes, advance_by, offset_by, map_bytes, index_bytes, entry_by, entries_by, indices_by}
use Rattle.label.specs.Pick.{stretch, holding, touched, turned, pick_checks, pick_units, pick_glyphs}
use Rattle.label.specs.Fault.{entry_start, portion, fault_part}
use Rattle.label.specs.Calls.{filled_count, read_checks, read_into, counted, units_after, clusters_after, glyphs_after, write_checks, write_asked, write_into, lengths, list_checks, list_into}
use Rattle.label.specs.Relabel.{relabel_read}
use Rattle.label.specs.declared.Source.TheVariants.{Text, Indices}
use Rattle.label.specs.Rows.Types.{grin, handed, sizes, plain, font, pair, label, Writes, writes, Picked, picked, Shown, shown, buffers, glyph_bytes, cluster_bytes}

-- ── writings ──

-- units ABCD in clusters 1:1, 2:3, 1:1
abbrev four : Places
four = handed (ascii "ABCD") (pos 1 ∷ pos 1 ∷ pos 2 ∷ pos 3 ∷ pos 1 ∷ pos 1 ∷ []) (plain 5 (plain 6 (plain 7 (plain 8 (font [])))))

-- "run handed in is not sound" (19), and normal writings
unfoldable pub writings : List Writes
writings =
    writes four (label (ascii "ABCD") (ascii "5;(2:3)6;7;8")) ∷
    -- an index or an advance below −1, an index above its limit, an offset above its limit
    writes (handed (ascii "A") (pos 1 ∷ pos 1 ∷ []) (negsuc 1 ∷ negsuc 0 ∷ pos 0 ∷ pos 0 ∷ [])) (no 19 0) ∷
    writes (handed (ascii "A") (pos 1 ∷ pos 1 ∷ []) (pos 5 ∷ negsuc 1 ∷ pos 0 ∷ pos 0 ∷ [])) (no 19 0) ∷
    writes (handed (ascii "A") (pos 1 ∷ pos 1 ∷ []) (plain 65_536 [])) (no 19 0) ∷
    writes (handed (ascii "A") (pos 1 ∷ pos 1 ∷ []) (pos 5 ∷ negsuc 0 ∷ negsuc 1_000_000_000 ∷ pos 0 ∷ [])) (no 19 0) ∷
    writes (handed (ascii "A") (pos 1 ∷ pos 1 ∷ []) (pos 5 ∷ negsuc 0 ∷ negsuc 999_999_999 ∷ pos 0 ∷ [])) (label (ascii "A") (ascii "5,,-1000000")) ∷
    -- 0:1 among units, and without any; nothing at all
    writes (handed (ascii "A") (pos 0 ∷ pos 1 ∷ pos 1 ∷ pos 1 ∷ []) (plain 5 (plain 6 []))) (no 19 0) ∷
    writes (handed [] (pos 0 ∷ pos 1 ∷ []) (plain 5 [])) (label [] (ascii "5")) ∷
    writes (handed [] (pos 0 ∷ pos 1 ∷ []) (font [])) (no 19 0) ∷
    writes (handed [] [] []) (no 19 0) ∷
    -- a font's index in a cluster 2:1 over two plain units, opening and inside a cluster 1:2, and in a cluster 1:1 with an advance
    writes (handed (ascii "AB") (pos 2 ∷ pos 1 ∷ []) (font [])) (no 19 0) ∷
    writes (handed (ascii "A") (pos 1 ∷ pos 2 ∷ []) (font (plain 5 []))) (no 19 0) ∷
    writes (handed (ascii "A") (pos 1 ∷ pos 2 ∷ []) (plain 5 (font []))) (no 19 0) ∷
    writes (handed (ascii "A") (pos 1 ∷ pos 1 ∷ []) (negsuc 0 ∷ pos 0 ∷ pos 0 ∷ pos 0 ∷ [])) (label (ascii "A") (ascii ",0")) ∷
    -- a lone half, a pair that a cluster splits, a pair
    writes (handed (0xd83d ∷ []) (pos 1 ∷ pos 1 ∷ []) (plain 5 [])) (no 19 0) ∷
    writes (handed pair (pos 1 ∷ pos 1 ∷ pos 1 ∷ pos 1 ∷ []) (plain 5 (plain 6 []))) (no 19 0) ∷
    writes (handed pair (pos 2 ∷ pos 1 ∷ []) (plain 5 [])) (label grin (ascii "(2)5")) ∷
    -- a pair of the tail: alone, behind a named glyph, before other clusters wholly the font's
    writes (handed pair (pos 2 ∷ pos 1 ∷ []) (font [])) (label grin []) ∷
    writes (handed (65 ∷ pair) (pos 1 ∷ pos 1 ∷ pos 2 ∷ pos 1 ∷ []) (plain 5 (font []))) (label (65 ∷ grin) (ascii "5")) ∷
    writes (handed (pair ++ (65 ∷ pair)) (pos 2 ∷ pos 1 ∷ pos 1 ∷ pos 1 ∷ pos 2 ∷ pos 1 ∷ []) (font (font (font [])))) (label (grin ++ (65 ∷ grin)) []) ∷
    -- it is not sound before a named glyph, right behind it or not, before an advance or an offset, with an advance or an offset of its own
    writes (handed (pair ++ (65 ∷ [])) (pos 2 ∷ pos 1 ∷ pos 1 ∷ pos 1 ∷ []) (font (plain 5 []))) (no 19 0) ∷
    writes (handed (pair ++ (65 ∷ 66 ∷ [])) (pos 2 ∷ pos 1 ∷ pos 1 ∷ pos 1 ∷ pos 1 ∷ pos 1 ∷ []) (font (plain 5 (font [])))) (no 19 0) ∷
    writes (handed (pair ++ (65 ∷ [])) (pos 2 ∷ pos 1 ∷ pos 1 ∷ pos 1 ∷ []) (font (negsuc 0 ∷ pos 7 ∷ pos 0 ∷ pos 0 ∷ []))) (no 19 0) ∷
    writes (handed (pair ++ (65 ∷ 66 ∷ [])) (pos 2 ∷ pos 1 ∷ pos 1 ∷ pos 1 ∷ pos 1 ∷ pos 1 ∷ [])
    (font (font (negsuc 0 ∷ negsuc 0 ∷ pos 0 ∷ negsuc 0 ∷ [])))) (no 19 0) ∷
    writes (handed pair (pos 2 ∷ pos 1 ∷ []) (negsuc 0 ∷ pos 0 ∷ pos 0 ∷ pos 0 ∷ [])) (no 19 0) ∷
    writes (handed pair (pos 2 ∷ pos 1 ∷ []) (negsuc 0 ∷ negsuc 0 ∷ pos 1 ∷ pos 0 ∷ [])) (no 19 0) ∷
    -- nor are clusters wholly the font's of other counts: 2:2, 3:1, 4:1 over two pairs, 1:1 at a pair
    writes (handed pair (pos 2 ∷ pos 2 ∷ []) (font (font []))) (no 19 0) ∷
    writes (handed (65 ∷ pair) (pos 3 ∷ pos 1 ∷ []) (font [])) (no 19 0) ∷
    writes (handed (pair ++ pair) (pos 4 ∷ pos 1 ∷ []) (font [])) (no 19 0) ∷
    writes (handed pair (pos 1 ∷ pos 1 ∷ pos 1 ∷ pos 1 ∷ []) (font (font []))) (no 19 0) ∷
    -- half a cluster, units left over, glyphs left over
    writes (handed (ascii "A") (pos 1 ∷ pos 1 ∷ pos 1 ∷ []) (plain 5 [])) (no 19 0) ∷
    writes (handed (ascii "AB") (pos 1 ∷ pos 1 ∷ []) (plain 5 [])) (no 19 0) ∷
    writes (handed (ascii "A") (pos 1 ∷ pos 1 ∷ []) (plain 5 (plain 6 []))) (no 19 0) ∷
    []

-- ── picks in the run above: of glyphs, and of units ──

-- "the stretch of units of all clusters touched; another goes from units to glyphs"; "pick empty, reversed or past the end" (22)
unfoldable pub picks : List Picked
picks =
    picked 0 1 (ok (stretch 0 1)) (ok (stretch 0 1)) ∷
    picked 2 3 (ok (stretch 1 3)) (ok (stretch 1 4)) ∷
    picked 1 2 (ok (stretch 1 3)) (ok (stretch 1 4)) ∷
    picked 0 2 (ok (stretch 0 3)) (ok (stretch 0 4)) ∷
    picked 3 5 (ok (stretch 1 4)) (no 22 0) ∷
    picked 3 4 (ok (stretch 1 3)) (ok (stretch 4 5)) ∷
    picked 0 5 (ok (stretch 0 4)) (no 22 0) ∷
    picked 0 6 (no 22 0) (no 22 0) ∷
    picked 1 1 (no 22 0) (no 22 0) ∷
    picked 2 1 (no 22 0) (no 22 0) ∷
    []

-- ── faults of the text `{a` and the indices `(1:2)5;` ──

-- "the text from that place on", "the entry", "the empty start of the text"
unfoldable pub faults : List Shown
faults =
    -- 2 to 4 show the text from the place on; its length is past the last
    shown 2 1 (portion Text 1 1) ∷ shown 4 0 (portion Text 0 2) ∷ shown 3 2 (portion Text 0 0) ∷
    -- 7 to 12 and 14 show an entry, an empty one at its own start; the count of entries is past the last
    shown 7 0 (portion Indices 0 6) ∷ shown 11 1 (portion Indices 7 0) ∷ shown 14 0 (portion Indices 0 6) ∷ shown 12 2 (portion Text 0 0) ∷
    -- any other number
    shown 1 0 (portion Text 0 0) ∷ shown 5 0 (portion Text 0 0) ∷ shown 6 0 (portion Text 0 0) ∷
    shown 13 1 (portion Text 0 0) ∷ shown 15 0 (portion Text 0 0) ∷
    []

-- each run is written, each stretch picked and each fault shown as its row says
pub calls_agree : (map (λ (w : Writes). write_into (sizes 99 99) w.run) writings ≡ map (λ (w : Writes). w.answer) writings)
    × (map (λ (p : Picked). pick_units four p.first p.end) picks ≡ map (λ (p : Picked). p.units) picks)
    × (map (λ (p : Picked). pick_glyphs four p.first p.end) picks ≡ map (λ (p : Picked). p.glyphs) picks)
    × (map (λ (s : Shown). fault_part (ascii "{a") (ascii "(1:2)5;") s.number s.place) faults ≡ map (λ (s : Shown). s.shows) faults)
unfolding writings picks faults ascii whole_clusters whole_glyphs clusters_of glyphs_of proper_units all_font fits sound_run sound xml_char split join join_rest
    trim decimal_from decimal utf8 unit_bytes units_bytes text_of fraction value_bytes advance_by offset_by map_bytes index_bytes entry_by entries_by indices_by
    write_asked holding touched turned pick_units pick_glyphs entry_start fault_part entries from_halves from_words halves words signed even_bytes word_bytes
    pick_checks verdict write_checks
calls_agree = (refl, refl, refl, refl)

-- an unsound run is 19 even where the stretch is bad; without units a good stretch gives 0 to 0
pub edge_picks : (pick_units (handed (ascii "A") [] []) 1 1 ≡ no 19 0) × (pick_units (handed [] (pos 0 ∷ pos 1 ∷ []) (plain 5 [])) 0 1 ≡ ok (stretch 0 0))
    × (pick_glyphs (handed [] (pos 0 ∷ pos 1 ∷ []) (plain 5 [])) 0 1 ≡ no 22 0)
    -- a pair of the tail is picked whole
    × (pick_units (handed (65 ∷ pair) (pos 1 ∷ pos 1 ∷ pos 2 ∷ pos 1 ∷ []) (plain 5 (font []))) 1 2 ≡ ok (stretch 1 3))
    × (pick_glyphs (handed (65 ∷ pair) (pos 1 ∷ pos 1 ∷ pos 2 ∷ pos 1 ∷ []) (plain 5 (font []))) 2 3 ≡ ok (stretch 1 2))
unfolding ascii whole_clusters whole_glyphs clusters_of glyphs_of proper_units all_font fits sound_run sound xml_char holding touched turned pick_units
    pick_glyphs from_halves from_words halves words signed even_bytes word_bytes pick_checks verdict
edge_picks = (refl, refl, refl, refl, refl)

-- the list of records: 19, then 18 with the glyphs needed, then the count
pub listings : (filled_count (list_into 5 four) ≡ ok 5) × (filled_count (list_into 4 four) ≡ no 18 5)
    × (filled_count (list_into 0 (handed (ascii "A") [] [])) ≡ no 19 0)
    -- a pair of the tail has one record; before a named glyph it is 19
    × (list_into 1 (handed pair (pos 2 ∷ pos 1 ∷ []) (font [])) ≡ ok (font_glyph ∷ []))
    × (filled_count (list_into 2 (handed (pair ++ (65 ∷ [])) (pos 2 ∷ pos 1 ∷ pos 1 ∷ pos 1 ∷ []) (font (plain 5 [])))) ≡ no 19 0)
unfolding ascii whole_clusters whole_glyphs clusters_of glyphs_of proper_units all_font fits sound_run sound xml_char list_into from_halves from_words halves
    words signed even_bytes word_bytes list_checks verdict
listings = (refl, refl, refl, refl, refl)

-- the label `A` with `5,,-1`: a byte too few is 16, 17 or 18; bytes left over and bytes behind stay
pub byte_readings : (counted (read_into (buffers 1 8 16) (ascii "A") (ascii "5,,-1")) ≡ no 16 1)
    × (counted (read_into (buffers 2 7 16) (ascii "A") (ascii "5,,-1")) ≡ no 17 1)
    × (counted (read_into (buffers 2 8 15) (ascii "A") (ascii "5,,-1")) ≡ no 18 1)
    × (counted (read_into (buffers 2 8 16) (ascii "A") (ascii "5,,-1")) ≡ ok (record { units = 1; clusters = 1; glyphs = 1 }))
    × (units_after (read_into (buffers 3 8 17) (ascii "A") (ascii "5,,-1")) (7 ∷ 8 ∷ 9 ∷ []) ≡ 65 ∷ 0 ∷ 9 ∷ [])
    × (clusters_after (read_into (buffers 3 8 17) (ascii "A") (ascii "5,,-1")) (replicate 8 7) ≡ 1 ∷ 0 ∷ 0 ∷ 0 ∷ 1 ∷ 0 ∷ 0 ∷ 0 ∷ [])
    × (glyphs_after (read_into (buffers 3 8 17) (ascii "A") (ascii "5,,-1")) (replicate 17 7)
    ≡ 5 ∷ 0 ∷ 0 ∷ 0 ∷ 255 ∷ 255 ∷ 255 ∷ 255 ∷ 24 ∷ 252 ∷ 255 ∷ 255 ∷ 0 ∷ 0 ∷ 0 ∷ 0 ∷ 7 ∷ [])
unfolding ascii split cut all_digits value_from join_rest join trim decimal_from decimal table row_fits fitting starts_char more_bytes following scalar xml_char
    units_of each pieces text_checks verdict unsigned is_decimals is_number mantissa_digits fraction_digits exponent_digits nearest scaled thousandths
    number_fits is_index_part index_digits map_units map_glyphs is_advance is_offset well_formed field_fits index_of advance_of offset_of entry_of entries tail
    entry_checks place_checks walk_checks walk_parts said_run run_checks label_checks read read_into flat_clusters flat_glyphs from_halves from_words
    read_checks
byte_readings = (refl, refl, refl, refl, refl, refl, refl)

-- a writing from bytes: accepted, 20, 21; a byte left over in any buffer is 19
pub byte_writings : (lengths (write_into (sizes 1 5) (places (65 ∷ 0 ∷ []) cluster_bytes glyph_bytes)) ≡ ok (record { text = 1; indices = 5 }))
    × (lengths (write_into (sizes 0 4) (places (65 ∷ 0 ∷ []) cluster_bytes glyph_bytes)) ≡ no 20 1)
    × (lengths (write_into (sizes 1 4) (places (65 ∷ 0 ∷ []) cluster_bytes glyph_bytes)) ≡ no 21 5)
    × (lengths (write_into (sizes 9 9) (places (65 ∷ 0 ∷ 0 ∷ []) cluster_bytes glyph_bytes)) ≡ no 19 0)
    × (lengths (write_into (sizes 9 9) (places (65 ∷ 0 ∷ []) (1 ∷ 0 ∷ 0 ∷ 0 ∷ 1 ∷ 0 ∷ 0 ∷ 0 ∷ 0 ∷ []) glyph_bytes)) ≡ no 19 0)
    × (lengths (write_into (sizes 9 9) (places (65 ∷ 0 ∷ []) cluster_bytes
    (5 ∷ 0 ∷ 0 ∷ 0 ∷ 255 ∷ 255 ∷ 255 ∷ 255 ∷ 24 ∷ 252 ∷ 255 ∷ 255 ∷ 0 ∷ 0 ∷ 0 ∷ 0 ∷ 0 ∷ []))) ≡ no 19 0)
unfolding ascii whole_clusters whole_glyphs clusters_of glyphs_of proper_units fits sound_run sound xml_char join join_rest trim decimal_from decimal utf8
    unit_bytes units_bytes text_of fraction value_bytes advance_by offset_by map_bytes index_bytes entry_by entries_by indices_by write_asked even_bytes
    word_bytes halves words signed from_halves from_words write_checks verdict
byte_writings = (refl, refl, refl, refl, refl, refl)

-- `relabel`'s second line: 32,769 bytes are as for 1
pub long_line : relabel_read (ascii "A") (replicate 32_769 48) ≡ no 1 0
unfolding relabel_read verdict label_checks said_run
long_line = refl
