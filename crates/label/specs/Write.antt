-- "The normal writing" of a run, over how a value is written.
-- Assumes nothing.
use Rattle.std.specs.Prelude.{ℕ, zero, suc, ◌+◌, ◌*◌, ◌-◌, ◌/◌, ◌%◌, cond, ◌&&◌, List, [], ◌∷◌, ◌++◌, leb, eqb, ℤ, pos, negsuc, get_or}
use Rattle.label.specs.Bytes.{join, trim, decimal}
use Rattle.label.specs.Text.{layout, is_high, is_low, braced}
use Rattle.label.specs.Run.{Run}
use Rattle.label.specs.declared.Index.{Index}
use Rattle.label.specs.declared.Index.TheVariants.{Named, Font}
use Rattle.label.specs.declared.Advance.{Advance}
use Rattle.label.specs.declared.Advance.TheVariants.{Given, Own}
use Rattle.label.specs.declared.Glyph.{Glyph}
use Rattle.label.specs.declared.Cluster.{Cluster}

-- ── text ──

-- a character in UTF-8, in the shortest form that has room for it
unfoldable pub utf8 : ℕ → List ℕ
utf8 c = cond (leb c 0x7f) (layout 1 c) (cond (leb c 0x7ff) (layout 2 c) (cond (leb c 0xffff) (layout 3 c) (layout 4 c)))

-- the character of a pair
abbrev pub paired : ℕ → ℕ → ℕ
paired h l = 0x10000 + (h - 0xd800) * 1024 + (l - 0xdc00)

-- the bytes of unit u, with v behind it: those of a pair stand at its high half
unfoldable pub unit_bytes : ℕ → ℕ → List ℕ
unit_bytes u v = cond (is_low u) [] (cond (is_high u) (utf8 (paired u v)) (utf8 u))

-- "the units in UTF-8"
unfoldable pub units_bytes : List ℕ → List ℕ
units_bytes [] = []
units_bytes (u ∷ us) = unit_bytes u (get_or us 0 0) ++ units_bytes us

-- "Text: the units in UTF-8, with `{}` before them exactly when the first is `{`"
unfoldable pub text_of : List ℕ → List ℕ
text_of us = cond (braced us) (123 ∷ 125 ∷ units_bytes us) (units_bytes us)

-- ── numbers ──

-- the digits of f thousandths behind the point, 0 < f < 1000, "no trailing zeros behind it"
unfoldable pub fraction : ℕ → List ℕ
fraction f =
    cond (eqb (f % 100) 0) ((48 + f / 100) ∷ [])
    (cond (eqb (f % 10) 0) ((48 + f / 100) ∷ (48 + f / 10 % 10) ∷ [])
    ((48 + f / 100) ∷ (48 + f / 10 % 10) ∷ (48 + f % 10) ∷ []))

-- "a value has a point only before digits, no trailing zeros behind it and no lone zero before it"; "0 is `0`"
unfoldable pub value_bytes : ℕ → List ℕ
value_bytes n =
    cond (eqb (n % 1000) 0) (decimal (n / 1000))
    (cond (eqb (n / 1000) 0) [] (decimal (n / 1000)) ++ (46 ∷ fraction (n % 1000)))

-- ── entries: `w` is how a value in thousandths is written, in the normal writing `value_bytes` ──

-- an advance that is not given is empty
unfoldable pub advance_by : (ℕ → List ℕ) → Advance → List ℕ
advance_by w Own = []
advance_by w (Given n) = w n

-- "a negative one begins with `-`"; "Offsets of 0 are empty"
unfoldable pub offset_by : (ℕ → List ℕ) → ℤ → List ℕ
offset_by w (pos n) = cond (eqb n 0) [] (w n)
offset_by w (negsuc n) = 45 ∷ w (suc n)

-- "`(a:b)` only when not 1:1 nor 0:1, `:b` only when b is not 1"
unfoldable pub map_bytes : ℕ → ℕ → List ℕ
map_bytes a b = cond (leb a 1 && eqb b 1) [] (40 ∷ (decimal a ++ cond (eqb b 1) [] (58 ∷ decimal b) ++ (41 ∷ [])))

-- an index with its map; an index that is left to the font is empty, and then its map is too: "A map without an index isn't well formed."
unfoldable pub index_bytes : ℕ → ℕ → Index → List ℕ
index_bytes a b Font = []
index_bytes a b (Named n) = map_bytes a b ++ decimal n

-- the entry of a glyph that opens a cluster a:b; a further glyph is written as one that opens 1:1; "trailing empty fields drop with their commas"
unfoldable pub entry_by : (ℕ → List ℕ) → ℕ → ℕ → Glyph → List ℕ
entry_by w a b g =
    join 44
    (trim (index_bytes a b g.index ∷ advance_by w g.advance ∷ offset_by w g.u ∷ offset_by w g.v ∷ []))

-- "the clusters' glyphs in order": their entries; `lack` glyphs of the open cluster are still to come
unfoldable pub entries_by : (ℕ → List ℕ) → ℕ → List Cluster → List Glyph → List (List ℕ)
entries_by w lack cs [] = []
entries_by w (suc n) cs (g ∷ gs) = entry_by w 1 1 g ∷ entries_by w n cs gs
entries_by w zero [] (g ∷ gs) = []
entries_by w zero (c ∷ cs) (g ∷ gs) = entry_by w c.units c.glyphs g ∷ entries_by w (c.glyphs - 1) cs gs

-- "joined by `;`"; "Trailing 1:1 entries that are wholly the font's drop", and a pair of the tail "like them" (document 02, CR 4): in a sound run those
-- are the entries without bytes (law `empty_is_font`)
unfoldable pub indices_by : (ℕ → List ℕ) → List Cluster → List Glyph → List ℕ
indices_by w cs gs = join 59 (trim (entries_by w 0 cs gs))

-- ── labels ──

-- "A label is a text with its indices."
pub record Label : Type 0 where
  pub text : List ℕ
  pub indices : List ℕ

-- a run written as a label, its values by `w`
abbrev pub written_label : (ℕ → List ℕ) → Run → Label
written_label w r = record { text = text_of r.units; indices = indices_by w r.clusters r.glyphs }

-- the normal writing of a run
abbrev pub normal : Run → Label
normal r = written_label value_bytes r

-- the indices of the normal writing
abbrev pub indices_of : List Cluster → List Glyph → List ℕ
indices_of cs gs = indices_by value_bytes cs gs
