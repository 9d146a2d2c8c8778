-- What the first pass's steps come to, over label's definitions: the walk in the place of label's state, one entry, and the counts.
-- Assumes nothing.
use Rattle.std.specs.Prelude.{ℕ, ◌+◌, ◌-◌, ◌≡◌, Bool, true, cond, List, leb, eqb, length, drop, Result, Ok, Err}
use Rattle.label.specs.Limits.{max_glyphs}
use Rattle.label.specs.Outcome.{Outcome, ok, no, ◌>>◌, need}
use Rattle.label.specs.Entry.{Entry}
use Rattle.label.specs.Run.{Parts, keeps_pair, State, takes}
use Rattle.label.specs.Steps.{text_units, placed}
use Rattle.label.specs.Cause.{cause_number}
use Rattle.label.specs.declared.Cursor.{Cursor}
use Rattle.label.specs.declared.Counts.{Counts}
use Rattle.label.specs.declared.Reading.{Reading}
use Rattle.label.specs.declared.Refusal.{Refusal}
use Rattle.text.specs.Moves.{units}
use Rattle.text.specs.Texts.{units_start}
use Rattle.entry.specs.declared.Item.{Item}
use Rattle.entry.specs.declared.entries.ReadEntry.TheVariants.{Index}
use Rattle.entry.specs.Results.{item_said}
use Rattle.survey.specs.declared.walk.Walk.{Walk}
use Rattle.survey.specs.declared.Surveyed.{Surveyed}

-- the text of a walk has no units
abbrev pub bare : Walk → Bool
bare w = eqb w.count 0

-- the walk in the place of label's state
abbrev pub state_at : Walk → State
state_at w = record { k = w.at.entry; at = w.at.unit; rest = units w.ahead; lack = w.at.lack; opener = w.at.opener }

-- an entry, its map's counts as the code holds them
abbrev pub item_entry : Item → Entry
item_entry x = record { mapped = x.mapped; units = x.units; glyphs = x.glyphs; glyph = x.glyph }

-- the cursor behind an entry that takes a units and has b glyphs in its map
unfoldable pub advanced : Cursor → ℕ → ℕ → Cursor
advanced c a b =
    record {
      entry = c.entry + 1;
      unit = c.unit + a;
      lack = cond (eqb c.lack 0) (b - 1) (c.lack - 1);
      opener = cond (eqb c.lack 0) c.entry c.opener;
      clusters = cond (eqb c.lack 0) (c.clusters + 1) c.clusters;
    }

-- a walk stands behind such an entry, of the same run
abbrev pub Behind : Walk → ℕ → ℕ → Walk → Type 0
Behind w a b v = (v.at ≡ advanced w.at a b) × (units v.ahead ≡ drop a (units w.ahead)) × (v.count ≡ w.count)

-- a refusal, by its number and its place
abbrev pub said_no : {A : Type 0} → Refusal → Outcome A
said_no r = no (cause_number r.cause) r.place

-- what 12 and 13 come to for an entry that opens a cluster of a units and b glyphs
unfoldable pub Opens : Walk → ℕ → ℕ → Result Walk Refusal → Type 0
Opens w a b (Ok v) = let us = units w.ahead in (leb a (length us) ≡ true) × (keeps_pair a us ≡ true) × Behind w a b v
Opens w a b (Err r) =
    let us = units w.ahead in (need (leb a (length us)) 12 w.at.entry >> need (keeps_pair a us) 13 (w.at.unit + a)) ≡ said_no r

-- what an entry's checks 10 to 13 come to: the walk behind it, or the refusal
unfoldable pub Turns : Walk → Item → Result Walk Refusal → Type 0
Turns w x (Ok v) =
    let e = item_entry x in (placed (bare w) (state_at w) e ≡ ok e) × Behind w (takes (bare w) (state_at w) e) x.glyphs v
Turns w x (Err r) = placed (bare w) (state_at w) (item_entry x) ≡ said_no r

-- the same for an index alone, whatever it is and however many bytes it has
abbrev pub TurnsIndex : Walk → Result Walk Refusal → Type 0
TurnsIndex w r = (index used : ℕ) → Turns w (item_said (Index index used)) r

-- ── the counts ──

-- 15
abbrev pub counts_within : ℕ → ℕ → ℕ → Outcome Counts
counts_within u c g = need (leb g max_glyphs) 15 0 >> ok (record { units = u; clusters = c; glyphs = g })

-- the counts of a run of u units, with c clusters and g glyphs before these
unfoldable pub counted_from : ℕ → ℕ → ℕ → Outcome Parts → Outcome Counts
counted_from u c g (ok p) = counts_within u (c + length p.clusters) (g + length p.glyphs)
counted_from u c g (no n p) = no n p

-- the units of a text that was read, and the byte where they start; of one that was refused nothing is said
abbrev pub Starts : List ℕ → Result Surveyed Refusal → Type 0
Starts text (Ok x) = (text_units text ≡ ok (units x.units.passage)) × (x.units.passage.at ≡ units_start text)
Starts text (Err r) = Unit {0}

-- what the call answers of it: its reading, or the refusal
abbrev pub reading_of : Result Surveyed Refusal → Result Reading Refusal
reading_of (Ok x) = Ok x.reading
reading_of (Err r) = Err r
