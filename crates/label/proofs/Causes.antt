-- The numbers of the causes: from 1 to 27.
-- Assumes nothing.
use Prim.Native.Nat.{◌≤◌}
use native.Mathlib.Omega.{arith}
use Rattle.label.specs.Cause.{cause_number}
use Rattle.label.specs.declared.Cause.{Cause}
use Rattle.label.specs.declared.Cause.TheVariants as C

pub cause_inside : (c : Cause) → (1 ≤ cause_number c) × (cause_number c ≤ 27)
cause_inside C.TooManyBytes = (omega arith, omega arith)
cause_inside C.IllFormedText = (omega arith, omega arith)
cause_inside C.BarredCharacter = (omega arith, omega arith)
cause_inside C.LoneBrace = (omega arith, omega arith)
cause_inside C.TooManyUnits = (omega arith, omega arith)
cause_inside C.NothingGiven = (omega arith, omega arith)
cause_inside C.IllFormedEntry = (omega arith, omega arith)
cause_inside C.IndexTooLarge = (omega arith, omega arith)
cause_inside C.NumberTooLarge = (omega arith, omega arith)
cause_inside C.ZeroCount = (omega arith, omega arith)
cause_inside C.MisplacedEntry = (omega arith, omega arith)
cause_inside C.PastTextEnd = (omega arith, omega arith)
cause_inside C.SplitPair = (omega arith, omega arith)
cause_inside C.MissingGlyphs = (omega arith, omega arith)
cause_inside C.TooManyGlyphs = (omega arith, omega arith)
cause_inside C.UnitRoom = (omega arith, omega arith)
cause_inside C.ClusterRoom = (omega arith, omega arith)
cause_inside C.GlyphRoom = (omega arith, omega arith)
cause_inside C.UnsoundRun = (omega arith, omega arith)
cause_inside C.TextRoom = (omega arith, omega arith)
cause_inside C.IndicesRoom = (omega arith, omega arith)
cause_inside C.BadPick = (omega arith, omega arith)
cause_inside C.BadReference = (omega arith, omega arith)
cause_inside C.ResolvedRoom = (omega arith, omega arith)
cause_inside C.BadSheetMark = (omega arith, omega arith)
cause_inside C.CutSheet = (omega arith, omega arith)
cause_inside C.AnswerRoom = (omega arith, omega arith)
