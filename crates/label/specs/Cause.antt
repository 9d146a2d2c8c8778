-- The causes of both documents' tables: the number of each case of the code's enum, the case of a number, and how a refusal is printed.
-- Assumes nothing.
use Rattle.std.specs.Prelude.{ℕ, ◌≡◌, ◌<◌, ◌⊎◌, List, ◌++◌, ◌∷◌, Result, MatchResult}
use Rattle.label.specs.Bytes.{decimal}
use Rattle.label.specs.declared.Cause.{Cause}
use Rattle.label.specs.declared.Cause.TheVariants as C
use Rattle.label.specs.declared.Refusal.{Refusal}
use Rattle.label.specs.declared.UnknownCause.{UnknownCause}

-- "a definition gives this paper's number and values for every case of the enum": the number of each cause
abbrev pub cause_number : Cause → ℕ
cause_number C.TooManyBytes = 1
cause_number C.IllFormedText = 2
cause_number C.BarredCharacter = 3
cause_number C.LoneBrace = 4
cause_number C.TooManyUnits = 5
cause_number C.NothingGiven = 6
cause_number C.IllFormedEntry = 7
cause_number C.IndexTooLarge = 8
cause_number C.NumberTooLarge = 9
cause_number C.ZeroCount = 10
cause_number C.MisplacedEntry = 11
cause_number C.PastTextEnd = 12
cause_number C.SplitPair = 13
cause_number C.MissingGlyphs = 14
cause_number C.TooManyGlyphs = 15
cause_number C.UnitRoom = 16
cause_number C.ClusterRoom = 17
cause_number C.GlyphRoom = 18
cause_number C.UnsoundRun = 19
cause_number C.TextRoom = 20
cause_number C.IndicesRoom = 21
cause_number C.BadPick = 22
cause_number C.BadReference = 23
cause_number C.ResolvedRoom = 24
cause_number C.BadSheetMark = 25
cause_number C.CutSheet = 26
cause_number C.AnswerRoom = 27

-- the answer for a number: the cause that has it, or the number itself where none has
abbrev pub CauseOf : ℕ → Result Cause UnknownCause → Type 0
CauseOf n r = MatchResult r (λ c. cause_number c ≡ n) (λ e. (e.0 ≡ n) × ((n ≡ 0) ⊎ (27 < n)))

-- "number, place on one line, single spaces between"
abbrev pub refusal_text : Refusal → List ℕ
refusal_text x = decimal (cause_number x.cause) ++ 32 ∷ decimal x.place
