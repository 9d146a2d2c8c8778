-- The characters of a text as the code walks over them: from a place on, up to the first that is refused.
-- Assumes nothing.
use Rattle.std.specs.Prelude.{ℕ, ◌≡◌, zero, suc, List, [], ◌∷◌, drop, Option, Result, Ok, Err}
use Rattle.std.specs.Iterator.{YieldsFirst}
use Rattle.label.specs.Text.{following}
use Rattle.label.specs.Calls.{refusal}
use Rattle.label.specs.declared.Cause.TheVariants.{IllFormedText, BarredCharacter}
use Rattle.label.specs.declared.Refusal.{Refusal}
use Rattle.utf8.specs.Chars.{char_of}
use Rattle.utf8.specs.declared.Char.{Char}
use Rattle.utf8.specs.declared.CharFault.{CharFault}
use Rattle.utf8.specs.declared.CharFault.TheVariants.{IllFormed, Barred}
use Rattle.text.specs.declared.Characters.{Characters}

-- the refusal for what is wrong with a character at a place
abbrev pub fault_refusal : CharFault → ℕ → Refusal
fault_refusal IllFormed at = refusal IllFormedText at
fault_refusal Barred at = refusal BarredCharacter at

-- what was found at a place before the characters behind it, which only a good character has
abbrev pub then_on : Result Char CharFault → ℕ → List (Result Char Refusal) → List (Result Char Refusal)
then_on (Ok c) at cs = Ok c ∷ cs
then_on (Err f) at cs = Err (fault_refusal f at) ∷ []

-- the characters of these bytes, the first of which has number `at`, up to the first that is refused; the first `skip` bytes belong to one before
unfoldable pub characters : ℕ → ℕ → List ℕ → List (Result Char Refusal)
characters skip at [] = []
characters (suc skip) at (b ∷ bs) = characters skip (suc at) bs
characters zero at (b ∷ bs) = then_on (char_of at b bs) at (characters (following b bs) (suc at) bs)

-- those of a text from byte `at` on
abbrev pub characters_from : List ℕ → ℕ → List (Result Char Refusal)
characters_from s at = characters 0 at (drop at s)

-- those that a walk has left
abbrev pub left : Characters → List (Result Char Refusal)
left w = characters_from w.text.now w.at

-- a call of `next` takes the first of them, of the same text
abbrev pub Takes : Characters → Option (Result Char Refusal) → Characters → Type 0
Takes w c v = YieldsFirst left w c v × (v.text ≡ w.text)
