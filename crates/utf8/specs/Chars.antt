-- The character at a place of a text, over label's definitions.
-- Assumes nothing.
use Rattle.std.specs.Prelude.{ℕ, ◌+◌, cond, List, get_or, drop, Result, Ok, Err}
use Rattle.label.specs.Text.{starts_char, following, code_point, xml_char}
use Rattle.utf8.specs.declared.Char.{Char}
use Rattle.utf8.specs.declared.CharFault.{CharFault}
use Rattle.utf8.specs.declared.CharFault.TheVariants.{IllFormed, Barred}

-- the character c in front of place j
abbrev pub read_char : ℕ → ℕ → Result Char CharFault
read_char c j = Ok (record { code = c; next = j })

-- the same where it is one of XML's Char, which alone may stand (3)
abbrev pub standing : ℕ → ℕ → Result Char CharFault
standing c j = cond (xml_char c) (read_char c j) (Err Barred)

-- the character that starts at place i, whose first byte is b, with bs behind it; or that it is ill-formed (2), or outside XML's Char (3)
abbrev pub char_of : ℕ → ℕ → List ℕ → Result Char CharFault
char_of i b bs = cond (starts_char b bs) (standing (code_point b bs) (i + 1 + following b bs)) (Err IllFormed)

-- the one of a text
unfoldable pub char_at : List ℕ → ℕ → Result Char CharFault
char_at s i = char_of i (get_or s i 0) (drop (i + 1) s)
