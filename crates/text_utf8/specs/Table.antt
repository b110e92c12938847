-- The Unicode Standard, table 3-7: Well-Formed UTF-8 Byte Sequences.
use Rattle.std.specs.Prelude.{ℕ, leb, Bool, cond, ◌&&◌, List, [], ◌∷◌, None, Option, Some}

-- a range of numbers, from the lowest to the highest, both included
pub data Range : Type 0 where
  to : ℕ → ℕ → Range

-- a number lies in a range
abbrev pub within : Range → ℕ → Bool
within (to low high) n = leb n high && leb low n

-- a row of the table: the range of the first byte, and those of the bytes that follow it
pub data Row : Type 0 where
  row : Range → List Range → Row

-- the range of a trailing byte, where the row does not narrow it
abbrev pub trailing : Range
trailing = to 0x80 0xBF

-- table 3-7, its rows in order
abbrev pub table : List Row
table =
    row (to 0x00 0x7F) []
    ∷ row (to 0xC2 0xDF) (trailing ∷ [])
    ∷ row (to 0xE0 0xE0) (to 0xA0 0xBF ∷ trailing ∷ [])
    ∷ row (to 0xE1 0xEC) (trailing ∷ trailing ∷ [])
    ∷ row (to 0xED 0xED) (to 0x80 0x9F ∷ trailing ∷ [])
    ∷ row (to 0xEE 0xEF) (trailing ∷ trailing ∷ [])
    ∷ row (to 0xF0 0xF0) (to 0x90 0xBF ∷ trailing ∷ trailing ∷ [])
    ∷ row (to 0xF1 0xF3) (trailing ∷ trailing ∷ trailing ∷ [])
    ∷ row (to 0xF4 0xF4) (to 0x80 0x8F ∷ trailing ∷ trailing ∷ [])
    ∷ []

-- what the first of these rows that has the byte as its first byte says of the bytes that follow
abbrev pub pick : ℕ → List Row → Option (List Range)
pick b [] = None
pick b (row r rs ∷ rows) = cond (within r b) (Some rs) (pick b rows)

-- the ranges of the bytes that have to follow a lead byte; none where no well-formed sequence begins with it
unfoldable pub following : ℕ → Option (List Range)
following b = pick b table
