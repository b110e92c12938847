-- The code's `Follow` as ranges of the table.
use Rattle.std.specs.Prelude.{ℕ, zero, suc, List, [], ◌∷◌, None, Option, Some}
use Rattle.text_utf8.specs.Table.{Range, to}
use Rattle.text_utf8.specs.declared.table.Follow.{Follow}

-- n ranges, the first from `low` to `high`, the others those of a trailing byte
abbrev pub ranges : ℕ → ℕ → ℕ → List Range
ranges zero low high = []
ranges (suc n) low high = to low high ∷ ranges n 0x80 0xBF

-- the ranges of the bytes that have to follow
abbrev pub ranges_of : Follow → List Range
ranges_of f = ranges f.more f.low f.high

-- the same; none where the bytes are ill-formed whatever follows
abbrev pub led : Option Follow → Option (List Range)
led None = None
led (Some f) = Some (ranges_of f)
