-- Well-formedness one byte at a time. The state is the ranges of the bytes that have to follow, none where the bytes so far
-- begin no well-formed text.
use Rattle.std.specs.Prelude.{ℕ, Bool, true, false, cond, List, [], ◌∷◌, None, Option, Some}
use Rattle.text_utf8.specs.Table.{Range, within, following}

-- the state after one byte more
abbrev pub fed : Option (List Range) → ℕ → Option (List Range)
fed None b = None
fed (Some []) b = following b
fed (Some (r ∷ rs)) b = cond (within r b) (Some rs) None

-- the bytes so far are well-formed: none has to follow
abbrev pub complete : Option (List Range) → Bool
complete None = false
complete (Some []) = true
complete (Some (r ∷ rs)) = false

-- the state after all of these bytes
abbrev pub fed_all : Option (List Range) → List ℕ → Option (List Range)
fed_all o [] = o
fed_all o (b ∷ l) = fed_all (fed o b) l
