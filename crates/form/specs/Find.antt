-- The chunks of a name.
use Rattle.std.specs.Prelude.{ℕ, ◌+◌, ◌%◌, eqb, length, cond, List, [], ◌∷◌, None, Option, Some}
use Rattle.chunk.specs.Chunk.{Item, chunk, bad, items_from}
use Rattle.form.specs.declared.place.Place.{Place}

-- the payloads of all chunks of a name, in file order
unfoldable pub all_of : ℕ → List Item → List (List ℕ)
all_of id [] = []
all_of id (bad refusal ∷ items) = []
all_of id (chunk i b ∷ items) = cond (eqb i id) (b ∷ all_of id items) (all_of id items)

-- the payload of the first chunk of a name
unfoldable pub first_of : ℕ → List Item → Option (List ℕ)
first_of id [] = None
first_of id (bad refusal ∷ items) = None
first_of id (chunk i b ∷ items) = cond (eqb i id) (Some b) (first_of id items)

-- where the payload of the first chunk of a name lies, its start and its length, if the items begin at `at`: a chunk takes eight bytes,
-- its payload, and a pad byte after an odd payload
unfoldable pub place_from : ℕ → ℕ → List Item → Option Place
place_from at id [] = None
place_from at id (bad refusal ∷ items) = None
place_from at id (chunk i b ∷ items) = cond (eqb i id) (Some (record { start = at + 8; size = length b })) (place_from (at + 8 + length b + length b % 2) id items)

-- the same in a FORM, whose chunks begin at 12
abbrev pub first_place : List ℕ → ℕ → Option Place
first_place f id = place_from 12 id (items_from f 12)
