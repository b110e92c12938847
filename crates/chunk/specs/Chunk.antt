-- A FORM as a list of chunks.
use Rattle.std.specs.Prelude.{ℕ, ◌+◌, ◌-◌, ◌%◌, min, ltb, length, take, drop, cond, List, [], ◌∷◌}
use Rattle.field.specs.BigEndian.{big_endian}
use Rattle.laws.specs.Walk.{Front, more, last, walk}
use Rattle.refusal.specs.declared.Refusal.TheVariants.{ChunkPastForm}
use Rattle.refusal.specs.declared.Refusal.{Refusal}

-- what stands at the front: a chunk's name and size, with as many bytes after them as the size says; or a refusal; or under eight bytes
pub data Head : Type 0 where
  whole : ℕ → ℕ → Head
  refused : Refusal → Head
  none : Head

-- name and size take four bytes each; a payload that runs past the end is refused by 4
unfoldable pub head_of : List ℕ → Head
head_of l = cond (ltb (length l) 8) none (cond (ltb (length l - 8) (big_endian 4 (drop 4 l))) (refused ChunkPastForm) (whole (big_endian 4 l) (big_endian 4 (drop 4 l))))

-- a chunk with its name and payload; or the one chunk that is refused, at which the walk ends, by its number
pub data Item : Type 0 where
  chunk : ℕ → List ℕ → Item
  bad : Refusal → Item

-- the first item, and how many bytes it takes past its first: eight, its payload, and a pad byte after an odd payload
abbrev pub first_item : Head → List ℕ → Front Item
first_item (whole id n) l = more (chunk id (take n (drop 8 l))) (7 + n + n % 2)
first_item (refused r) l = last (bad r ∷ [])
first_item none l = last []

-- the items of the bytes
unfoldable pub items_of : List ℕ → List Item
items_of l = walk (λ l. first_item (head_of l) l) 0 l

-- the items from a place on
unfoldable pub items_from : List ℕ → ℕ → List Item
items_from f at = items_of (drop at f)

-- where the walk of a file ends: the smaller of 8 + the FORM length and the file's end
unfoldable pub end_of : List ℕ → ℕ
end_of s = min (big_endian 4 (drop 4 s) + 8) (length s)
