-- A payload cut into parts of n bytes, what is left at the end being dropped; and as records of one kind, a tag before each part.
use Rattle.std.specs.Prelude.{ℕ, ◌-◌, cond, List, [], ◌∷◌, length, take, nat_lt}
use Rattle.laws.specs.Walk.{Front, more, last, walk, each}

-- the first n bytes; the end where fewer are left
abbrev pub first_part : ℕ → List ℕ → Front (List ℕ)
first_part n l = cond (nat_lt (length l) n) (last []) (more (take n l) (n - 1))

-- the parts
unfoldable pub parts : ℕ → List ℕ → List (List ℕ)
parts n l = walk (first_part n) 0 l

-- the first part with its tag; the end where under n bytes are left
abbrev pub first_tagged : ℕ → ℕ → List ℕ → Front (List ℕ)
first_tagged tag n l = cond (nat_lt (length l) n) (last []) (more (tag ∷ take n l) (n - 1))

-- all parts, each with its tag
unfoldable pub tagged : ℕ → ℕ → List ℕ → List ℕ
tagged tag n l = each (λ part. part) (walk (first_tagged tag n) 0 l)
