-- What the code's helpers ask and give; no reader of the meanings needs it.
-- The records at the front of the bytes: whether the first is of a kind, and how many bytes a run of groups takes.
use Rattle.std.specs.Prelude.{ℕ, ◌+◌, ◌-◌, eqb, Bool, false, cond, List, [], ◌∷◌}
use Rattle.laws.specs.Walk.{Front, more, last, walk}

-- that the first byte is a kind
abbrev pub starts_with : ℕ → List ℕ → Bool
starts_with kind [] = false
starts_with kind (b ∷ l) = eqb b kind

-- the bytes of the first record, n in all with its kind, where it is of the kind
abbrev pub one_length : ℕ → ℕ → List ℕ → ℕ
one_length kind n l = cond (starts_with kind l) n 0

-- how many bytes the first record of a group takes: one where it opens the group, n in all where it is a member
abbrev pub group_front : ℕ → ℕ → ℕ → List ℕ → Front ℕ
group_front opens member n l = cond (starts_with opens l) (more 1 0) (cond (starts_with member l) (more n (n - 1)) (last []))

-- numbers added up
abbrev pub sum : List ℕ → ℕ
sum [] = 0
sum (n ∷ ns) = n + sum ns

-- the bytes of the groups at the front
unfoldable pub stretch : ℕ → ℕ → ℕ → List ℕ → ℕ
stretch opens member n l = sum (walk (group_front opens member n) 0 l)
