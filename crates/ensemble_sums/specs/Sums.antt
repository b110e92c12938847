-- Sums of values, and a sum held within 16 bits.
use Rattle.std.specs.Prelude.{ℕ, ◌≤◌, min, List, [], ◌∷◌, ◌++◌, ℤ, pos, negsuc, nat_abs, ◌+ℤ◌, take, drop}

-- a number held within -32,768..32,767; negsuc n is -1 - n
unfoldable pub held_to16 : ℤ → ℤ
held_to16 (pos n) = pos (min n 32767)
held_to16 (negsuc n) = negsuc (min n 32767)

-- ---- for the code: no reader of the definition of a mixed frame needs it

-- value by value, as long as both go on
unfoldable pub plus : List ℤ → List ℤ → List ℤ
plus [] ys = []
plus (x ∷ xs) [] = []
plus (x ∷ xs) (y ∷ ys) = (x +ℤ y) ∷ plus xs ys

-- the first n values added to the first n sums; the other sums stay
abbrev pub added_to : List ℤ → ℕ → List ℤ → List ℤ
added_to sums n values = plus (take n values) (take n sums) ++ drop n sums

-- no sum is larger than so much, either way
abbrev pub Within : ℕ → List ℤ → Type 0
Within b [] = Unit
Within b (x ∷ xs) = (nat_abs x ≤ b) × Within b xs
