-- Two lists as one, by turns, and the two taken out of it again.
use Rattle.std.specs.Prelude.{List, [], ◌∷◌}

-- a left and a right element by turns, and then what is left of the longer list
unfoldable pub by_turns : {A : Type 0} → List A → List A → List A
by_turns [] rs = rs
by_turns (l ∷ ls) [] = l ∷ ls
by_turns (l ∷ ls) (r ∷ rs) = l ∷ r ∷ by_turns ls rs

-- the elements at even places, counted from 0
unfoldable pub evens : {A : Type 0} → List A → List A
evens [] = []
evens (x ∷ []) = x ∷ []
evens (x ∷ y ∷ l) = x ∷ evens l

-- the elements at odd places
unfoldable pub odds : {A : Type 0} → List A → List A
odds [] = []
odds (x ∷ []) = []
odds (x ∷ y ∷ l) = y ∷ odds l
