-- A list of bytes read as a run of elements, each of which says how many bytes it takes.
-- The recursion goes down the list byte by byte, with a count of bytes still to skip, so it needs no fuel.
use Rattle.std.specs.Prelude.{ℕ, zero, suc, List, [], ◌∷◌, ◌++◌}

-- what stands at the front of the bytes: an element that takes one byte and n more; or the run ends, with these elements
pub data Front (A : Type 0) : Type 0 where
  more : A → ℕ → Front A
  last : List A → Front A

-- the elements from a front on, where `rest n` are those after n bytes more
abbrev pub after : {A : Type 0} → Front A → (ℕ → List A) → List A
after (more a n) rest = a ∷ rest n
after (last xs) rest = xs

-- the elements of the bytes that follow the first k
unfoldable pub walk : {A : Type 0} → (List ℕ → Front A) → ℕ → List ℕ → List A
walk f k [] = []
walk f (suc k) (b ∷ l) = walk f k l
walk f zero (b ∷ l) = after (f (b ∷ l)) (λ n. walk f n l)

-- what each element becomes, joined
abbrev pub each : {A : Type 0} → (A → List ℕ) → List A → List ℕ
each g [] = []
each g (a ∷ as') = g a ++ each g as'
