-- A run of stores at a place of a buffer.
-- `sets d at xs` stores those of xs that lie within d and passes over the rest. So it is right for a short buffer too, and
-- a writer over an empty buffer measures.
use Rattle.std.specs.Prelude.{ℕ, ◌+◌, length, List, ◌≡◌}
use Rattle.std.proofs.lemmas.List.Edits.{sets}

-- d' is d with xs stored from `at` on, and r is the place past them
pub record Put {A : Type 0} (d : List A) (at : ℕ) (xs d' : List A) (r : ℕ) : Type 0 where
  pub is : d' ≡ sets d at xs
  pub end : r ≡ at + length xs
