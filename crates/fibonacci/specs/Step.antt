-- One step of the code: a nibble's delta is added to the running sample, in a signed byte. `negsuc n` is -(n + 1).
use Rattle.std.specs.Prelude.{List, [], ◌∷◌, ℕ, ℤ, pos, negsuc, ◌+ℤ◌, get_or}
use Rattle.field.specs.Wrap.{to_sample}

-- the deltas of nibbles 0 to 15: -34 -21 -13 -8 -5 -3 -2 -1 0 1 2 3 5 8 13 21
unfoldable pub deltas : List ℤ
deltas =
    negsuc 33 ∷ negsuc 20 ∷ negsuc 12 ∷ negsuc 7 ∷ negsuc 4 ∷ negsuc 2 ∷ negsuc 1 ∷ negsuc 0 ∷
    pos 0 ∷ pos 1 ∷ pos 2 ∷ pos 3 ∷ pos 5 ∷ pos 8 ∷ pos 13 ∷ pos 21 ∷ []

-- the sample that follows `prev` by a nibble
unfoldable pub fib_step : ℤ → ℕ → ℤ
fib_step prev nibble = to_sample (prev +ℤ get_or deltas nibble (pos 0))
