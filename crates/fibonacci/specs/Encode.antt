-- A channel written.
use Rattle.std.specs.Prelude.{List, [], ◌∷◌, ℕ, ◌+◌, ◌*◌, ℤ}
use Rattle.field.specs.Signed.{byte_of}
use Rattle.fibonacci.specs.Step.{fib_step}
use Rattle.fibonacci.specs.Pick.{fib_pick}

-- the nibbles for samples, each picked from the sample that the decoder has by then
unfoldable pub picks : ℤ → List ℤ → List ℕ
picks prev [] = []
picks prev (x ∷ xs) = fib_pick prev x ∷ picks (fib_step prev (fib_pick prev x)) xs

-- two nibbles to a byte, the high one first; beside an odd last one stands 8, whose delta is 0
unfoldable pub packed : List ℕ → List ℕ
packed [] = []
packed (a ∷ []) = (a * 16 + 8) ∷ []
packed (a ∷ (b ∷ ks)) = (a * 16 + b) ∷ packed ks

-- the bytes of a channel: 0, the first sample, and the nibbles of the others; no samples give 00 00
unfoldable pub fib_bytes : List ℤ → List ℕ
fib_bytes [] = 0 ∷ 0 ∷ []
fib_bytes (x ∷ xs) = 0 ∷ byte_of x ∷ packed (picks x xs)
