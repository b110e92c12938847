-- A channel's stream of bytes as samples.
use Rattle.std.specs.Prelude.{ℕ, List, map, ℤ, Ok}
use Rattle.field.specs.Signed.{sample_of}
use Rattle.header.specs.declared.compression.Compression.{Compression}
use Rattle.header.specs.declared.compression.Compression.TheVariants.{None, Fibonacci}
use Rattle.fibonacci.specs.Decode.{fib_channel}
use Rattle.refusal.specs.Outcome.{Outcome}

-- raw: each byte is a sample; Fibonacci: by its deltas, and under 2 bytes it is refused by 12
unfoldable pub stream : Compression → List ℕ → Outcome (List ℤ)
stream None bytes = Ok (map sample_of bytes)
stream Fibonacci bytes = fib_channel bytes
