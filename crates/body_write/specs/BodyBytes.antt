-- BODY as bytes, from the samples of the sides.
use Rattle.std.specs.Prelude.{ℕ, Bool, cond, List, [], ◌++◌, map, ℤ}
use Rattle.field.specs.Signed.{byte_of}
use Rattle.header.specs.declared.compression.Compression.{Compression}
use Rattle.header.specs.declared.compression.Compression.TheVariants.{None, Fibonacci}
use Rattle.fibonacci.specs.Encode.{fib_bytes}

-- a channel's bytes
unfoldable pub channel_bytes : Compression → List ℤ → List ℕ
channel_bytes None samples = map byte_of samples
channel_bytes Fibonacci samples = fib_bytes samples

-- the left channel in full, then the right one, where there are two
unfoldable pub body_bytes : Compression → Bool → List ℤ → List ℤ → List ℕ
body_bytes c stereo left right = channel_bytes c left ++ cond stereo (channel_bytes c right) []
