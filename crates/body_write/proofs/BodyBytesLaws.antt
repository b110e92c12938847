-- Laws of BODY's bytes: what a channel is for each compression, and how long it is.
-- No proof elsewhere looks into `channel_bytes` or `body_bytes`.
-- Assumes nothing.
use Prim.Native.Nat.{◌+◌, ◌*◌, ◌/◌, ◌≤◌}
use lib.IntN.{ℤ}
use lib.ListN.{length, length-append, length-map}
use mathlib.Core.Bool.{Bool, true, false, cond}
use mathlib.Core.List.{List, ◌++◌, map, append-nil}
use mathlib.Core.Path.{◌≡◌, refl, ap, ◌∙◌}
use native.Mathlib.Omega.{arith}
use Rattle.body_write.specs.BodyBytes.{channel_bytes, body_bytes}
use Rattle.fibonacci.proofs.EncodeLaws.{bytes_length}
use Rattle.fibonacci.specs.Encode.{fib_bytes}
use Rattle.field.specs.Signed.{byte_of}
use Rattle.header.specs.declared.compression.Compression.{Compression}
use Rattle.header.specs.declared.compression.Compression.TheVariants.{None, Fibonacci}

-- ---- a channel

pub channel_raw : (c : Compression) (samples : List ℤ) → c ≡ None → channel_bytes c samples ≡ map byte_of samples
unfolding channel_bytes
channel_raw c samples e = rw e

pub channel_fibonacci : (c : Compression) (samples : List ℤ) → c ≡ Fibonacci → channel_bytes c samples ≡ fib_bytes samples
unfolding channel_bytes
channel_fibonacci c samples e = rw e

pub raw_length : (c : Compression) (samples : List ℤ) → c ≡ None → length (channel_bytes c samples) ≡ length samples
raw_length c samples e = ap length (channel_raw c samples e) ∙ length-map samples byte_of

pub fibonacci_length : (c : Compression) (samples : List ℤ) → c ≡ Fibonacci → length (channel_bytes c samples) ≡ 2 + length samples / 2
fibonacci_length c samples e = ap length (channel_fibonacci c samples e) ∙ bytes_length samples

-- no coding takes under half a byte for a sample
pub half_bound : (c : Compression) (samples : List ℤ) → length samples ≤ 2 * length (channel_bytes c samples)
half_bound None samples = omega (arith, raw_length None samples refl)
half_bound Fibonacci samples = omega (arith, fibonacci_length Fibonacci samples refl)

-- ---- BODY

pub body_two : (c : Compression) (stereo : Bool) (left right : List ℤ) → stereo ≡ true → body_bytes c stereo left right ≡ channel_bytes c left ++ channel_bytes c right
unfolding body_bytes
body_two c stereo left right e = rw e

pub body_one : (c : Compression) (stereo : Bool) (left right : List ℤ) → stereo ≡ false → body_bytes c stereo left right ≡ channel_bytes c left
unfolding body_bytes
body_one c stereo left right e = rw e (append-nil (channel_bytes c left))

pub two_length : (c : Compression) (stereo : Bool) (left right : List ℤ) → stereo ≡ true → length (body_bytes c stereo left right) ≡ length (channel_bytes c left) + length (channel_bytes c right)
two_length c stereo left right e = ap length (body_two c stereo left right e) ∙ length-append (channel_bytes c left) (channel_bytes c right)

pub one_length_lem : (c : Compression) (stereo : Bool) (left right : List ℤ) → stereo ≡ false → length (body_bytes c stereo left right) ≡ length (channel_bytes c left)
one_length_lem c stereo left right e = ap length (body_one c stereo left right e)

pub body_length_lem : (c : Compression) (stereo : Bool) (left right : List ℤ) → length (body_bytes c stereo left right) ≡ length (channel_bytes c left) + cond stereo (length (channel_bytes c right)) 0
body_length_lem c true left right = two_length c true left right refl
body_length_lem c false left right = omega (arith, one_length_lem c false left right refl)
