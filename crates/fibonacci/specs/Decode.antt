-- A channel read: byte 0 is ignored, byte 1 is the first sample, and each nibble after them gives one sample more.
use Rattle.std.specs.Prelude.{cond, List, [], ◌∷◌, ℕ, ◌/◌, ◌%◌, ltb, ℤ, length, get_or, drop, Err, Ok}
use Rattle.field.specs.Signed.{sample_of}
use Rattle.fibonacci.specs.Step.{fib_step}
use Rattle.refusal.specs.declared.Refusal.TheVariants.{ChannelShort}
use Rattle.refusal.specs.Outcome.{Outcome}

-- the nibbles of bytes, the high one of each first
unfoldable pub nibbles : List ℕ → List ℕ
nibbles [] = []
nibbles (b ∷ bs) = b / 16 ∷ b % 16 ∷ nibbles bs

-- a sample, and one more for each nibble
unfoldable pub running : ℤ → List ℕ → List ℤ
running s [] = s ∷ []
running s (k ∷ ks) = s ∷ running (fib_step s k) ks

-- the samples of a channel's bytes
unfoldable pub fib_samples : List ℕ → List ℤ
fib_samples body = running (sample_of (get_or body 1 0)) (nibbles (drop 2 body))

-- under 2 bytes are no channel, and refused by 12
abbrev pub fib_channel : List ℕ → Outcome (List ℤ)
fib_channel body = cond (ltb (length body) 2) (Err ChannelShort) (Ok (fib_samples body))
