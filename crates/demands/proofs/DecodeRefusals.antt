-- The refusals of a channel and a BODY.
-- Assumes nothing.
use Prim.Native.Nat.{ℕ, zero, suc}
use mathlib.Core.List.{List}
use lib.Dec.{ltb}
use lib.ListN.{length}
use Rattle.laws.specs.Among.{Among}
use Rattle.header.specs.Compression.{known_compression, by_compression}
use Rattle.header.specs.declared.compression.Compression.{Compression}
use Rattle.header.specs.declared.compression.Compression.TheVariants.{None, Fibonacci}
use Rattle.fibonacci.specs.Decode.{fib_channel}
use Rattle.samples.specs.Stream.{stream}
use Rattle.samples.specs.Halves.{left_half, right_half, uneven}
use Rattle.body_decode.specs.Body.{one_channel, two_channels, decoded_body}
use Rattle.demands.specs.Demand1.{body_refusals}
use Rattle.demands.proofs.RefusalLaws.{one_of, Within, by_test, then_within}
use Rattle.refusal.specs.declared.Refusal.TheVariants.{UnknownCompression, OddHalves, ChannelShort}
use Rattle.refusal.specs.Outcome.{Outcome}
use Rattle.refusal.specs.declared.Refusal.{Refusal}

-- ---- steps that several chains have

module _ (refusals : List Refusal) where
  pub compression_within : {A : Type 0} → Among UnknownCompression refusals → (byte : ℕ) (next : Compression → Outcome A) → ((c : Compression) → Within refusals (next c))
      → Within refusals (by_compression (known_compression byte) next)
  unfolding known_compression
  compression_within a zero next later = later None
  compression_within a (suc zero) next later = later Fibonacci
  compression_within a (suc (suc n)) next later = a

  pub channel_within : Among ChannelShort refusals → (bytes : List ℕ) → Within refusals (fib_channel bytes)
  channel_within a bytes = by_test (Within refusals) (ltb (length bytes) 2) a tt

  pub stream_within : Among ChannelShort refusals → (c : Compression) (bytes : List ℕ) → Within refusals (stream c bytes)
  unfolding stream
  stream_within a None bytes = tt
  stream_within a Fibonacci bytes = channel_within a bytes

-- ---- decoding a BODY

body_short : (c : Compression) (bytes : List ℕ) → Within body_refusals (stream c bytes)
body_short = stream_within body_refusals (one_of body_refusals ChannelShort tt)

one_within : (c : Compression) (frames : ℕ) (body : List ℕ) → Within body_refusals (one_channel c frames body)
unfolding one_channel
one_within c frames body = then_within body_refusals (stream c body) _ (body_short c body) (λ samples. tt)

two_within : (c : Compression) (frames : ℕ) (body : List ℕ) → Within body_refusals (two_channels c frames body)
unfolding two_channels
two_within c frames body =
    by_test (Within body_refusals) (uneven c body) (one_of body_refusals OddHalves tt)
    (then_within body_refusals (stream c (left_half body)) _ (body_short c (left_half body)) (λ left.
    then_within body_refusals (stream c (right_half body)) _ (body_short c (right_half body)) (λ right. tt)))

pub body_within : (byte channels frames : ℕ) (body : List ℕ) → Within body_refusals (decoded_body byte channels frames body)
body_within byte channels frames body =
    compression_within body_refusals (one_of body_refusals UnknownCompression tt) byte _ (λ c.
    by_test (Within body_refusals) (ltb 1 channels) (two_within c frames body) (one_within c frames body))
