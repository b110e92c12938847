-- What the code's helpers ask and give; no reader of the meanings needs it.
use Rattle.std.specs.Prelude.{ℕ, ◌^◌, ◌≤◌, cond, List, map, eqb, ltb, ℤ, length, Err, Ok}
use Rattle.field.specs.Signed.{sample_of}
use Rattle.header.specs.Octaves.{hi, total_samples}
use Rattle.header.specs.declared.compression.Compression.{Compression}
use Rattle.header.specs.declared.compression.Compression.TheVariants.{None, Fibonacci}
use Rattle.header.specs.declared.voice_header.VoiceHeader.{VoiceHeader}
use Rattle.fibonacci.specs.Decode.{fib_samples}
use Rattle.refusal.specs.declared.Refusal.TheVariants.{OctaveTotal, SamplesShort}
use Rattle.refusal.specs.Outcome.{Outcome}

-- how many samples there are
abbrev pub sample_count_of : Outcome (List ℤ) → Outcome ℕ
sample_count_of (Ok samples) = Ok (length samples)
sample_count_of (Err refusal) = Err refusal

-- how many of a stream's n samples are kept
abbrev pub kept_of : VoiceHeader → ℕ → Outcome ℕ
kept_of h n =
    cond (ltb (total_samples h) (2 ^ 64))
    (cond (eqb (hi h) 0) (Ok n) (cond (ltb n (total_samples h)) (Err SamplesShort) (Ok (total_samples h))))
    (Err OctaveTotal)

-- the samples of a stream, of any length
abbrev pub stream_samples : Compression → List ℕ → List ℤ
stream_samples None bytes = map sample_of bytes
stream_samples Fibonacci bytes = fib_samples bytes

-- a stream has n samples or more
abbrev pub StreamHas : Compression → List ℕ → ℕ → Type 0
StreamHas None bytes n = n ≤ length bytes
StreamHas Fibonacci bytes n = (2 ≤ length bytes) × (n ≤ length (fib_samples bytes))
