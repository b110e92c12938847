-- The compression of a voice.
use Rattle.std.specs.Prelude.{ℕ, zero, suc, Err, Ok}
use Rattle.header.specs.declared.compression.Compression.{Compression}
use Rattle.header.specs.declared.compression.Compression.TheVariants.{None, Fibonacci}
use Rattle.refusal.specs.declared.Refusal.TheVariants.{UnknownCompression}
use Rattle.refusal.specs.Outcome.{Outcome}

-- 0 is raw, 1 is Fibonacci, and above 1 it is refused by 10
unfoldable pub known_compression : ℕ → Outcome Compression
known_compression zero = Ok None
known_compression (suc zero) = Ok Fibonacci
known_compression (suc (suc n)) = Err UnknownCompression

-- what follows for a compression that is known; another is refused by 10
abbrev pub by_compression : {A : Type 0} → Outcome Compression → (Compression → Outcome A) → Outcome A
by_compression (Ok c) next = next c
by_compression (Err refusal) next = Err refusal
