-- What sums in a signed byte mean for a reader and a writer of channels. It is proved as `wrapping`.
use Rattle.std.specs.Prelude.{◌≡◌, List, [], ◌∷◌, ℕ, ◌≤◌, ◌<◌, ℤ, pos, negsuc, ◌+ℤ◌, length, drop, ◌≤ℤ◌}
use Rattle.field.specs.BigEndian.{Bytes}
use Rattle.field.specs.Wrap.{to_sample}
use Rattle.fibonacci.specs.Step.{fib_step}
use Rattle.fibonacci.specs.Decode.{fib_samples}
use Rattle.fibonacci.specs.Pick.{fib_pick}
use Rattle.fibonacci.specs.Encode.{fib_bytes}

pub record Wrapping : Type 0 where
  -- a sum within -128..127 is the sample
  pub kept : (z : ℤ) → negsuc 127 ≤ℤ z → z ≤ℤ pos 127 → to_sample z ≡ z
  -- sums that are 256 apart lead to the same sample; with `kept` this says what every sum leads to
  pub turned : (z : ℤ) → to_sample (z +ℤ pos 256) ≡ to_sample z
  -- the nibble that led from one sample to the next is the one that is written for it
  pub nibble_back : (prev : ℤ) (nibble : ℕ) → nibble < 16 → fib_pick prev (fib_step prev nibble) ≡ nibble
  -- so a whole stream that was read is written as it was, but for byte 0, which is ignored in reading and written as 0
  pub stream_back : (body : List ℕ) → Bytes body → 2 ≤ length body → fib_bytes (fib_samples body) ≡ 0 ∷ drop 1 body
  -- from 127 to -128 it is one step up, by nibble 9: 00 7F 98
  pub up_past_127 : fib_bytes (pos 127 ∷ negsuc 127 ∷ []) ≡ 0x00 ∷ 0x7F ∷ 0x98 ∷ []
  -- and from -128 to 127 one step down, by nibble 7: 00 80 78
  pub down_past_128 : fib_bytes (negsuc 127 ∷ pos 127 ∷ []) ≡ 0x00 ∷ 0x80 ∷ 0x78 ∷ []
