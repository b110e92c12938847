-- Worked examples, computed from the definitions.
-- Assumes nothing.
use mathlib.Core.Path.{◌≡◌, refl}
use mathlib.Core.List.{[], ◌∷◌}
use lib.IntN.{pos, negsuc}
use lib.ListN.{take}
use Rattle.field.specs.Signed.{twos_complement, twos_complement_bits}
use Rattle.field.specs.Wrap.{residue, to_sample}
use Rattle.fibonacci.specs.Step.{deltas, fib_step}
use Rattle.fibonacci.specs.Decode.{nibbles, running, fib_samples, fib_channel}
use Rattle.fibonacci.specs.Pick.{less, argmin, delta_size, nearest, distance, fib_pick}
use Rattle.fibonacci.specs.Encode.{picks, packed, fib_bytes}
use Rattle.std.specs.Prelude.{Err}
use Rattle.refusal.specs.declared.Refusal.TheVariants.{ChannelShort}

-- 00 64 F1: 100, 121, 100
pub rises : fib_samples (0x00 ∷ 0x64 ∷ 0xF1 ∷ []) ≡ pos 100 ∷ pos 121 ∷ pos 100 ∷ []
unfolding fib_samples running nibbles fib_step deltas to_sample residue twos_complement
rises = refl

-- 00 7F F8: 127, -108, -108
pub wraps_up : fib_samples (0x00 ∷ 0x7F ∷ 0xF8 ∷ []) ≡ pos 127 ∷ negsuc 107 ∷ negsuc 107 ∷ []
unfolding fib_samples running nibbles fib_step deltas to_sample residue twos_complement
wraps_up = refl

-- 00 80 00: -128, 94, 60
pub wraps_down : fib_samples (0x00 ∷ 0x80 ∷ 0x00 ∷ []) ≡ negsuc 127 ∷ pos 94 ∷ pos 60 ∷ []
unfolding fib_samples running nibbles fib_step deltas to_sample residue twos_complement
wraps_down = refl

-- a single byte is refused by 12
pub short : fib_channel (0x00 ∷ []) ≡ Err ChannelShort
short = refl

-- 0, 1: 00 00 98
pub one_up : fib_bytes (pos 0 ∷ pos 1 ∷ []) ≡ 0x00 ∷ 0x00 ∷ 0x98 ∷ []
unfolding fib_bytes picks packed fib_pick nearest argmin less distance delta_size fib_step deltas to_sample residue twos_complement twos_complement_bits
one_up = refl

-- 0, 4: 00 00 B8, by 3 and not by 5
pub tie_up : fib_bytes (pos 0 ∷ pos 4 ∷ []) ≡ 0x00 ∷ 0x00 ∷ 0xB8 ∷ []
unfolding fib_bytes picks packed fib_pick nearest argmin less distance delta_size fib_step deltas to_sample residue twos_complement twos_complement_bits
tie_up = refl

-- 0, -4: 00 00 58, by -3 and not by -5
pub tie_down : fib_bytes (pos 0 ∷ negsuc 3 ∷ []) ≡ 0x00 ∷ 0x00 ∷ 0x58 ∷ []
unfolding fib_bytes picks packed fib_pick nearest argmin less distance delta_size fib_step deltas to_sample residue twos_complement twos_complement_bits
tie_down = refl

-- decoded, these are 0, 3 and 0, -3
pub up_again : take 2 (fib_samples (fib_bytes (pos 0 ∷ pos 4 ∷ []))) ≡ pos 0 ∷ pos 3 ∷ []
unfolding fib_samples running nibbles fib_step deltas to_sample residue twos_complement
up_again = rw tie_up refl

pub down_again : take 2 (fib_samples (fib_bytes (pos 0 ∷ negsuc 3 ∷ []))) ≡ pos 0 ∷ negsuc 2 ∷ []
unfolding fib_samples running nibbles fib_step deltas to_sample residue twos_complement
down_again = rw tie_down refl

-- no samples: 00 00
pub none : fib_bytes [] ≡ 0x00 ∷ 0x00 ∷ []
unfolding fib_bytes
none = refl

-- 0, 100, 100: 00 00 FF
pub far : fib_bytes (pos 0 ∷ pos 100 ∷ pos 100 ∷ []) ≡ 0x00 ∷ 0x00 ∷ 0xFF ∷ []
unfolding fib_bytes picks packed fib_pick nearest argmin less distance delta_size fib_step deltas to_sample residue twos_complement twos_complement_bits
far = refl

-- -128, -128: 00 80 88
pub lowest : fib_bytes (negsuc 127 ∷ negsuc 127 ∷ []) ≡ 0x00 ∷ 0x80 ∷ 0x88 ∷ []
unfolding fib_bytes picks packed fib_pick nearest argmin less distance delta_size fib_step deltas to_sample residue twos_complement twos_complement_bits
lowest = refl

-- 127, 127: 00 7F 88
pub highest : fib_bytes (pos 127 ∷ pos 127 ∷ []) ≡ 0x00 ∷ 0x7F ∷ 0x88 ∷ []
unfolding fib_bytes picks packed fib_pick nearest argmin less distance delta_size fib_step deltas to_sample residue twos_complement twos_complement_bits
highest = refl

-- 127, -128: 00 7F 98, as 1 leads from 127 to -128
pub up_past_the_end : fib_bytes (pos 127 ∷ negsuc 127 ∷ []) ≡ 0x00 ∷ 0x7F ∷ 0x98 ∷ []
unfolding fib_bytes picks packed fib_pick nearest argmin less distance delta_size fib_step deltas to_sample residue twos_complement twos_complement_bits
up_past_the_end = refl

-- -128, 127: 00 80 78, as -1 leads from -128 to 127
pub down_past_the_end : fib_bytes (negsuc 127 ∷ pos 127 ∷ []) ≡ 0x00 ∷ 0x80 ∷ 0x78 ∷ []
unfolding fib_bytes picks packed fib_pick nearest argmin less distance delta_size fib_step deltas to_sample residue twos_complement twos_complement_bits
down_past_the_end = refl
