-- What the code's helpers ask and give; no reader of the meanings needs it.
use Rattle.std.specs.Prelude.{◌≡◌, cond, List, ℕ, zero, suc, ◌-◌, ◌<◌, ◌+◌, ◌*◌, ◌/◌, ◌%◌, min, eqb, ℤ, pos, nat_abs, ◌+ℤ◌, ◌-ℤ◌, length, get_or}
use Rattle.fibonacci.specs.Step.{deltas, fib_step}
use Rattle.fibonacci.specs.Pick.{nearest, distance, fib_pick}
use Rattle.fibonacci.specs.declared.encode.PackedPair.{PackedPair}
use Rattle.fibonacci.specs.declared.pick.NearestStep.{NearestStep}
use Rattle.fibonacci.specs.declared.pick.Picked.{Picked}

-- ---- by the change from the running sample to the target

-- the nibble whose delta is nearest to a change
unfoldable pub nearest_delta : ℤ → ℕ
nearest_delta change = nearest (λ k. nat_abs (get_or deltas k (pos 0) -ℤ change))

-- that nibble, and its delta
abbrev pub nearest_step : ℤ → NearestStep
nearest_step change = record { nibble = nearest_delta change; delta = get_or deltas (nearest_delta change) (pos 0) }

-- the table that is lent to every choice, for the changes from -33 to 21: letters of the nibbles, A for 0, and then of their deltas, c for 0
pub record NearestTable (table : List ℕ) : Type 0 where
  pub all : length table ≡ 110
  pub nibbles : (k : ℕ) → k < 55 → get_or table k 0 ≡ 65 + nearest_delta (pos k -ℤ pos 33)
  pub steps : (k : ℕ) → k < 55 → pos (get_or table (k + 55) 0) ≡ get_or deltas (nearest_delta (pos k -ℤ pos 33)) (pos 0) +ℤ pos 99

-- ---- by a look at all sixteen nibbles

-- the nibbles by the size of their deltas, the smallest first, and of two as large the lower: 8, 7, 9, 6, 10, ..
unfoldable pub by_size : ℕ → ℕ
by_size i = cond (eqb (i % 2) 0) (8 + i / 2) (7 - i / 2)

-- their deltas, in that order
pub record DeltasBySize (list : List ℤ) : Type 0 where
  pub all : length list ≡ 16
  pub each : (i : ℕ) → i < 16 → get_or list i (pos 0) ≡ get_or deltas (by_size i) (pos 0)

-- what the nibble at a place of that order is judged by, in one number: how far from the target it leads, and below that its place
unfoldable pub key_at : ℤ → ℤ → ℕ → ℕ
key_at prev target i = distance prev target (by_size i) * 16 + i

-- the least of the first n keys, or 4096, which is more than any
unfoldable pub least_of : (ℕ → ℕ) → ℕ → ℕ
least_of key zero = 4096
least_of key (suc n) = min (least_of key n) (key n)

-- ---- what is written

-- the nibble for a target, and the sample that the decoder has after it
abbrev pub picked : ℤ → ℤ → Picked
picked prev target = record { nibble = fib_pick prev target; sample = fib_step prev (fib_pick prev target) }

-- the byte for two samples that follow `prev`, and the sample that the decoder has after them
abbrev pub packed_pair : ℤ → ℤ → ℤ → PackedPair
packed_pair prev a b = record {
  byte = fib_pick prev a * 16 + fib_pick (fib_step prev (fib_pick prev a)) b;
  last = fib_step (fib_step prev (fib_pick prev a)) (fib_pick (fib_step prev (fib_pick prev a)) b);
}
