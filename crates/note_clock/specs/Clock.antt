-- Milliseconds by quotient and remainder, and one frame more. What a frame is doesn't rest on this: its milliseconds are the quotient.
use Rattle.std.specs.Prelude.{ℕ, ◌+◌, ◌*◌, ◌/◌, ◌%◌, ◌≤◌, ◌<◌, ◌^◌, ◌≡◌}
use Rattle.note_clock.specs.declared.Clock.{Clock}

-- after n frames: quotient and remainder of 1,000 × n by the rate, and those of 1,000
pub record Shows (rate n : ℕ) (c : Clock) : Type 0 where
  pub rate_is : c.rate ≡ rate
  pub ms_is : c.ms ≡ 1000 * n / rate
  pub rem_is : c.rem ≡ 1000 * n % rate
  pub whole_is : c.whole ≡ 1000 / rate
  pub part_is : c.part ≡ 1000 % rate

-- one frame more: 1,000 is added to the remainder and the rate taken off as often as it fits, each time a millisecond
pub record Ticked (c r : Clock) : Type 0 where
  pub times : ℕ
  pub ms_is : r.ms ≡ c.ms + times
  pub rem_is : r.rem + times * c.rate ≡ c.rem + 1000
  pub fits_no_more : r.rem < c.rate
  pub rate_is : r.rate ≡ c.rate
  pub whole_is : r.whole ≡ c.whole
  pub part_is : r.part ≡ c.part

-- what a frame more asks: a remainder, the right parts of 1,000, and room for the sums
pub record Runs (c : Clock) : Type 0 where
  pub rem_small : c.rem < c.rate
  pub thousand : c.whole * c.rate + c.part ≡ 1000
  pub part_small : c.part < c.rate
  pub rate_fits : c.rate ≤ 192000
  pub ms_fits : c.ms ≤ 2 ^ 48
