-- What is promised of the peak. It is proved as `first_peak`.
use Rattle.std.specs.Prelude.{List, [], ◌∷◌, ◌≡◌, ℕ, ◌≤◌, ◌<◌, ℤ, pos, negsuc, length, None, Some}
use Rattle.samples.specs.Peak.{magnitude_at, peak_of}

-- place i has the largest magnitude, and is the first that has it
pub record IsFirstPeak (samples : List ℤ) (magnitude i : ℕ) : Type 0 where
  -- it is a place of the samples
  pub inside : i < length samples
  -- its sample has that magnitude
  pub has : magnitude_at samples i ≡ magnitude
  -- no sample is louder
  pub none_louder : (j : ℕ) → j < length samples → magnitude_at samples j ≤ magnitude
  -- no earlier one is as loud
  pub none_before : (j : ℕ) → j < i → magnitude_at samples j < magnitude

-- what an answer says and when it is given, and three examples
pub record FirstPeak : Type 0 where
  -- what is found is the first peak
  pub found : (samples : List ℤ) (magnitude i : ℕ) → peak_of samples ≡ Some (record { magnitude = magnitude; place = i }) → IsFirstPeak samples magnitude i
  -- and the first peak is found
  pub finds : (samples : List ℤ) (magnitude i : ℕ) → IsFirstPeak samples magnitude i → peak_of samples ≡ Some (record { magnitude = magnitude; place = i })
  -- empty is answered only where there are no samples
  pub empty : (samples : List ℤ) → peak_of samples ≡ None → length samples ≡ 0
  -- and where there are none it is
  pub no_samples : (samples : List ℤ) → length samples ≡ 0 → peak_of samples ≡ None
  -- of 5, -7, 7, -7 the first of three as loud; `negsuc 6` is -7
  pub first_of_equals : peak_of (pos 5 ∷ negsuc 6 ∷ pos 7 ∷ negsuc 6 ∷ []) ≡ Some (record { magnitude = 7; place = 1 })
  -- -128 is louder than 127
  pub lowest : peak_of (pos 127 ∷ negsuc 127 ∷ []) ≡ Some (record { magnitude = 128; place = 1 })
  -- silence has its peak at its first sample
  pub silence : peak_of (pos 0 ∷ pos 0 ∷ []) ≡ Some (record { magnitude = 0; place = 0 })
