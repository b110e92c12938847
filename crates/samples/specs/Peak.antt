-- The peak of samples: how loud the loudest is, and the first place that is as loud.
use Rattle.std.specs.Prelude.{cond, List, [], ◌∷◌, ℕ, suc, max, eqb, ℤ, pos, nat_abs, get_or, None, Option, Some}
use Rattle.samples.specs.declared.loudness.Loudest.{Loudest}

-- how loud sample i is: -128 counts as 128
abbrev pub magnitude_at : List ℤ → ℕ → ℕ
magnitude_at samples i = nat_abs (get_or samples i (pos 0))

-- the largest magnitude
unfoldable pub loudest : List ℤ → ℕ
loudest [] = 0
loudest (x ∷ xs) = max (nat_abs x) (loudest xs)

-- the first place whose sample has magnitude m; the number of samples where none has it
unfoldable pub first_with : ℕ → List ℤ → ℕ
first_with m [] = 0
first_with m (x ∷ xs) = cond (eqb (nat_abs x) m) 0 (suc (first_with m xs))

-- the peak: the largest magnitude and the first place that has it, or empty where there are no samples
unfoldable pub peak_of : List ℤ → Option Loudest
peak_of [] = None
peak_of (x ∷ xs) = Some (record { magnitude = loudest (x ∷ xs); place = first_with (loudest (x ∷ xs)) (x ∷ xs) })
