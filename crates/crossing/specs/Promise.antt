-- What is promised of the nearest crossing. It is proved as `promise`.
use Rattle.std.specs.Prelude.{ℕ, ◌≤◌, ◌<◌, true, List, [], ◌∷◌, ◌≡◌, ℤ, pos, negsuc, length, Err, Ok}
use Rattle.crossing.specs.Crossing.{sign_changes, far_off, nearest_crossing}
use Rattle.refusal.specs.declared.Refusal.TheVariants.{NoCrossing}
use Rattle.refusal.specs.declared.Refusal.{Refusal}

-- place i is a crossing
pub record IsCrossing (samples : List ℤ) (i : ℕ) : Type 0 where
  -- it is at least 1
  pub first : 1 ≤ i
  -- it is a place of the samples
  pub last : i < length samples
  -- the sign changes there
  pub changes : sign_changes samples i ≡ true

-- a crossing at most the reach away
pub record WithinReach (samples : List ℤ) (place reach i : ℕ) : Type 0 where
  pub crossing : IsCrossing samples i
  pub near : far_off place i ≤ reach

-- of the crossings within reach the nearest, and the earlier of two
pub record IsNearest (samples : List ℤ) (place reach i : ℕ) : Type 0 where
  -- it is one of them
  pub within : WithinReach samples place reach i
  -- every other is at least as far off
  pub nearest : (j : ℕ) → WithinReach samples place reach j → far_off place i ≤ far_off place j
  -- and one as far off isn't earlier
  pub earlier : (j : ℕ) → WithinReach samples place reach j → far_off place j ≡ far_off place i → i ≤ j

-- what an answer says and when it is given, and two examples
pub record CrossingPromise : Type 0 where
  -- what is found is the nearest
  pub found : (samples : List ℤ) (place reach i : ℕ) → nearest_crossing samples place reach ≡ Ok i → IsNearest samples place reach i
  -- and the nearest is found
  pub finds : (samples : List ℤ) (place reach i : ℕ) → IsNearest samples place reach i → nearest_crossing samples place reach ≡ Ok i
  -- it is refused by 43 alone, and only where there is none within reach
  pub refused : (samples : List ℤ) (place reach : ℕ) (n : Refusal) → nearest_crossing samples place reach ≡ Err n → (n ≡ NoCrossing) × ((j : ℕ) → WithinReach samples place reach j → ⊥)
  -- and where there is none it is refused
  pub refuses : (samples : List ℤ) (place reach : ℕ) → ((j : ℕ) → WithinReach samples place reach j → ⊥) → nearest_crossing samples place reach ≡ Err NoCrossing
  -- 0 or 1 samples have none
  pub short : (samples : List ℤ) (place reach : ℕ) → length samples ≤ 1 → nearest_crossing samples place reach ≡ Err NoCrossing
  -- a place that is a crossing itself is found, whatever the reach
  pub itself : (samples : List ℤ) (place reach : ℕ) → IsCrossing samples place → nearest_crossing samples place reach ≡ Ok place
  -- and reach 0 asks about the place alone
  pub alone : (samples : List ℤ) (place i : ℕ) → nearest_crossing samples place 0 ≡ Ok i → i ≡ place
  -- of 3, -1, -2, 4 the crossings are 1 and 3, which are as far from 2; `negsuc 0` is -1
  pub earlier_of_two : nearest_crossing (pos 3 ∷ negsuc 0 ∷ negsuc 1 ∷ pos 4 ∷ []) 2 1 ≡ Ok 1
  -- 0 is not below 0: of 5, 0, -1 the only crossing is 2
  pub zero_not_below : nearest_crossing (pos 5 ∷ pos 0 ∷ negsuc 0 ∷ []) 0 9 ≡ Ok 2
