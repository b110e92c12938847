-- What is promised of the nearest crossing.
-- Assumes nothing.
use Prim.Native.Nat.{ℕ}
use mathlib.Core.List.{List, [], ◌∷◌}
use mathlib.Core.Path.{◌≡◌, refl}
use native.Mathlib.Omega.{arith}
use lib.IntN.{ℤ, pos, negsuc}
use Rattle.crossing.specs.Crossing.{places_from, those, nearest_of, nearest_crossing}
use Rattle.crossing.specs.Promise.{IsCrossing, CrossingPromise}
use Rattle.crossing.proofs.NearestLaws.{nearest_found, nearest_none, found_nearest, none_refused, short_refused}
use Rattle.std.specs.Prelude.{Ok}

itself : (samples : List ℤ) (place reach : ℕ) → IsCrossing samples place → nearest_crossing samples place reach ≡ Ok place
itself samples place reach c =
    found_nearest samples place reach place (record {
      within = record { crossing = c; near = omega arith };
      nearest = λ j w. omega arith;
      earlier = λ j w same. omega (arith, same);
    })

alone : (samples : List ℤ) (place i : ℕ) → nearest_crossing samples place 0 ≡ Ok i → i ≡ place
alone samples place i e = omega (arith, (nearest_found samples place 0 i e).within.near)

earlier_of_two : nearest_crossing (pos 3 ∷ negsuc 0 ∷ negsuc 1 ∷ pos 4 ∷ []) 2 1 ≡ Ok 1
unfolding nearest_crossing nearest_of those places_from
earlier_of_two = refl

zero_not_below : nearest_crossing (pos 5 ∷ pos 0 ∷ negsuc 0 ∷ []) 0 9 ≡ Ok 2
unfolding nearest_crossing nearest_of those places_from
zero_not_below = refl

pub promise : CrossingPromise
promise = record {
  found = nearest_found;
  finds = found_nearest;
  refused = nearest_none;
  refuses = none_refused;
  short = short_refused;
  itself = itself;
  alone = alone;
  earlier_of_two = earlier_of_two;
  zero_not_below = zero_not_below;
}
