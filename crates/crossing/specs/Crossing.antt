-- Places where the sign of samples changes, and the nearest of them to a place.
use Rattle.std.specs.Prelude.{ℕ, zero, suc, ◌+◌, ◌-◌, Bool, not, ◌&&◌, ◌||◌, cond, List, [], ◌∷◌, eqb, ltb, leb, ℤ, pos, length, get_or, Err, Ok}
use Rattle.std.specs.Int.Signed.{lt_z}
use Rattle.refusal.specs.declared.Refusal.TheVariants.{NoCrossing}
use Rattle.refusal.specs.Outcome.{Outcome}

-- sample i is below 0
abbrev pub is_below : List ℤ → ℕ → Bool
is_below samples i = lt_z (get_or samples i (pos 0)) (pos 0)

-- the one holds and the other does not, or the other way round
abbrev pub unlike : Bool → Bool → Bool
unlike a b = a && not b || not a && b

-- the sign changes at place i: sample i - 1 is below 0 and sample i is not, or the other way round
abbrev pub sign_changes : List ℤ → ℕ → Bool
sign_changes samples i = unlike (is_below samples (i - 1)) (is_below samples i)

-- n places from i on
unfoldable pub places_from : ℕ → ℕ → List ℕ
places_from i zero = []
places_from i (suc n) = i ∷ places_from (suc i) n

-- those places of a list that pass a test
unfoldable pub those : (ℕ → Bool) → List ℕ → List ℕ
those test [] = []
those test (i ∷ is) = cond (test i) (i ∷ those test is) (those test is)

-- the crossings of samples: of all places from 1 to length - 1 those where the sign changes
abbrev pub crossings : List ℤ → List ℕ
crossings samples = those (sign_changes samples) (places_from 1 (length samples - 1))

-- how far place i is from the place that was pointed at; one of the two differences is 0
abbrev pub far_off : ℕ → ℕ → ℕ
far_off place i = (place - i) + (i - place)

-- j comes before i: it is nearer to that place, or as near and earlier
abbrev pub comes_first : ℕ → ℕ → ℕ → Bool
comes_first place j i = ltb (far_off place j) (far_off place i) || eqb (far_off place j) (far_off place i) && ltb j i

-- i, or what is found among the others, whichever comes first
abbrev pub nearer : ℕ → ℕ → Outcome ℕ → Outcome ℕ
nearer place i (Ok j) = Ok (cond (comes_first place j i) j i)
nearer place i (Err refusal) = Ok i

-- the nearest of a list of places, of two as near the earlier; 43 where there is none
unfoldable pub nearest_of : ℕ → List ℕ → Outcome ℕ
nearest_of place [] = Err NoCrossing
nearest_of place (i ∷ is) = nearer place i (nearest_of place is)

-- the nearest of the crossings that are at most the reach away
unfoldable pub nearest_crossing : List ℤ → ℕ → ℕ → Outcome ℕ
nearest_crossing samples place reach = nearest_of place (those (λ i. leb (far_off place i) reach) (crossings samples))
