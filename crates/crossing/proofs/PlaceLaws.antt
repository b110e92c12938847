-- Which places a list has: those that pass a test, and a run of places.
-- Assumes nothing.
use Prim.Native.Nat.{ℕ, zero, suc, ◌+◌, ◌≤◌, ◌<◌}
use mathlib.Core.Bool.{Bool, true, false, cond}
use mathlib.Core.List.{List, [], ◌∷◌}
use mathlib.Core.Logic.{inl, inr}
use mathlib.Core.Path.{◌≡◌, refl}
use native.Mathlib.Omega.{arith}
use borrow.Author.Tests.{eqb-true, eqb-false}
use lib.Dec.{eqb}
use Rattle.laws.specs.Among.{Among}
use Rattle.crossing.specs.Crossing.{places_from, those}

module _ (test : ℕ → Bool) (j : ℕ) where
  pub passed : (l : List ℕ) → Among j (those test l) → Among j l × (test j ≡ true)
  unfolding those
  passed [] h = absurd h
  passed (i ∷ is) h = go (test i) refl h (passed is)
    where
      go : (t : Bool) → test i ≡ t → Among j (cond t (i ∷ those test is) (those test is)) → (Among j (those test is) → Among j is × (test j ≡ true)) → Among j (i ∷ is) × (test j ≡ true)
      go true e (inl same) later = (inl same, rw same e)
      go true e (inr h) later = (inr (later h).0, (later h).1)
      go false e h later = (inr (later h).0, (later h).1)

  pub passes : (l : List ℕ) → Among j l → test j ≡ true → Among j (those test l)
  unfolding those
  passes [] h e = absurd h
  passes (i ∷ is) (inl same) e = rw (← same, e) (inl refl)
  passes (i ∷ is) (inr h) e = go (test i) (passes is h e)
    where
      go : (t : Bool) → Among j (those test is) → Among j (cond t (i ∷ those test is) (those test is))
      go true h = inr h
      go false h = h

pub place_bounds : (j i n : ℕ) → Among j (places_from i n) → (i ≤ j) × (j < i + n)
unfolding places_from
place_bounds j i zero h = absurd h
place_bounds j i (suc n) (inl same) = (omega (arith, same), omega (arith, same))
place_bounds j i (suc n) (inr h) = let b = place_bounds j (suc i) n h in (omega (arith, b.0), omega (arith, b.1))

pub place_in : (j i n : ℕ) → i ≤ j → j < i + n → Among j (places_from i n)
unfolding places_from
place_in j i zero low high = absurd (omega arith)
place_in j i (suc n) low high = go (eqb j i) refl (λ on. place_in j (suc i) n on (omega arith))
  where
    go : (t : Bool) → eqb j i ≡ t → (suc i ≤ j → Among j (places_from (suc i) n)) → Among j (i ∷ places_from (suc i) n)
    go true e later = inl (eqb-true j i e)
    go false e later = inr (later (omega (arith, eqb-false j i e)))
