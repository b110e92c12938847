-- The laws of the choice, for any distance. No other file of laws looks into `nearest`.
-- Assumes nothing.
use mathlib.Core.Path.{◌≡◌, refl, ap}
use mathlib.Core.Bool.{Bool, true, false}
use Prim.Native.Nat.{ℕ, ◌≤◌, ◌<◌}
use native.Mathlib.Nat.{le_refl, le_antisymm}
use native.Mathlib.Omega.{arith}
use borrow.Author.Tests.{ltb-true, ltb-false, eqb-true, eqb-false}
use lib.Dec.{eqb, ltb}
use Rattle.fibonacci.specs.Pick.{delta_size, nearest}
use Rattle.fibonacci.proofs.Least.{Least, argmin_least, argmin_same}

module _ (away : ℕ → ℕ) where
  -- no nibble is nearer; of those as near none has a delta nearer to 0; of those none is lower
  pub record Nearest (m : ℕ) : Type 0 where
    pub within : m < 16
    pub near : (k : ℕ) → k < 16 → away m ≤ away k
    pub small : (k : ℕ) → k < 16 → away k ≡ away m → delta_size m ≤ delta_size k
    pub low : (k : ℕ) → k < 16 → away k ≡ away m → delta_size k ≡ delta_size m → m ≤ k

  abbrev pub key : ℕ → ℕ × ℕ
  key nibble = (away nibble, delta_size nibble)

  pub nearest_laws : Nearest (nearest away)
  unfolding nearest
  nearest_laws = record {
    within = omega (arith, l.within);
    near = (λ k h. (l.least k (omega arith)).first);
    small = (λ k h e. (l.least k (omega arith)).second (omega arith));
    low = (λ k h e s. low k e s (ltb k m) refl);
  }
    where
      m : ℕ
      m = nearest away

      l : Least key 15 m
      l = argmin_least key 15

      low : (k : ℕ) → away k ≡ away m → delta_size k ≡ delta_size m → (t : Bool) → ltb k m ≡ t → m ≤ k
      low k e s true q = absurd (omega (arith, (l.first k (ltb-true k m q)).second (omega arith)))
      low k e s false q = ltb-false k m q

  -- there is one such nibble
  pub nearest_one : (m : ℕ) → Nearest m → m ≡ nearest away
  nearest_one m p =
      let n = nearest away in
      let q = nearest_laws in
      let as_near : away n ≡ away m = omega (arith, p.near n q.within, q.near m p.within) in
      let as_large : delta_size n ≡ delta_size m = omega (arith, p.small n q.within as_near, q.small m p.within (omega arith)) in
      le_antisymm (p.low n q.within as_near as_large) (q.low m p.within (omega arith) (omega arith))

  -- a nibble that alone is nearest is chosen, whatever the rule for equals
  pub nearest_alone : (m : ℕ) → m < 16 → ((k : ℕ) → k < 16 → (k ≡ m → ⊥) → away m < away k) → m ≡ nearest away
  nearest_alone m w nearer = nearest_one m record {
    within = w;
    near = (λ k h. near k h (eqb k m) refl);
    small = (λ k h e. rw (same k h e) (le_refl _));
    low = (λ k h e s. rw (same k h e) (le_refl _));
  }
    where
      near : (k : ℕ) → k < 16 → (t : Bool) → eqb k m ≡ t → away m ≤ away k
      near k h true q = rw (eqb-true k m q) (le_refl _)
      near k h false q = omega (arith, nearer k h (eqb-false k m q))

      same : (k : ℕ) → k < 16 → away k ≡ away m → k ≡ m
      same k h e = go (eqb k m) refl
        where
          go : (t : Bool) → eqb k m ≡ t → k ≡ m
          go true q = eqb-true k m q
          go false q = absurd (omega (arith, nearer k h (eqb-false k m q)))

-- it is the same for distances that are the same at each nibble
pub nearest_same : (f g : ℕ → ℕ) → ((k : ℕ) → k < 16 → f k ≡ g k) → nearest f ≡ nearest g
unfolding nearest
nearest_same f g same = argmin_same (key f) (key g) 15 (λ k h. ap (λ (n : ℕ). (n, delta_size k)) (same k (omega arith)))
