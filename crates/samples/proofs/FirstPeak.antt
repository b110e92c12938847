-- What is promised of the peak holds.
-- Assumes nothing.
use mathlib.Core.List.{List, [], ◌∷◌}
use mathlib.Core.Path.{◌≡◌, refl, ap}
use Prim.Native.Nat.{ℕ, ◌<◌}
use native.Mathlib.Omega.{arith}
use lib.IntN.{ℤ}
use lib.ListN.{length}
use Rattle.samples.specs.Peak.{loudest, first_with, peak_of}
use Rattle.samples.specs.FirstPeak.{IsFirstPeak, FirstPeak}
use Rattle.samples.specs.declared.loudness.Loudest.{Loudest}
use Rattle.samples.proofs.PeakLaws.{none_louder, first_has, first_before, first_is, loudest_there, peak_none, peak_is}
use Rattle.std.specs.Prelude.{None, Some}

-- the largest magnitude and its first place are the first peak
is_first : (l : List ℤ) → 0 < length l → IsFirstPeak l (loudest l) (first_with (loudest l) l)
is_first l some =
    let there = loudest_there (loudest l) l refl some in
    record {
      inside = there;
      has = first_has (loudest l) l there;
      none_louder = none_louder l;
      none_before = λ j before.
          let other = first_before (loudest l) l j before in
          omega (arith, none_louder l j (omega arith), other);
    }

found : (samples : List ℤ) (magnitude i : ℕ) → peak_of samples ≡ Some (record { magnitude = magnitude; place = i }) → IsFirstPeak samples magnitude i
found [] magnitude i e = let z : ◌≡◌ {A = ℕ} 0 1 = cc (peak_none [] refl) in absurd (omega arith)
found (x ∷ l) magnitude i e =
    let is = peak_is (x ∷ l) (omega arith) in
    let same : ◌≡◌ {A = Loudest} (record { magnitude = loudest (x ∷ l); place = first_with (loudest (x ∷ l)) (x ∷ l) }) (record { magnitude = magnitude; place = i }) = cc in
    let m : loudest (x ∷ l) ≡ magnitude = ap (λ (p : Loudest). p.magnitude) same in
    let p : first_with (loudest (x ∷ l)) (x ∷ l) ≡ i = ap (λ (p : Loudest). p.place) same in
    rw (← p, ← m) (is_first (x ∷ l) (omega arith))

finds : (samples : List ℤ) (magnitude i : ℕ) → IsFirstPeak samples magnitude i → peak_of samples ≡ Some (record { magnitude = magnitude; place = i })
finds l magnitude i h =
    let f = is_first l (omega (arith, h.inside)) in
    let low = h.none_louder (first_with (loudest l) l) f.inside in
    let high = f.none_louder i h.inside in
    let m : loudest l ≡ magnitude = omega (arith, low, high, f.has, h.has) in
    let p : first_with magnitude l ≡ i = first_is magnitude l i h.inside h.has (λ j before same. omega (arith, h.none_before j before, same)) in
    rw (peak_is l (omega (arith, h.inside)), m, p)

empty : (samples : List ℤ) → peak_of samples ≡ None → length samples ≡ 0
empty [] e = refl
empty (x ∷ l) e = let z : ◌≡◌ {A = ℕ} 0 1 = cc (peak_is (x ∷ l) (omega arith)) in absurd (omega arith)

pub first_peak : FirstPeak
unfolding peak_of loudest first_with
first_peak = record {
  found = found;
  finds = finds;
  empty = empty;
  no_samples = peak_none;
  first_of_equals = refl;
  lowest = refl;
  silence = refl;
}
