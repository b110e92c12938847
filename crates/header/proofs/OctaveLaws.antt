-- How the octaves' lengths add up, when their total is refused, and what the code's factor and quotient are.
--     octave_next      octave k starts where the ones before it end
--     octave_end       each octave ends within the total
-- Assumes nothing.
use Prim.Native.Nat.{ℕ, ◌+◌, ◌-◌, ◌*◌, ◌/◌, ◌%◌, ◌^◌, ◌≤◌, ◌<◌, min}
use mathlib.Core.Bool.{Bool, true, false, cond}
use mathlib.Core.Path.{◌≡◌, refl, sym, ap, ap₂, ◌∙◌}
use native.Mathlib.Nat.{mul-add, pow-suc, zero-mul, mul-le-mul, mul-le-mul_left, le-div_iff_mul-le, div-lt_iff_lt-mul}
use native.Mathlib.Numerals.{add-one}
use native.Mathlib.Omega.{arith}
use borrow.Author.Tests.{lt-ltb, le-ltb, ltb-true, ltb-false}
use lib.Dec.{ltb}
use lib.Pow.{pow_pos, pow_mono, high, ones_lt, ones_split}
use Rattle.header.specs.Octaves.{hi, octaves, in_octave, total_samples, total}
use Rattle.header.specs.declared.voice_header.VoiceHeader.{VoiceHeader}
use Rattle.refusal.specs.declared.Refusal.TheVariants.{OctaveTotal}
use Rattle.refusal.specs.declared.Refusal.{Refusal}
use Rattle.std.specs.Prelude.{Err, None, Ok, Some}

-- ---- a length in octave k

module _ (h : VoiceHeader) (n k : ℕ) where
  pub octave_there_lem : k < min 64 (octaves h) → in_octave h n k ≡ Some (n * 2 ^ k % 2 ^ 64)
  octave_there_lem l = rw (lt-ltb k (min 64 (octaves h)) l)

  pub octave_absent : min 64 (octaves h) ≤ k → in_octave h n k ≡ None
  octave_absent l = rw (le-ltb k (min 64 (octaves h)) l)

-- octave k starts where the ones before it end: the lengths of the first k, and octave k's, are those of the first k + 1
pub octave_next : (h : VoiceHeader) (k : ℕ) → hi h * (2 ^ k - 1) + hi h * 2 ^ k ≡ hi h * (2 ^ (k + 1) - 1)
octave_next h k =
    let e : 2 ^ k - 1 + 2 ^ k ≡ 2 ^ (k + 1) - 1 = rw (add-one k, pow-suc 2 k) (omega (arith, pow_pos k)) in
    sym (mul-add (hi h) (2 ^ k - 1) (2 ^ k)) ∙ ap (λ (x : ℕ). hi h * x) e

-- each octave ends within the total
pub octave_end : (h : VoiceHeader) (k : ℕ) → k < octaves h → hi h * (2 ^ k - 1) + hi h * 2 ^ k ≤ total_samples h
unfolding total_samples
octave_end h k l =
    let p : 2 ^ (k + 1) ≤ 2 ^ octaves h = pow_mono (rw add-one l) in
    let q : 2 ^ (k + 1) - 1 ≤ 2 ^ octaves h - 1 = omega arith in
    rw (octave_next h k) (mul-le-mul_left (hi h) q)

-- ---- when the total is refused

pub total_sum : (h : VoiceHeader) → total_samples h < 2 ^ 64 → total h ≡ Ok (total_samples h)
total_sum h l = rw (lt-ltb (total_samples h) (2 ^ 64) l)

pub total_large : (h : VoiceHeader) → 2 ^ 64 ≤ total_samples h → total h ≡ Err OctaveTotal
total_large h l = rw (le-ltb (total_samples h) (2 ^ 64) l)

pub total_none : (h : VoiceHeader) → hi h ≡ 0 → total h ≡ Ok 0
unfolding total_samples
total_none h e =
    let z : total_samples h ≡ 0 = ap (λ (x : ℕ). x * (2 ^ octaves h - 1)) e ∙ zero-mul (2 ^ octaves h - 1) in
    total_sum h (omega arith) ∙ ap Ok z

-- one sample in over 64 octaves is already too much
pub many_octaves : (h : VoiceHeader) → 0 < hi h → 64 < octaves h → 2 ^ 64 ≤ total_samples h
unfolding total_samples
many_octaves h some many =
    let p : 2 ^ 65 ≤ 2 ^ octaves h = pow_mono many in
    let q : 2 ^ 64 ≤ 2 ^ octaves h - 1 = omega arith in
    mul-le-mul {n₁ = 1} some q

-- ---- the code's way to the total, within 64 bits

-- the k highest of w ones, moved down: what the code multiplies by
pub ones_high : (w k : ℕ) → k ≤ w → (2 ^ w - 1) / 2 ^ (w - k) ≡ 2 ^ k - 1
ones_high w k h =
    let j = w - k in
    let e : w ≡ k + j = omega arith in
    ap (λ (x : ℕ). (2 ^ x - 1) / 2 ^ j) e ∙ ap (λ (x : ℕ). x / 2 ^ j) (ones_split k j) ∙ high (2 ^ k - 1) j (ones_lt j)

-- n is hi and f the other factor of the total: n is compared with what f leaves room for
module _ (h : VoiceHeader) (n f : ℕ) (first : n ≡ hi h) (second : f ≡ 2 ^ octaves h - 1) where
  pub factor_pos : 0 < f
  factor_pos =
      let some : 1 ≤ octaves h = omega arith in
      let p : 2 ^ 1 ≤ 2 ^ octaves h = pow_mono some in
      omega arith

  pub product : n * f ≡ total_samples h
  unfolding total_samples
  product = ap₂ (λ (x y : ℕ). x * y) first second

  pub room : n ≤ (2 ^ 64 - 1) / f → total_samples h < 2 ^ 64
  room l = omega (arith, (le-div_iff_mul-le {y = 2 ^ 64 - 1} factor_pos).0 l, product)

  pub no_room : (2 ^ 64 - 1) / f < n → 2 ^ 64 ≤ total_samples h
  no_room l = omega (arith, (div-lt_iff_lt-mul {x = 2 ^ 64 - 1} factor_pos).0 l, product)

-- the total, where it is one
pub total_is : (h : VoiceHeader) (n : ℕ) → total h ≡ Ok n → (total_samples h < 2 ^ 64) × (total_samples h ≡ n)
total_is h n = go (ltb (total_samples h) (2 ^ 64)) refl
  where
    go : (t : Bool) → ltb (total_samples h) (2 ^ 64) ≡ t → cond t (Ok (total_samples h)) (Err OctaveTotal) ≡ Ok n → (total_samples h < 2 ^ 64) × (total_samples h ≡ n)
    go true te e = (ltb-true (total_samples h) (2 ^ 64) te, cc)
    go false te e = let z : ◌≡◌ {A = ℕ} 0 1 = cc in absurd (omega arith)

-- and where it is not
pub total_not : (h : VoiceHeader) (refusal : Refusal) → total h ≡ Err refusal → (2 ^ 64 ≤ total_samples h) × (OctaveTotal ≡ refusal)
total_not h refusal = go (ltb (total_samples h) (2 ^ 64)) refl
  where
    go : (t : Bool) → ltb (total_samples h) (2 ^ 64) ≡ t → cond t (Ok (total_samples h)) (Err OctaveTotal) ≡ Err refusal → (2 ^ 64 ≤ total_samples h) × (OctaveTotal ≡ refusal)
    go true te e = let z : ◌≡◌ {A = ℕ} 0 1 = cc in absurd (omega arith)
    go false te e = (ltb-false (total_samples h) (2 ^ 64) te, cc)
