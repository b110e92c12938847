-- Linear arithmetic on ℤ, done by `omega` on ℕ. An integer z has a positive part, `up z`, and a negative part, `dn z`: z = up z - dn z, and one of them is 0.
--     omega (zarith, known f, sum x y, ..)     proves x ≡ y, x ≤ℤ y, x <ℤ y, SFits w z, T (non_neg z) and what omega proves of ℕ.
--                      It reads the tests that lead to a place, `lt_z a b ≡ true`, and equations of ℤ, by itself
--     known f          of f : SFits w z, as `c.fits.x`: the bounds of z's parts, and that `to_z w (of_z w z)` has the same parts
--     sum x y, diff x y, times z n, quot z d     the parts of x +ℤ y, x -ℤ y, z *ℤ pos n, quot_z z (pos d): list one for each such term in the goal
--     abs_parts z, mag_parts z                   nat_abs z and mag z by the parts
--     back w h, to_z-of_z f, widened, to_z_pos      the machine's reading of a number that fits is that number: `rw` with these, the inmost first
-- Each `one_is_zero` costs omega a case split, and it stops after six: list only what the goal needs, or a `.parts` field alone.
-- Assumes nothing.
use mathlib.Core.Path.{◌≡◌, refl, sym, ap, ◌∙◌, subst}
use mathlib.Core.Bool.{Bool, true, false, cond, not}
use Prim.Native.Nat.{ℕ, zero, suc, ◌+◌, ◌-◌, ◌*◌, ◌/◌, ◌^◌, ◌≤◌, ◌<◌, max}
use native.Mathlib.Nat.{zero-div, div-le_self}
use native.Mathlib.Omega.{arith}
use borrow.Author.Tests.{ltb-true, ltb-false, leb-true, leb-false}
use lib.Dec.{T, ltb, leb}
use lib.IntN.{ℤ, pos, negsuc, neg_ℤ, nat_abs, sub_ℕ, ◌+ℤ◌, ◌-ℤ◌, ◌*ℤ◌}
use lib.Signed.{mag, lt_z, le_z, non_neg, quot_z, ◌<ℤ◌, ◌≤ℤ◌, lt_z_no}
use mir.Syntax.{Width}
use mir.Val.{SFits, bits, hbits, to_z, of_z}
use mir.Facts.{to_z-of_z, to_z_pos, sfits_widen}
use mir.ValLaws.{half_full}

abbrev pub up : ℤ → ℕ
up (pos n) = n
up (negsuc n) = 0

abbrev pub dn : ℤ → ℕ
dn (pos n) = 0
dn (negsuc n) = suc n

-- one of the two is 0
pub apart : (z : ℤ) → up z - dn z ≡ up z
apart (pos n) = omega arith
apart (negsuc n) = omega arith

-- ---- equations

pub eq_z : (x y : ℤ) → up x + dn y ≡ up y + dn x → x ≡ y
eq_z (pos a) (pos b) e = ap pos (omega arith)
eq_z (pos a) (negsuc b) e = absurd (omega arith)
eq_z (negsuc a) (pos b) e = absurd (omega arith)
eq_z (negsuc a) (negsuc b) e = ap negsuc (omega arith)

pub eq_parts : (x y : ℤ) → x ≡ y → up x + dn y ≡ up y + dn x
eq_parts x y e = rw e (omega arith)

-- ---- sums

by_test : (a b : ℕ) (t : Bool) → ltb a b ≡ t → up (cond t (negsuc (b - suc a)) (pos (a - b))) + b ≡ dn (cond t (negsuc (b - suc a)) (pos (a - b))) + a
by_test a b true e = omega (arith, ltb-true a b e)
by_test a b false e = omega (arith, ltb-false a b e)

pub sub_parts : (a b : ℕ) → up (sub_ℕ a b) + b ≡ dn (sub_ℕ a b) + a
sub_parts a b = by_test a b (ltb a b) refl

sum_parts : (x y : ℤ) → up (x +ℤ y) + (dn x + dn y) ≡ dn (x +ℤ y) + (up x + up y)
sum_parts (pos a) (pos b) = omega arith
sum_parts (pos a) (negsuc b) = omega (arith, sub_parts a (suc b))
sum_parts (negsuc a) (pos b) = omega (arith, sub_parts b (suc a))
sum_parts (negsuc a) (negsuc b) = omega arith

-- the parts of a sum and of a difference: records, which `omega` reads by their fields
pub record Sum (x y : ℤ) : Type 0 where
  pub parts : up (x +ℤ y) + (dn x + dn y) ≡ dn (x +ℤ y) + (up x + up y)
  pub one_is_zero : up (x +ℤ y) - dn (x +ℤ y) ≡ up (x +ℤ y)

pub sum : (x y : ℤ) → Sum x y
sum x y = record { parts = sum_parts x y; one_is_zero = apart (x +ℤ y) }

neg_pos_up : (n : ℕ) → up (neg_ℤ (pos n)) ≡ 0
neg_pos_up zero = refl
neg_pos_up (suc n) = refl

neg_pos_dn : (n : ℕ) → dn (neg_ℤ (pos n)) ≡ n
neg_pos_dn zero = refl
neg_pos_dn (suc n) = refl

pub neg_up : (z : ℤ) → up (neg_ℤ z) ≡ dn z
neg_up (pos n) = neg_pos_up n
neg_up (negsuc n) = refl

pub neg_dn : (z : ℤ) → dn (neg_ℤ z) ≡ up z
neg_dn (pos n) = neg_pos_dn n
neg_dn (negsuc n) = refl

pub record Diff (x y : ℤ) : Type 0 where
  pub parts : up (x -ℤ y) + (dn x + up y) ≡ dn (x -ℤ y) + (up x + dn y)
  pub one_is_zero : up (x -ℤ y) - dn (x -ℤ y) ≡ up (x -ℤ y)

pub diff : (x y : ℤ) → Diff x y
diff x y = record { parts = omega (arith, sum_parts x (neg_ℤ y), neg_up y, neg_dn y); one_is_zero = apart (x -ℤ y) }

-- ---- a factor and a divisor that are not negative act on each part: division cuts toward zero

pub times_up : (z : ℤ) (n : ℕ) → up (z *ℤ pos n) ≡ up z * n
times_up (pos a) n = refl
times_up (negsuc a) n = omega (arith, neg_pos_up (suc a * n))

pub times_dn : (z : ℤ) (n : ℕ) → dn (z *ℤ pos n) ≡ dn z * n
times_dn (pos a) n = omega arith
times_dn (negsuc a) n = neg_pos_dn (suc a * n)

pub quot_up : (z : ℤ) (n : ℕ) → up (quot_z z (pos n)) ≡ up z / n
quot_up (pos a) n = refl
quot_up (negsuc a) n = neg_pos_up (suc a / n) ∙ sym (zero-div n)

pub quot_dn : (z : ℤ) (n : ℕ) → dn (quot_z z (pos n)) ≡ dn z / n
quot_dn (pos a) n = sym (zero-div n)
quot_dn (negsuc a) n = neg_pos_dn (suc a / n)

pub record Times (z : ℤ) (n : ℕ) : Type 0 where
  pub above : up (z *ℤ pos n) ≡ up z * n
  pub below : dn (z *ℤ pos n) ≡ dn z * n
  pub whole : nat_abs z * n ≡ up z * n + dn z * n

pub record Quot (z : ℤ) (d : ℕ) : Type 0 where
  pub above : up (quot_z z (pos d)) ≡ up z / d
  pub below : dn (quot_z z (pos d)) ≡ dn z / d
  pub no_higher : up (quot_z z (pos d)) ≤ up z
  pub no_lower : dn (quot_z z (pos d)) ≤ dn z

-- ---- magnitude and range

pub abs_parts : (z : ℤ) → nat_abs z ≡ up z + dn z
abs_parts (pos n) = omega arith
abs_parts (negsuc n) = omega arith

pub times : (z : ℤ) (n : ℕ) → Times z n
times z n = record { above = times_up z n; below = times_dn z n; whole = rw (abs_parts z) (omega arith) }

pub quot : (z : ℤ) (d : ℕ) → Quot z d
quot z d = record {
  above = quot_up z d;
  below = quot_dn z d;
  no_higher = rw (quot_up z d) (div-le_self (up z) d);
  no_lower = rw (quot_dn z d) (div-le_self (dn z) d);
}

pub mag_parts : (z : ℤ) → mag z ≡ max (up z) (dn z - 1)
mag_parts (pos n) = omega arith
mag_parts (negsuc n) = omega arith

pub fits_of : {w : Width} {z : ℤ} → max (up z + 1) (dn z) ≤ 2 ^ hbits w → SFits w z
fits_of {w} {z} h = record { sfits = omega (arith, mag_parts z) }

pub fits_parts : {w : Width} {z : ℤ} → SFits w z → max (up z + 1) (dn z) ≤ 2 ^ hbits w
fits_parts {w} {z} f = omega (arith, mag_parts z, apart z, f.sfits)

-- ---- tests

is_true : (t : Bool) → T t → t ≡ true
is_true true h = refl
is_true false h = absurd h

pub lt_z_true : (x y : ℤ) → lt_z x y ≡ true → up x + dn y < up y + dn x
lt_z_true (pos a) (pos b) e = omega (arith, ltb-true a b e)
lt_z_true (pos a) (negsuc b) e = absurd (subst T (sym e) tt)
lt_z_true (negsuc a) (pos b) e = omega arith
lt_z_true (negsuc a) (negsuc b) e = omega (arith, ltb-true b a e)

pub lt_z_false : (x y : ℤ) → lt_z x y ≡ false → up y + dn x ≤ up x + dn y
lt_z_false (pos a) (pos b) e = omega (arith, ltb-false a b e)
lt_z_false (pos a) (negsuc b) e = omega arith
lt_z_false (negsuc a) (pos b) e = absurd (subst T e tt)
lt_z_false (negsuc a) (negsuc b) e = omega (arith, ltb-false b a e)

pub le_z_true : (x y : ℤ) → le_z x y ≡ true → up x + dn y ≤ up y + dn x
le_z_true (pos a) (pos b) e = omega (arith, leb-true a b e)
le_z_true (pos a) (negsuc b) e = absurd (subst T (sym e) tt)
le_z_true (negsuc a) (pos b) e = omega arith
le_z_true (negsuc a) (negsuc b) e = omega (arith, leb-true b a e)

pub le_z_false : (x y : ℤ) → le_z x y ≡ false → up y + dn x < up x + dn y
le_z_false (pos a) (pos b) e = omega (arith, leb-false a b e)
le_z_false (pos a) (negsuc b) e = omega arith
le_z_false (negsuc a) (pos b) e = absurd (subst T e tt)
le_z_false (negsuc a) (negsuc b) e = omega (arith, leb-false b a e)

pub lt_lt_z : (x y : ℤ) → up x + dn y < up y + dn x → lt_z x y ≡ true
lt_lt_z x y h = flag (lt_z x y) refl
  where
    flag : (t : Bool) → lt_z x y ≡ t → t ≡ true
    flag true e = refl
    flag false e = absurd (omega (arith, lt_z_false x y e))

pub le_lt_z : (x y : ℤ) → up y + dn x ≤ up x + dn y → lt_z x y ≡ false
le_lt_z x y h = flag (lt_z x y) refl
  where
    flag : (t : Bool) → lt_z x y ≡ t → t ≡ false
    flag true e = absurd (omega (arith, lt_z_true x y e))
    flag false e = refl

pub lt_parts : {x y : ℤ} → x <ℤ y → up x + dn y < up y + dn x
lt_parts {x} {y} h = lt_z_true x y (is_true (lt_z x y) h.lt)

pub le_parts : {x y : ℤ} → x ≤ℤ y → up x + dn y ≤ up y + dn x
le_parts {x} {y} h = le_z_true x y (is_true (le_z x y) h.le)

pub lt_of : {x y : ℤ} → up x + dn y < up y + dn x → x <ℤ y
lt_of {x} {y} h = record { lt = subst T (sym (lt_lt_z x y h)) tt }

pub le_of : {x y : ℤ} → up x + dn y ≤ up y + dn x → x ≤ℤ y
le_of {x} {y} h = lt_z_no (subst (λ (t : Bool). T (not t)) (sym (le_lt_z y x h)) tt)

pub non_neg_of : (z : ℤ) → dn z ≡ 0 → T (non_neg z)
non_neg_of (pos n) e = tt
non_neg_of (negsuc n) e = absurd (omega arith)

-- the machine's reading of a signed number that fits
pub read_up : {w : Width} {z : ℤ} → SFits w z → up (to_z w (of_z w z)) ≡ up z
read_up f = ap up (to_z-of_z f)

pub read_dn : {w : Width} {z : ℤ} → SFits w z → dn (to_z w (of_z w z)) ≡ dn z
read_dn f = ap dn (to_z-of_z f)

-- the same from the bare bound, which is what a call's `.ok` and a slice's element hand over: `back w8 c.f.ok`
pub back : (w : Width) {z : ℤ} → mag z < 2 ^ hbits w → to_z w (of_z w z) ≡ z
back w h = to_z-of_z (record { sfits = h })

-- a cast to a wider signed type: `x as i16` of an i8
module _ (w w' : Width) {z : ℤ} (wider : T (leb (hbits w) (hbits w'))) (f : SFits w z) where
  pub widens : SFits w' (to_z w (of_z w z))
  widens = rw (to_z-of_z f) (sfits_widen wider f)

  pub widened : to_z w' (of_z w' (to_z w (of_z w z))) ≡ z
  widened = rw (to_z-of_z f) (to_z-of_z {w = w'} (sfits_widen wider f))

-- `!z` of a negative z is -z - 1, which is `mag z`
pub not_neg : (w : Width) (z : ℤ) → SFits w z → lt_z z (pos 0) ≡ true → to_z w (2 ^ bits w - 1 - of_z w z) ≡ pos (mag z)
not_neg w (pos n) f e = absurd (omega (arith, lt_z_true (pos n) (pos 0) e))
not_neg w (negsuc n) f e =
    let small : n < 2 ^ bits w = half_full w f.sfits in
    let same : 2 ^ bits w - 1 - (2 ^ bits w - suc n) ≡ n = omega arith in
    rw same (to_z_pos w f.sfits)

-- what is known of a signed value that fits its width: its parts, and that the machine reads it back
pub record Known (w : Width) (z : ℤ) : Type 0 where
  pub above : up z < 2 ^ hbits w
  pub below : dn z ≤ 2 ^ hbits w
  pub one_is_zero : up z - dn z ≡ up z
  pub back_up : up (to_z w (of_z w z)) ≡ up z
  pub back_dn : dn (to_z w (of_z w z)) ≡ dn z

pub known : {w : Width} {z : ℤ} → SFits w z → Known w z
known {w} {z} f = record { above = omega (arith, fits_parts f); below = omega (arith, fits_parts f); one_is_zero = apart z; back_up = read_up f; back_dn = read_dn f }

-- what `omega` is handed for ℤ
pub ruleset zarith = (arith, eq_z, eq_parts, fits_of, lt_z_true, lt_z_false, le_z_true, le_z_false, lt_parts, le_parts, lt_of, le_of, non_neg_of)
