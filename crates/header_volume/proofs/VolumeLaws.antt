-- The number of digits dropped, the bounds that the code needs, and that Rust's `volume as f32 / 65536.0` is the same float. Assumes nothing.
use mathlib.Core.Path.{◌≡◌, refl, sym, ap, ◌∙◌, subst}
use mathlib.Core.Bool.{Bool, true, false}
use Prim.Native.Nat.{ℕ, zero, suc, zero-le, ◌+◌, ◌-◌, ◌*◌, ◌/◌, ◌%◌, ◌^◌, ◌≤◌, ◌<◌, compare, Ordering}
use native.Mathlib.Nat.{le_trans, le_of_eq, le_of_lt, lt_irrefl, lt_of_lt_of_le, lt_of_le_of_lt, lt_of_not-le, not-le_of_lt}
use native.Mathlib.Nat.{mul-one, one-mul, mul_assoc, mul_comm, mul_right_comm, mul-pos, mul-le-mul_right, mul-le-mul_left, mul-div_cancel, mul-lt-mul_of_pos_right}
use native.Mathlib.Nat.{div-one, mod-one, eq_of_mul-eq-mul_right}
use native.Mathlib.Omega.{arith}
use borrow.Author.Tests.{ltb-true, ltb-false}
use lib.Count.{count_leading_zeros}
use Rattle.std.proofs.lemmas.Nat.{leading_length}
use Rattle.std.proofs.Math.Nat.{pow-suc}
use lib.Dec.{T, ltb, is_le, compare_is_eq, le→leb, leb→le, eqb→eq, lit<}
use lib.IntN.{pos}
use lib.Pow.{pow-add, pow_pos, pow_mono}
use lib.Ieee.{Float, nan, inf, fin, binary32, up, down, round, size, div, of_int, nearest}
use lib.Ieee.Digits.{size-lt, size-le, size_reaches}
use lib.Ieee.Fits.{kept-lt, nearest-le, eq→eqb}
use lib.Ieee.Nearest.{closest, closest_same}
use lib.Ieee.Exact.{HasValue}
use lib.Ieee.Scale.{grid, round_val, round_same}
use lib.Ieee.Back.{round_whole}
use Rattle.laws.proofs.Floats.{quotient, whole_value}
use Rattle.header_volume.specs.Volume.{lowest_digit, kept_digits, rounded24, volume_float}

-- ---- how many digits

-- a number from 2 ^ j on has more than j digits
size_gt : (n j : ℕ) → 2 ^ j ≤ n → j < size n
size_gt n j h = lt_of_not-le (λ (g : size n ≤ j). not-le_of_lt (lt_of_lt_of_le (size-lt n) (pow_mono g)) h)

-- few digits: all are kept
pub digit_small : (v : ℕ) → v < 2 ^ 24 → lowest_digit v ≡ 1
unfolding lowest_digit
digit_small v h =
    let z : size v - 24 ≡ 0 = omega (arith, size-le v 24 h) in
    ap (λ (x : ℕ). 2 ^ x) z

-- how many digits a number has, by its leading zeros
size_is : (v : ℕ) → v < 2 ^ 32 → size v ≡ 32 - count_leading_zeros 32 v
size_is v h =
    let counted = leading_length 32 v h in
    let least : counted.0 ≤ size v = reached counted.0 counted.3 in
    omega (arith, counted.1, size-le v counted.0 counted.2, least)
  where
    reached : (m : ℕ) → 2 ^ m ≤ 2 * v + 1 → m ≤ size v
    reached zero g = zero-le
    reached (suc m) g = size_gt v m (omega (arith, g, pow-suc 2 m))

-- a digit is dropped for each leading zero short of eight
pub digit_is : (v : ℕ) → v < 2 ^ 32 → 2 ^ (8 - count_leading_zeros 32 v) ≡ lowest_digit v
unfolding lowest_digit
digit_is v h =
    let e : 8 - count_leading_zeros 32 v ≡ size v - 24 = omega (arith, size_is v h) in
    ap (λ (x : ℕ). 2 ^ x) e

pub digit_pos : (v : ℕ) → 0 < lowest_digit v
unfolding lowest_digit
digit_pos v = pow_pos (size v - 24)

few : (v : ℕ) → v < 2 ^ 32 → size v - 24 ≤ 8
few v h = omega (arith, size-le v 32 h)

pub digit_le : (v : ℕ) → v < 2 ^ 32 → lowest_digit v ≤ 256
unfolding lowest_digit
digit_le v h = pow_mono (few v h)

-- the unit divides 65,536
pub digit_divides : (v : ℕ) → v < 2 ^ 32 → lowest_digit v * (65536 / lowest_digit v) ≡ 65536
unfolding lowest_digit
digit_divides v h =
    let k = size v - 24 in
    let e : 16 - k + k ≡ 16 = omega (arith, few v h) in
    let split : 65536 ≡ 2 ^ (16 - k) * 2 ^ k = ap (λ (x : ℕ). 2 ^ x) (sym e) ∙ pow-add 2 (16 - k) k in
    ap (λ (x : ℕ). 2 ^ k * (x / 2 ^ k)) split ∙ ap (λ (x : ℕ). 2 ^ k * x) (mul-div_cancel (2 ^ (16 - k)) (pow_pos k)) ∙ mul_comm (2 ^ k) (2 ^ (16 - k)) ∙ sym split

-- the quotient has 24 digits at most, so what is kept is at most 2 ^ 24
pub quotient_lt : (v : ℕ) → v / lowest_digit v < 2 ^ 24
unfolding lowest_digit
quotient_lt v = kept-lt 24 v

pub kept_le : (v : ℕ) → kept_digits v ≤ 2 ^ 24
unfolding kept_digits lowest_digit
kept_le v = le_trans (nearest-le (v / lowest_digit v) (compare (v % lowest_digit v * 2) (lowest_digit v))) (quotient_lt v)

-- ---- the three cases of the nearest number

is_lt : (o : Ordering) → T (is_le o) → (T (compare_is_eq o) → ⊥) → o ≡ Ordering.lt
is_lt Ordering.lt a b = refl
is_lt Ordering.eq a b = absurd (b tt)
is_lt Ordering.gt a b = absurd a

is_eq : (o : Ordering) → T (compare_is_eq o) → o ≡ Ordering.eq
is_eq Ordering.lt a = absurd a
is_eq Ordering.eq a = refl
is_eq Ordering.gt a = absurd a

is_gt : (o : Ordering) → (T (is_le o) → ⊥) → o ≡ Ordering.gt
is_gt Ordering.lt a = absurd (a tt)
is_gt Ordering.eq a = absurd (a tt)
is_gt Ordering.gt a = refl

pub closest_below : (a b : ℕ) → a % b * 2 < b → closest a b ≡ a / b
closest_below a b h =
    ap (nearest (a / b)) (is_lt (compare (a % b * 2) b) (le→leb (a % b * 2) b (le_of_lt h)) (λ t. lt_irrefl b (subst (λ (x : ℕ). x < b) (eqb→eq (a % b * 2) b t) h)))

pub closest_tie : (a b : ℕ) → a % b * 2 ≡ b → closest a b ≡ a / b + a / b % 2
closest_tie a b h = ap (nearest (a / b)) (is_eq (compare (a % b * 2) b) (eq→eqb h))

pub closest_above : (a b : ℕ) → b < a % b * 2 → closest a b ≡ suc (a / b)
closest_above a b h = ap (nearest (a / b)) (is_gt (compare (a % b * 2) b) (λ t. not-le_of_lt h (leb→le (a % b * 2) b t)))

pub kept_is : (v u : ℕ) → u ≡ lowest_digit v → closest v u ≡ kept_digits v
unfolding kept_digits
kept_is v u e = ap (λ (x : ℕ). closest v x) e

-- ---- the code's division, of what is kept by 65,536 over the unit, is the one that the volume's meaning names

pub divisor_pos : (v : ℕ) → v < 2 ^ 32 → 0 < 65536 / lowest_digit v
divisor_pos v h = above (lowest_digit v) (65536 / lowest_digit v) (digit_divides v h)
  where
    above : (a b : ℕ) → a * b ≡ 65536 → 0 < b
    above a b e = lt_of_not-le (λ (g : b ≤ 0). none a b g e)
      where
        none : (a b : ℕ) → b ≤ 0 → a * b ≡ 65536 → ⊥
        none a b g e = let z : a * b ≤ a * 0 = mul-le-mul_left a g in omega arith

pub divided : (v : ℕ) → v < 2 ^ 32 → 65536 / lowest_digit v ≤ 2 ^ 24 → div binary32 (of_int binary32 (pos (kept_digits v))) (of_int binary32 (pos (65536 / lowest_digit v))) ≡ volume_float v
divided v h d =
    let q = kept_digits v in
    let u = lowest_digit v in
    quotient binary32 (of_int binary32 (pos q)) (of_int binary32 (pos (65536 / u))) q (65536 / u) (divisor_pos v h) (whole_value q (kept_le v)) (whole_value (65536 / u) d)
    ∙ round_same binary32 false q (65536 / u) (q * u) 65536 (divisor_pos v h) (lit< tt) (sym (mul_assoc q u (65536 / u) ∙ ap (λ (x : ℕ). q * x) (digit_divides v h)))

-- ---- the cast of Rust, which rounds, gives the volume rounded to 24 digits

size_shift : (v t : ℕ) → 0 < size v → size (v * 2 ^ t) ≡ size v + t
size_shift v t Z =
    let z = size v in
    let lo : 2 ^ (z - 1) ≤ v = size_reaches v (z - 1) (omega arith) in
    let lo' : 2 ^ (z - 1 + t) ≤ v * 2 ^ t = le_trans (le_of_eq (pow-add 2 (z - 1) t)) (mul-le-mul_right (2 ^ t) lo) in
    let hi' : v * 2 ^ t < 2 ^ (z + t) = lt_of_lt_of_le (mul-lt-mul_of_pos_right (size-lt v) (pow_pos t)) (le_of_eq (sym (pow-add 2 z t))) in
    omega (arith, size-le (v * 2 ^ t) (z + t) hi', size_gt (v * 2 ^ t) (z - 1 + t) lo')

-- with all 24 digits there, the rounded value in units of the format's smallest is the volume rounded to 24 digits, in such units
grid_is : (v : ℕ) → 24 ≤ size v → grid binary32 v 1 ≡ rounded24 v * 2 ^ 149
unfolding kept_digits lowest_digit
grid_is v Z =
    let k = size v - 24 in
    let n = v * 2 ^ 149 in
    let d : size (n / 1) - 24 ≡ k + 149 = ap (λ (x : ℕ). size x - 24) (div-one n) ∙ omega (arith, size_shift v 149 (omega arith)) in
    let same : closest n (1 * 2 ^ (k + 149)) ≡ closest v (2 ^ k) =
    closest_same n (1 * 2 ^ (k + 149)) v (2 ^ k) (mul-pos (lit< tt) (pow_pos (k + 149))) (pow_pos k)
    (simp (one-mul, pow-add, mul_assoc, mul_comm)) in
    ap (λ (x : ℕ). closest n (1 * 2 ^ x) * 2 ^ x) d ∙ ap (λ (x : ℕ). x * 2 ^ (k + 149)) same
    ∙ ap (λ (x : ℕ). closest v (2 ^ k) * x) (pow-add 2 k 149) ∙ sym (mul_assoc (closest v (2 ^ k)) (2 ^ k) (2 ^ 149))

-- from R * l over l to R over 1
rescale : (x : Float) (R l : ℕ) → 0 < l → HasValue x false (R * l) l → HasValue x false R 1
rescale nan R l L v = v
rescale (inf t) R l L v = v
rescale (fin t m e) R l L v = (
  v.0,
  mul-one (m * up e) ∙ eq_of_mul-eq-mul_right l L (m * up e) (R * down e) (v.1 ∙ mul_right_comm R l (down e)),
)

rounded_le : (v : ℕ) → v < 2 ^ 32 → rounded24 v ≤ 2 ^ 32
rounded_le v h = le_trans (mul-le-mul_right (lowest_digit v) (kept_le v)) (mul-le-mul_left (2 ^ 24) (digit_le v h))

large : (v : ℕ) → v < 2 ^ 32 → 24 ≤ size v → HasValue (round binary32 false v 1) false (rounded24 v) 1
large v h Z =
    let under : rounded24 v * 2 ^ 149 < 2 ^ 277 = lt_of_le_of_lt (mul-le-mul_right (2 ^ 149) (rounded_le v h)) (lit< tt) in
    rescale (round binary32 false v 1) (rounded24 v) (2 ^ 149) (pow_pos 149)
    (subst (λ (x : ℕ). HasValue (round binary32 false v 1) false x (2 ^ 149)) (grid_is v Z)
    (round_val binary32 v 1 (subst (λ (x : ℕ). x < 2 ^ 277) (sym (grid_is v Z)) under)))

-- with fewer digits nothing is rounded
small : (v : ℕ) → v < 2 ^ 24 → rounded24 v ≡ v
unfolding kept_digits
small v h = rw (digit_small v h) (mul-one (closest v 1) ∙ closest_below v 1 (rw (mod-one v) (lit< tt)) ∙ div-one v)

pub cast_value : (v : ℕ) → v < 2 ^ 32 → HasValue (of_int binary32 (pos v)) false (rounded24 v) 1
unfolding of_int
cast_value v h = go (ltb v (2 ^ 24)) refl
  where
    go : (b : Bool) → ltb v (2 ^ 24) ≡ b → HasValue (round binary32 false v 1) false (rounded24 v) 1
    go true e = rw (small v (ltb-true v (2 ^ 24) e)) (round_whole binary32 false v (le_of_lt (ltb-true v (2 ^ 24) e)))
    go false e = large v h (le_of_lt (size_gt v 24 (ltb-false v (2 ^ 24) e)))

-- Rust's `volume as f32 / 65536.0`, whose cast rounds to the nearest, ties to even, is the volume's float
pub as_in_rust : (v : ℕ) → v < 2 ^ 32 → div binary32 (of_int binary32 (pos v)) (fin false 1 (pos 16)) ≡ volume_float v
as_in_rust v h = quotient binary32 (of_int binary32 (pos v)) (fin false 1 (pos 16)) (rounded24 v) 65536 (lit< tt) (cast_value v h) (refl, refl)
