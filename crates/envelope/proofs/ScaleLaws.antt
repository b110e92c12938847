-- A scaled number is no larger than it was, and is the same exactly where all of it is taken, or it is 0; a level on the way lies between the two.
-- Assumes nothing.
use mathlib.Core.Path.{◌≡◌, sym, ap, ◌∙◌}
use Prim.Native.Nat.{ℕ, suc, ◌-◌, ◌*◌, ◌/◌, ◌≤◌, ◌<◌}
use native.Mathlib.Nat.{div-le_of_le-mul, le-div_iff_mul-le, mul-div_cancel, mul-le-mul_left, mul-le-mul_right, zero-div}
use native.Mathlib.Omega.{arith}
use lib.IntN.{ℤ, pos, ◌-ℤ◌, ◌*ℤ◌}
use mir.Syntax.{Width, w32}
use mir.Val.{SFits}
use Rattle.laws.proofs.Signed.{up, dn, zarith, known, eq_z, apart, sum, diff, times, quot}
use Rattle.envelope.specs.Level.{scaled_by, on_the_way}

-- a scaled number by its parts: no other law here unfolds `scaled_by`
record Parts (x : ℤ) (n d : ℕ) : Type 0 where
  up_is : up (scaled_by x n d) ≡ up x * n / d
  dn_is : dn (scaled_by x n d) ≡ dn x * n / d

by_parts : (x : ℤ) (n d : ℕ) → Parts x n d
unfolding scaled_by
by_parts x n d =
    let t = times x n in
    let q = quot (x *ℤ pos n) d in
    record { up_is = q.above ∙ ap (λ a. a / d) t.above; dn_is = q.below ∙ ap (λ a. a / d) t.below }

-- ---- a part

part : (a n d : ℕ) → n ≤ d → a * n / d ≤ a
part a n d h = div-le_of_le-mul d (omega (arith, mul-le-mul_left a h))

-- a factor that is at most the divisor leaves neither part larger
pub record Scaled (x : ℤ) (n d : ℕ) : Type 0 where
  pub above : up (scaled_by x n d) ≤ up x
  pub below : dn (scaled_by x n d) ≤ dn x
  pub one_is_zero : up (scaled_by x n d) - dn (scaled_by x n d) ≡ up (scaled_by x n d)

pub scaled_parts : (x : ℤ) (n d : ℕ) → n ≤ d → Scaled x n d
scaled_parts x n d h =
    let b = by_parts x n d in
    record { above = rw b.up_is (part (up x) n d h); below = rw b.dn_is (part (dn x) n d h); one_is_zero = apart (scaled_by x n d) }

-- so, at every width, a number that fits still fits when it is scaled
pub scaled_fits : {w : Width} (x : ℤ) (n d : ℕ) → n ≤ d → SFits w x → SFits w (scaled_by x n d)
scaled_fits x n d h f = omega (zarith, known f, scaled_parts x n d h)

-- ---- all of it, less, and nothing

pub scaled_whole : (x : ℤ) (n d : ℕ) → 0 < d → n ≡ d → x ≡ scaled_by x n d
scaled_whole x n d z e =
    let b = by_parts x d d in
    rw e (eq_z x (scaled_by x d d) (omega (arith, b.up_is, b.dn_is, mul-div_cancel (up x) z, mul-div_cancel (dn x) z)))

less : (a n d : ℕ) → n < d → a * n / d ≡ a → a ≡ 0
less a n d h e =
    let all : a * d ≤ a * n = (le-div_iff_mul-le {k = d} {x = a} {y = a * n} (omega arith)).0 (omega (arith, e)) in
    let more : a * suc n ≤ a * d = mul-le-mul_left a h in
    omega arith

-- less than all of it is all of it only of 0
pub scaled_less : (x : ℤ) (n d : ℕ) → n < d → scaled_by x n d ≡ x → x ≡ pos 0
scaled_less x n d h e =
    let b = by_parts x n d in
    eq_z x (pos 0) (omega (arith, less (up x) n d h (sym b.up_is ∙ ap up e), less (dn x) n d h (sym b.dn_is ∙ ap dn e)))

-- nothing is left of 0, and where nothing is taken
pub scaled_nothing : (x : ℤ) (n d : ℕ) → up x * n ≡ 0 → dn x * n ≡ 0 → scaled_by x n d ≡ pos 0
scaled_nothing x n d e f =
    let b = by_parts x n d in
    eq_z (scaled_by x n d) (pos 0) (omega (arith, b.up_is ∙ ap (λ a. a / d) e ∙ zero-div d, b.dn_is ∙ ap (λ a. a / d) f ∙ zero-div d))

-- ---- what products and levels fit

-- a product of a bounded number
pub bounded : (a n b : ℕ) → a ≤ b → a * n ≤ b * n
bounded a n b h = mul-le-mul_right n h

-- a level on the way is between the two, so it is a 32-bit one
pub way_fits : (level dest : ℤ) (into d : ℕ) → SFits w32 level → SFits w32 dest → into ≤ d → SFits w32 (on_the_way level dest into d)
unfolding on_the_way
way_fits level dest into d f g h =
    omega (zarith, known f, known g, diff dest level, scaled_parts (dest -ℤ level) into d h, sum level (scaled_by (dest -ℤ level) into d))
