-- `header_volume::kept_digits` meets its contract: how twice the remainder compares with the unit says which case of `closest` holds.
use mathlib.Core.Path.{◌≡◌, sym, ◌∙◌}
use Prim.Native.Nat.{ℕ, ◌/◌, ◌%◌, ◌^◌, ◌<◌, ◌≤◌}
use native.Mathlib.Nat.{mod-lt}
use Rattle.std.specs.Cmp.{ranked}
use native.Mathlib.Numerals.{add-one}
use native.Mathlib.Omega.{arith}
use Rattle.header_volume.specs.Volume.{lowest_digit}
use Rattle.header_volume.proofs.VolumeLaws.{digit_pos, digit_le, quotient_lt, closest_below, closest_tie, closest_above, kept_is}
use Rattle.header_volume.proofs.kept_digits.Goals as goal

-- what is known of the unit, the quotient and the remainder
record Known (v u : ℕ) : Type 0 where
  is : u ≡ lowest_digit v
  positive : 0 < u
  small : u ≤ 256
  quotient : v / u < 2 ^ 24
  remainder : v % u < u

known : (v u : ℕ) → v < 2 ^ 32 → u ≡ lowest_digit v → Known v u
known v u fits e = record {
  is = e;
  positive = rw e (digit_pos v);
  small = rw e (digit_le v fits);
  quotient = rw e (quotient_lt v);
  remainder = rw e (mod-lt v (digit_pos v));
}

pub nonzero_div-q : goal.nonzero_div-q
nonzero_div-q c = (known _ _ c.ranges.volume.fits c.lowest_digit-u.ensures).positive

pub nonzero_rem-twice : goal.nonzero_rem-twice
nonzero_rem-twice c = (known _ _ c.ranges.volume.fits c.lowest_digit-u.ensures).positive

pub overflow_mul-twice : goal.overflow_mul-twice
overflow_mul-twice c = omega (arith, known _ _ c.ranges.volume.fits c.lowest_digit-u.ensures)

pub returns-in-Less : goal.returns-in-Less
returns-in-Less c = sym (closest_below _ _ (ranked _ _ _ c.in-Less.ensures)) ∙ kept_is _ _ c.lowest_digit-u.ensures

pub returns-in-Equal : goal.returns-in-Equal
returns-in-Equal c = sym (closest_tie _ _ (ranked _ _ _ c.in-Equal.ensures)) ∙ kept_is _ _ c.lowest_digit-u.ensures

pub returns-in-Greater : goal.returns-in-Greater
returns-in-Greater c = add-one _ ∙ sym (closest_above _ _ (ranked _ _ _ c.in-Greater.ensures)) ∙ kept_is _ _ c.lowest_digit-u.ensures
