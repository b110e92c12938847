-- Past the table the first or the last delta is nearest; else the table has the letters of the nibble and of its delta.
use mathlib.Core.Path.{◌≡◌, ◌∙◌, ap}
use Prim.Native.Nat.{ℕ, ◌+◌, ◌-◌, ◌<◌}
use native.Mathlib.Omega.{arith}
use lib.IntN.{ℤ, pos, nat_abs, ◌+ℤ◌, ◌-ℤ◌, +ℤ-neg_ℤ_cancel}
use lib.ListN.{get_or}
use mir.Syntax.{w8, w16}
use mir.Val.{SFits, to_z, of_z}
use mir.Facts.{to_z-of_z, to_z_pos}
use Rattle.laws.proofs.Signed.{zarith, known, sum, diff, abs_parts}
use Rattle.fibonacci.specs.Step.{deltas}
use Rattle.fibonacci.specs.Helpers.{nearest_delta}
use Rattle.fibonacci.proofs.StepLaws.{delta_first, delta_last, delta_within, delta_fits}
use Rattle.fibonacci.proofs.PickLaws.{nearest_below, nearest_first, nearest_last}
use Rattle.fibonacci.proofs.pick.nearest_step.Goals as goal

pub returns-then-change-ltminus33 : goal.returns-then-change-ltminus33
returns-then-change-ltminus33 c =
    rw (← nearest_first c.args.change (omega (zarith, known c.ranges.change, c.if-change-ltminus33.true)), delta_first)

pub returns-then-change-gt21 : goal.returns-then-change-gt21
returns-then-change-gt21 c =
    rw (← nearest_last c.args.change (omega (zarith, known c.ranges.change, c.if-change-gt21.true)), delta_last)

module _ (c : goal.After-shared_slice_known-2-1) where
  -- the change past -33, as the code has it
  abbrev past : ℤ
  past = to_z w16 (of_z w16 (to_z w16 (of_z w16 c.args.change) +ℤ pos 33))

  past_fits : SFits w16 (c.args.change +ℤ pos 33)
  past_fits = omega (zarith, sum c.args.change (pos 33), known c.ranges.change)

  past_is : past ≡ c.args.change +ℤ pos 33
  past_is = rw (to_z-of_z c.ranges.change) (to_z-of_z past_fits)

  past_within : nat_abs past < 55
  past_within = rw past_is (omega (zarith, sum c.args.change (pos 33), abs_parts (c.args.change +ℤ pos 33), known c.ranges.change))

  change_is : pos (nat_abs past) -ℤ pos 33 ≡ c.args.change
  change_is =
      let p = c.args.change +ℤ pos 33 in
      rw past_is (omega (zarith, sum c.args.change (pos 33), abs_parts p, diff (pos (nat_abs p)) (pos 33), known c.ranges.change))

  -- the two letters
  nibble_is : get_or c.args.table.now (nat_abs past) 0 ≡ 65 + nearest_delta c.args.change
  nibble_is = c.requires.nibbles _ past_within ∙ ap (λ (z : ℤ). 65 + nearest_delta z) change_is

  abbrev delta : ℤ
  delta = get_or deltas (nearest_delta c.args.change) (pos 0)

  abbrev letter : ℕ
  letter = get_or c.args.table.now (nat_abs past + 55) 0

  letter_is : pos letter ≡ delta +ℤ pos 99
  letter_is = c.requires.steps _ past_within ∙ ap (λ (z : ℤ). get_or deltas (nearest_delta z) (pos 0) +ℤ pos 99) change_is

  letter_fits : SFits w8 (pos letter)
  letter_fits = rw letter_is (omega (zarith, sum delta (pos 99), delta_within (nearest_delta c.args.change) (nearest_below c.args.change)))

  -- the delta, as the code takes it from its letter
  past_c : to_z w8 letter -ℤ pos 99 ≡ delta
  past_c = ap (λ (z : ℤ). z -ℤ pos 99) (to_z_pos w8 {n = letter} letter_fits.sfits ∙ letter_is) ∙ +ℤ-neg_ℤ_cancel delta (pos 99)

  fits : SFits w8 delta
  fits = delta_fits (nearest_delta c.args.change) (nearest_below c.args.change)

pub overflow_cast-delta : goal.overflow_cast-delta
overflow_cast-delta c = letter_fits c

pub overflow_sub-delta : goal.overflow_sub-delta
overflow_sub-delta c = rw (past_c c) (fits c)

past_a : (n : ℕ) → 65 + n - 65 ≡ n
past_a n = omega arith

pub returns : goal.returns
returns c =
    rw (nibble_is c, past_a (nearest_delta c.args.change), past_c c, to_z-of_z (fits c))
