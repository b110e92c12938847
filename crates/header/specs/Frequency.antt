-- The cycle frequency of the highest octave.
use Rattle.std.specs.Prelude.{ℕ, cond, eqb, pos, Float, None, Option, Some}
use Rattle.std.specs.Float.{binary64}
use Rattle.std.specs.Float.Ieee.{div, of_int}

-- rate over samples per cycle, one division of 64-bit floats; unknown where either is 0
abbrev pub cycle_frequency : ℕ → ℕ → Option Float
cycle_frequency rate per_cycle =
    cond (eqb rate 0) None
    (cond (eqb per_cycle 0) None (Some (div binary64 (of_int binary64 (pos rate)) (of_int binary64 (pos per_cycle)))))
