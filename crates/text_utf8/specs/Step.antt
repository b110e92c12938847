-- The subsequences at a place of the bytes.
use Rattle.std.specs.Prelude.{ℕ, ◌+◌, drop, Bool, true, false, List, None, Option, Some}
use Rattle.laws.specs.Walk.{Front, more, last}
use Rattle.text_utf8.specs.Utf8.{Subsequence, scalar, ill_formed, first_subsequence, subsequences}
use Rattle.text_utf8.specs.declared.step.Utf8Part.{Utf8Part}

-- the subsequences of the bytes from `at` on
unfoldable pub subsequences_from : List ℕ → ℕ → List Subsequence
subsequences_from s at = subsequences (drop at s)

-- bytes as a subsequence: of one scalar value where they are well-formed, else a maximal subpart
abbrev pub subsequence : Bool → List ℕ → Subsequence
subsequence true l = scalar l
subsequence false l = ill_formed l

-- what stands at the front of the bytes from `at` on, by its kind and the place past it; none where they are at an end
abbrev pub utf8_step : ℕ → Front Subsequence → Option Utf8Part
utf8_step at (more (scalar l) n) = Some (record { next = at + 1 + n; well_formed = true })
utf8_step at (more (ill_formed l) n) = Some (record { next = at + 1 + n; well_formed = false })
utf8_step at (last ps) = None

-- what begins at `at`
unfoldable pub utf8_step_at : List ℕ → ℕ → Option Utf8Part
utf8_step_at s at = utf8_step at (first_subsequence (drop at s))
