-- Laws of a WAVE's values: how many there are, and that less 128 they are the samples again.
-- Elsewhere only the proof of `value_of`, and closed examples, look into `value_of`.
-- Assumes nothing.
use Prim.Native.Nat.{ℕ, suc, ◌+◌, ◌*◌, ◌≤◌}
use mathlib.Core.Bool.{Bool, true, false}
use mathlib.Core.List.{List, [], ◌∷◌, map}
use mathlib.Core.Path.{◌≡◌, refl, ap, ap₂, ◌∙◌}
use native.Mathlib.Omega.{arith}
use lib.IntN.{ℤ, pos, nat_abs, ◌+ℤ◌}
use lib.ListN.{length, length-map}
use mir.Syntax.{w8}
use mir.Val.{SFits}
use Rattle.laws.proofs.Signed.{zarith, known, sum, diff, abs_parts}
use Rattle.laws.proofs.TurnLaws.{by_turns_length}
use Rattle.laws.specs.Turns.{by_turns}
use Rattle.field.specs.Signed.{Samples}
use Rattle.wave.specs.ReadBack.{sample_from}
use Rattle.wave.specs.Wave.{value_of, values_of, channels_of}

-- ---- by cases

pub values_two : (stereo : Bool) (left right : List ℤ) → stereo ≡ true → values_of stereo left right ≡ by_turns (map value_of left) (map value_of right)
unfolding values_of
values_two stereo left right e = rw e

pub values_one : (stereo : Bool) (left right : List ℤ) → stereo ≡ false → values_of stereo left right ≡ map value_of left
unfolding values_of
values_one stereo left right e = rw e

-- ---- how many

pub two_length : (stereo : Bool) (left right : List ℤ) → stereo ≡ true → length left ≡ length right → length (values_of stereo left right) ≡ length left + length left
two_length stereo left right e same =
    ap length (values_two stereo left right e)
    ∙ by_turns_length (map value_of left) (map value_of right) (length left) (length-map left value_of) (length-map right value_of ∙ omega arith)

pub one_length_lem : (stereo : Bool) (left right : List ℤ) → stereo ≡ false → length (values_of stereo left right) ≡ length left
one_length_lem stereo left right e = ap length (values_one stereo left right e) ∙ length-map left value_of

pub values_length : (stereo : Bool) (left right : List ℤ) → (stereo ≡ true → length left ≡ length right) → length (values_of stereo left right) ≡ channels_of stereo * length left
values_length true left right same = omega (arith, two_length true left right refl (same refl))
values_length false left right same = omega (arith, one_length_lem false left right refl)

-- at least as many bytes as samples a side, and at most twice as many
pub count_bounds : (stereo : Bool) (n : ℕ) → (n ≤ channels_of stereo * n) × (channels_of stereo * n ≤ 2 * n)
count_bounds true n = (omega arith, omega arith)
count_bounds false n = (omega arith, omega arith)

-- ---- and back

pub sample_back : (s : ℤ) → SFits w8 s → sample_from (value_of s) ≡ s
unfolding value_of
sample_back s f = omega (zarith, known f, sum s (pos 128), diff (pos (nat_abs (s +ℤ pos 128))) (pos 128), abs_parts (s +ℤ pos 128))

pub samples_back : (l : List ℤ) → Samples l → map sample_from (map value_of l) ≡ l
samples_back [] f = refl
samples_back (s ∷ l) f = ap₂ ◌∷◌ (sample_back s (f 0)) (samples_back l (λ i. f (suc i)))
