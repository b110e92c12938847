-- Difference order and the way back undo each other, octave by octave.
--     restored_order, ordered_restore     an octave
--     order_length, restored_length       as long as what came in
-- Assumes nothing.
use mathlib.Core.Path.{◌≡◌, refl, ap, ap₂, ◌∙◌}
use mathlib.Core.List.{List, [], ◌∷◌, ◌++◌}
use Prim.Native.Nat.{zero, suc, ◌+◌, ◌/◌}
use native.Mathlib.Omega.{arith}
use lib.IntN.{ℤ, ◌+ℤ◌, ◌-ℤ◌}
use lib.ListN.{length, take, drop, length-append, length-take, length-drop, take-append-drop}
use lib.Seq.{take_at, drop_at}
use Rattle.laws.specs.Turns.{by_turns, evens, odds}
use Rattle.laws.proofs.TurnLaws.{turns_length, evens_length, odds_length, evens_back, odds_back, turns_back}
use Rattle.field.specs.Signed.{Samples}
use Rattle.field.specs.Wrap.{to_sample}
use Rattle.field.proofs.SignedLaws.{samples_take, samples_drop}
use Rattle.field.proofs.WrapLaws.{sum_back, difference_back}
use Rattle.vault.specs.DifferenceOrder.{less_before, differences, octave_order, added_to, sums, at_places, octave_restored}
use Rattle.vault.proofs.OctaveLaws.{less_length, added_length}

-- ---- differences and sums

added_less : (before : ℤ) (l : List ℤ) → Samples l → added_to before (less_before before l) ≡ l
unfolding added_to less_before
added_less before [] f = refl
added_less before (x ∷ l) f =
    let same : to_sample (before +ℤ to_sample (x -ℤ before)) ≡ x = sum_back x before (f 0) in
    rw same (ap (◌∷◌ x) (added_less x l (λ i. f (suc i))))

less_added : (before : ℤ) (l : List ℤ) → Samples l → less_before before (added_to before l) ≡ l
unfolding added_to less_before
less_added before [] f = refl
less_added before (x ∷ l) f = ap₂ (λ (y : ℤ) (r : List ℤ). y ∷ r) (difference_back x before (f 0)) (less_added (to_sample (before +ℤ x)) l (λ i. f (suc i)))

sums_back : (l : List ℤ) → Samples l → sums (differences l) ≡ l
unfolding sums differences
sums_back [] f = refl
sums_back (x ∷ l) f = ap (◌∷◌ x) (added_less x l (λ i. f (suc i)))

differences_back : (l : List ℤ) → Samples l → differences (sums l) ≡ l
unfolding sums differences
differences_back [] f = refl
differences_back (x ∷ l) f = ap (◌∷◌ x) (less_added x l (λ i. f (suc i)))

differences_length : (l : List ℤ) → length (differences l) ≡ length l
unfolding differences
differences_length [] = refl
differences_length (x ∷ l) = ap suc (less_length x l)

sums_length : (l : List ℤ) → length (sums l) ≡ length l
unfolding sums
sums_length [] = refl
sums_length (x ∷ l) = ap suc (added_length x l)

-- ---- parted, and at their places again

-- of n values (n + 1) / 2 are of even places, so that the parts are found again
parts_found : (l : List ℤ) → at_places (evens l ++ odds l) ≡ l
parts_found l =
    let parts = evens l ++ odds l in
    let half : length (evens l) ≡ (length parts + 1) / 2 = omega (arith, length-append (evens l) (odds l), evens_length l, odds_length l) in
    ap₂ by_turns (take_at (evens l) (odds l) ((length parts + 1) / 2) half) (drop_at (evens l) (odds l) ((length parts + 1) / 2) half) ∙ turns_back l

parted_again : (values : List ℤ) → evens (at_places values) ++ odds (at_places values) ≡ values
parted_again values =
    let half = (length values + 1) / 2 in
    let ls = take half values in
    let rs = drop half values in
    let a = length-take half values in
    let b = length-drop half values in
    ap₂ (λ (x y : List ℤ). x ++ y) (evens_back ls rs (omega arith) (omega arith)) (odds_back ls rs (omega arith) (omega arith)) ∙ take-append-drop half values

turns_samples : (ls rs : List ℤ) → Samples ls → Samples rs → Samples (by_turns ls rs)
unfolding by_turns
turns_samples [] rs f g i = g i
turns_samples (l ∷ ls) [] f g i = f i
turns_samples (l ∷ ls) (r ∷ rs) f g zero = f 0
turns_samples (l ∷ ls) (r ∷ rs) f g (suc zero) = g 0
turns_samples (l ∷ ls) (r ∷ rs) f g (suc (suc i)) = turns_samples ls rs (λ j. f (suc j)) (λ j. g (suc j)) i

-- ---- an octave

pub restored_order : (l : List ℤ) → Samples l → octave_restored (octave_order l) ≡ l
unfolding octave_restored octave_order
restored_order l f = ap sums (parts_found (differences l)) ∙ sums_back l f

pub ordered_restore : (l : List ℤ) → Samples l → octave_order (octave_restored l) ≡ l
unfolding octave_restored octave_order
ordered_restore l f =
    let half = (length l + 1) / 2 in
    let placed : Samples (at_places l) = turns_samples (take half l) (drop half l) (samples_take half l f) (samples_drop half l f) in
    ap (λ (d : List ℤ). evens d ++ odds d) (differences_back (at_places l) placed) ∙ parted_again l

pub order_length : (l : List ℤ) → length (octave_order l) ≡ length l
unfolding octave_order
order_length l = omega (arith, length-append (evens (differences l)) (odds (differences l)), evens_length (differences l), odds_length (differences l), differences_length l)

pub restored_length : (l : List ℤ) → length (octave_restored l) ≡ length l
unfolding octave_restored
restored_length l =
    let half = (length l + 1) / 2 in
    sums_length (at_places l) ∙ turns_length (take half l) (drop half l) ∙ omega (arith, length-take half l, length-drop half l)
