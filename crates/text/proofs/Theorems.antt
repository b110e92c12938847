-- What stands of every payload.
--     clean_well_formed  its text is well-formed UTF-8
--     clean_tidy         its text is empty or tidy
--     clean_same         a payload that is well-formed and tidy is its own text
--     clean_bound        its text is at most three times as long
--     clean_len_exact    below 2 ^ 60 bytes `clean_len` answers the length itself
-- Assumes nothing.
use Prim.Native.Nat.{ℕ, ◌*◌, ◌^◌, ◌≤◌, ◌<◌, min}
use lib.ListN.{length}
use mathlib.Core.Bool.{true, ◌&&◌}
use mathlib.Core.List.{List, []}
use mathlib.Core.Logic.{◌⊎◌}
use mathlib.Core.Path.{◌≡◌}
use native.Mathlib.Omega.{arith}
use Rattle.text.proofs.LengthLaws.{lossy_bound, trim_bound}
use Rattle.text.proofs.PlaceLaws.{before_zero_le}
use Rattle.text.proofs.TidyLaws.{both_left, both_right, before_zero_same, start_same, end_same, zero_free_before_zero, zero_free_lossy, zero_free_trim, trim_tidy}
use Rattle.text.proofs.TrimLaws.{clean_is}
use Rattle.text.specs.Text.{before_zero, trim, clean, zero_free, first_not_white, last_not_white, tidy}
use Rattle.text_utf8.proofs.SubsequenceLaws.{subsequences_bytes}
use Rattle.text_utf8.proofs.Theorems.{lossy_well_formed, lossy_same}
use Rattle.text_utf8.specs.Utf8.{subsequences, lossy, well_formed}

pub clean_well_formed : (l : List ℕ) → well_formed (clean l) ≡ true
clean_well_formed l = rw clean_is (lossy_well_formed (trim (before_zero l)))

pub clean_tidy : (l : List ℕ) → (clean l ≡ []) ⊎ (tidy (clean l) ≡ true)
unfolding clean
clean_tidy l = trim_tidy (lossy (before_zero l)) (zero_free_trim (lossy (before_zero l)) (zero_free_lossy (before_zero l) (zero_free_before_zero l)))

pub clean_same : (l : List ℕ) → well_formed l ≡ true → tidy l ≡ true → clean l ≡ l
unfolding clean tidy trim
clean_same l w t =
    let ps = subsequences l in
    let h = both_left (zero_free l && first_not_white ps) (last_not_white ps) t in
    let zero = before_zero_same l (both_left (zero_free l) (first_not_white ps) h) in
    let start = start_same ps (both_right (zero_free l) (first_not_white ps) h) in
    let end = end_same ps (both_right (zero_free l && first_not_white ps) (last_not_white ps) t) in
    rw (zero, lossy_same l w, start, end) (subsequences_bytes l)

pub clean_bound : (l : List ℕ) → length (clean l) ≤ 3 * length l
clean_bound l = rw clean_is (omega (arith, lossy_bound (trim (before_zero l)), trim_bound (before_zero l), before_zero_le l))

pub clean_len_exact : (l : List ℕ) → length l < 2 ^ 60 → min (length (clean l)) (2 ^ 62) ≡ length (clean l)
clean_len_exact l h = omega (arith, clean_bound l)
