-- Lengths: the sum that `lossy_len` keeps, and how long what replacement and trimming give can be.
-- Assumes nothing.
use Prim.Native.Nat.{ℕ, ◌+◌, ◌*◌, ◌^◌, ◌≤◌, min}
use lib.ListN.{length, drop, length-append}
use mathlib.Core.List.{List, [], ◌∷◌, ◌++◌}
use mathlib.Core.Path.{◌≡◌, ap}
use native.Mathlib.Omega.{arith}
use Rattle.laws.specs.Walk.{each}
use Rattle.text.proofs.TrimLaws.{end_white, trim_split}
use Rattle.text.specs.Place.{start_white}
use Rattle.text.specs.Text.{trim_start, trim}
use Rattle.text_utf8.proofs.FirstLaws.{IsFirst, no_row, part_row, full_row}
use Rattle.text_utf8.proofs.SpanLaws.{Spans}
use Rattle.text_utf8.proofs.SubsequenceLaws.{Consistent, consistent, subsequences_bytes}
use Rattle.text_utf8.specs.Step.{subsequences_from}
use Rattle.text_utf8.specs.Utf8.{Subsequence, subsequences, bytes, replaced, lossy}

-- ---- one subsequence more

pub lossy_end : (s : List ℕ) (at : ℕ) → subsequences_from s at ≡ [] → lossy (drop at s) ≡ []
unfolding lossy subsequences_from
lossy_end s at e = ap (each (λ q. bytes (replaced q))) e

module _ {s : List ℕ} {at next : ℕ} {p : Subsequence} (w : Spans s at next p) where
  pub lossy_step : lossy (drop at s) ≡ bytes (replaced p) ++ lossy (drop next s)
  unfolding lossy subsequences_from
  lossy_step = ap (each (λ q. bytes (replaced q))) w.is

  pub capped_step : (n k : ℕ) → k ≡ length (bytes (replaced p)) → min (min (n + k) (2 ^ 62) + length (lossy (drop next s))) (2 ^ 62) ≡ min (n + length (lossy (drop at s))) (2 ^ 62)
  capped_step n k e = omega (arith, ap length lossy_step, length-append (bytes (replaced p)) (lossy (drop next s)))

-- ---- bounds

replaced_bound : {p : Subsequence} {r : List ℕ} → IsFirst p r → length (bytes (replaced p)) ≤ 3 * length (bytes p)
replaced_bound (no_row f) = omega arith
replaced_bound (part_row f k d) = omega arith
replaced_bound (full_row f k d) = omega arith

each_bound : (ps : List Subsequence) → Consistent ps → length (each (λ p. bytes (replaced p)) ps) ≤ 3 * length (each bytes ps)
each_bound [] h = omega arith
each_bound (p ∷ ps) h =
    let after = length-append (bytes (replaced p)) (each (λ p. bytes (replaced p)) ps) in
    omega (arith, replaced_bound h.0, each_bound ps h.1, length-append (bytes p) (each bytes ps))

pub lossy_bound : (l : List ℕ) → length (lossy l) ≤ 3 * length l
unfolding lossy
lossy_bound l = omega (arith, each_bound (subsequences l) (consistent l), ap length (subsequences_bytes l))

pub trim_bound : (l : List ℕ) → length (trim l) ≤ length l
trim_bound l =
    let a = each bytes (start_white (subsequences l)) in
    let b = each bytes (end_white (trim_start (subsequences l))) in
    omega (arith, ap length (trim_split l), length-append a (trim l ++ b), length-append (trim l) b)
