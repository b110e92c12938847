-- The laws of `matching`: how far it goes at a place of the bytes, where it stops, and one byte more.
-- Assumes nothing.
use Prim.Native.Nat.{ℕ, zero, suc, ◌+◌, ◌-◌, ◌≤◌, ◌<◌}
use lib.ListN.{length, get_or, drop, drop_of_length-le}
use lib.Seq.{drop-cons}
use mathlib.Core.Bool.{Bool, true, false, cond}
use mathlib.Core.List.{List, [], ◌∷◌}
use mathlib.Core.Path.{◌≡◌, refl, ap}
use native.Mathlib.Numerals.{add-one}
use native.Mathlib.Omega.{arith}
use Rattle.text_utf8.specs.Lead.{ranges}
use Rattle.text_utf8.specs.Table.{Range, to, within}
use Rattle.text_utf8.specs.Utf8.{matching}

pub ranges_length : (n low high : ℕ) → length (ranges n low high) ≡ n
ranges_length zero low high = refl
ranges_length (suc n) low high = ap suc (ranges_length n 0x80 0xBF)

-- the first range, where there is one
pub ranges_more : (n low high : ℕ) → 0 < n → ranges n low high ≡ to low high ∷ ranges (n - 1) 0x80 0xBF
ranges_more n low high some = let e : n ≡ suc (n - 1) = omega arith in ap (λ (k : ℕ). ranges k low high) e

matching_nil : (rs : List Range) → matching rs [] ≡ 0
unfolding matching
matching_nil [] = refl
matching_nil (r ∷ rs) = refl

pub matching_le : (rs : List Range) (l : List ℕ) → matching rs l ≤ length l
unfolding matching
matching_le [] l = omega arith
matching_le (r ∷ rs) [] = omega arith
matching_le (r ∷ rs) (b ∷ l) = go (matching_le rs l) (within r b)
  where
    go : matching rs l ≤ length l → (u : Bool) → cond u (suc (matching rs l)) 0 ≤ suc (length l)
    go h true = omega arith
    go h false = omega arith

-- at a place i of the bytes s
module _ (s : List ℕ) (i : ℕ) where
  pub stop_end : (rs : List Range) → length s ≤ i → matching rs (drop i s) ≡ 0
  stop_end rs h = rw (drop_of_length-le s h) (matching_nil rs)

  module _ (n low high : ℕ) where
    pub stop_all : n ≡ 0 → matching (ranges n low high) (drop i s) ≡ 0
    unfolding matching
    stop_all e = rw e

    module _ (some : n ≡ 0 → ⊥) (h : i < length s) where
      pub stop_outside : within (to low high) (get_or s i 0) ≡ false → matching (ranges n low high) (drop i s) ≡ 0
      unfolding matching
      stop_outside e = rw (ranges_more n low high (omega arith), drop-cons s i 0 h, e)

      pub one_more : within (to low high) (get_or s i 0) ≡ true → matching (ranges n low high) (drop i s) ≡ suc (matching (ranges (n - 1) 0x80 0xBF) (drop (i + 1) s))
      unfolding matching
      one_more e = rw (add-one i, ranges_more n low high (omega arith), drop-cons s i 0 h, e)

-- all that the loop over the bytes uses
pub ruleset matching_steps = (stop_end, stop_all, stop_outside, one_more)
