-- The tables that the writer's choices are lent.
-- Assumes nothing.
use mathlib.Core.Path.{◌≡◌, refl, ap, ◌∙◌}
use mathlib.Core.Bool.{Bool, true, false, cond}
use mathlib.Core.List.{List, [], ◌∷◌}
use Prim.Native.Nat.{ℕ, zero, suc, ◌+◌, ◌-◌, ◌<◌}
use native.Mathlib.Nat.{not-suc-le-zero, le_of_suc-le-suc}
use native.Mathlib.Omega.{arith}
use borrow.Author.Tests.{ltb-true, ltb-false}
use lib.Dec.{ltb}
use lib.IntN.{pos, nat_abs, ◌+ℤ◌, ◌-ℤ◌}
use lib.ListN.{get_or}
use Rattle.laws.proofs.Signed.{zarith, sum, abs_parts}
use Rattle.fibonacci.specs.Step.{deltas}
use Rattle.fibonacci.specs.Helpers.{nearest_delta, NearestTable, by_size, DeltasBySize}
use Rattle.fibonacci.proofs.StepLaws.{delta_within}
use Rattle.fibonacci.proofs.PickLaws.{nearest_below}

-- the values of f at 0 to n - 1
abbrev pub tabulated : {A : Type 0} → (ℕ → A) → ℕ → List A
tabulated f zero = []
tabulated f (suc n) = f zero ∷ tabulated (λ k. f (suc k)) n

tabulated_at : {A : Type 0} (d : A) (f : ℕ → A) (n k : ℕ) → k < n → get_or (tabulated f n) k d ≡ f k
tabulated_at d f zero k h = absurd (not-suc-le-zero h)
tabulated_at d f (suc n) zero h = refl
tabulated_at d f (suc n) (suc k) h = tabulated_at d (λ m. f (suc m)) n k (le_of_suc-le-suc h)

-- ---- by the change

-- the letter of a nibble, and that of its delta
abbrev pub nibble_letter : ℕ → ℕ
nibble_letter k = 65 + nearest_delta (pos k -ℤ pos 33)

abbrev pub delta_letter : ℕ → ℕ
delta_letter k = nat_abs (get_or deltas (nearest_delta (pos k -ℤ pos 33)) (pos 0) +ℤ pos 99)

abbrev pub letter : ℕ → ℕ
letter k = cond (ltb k 55) (nibble_letter k) (delta_letter (k - 55))

first_half : (k : ℕ) → k < 55 → letter k ≡ nibble_letter k
first_half k h = go (ltb k 55) refl
  where
    go : (t : Bool) → ltb k 55 ≡ t → cond t (nibble_letter k) (delta_letter (k - 55)) ≡ nibble_letter k
    go true e = refl
    go false e = absurd (omega (arith, ltb-false k 55 e))

second_half : (k : ℕ) → letter (k + 55) ≡ delta_letter k
second_half k = go (ltb (k + 55) 55) refl
  where
    back : k + 55 - 55 ≡ k
    back = omega arith

    go : (t : Bool) → ltb (k + 55) 55 ≡ t → cond t (nibble_letter (k + 55)) (delta_letter (k + 55 - 55)) ≡ delta_letter k
    go true e = absurd (omega (arith, ltb-true (k + 55) 55 e))
    go false e = ap delta_letter back

delta_letter_lem : (k : ℕ) → pos (delta_letter k) ≡ get_or deltas (nearest_delta (pos k -ℤ pos 33)) (pos 0) +ℤ pos 99
delta_letter_lem k =
    let n = nearest_delta (pos k -ℤ pos 33) in
    let d = get_or deltas n (pos 0) in
    omega (zarith, delta_within n (nearest_below (pos k -ℤ pos 33)), sum d (pos 99), abs_parts (d +ℤ pos 99))

pub table_right : NearestTable (tabulated letter 110)
table_right = record {
  all = refl;
  nibbles = (λ k h. tabulated_at 0 letter 110 k (omega arith) ∙ first_half k h);
  steps = (λ k h. ap pos (tabulated_at 0 letter 110 (k + 55) (omega arith) ∙ second_half k) ∙ delta_letter_lem k);
}

-- ---- by size

pub order_right : DeltasBySize (tabulated (λ i. get_or deltas (by_size i) (pos 0)) 16)
order_right = record { all = refl; each = tabulated_at (pos 0) (λ i. get_or deltas (by_size i) (pos 0)) 16 }
