-- The laws of `code_point` by the number of bytes.
-- Assumes nothing.
use Prim.Native.Nat.{ℕ, zero, suc, ◌+◌}
use lib.ListN.{length, get_or, drop, drop_of_length-le}
use lib.Seq.{drop-cons}
use mathlib.Core.List.{List, [], ◌∷◌}
use mathlib.Core.Path.{◌≡◌, refl, sym, ap}
use native.Mathlib.Omega.{arith}
use Rattle.text.specs.WhiteSpace.{code_point}

-- the n elements from i on, read one by one
abbrev pub entries : ℕ → ℕ → List ℕ → List ℕ
entries zero i l = []
entries (suc n) i l = get_or l i 0 ∷ entries n (suc i) l

entries_drop : (n i : ℕ) (l : List ℕ) → i + n ≡ length l → entries n i l ≡ drop i l
entries_drop zero i l e = sym (drop_of_length-le l {i = i} (omega arith))
entries_drop (suc n) i l e = rw (drop-cons l i 0 (omega arith)) (ap (λ (r : List ℕ). get_or l i 0 ∷ r) (entries_drop n (suc i) l (omega arith)))

pub code_point_of : (n : ℕ) (l : List ℕ) → length l ≡ n → code_point (entries n 0 l) ≡ code_point l
code_point_of n l e = ap code_point (entries_drop n 0 l (omega arith))

pub code_point_none : (l : List ℕ) → (length l ≡ 1 → ⊥) → (length l ≡ 2 → ⊥) → (length l ≡ 3 → ⊥) → (length l ≡ 4 → ⊥) → 0 ≡ code_point l
unfolding code_point
code_point_none [] h₁ h₂ h₃ h₄ = refl
code_point_none (a ∷ []) h₁ h₂ h₃ h₄ = absurd (h₁ refl)
code_point_none (a ∷ b ∷ []) h₁ h₂ h₃ h₄ = absurd (h₂ refl)
code_point_none (a ∷ b ∷ c ∷ []) h₁ h₂ h₃ h₄ = absurd (h₃ refl)
code_point_none (a ∷ b ∷ c ∷ d ∷ []) h₁ h₂ h₃ h₄ = absurd (h₄ refl)
code_point_none (a ∷ b ∷ c ∷ d ∷ e ∷ l) h₁ h₂ h₃ h₄ = refl
