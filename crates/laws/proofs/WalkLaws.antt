-- Laws of `walk`: its elements one by one, and how long what they become can be. No proof elsewhere unfolds it.
-- Assumes nothing.
use Prim.Native.Nat.{ℕ, zero, suc, ◌+◌, ◌-◌, ◌*◌, ◌≤◌, min, zero-le}
use mathlib.Core.Path.{◌≡◌, refl, ap, sym, ◌∙◌}
use mathlib.Core.List.{List, [], ◌∷◌}
use lib.ListN.{drop, length, length-append}
use native.Mathlib.Nat.{mul-add, sub-zero, suc-sub-suc}
use native.Mathlib.Omega.{arith}
use Rattle.laws.specs.Walk.{Front, more, last, after, walk, each}

module _ {A : Type 0} (f : List ℕ → Front A) where
  pub walk_skip : (k : ℕ) (l : List ℕ) → walk f k l ≡ walk f 0 (drop k l)
  unfolding walk
  walk_skip zero l = refl
  walk_skip (suc k) [] = refl
  walk_skip (suc k) (b ∷ l) = walk_skip k l

  module _ (nil : f [] ≡ last []) where
    -- an element, and the run past its bytes
    pub walk_more : (l : List ℕ) (a : A) (n : ℕ) → f l ≡ more a n → walk f 0 l ≡ a ∷ walk f 0 (drop (suc n) l)
    unfolding walk
    walk_more [] a n e = let z : ◌≡◌ {A = ℕ} 0 1 = cc in absurd (omega arith)
    walk_more (b ∷ l) a n e = ap (λ (s : Front A). after s (λ k. walk f k l)) e ∙ ap (λ (r : List A). a ∷ r) (walk_skip n l)

    -- the end of the run
    pub walk_last : (l : List ℕ) (xs : List A) → f l ≡ last xs → walk f 0 l ≡ xs
    unfolding walk
    walk_last [] xs e = cc
    walk_last (b ∷ l) xs e = ap (λ (s : Front A). after s (λ k. walk f k l)) e

-- where no element becomes more than c times the bytes that it takes, the whole becomes no more than c times the bytes
module _ {A : Type 0} (f : List ℕ → Front A) (g : A → List ℕ) (c : ℕ)
    (one : (l : List ℕ) (a : A) (n : ℕ) → f l ≡ more a n → length (g a) ≤ c * min (suc n) (length l))
    (end : (l : List ℕ) (xs : List A) → f l ≡ last xs → length (each g xs) ≤ c * length l) where
  pub walk_bound : (k : ℕ) (l : List ℕ) → length (each g (walk f k l)) ≤ c * (length l - k)
  unfolding walk
  walk_bound k [] = zero-le
  walk_bound (suc k) (b ∷ l) = rw suc-sub-suc (walk_bound k l)
  walk_bound zero (b ∷ l) = go (λ n. walk_bound n l) (f (b ∷ l)) refl
    where
      go : ((n : ℕ) → length (each g (walk f n l)) ≤ c * (length l - n)) → (s : Front A) → f (b ∷ l) ≡ s → length (each g (after s (λ n. walk f n l))) ≤ c * (suc (length l) - 0)
      go later (more a n) e =
          let split : min (suc n) (suc (length l)) + (length l - n) ≡ suc (length l) = omega arith in
          let both = sym (mul-add c (min (suc n) (suc (length l))) (length l - n)) ∙ ap (λ (m : ℕ). c * m) split in
          rw (length-append, sub-zero) (omega (arith, one (b ∷ l) a n e, later n, both))
      go later (last xs) e = rw sub-zero (end (b ∷ l) xs e)
