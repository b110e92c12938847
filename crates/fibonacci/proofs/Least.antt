-- `argmin` is the first place whose key is least, for any keys. No other file of laws looks into `less` or `argmin`.
-- Assumes nothing.
use mathlib.Core.Path.{◌≡◌, refl, sym}
use mathlib.Core.Bool.{Bool, true, false, cond}
use mathlib.Core.Logic.{⊎_elim}
use Prim.Native.Nat.{ℕ, zero, suc, ◌≤◌, ◌<◌}
use native.Mathlib.Nat.{le_refl, eq-or-lt_of_le, le_of_suc-le-suc}
use native.Mathlib.Omega.{arith}
use borrow.Author.Tests.{ltb-true, ltb-false, eqb-true, eqb-false}
use lib.Dec.{ltb, eqb}
use Rattle.fibonacci.specs.Pick.{less, argmin}

-- ---- the order of keys

pub record Less (a b : ℕ × ℕ) : Type 0 where
  pub first : a.0 ≤ b.0
  pub second : a.0 ≡ b.0 → a.1 < b.1

pub record NoMore (a b : ℕ × ℕ) : Type 0 where
  pub first : a.0 ≤ b.0
  pub second : a.0 ≡ b.0 → a.1 ≤ b.1

module _ (a b : ℕ × ℕ) where
  less_yes : less a b ≡ true → Less a b
  unfolding less
  less_yes = go (eqb a.0 b.0) refl
    where
      go : (t : Bool) → eqb a.0 b.0 ≡ t → cond t (ltb a.1 b.1) (ltb a.0 b.0) ≡ true → Less a b
      go true q e = record { first = omega (arith, eqb-true a.0 b.0 q); second = (λ s. ltb-true a.1 b.1 e) }
      go false q e = record { first = omega (arith, ltb-true a.0 b.0 e); second = (λ s. absurd (omega (arith, ltb-true a.0 b.0 e))) }

  less_no : less a b ≡ false → NoMore b a
  unfolding less
  less_no = go (eqb a.0 b.0) refl
    where
      go : (t : Bool) → eqb a.0 b.0 ≡ t → cond t (ltb a.1 b.1) (ltb a.0 b.0) ≡ false → NoMore b a
      go true q e = record { first = omega (arith, eqb-true a.0 b.0 q); second = (λ s. ltb-false a.1 b.1 e) }
      go false q e = record { first = ltb-false a.0 b.0 e; second = (λ s. absurd (eqb-false a.0 b.0 q (sym s))) }

  pub less_weak : Less a b → NoMore a b
  less_weak l = record { first = l.first; second = (λ s. omega (arith, l.second s)) }

pub same_no_more : (a : ℕ × ℕ) → NoMore a a
same_no_more a = record { first = le_refl _; second = (λ s. le_refl _) }

pub less_then : (a b c : ℕ × ℕ) → Less a b → NoMore b c → Less a c
less_then a b c l n = record { first = omega (arith, l.first, n.first); second = then }
  where
    then : a.0 ≡ c.0 → a.1 < c.1
    then s =
        let both : (a.0 ≡ b.0) × (b.0 ≡ c.0) = (omega (arith, l.first, n.first), omega (arith, l.first, n.first)) in
        omega (arith, l.second both.0, n.second both.1)

-- ---- the first that is least

module _ (key : ℕ → ℕ × ℕ) where
  -- it is one of 0..n, no key of theirs is less, and each before it is more
  pub record Least (n m : ℕ) : Type 0 where
    pub within : m ≤ n
    pub least : (k : ℕ) → k ≤ n → NoMore (key m) (key k)
    pub first : (k : ℕ) → k < m → Less (key m) (key k)

  more : (n m m' : ℕ) (t : Bool) → less (key (suc n)) (key m) ≡ t → m' ≡ cond t (suc n) m → Least n m → Least (suc n) m'
  more n m m' true e q l =
      let lower : (k : ℕ) → k ≤ n → Less (key (suc n)) (key k) = (λ k h. less_then _ _ _ (less_yes _ _ e) (l.least k h)) in
      rw q record {
        within = le_refl (suc n);
        least = (λ k h. ⊎_elim (λ p. rw p (same_no_more _)) (λ p. less_weak _ _ (lower k (le_of_suc-le-suc p))) (eq-or-lt_of_le h));
        first = (λ k h. lower k (le_of_suc-le-suc h));
      }
  more n m m' false e q l =
      rw q record {
        within = omega (arith, l.within);
        least = (λ k h. ⊎_elim (λ p. rw p (less_no _ _ e)) (λ p. l.least k (le_of_suc-le-suc p)) (eq-or-lt_of_le h));
        first = (λ k h. l.first k h);
      }

  pub argmin_least : (n : ℕ) → Least n (argmin key n)
  unfolding argmin
  argmin_least zero = record { within = le_refl 0; least = (λ k h. rw (only k h) (same_no_more _)); first = (λ k h. absurd (none k h)) }
    where
      only : (k : ℕ) → k ≤ 0 → k ≡ 0
      only k h = omega arith

      none : (k : ℕ) → k < 0 → ⊥
      none k h = omega arith
  argmin_least (suc n) = more n (argmin key n) (argmin key (suc n)) (less (key (suc n)) (key (argmin key n))) refl refl (argmin_least n)

-- it is the same for keys that are the same at 0..n
pub argmin_same : (f g : ℕ → ℕ × ℕ) (n : ℕ) → ((k : ℕ) → k ≤ n → f k ≡ g k) → argmin f n ≡ argmin g n
unfolding argmin
argmin_same f g zero same = refl
argmin_same f g (suc n) same =
    let within : argmin g n ≤ n = (argmin_least g n).within in
    rw (argmin_same f g n (λ k h. same k (omega arith)), same (suc n) (omega arith), same (argmin g n) (omega arith))
