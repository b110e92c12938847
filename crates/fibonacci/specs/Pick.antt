-- The writer's choice of a nibble.
use Rattle.std.specs.Prelude.{Bool, cond, ℕ, zero, suc, eqb, ltb, ℤ, pos, nat_abs, ◌-ℤ◌, get_or}
use Rattle.fibonacci.specs.Step.{deltas, fib_step}

-- of two pairs one is less by its first number, and where these are equal by its second
unfoldable pub less : ℕ × ℕ → ℕ × ℕ → Bool
less a b = cond (eqb a.0 b.0) (ltb a.1 b.1) (ltb a.0 b.0)

-- the lowest of 0..n whose key is least
unfoldable pub argmin : (ℕ → ℕ × ℕ) → ℕ → ℕ
argmin key zero = zero
argmin key (suc n) = cond (less (key (suc n)) (key (argmin key n))) (suc n) (argmin key n)

-- how far from 0 a nibble's delta is
unfoldable pub delta_size : ℕ → ℕ
delta_size nibble = nat_abs (get_or deltas nibble (pos 0))

-- the nearest nibble, by how far from somewhere each leads; of those as near the one whose delta is nearest to 0, of those the lowest
unfoldable pub nearest : (ℕ → ℕ) → ℕ
nearest away = argmin (λ nibble. (away nibble, delta_size nibble)) 15

-- how far from the target a nibble leads
unfoldable pub distance : ℤ → ℤ → ℕ → ℕ
distance prev target nibble = nat_abs (fib_step prev nibble -ℤ target)

-- the nibble that is written
unfoldable pub fib_pick : ℤ → ℤ → ℕ
fib_pick prev target = nearest (distance prev target)
