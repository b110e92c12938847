-- What the shares of a pan position are worth: left is the position, held within 0..65,536, over 65,536, and right is what is left of 1, both with no rounding. So the two make 1.
--     held_is      the held position by the positive part of the number: no other proof unfolds `held_to_unity`
--     held_le      it is at most 65,536
-- `HasValue x s a c` says that x is finite, has the sign s and is a / c in size. Assumes nothing.
use mathlib.Core.Path.{◌≡◌, refl, sym, subst}
use mathlib.Core.Bool.{false}
use Prim.Native.Nat.{ℕ, ◌+◌, ◌-◌, ◌≤◌, min}
use native.Mathlib.Nat.{le_trans, lt_of_le_of_lt}
use native.Mathlib.Omega.{arith}
use lib.Dec.{lit≤, lit<}
use lib.IntN.{ℤ, pos, negsuc}
use lib.Ieee.{Float, fin, binary32, round, of_int}
use lib.Ieee.Exact.{HasValue}
use Rattle.laws.proofs.Floats.{quotient, by_power, whole_value, rest_of_one}
use Rattle.laws.proofs.Signed.{up}
use Rattle.small_chunks.specs.Pan.{held_to_unity, share, pan_weights}
use Rattle.small_chunks.specs.declared.pan.Pan.{Pan}

pub held_is : (z : ℤ) → held_to_unity z ≡ min (up z) 65536
unfolding held_to_unity
held_is (pos n) = refl
held_is (negsuc n) = refl

pub held_le : (z : ℤ) → held_to_unity z ≤ 65536
held_le z = omega (arith, held_is z)

part_value : (n : ℕ) → n ≤ 65536 → HasValue (round binary32 false n 65536) false n 65536
part_value n h = by_power n 16 (lt_of_le_of_lt h (lit< tt)) (lit≤ tt)

share_value : (n : ℕ) → n ≤ 65536 → HasValue (share n) false n 65536
share_value n h =
    subst (λ (x : Float). HasValue x false n 65536)
    (sym (quotient binary32 (of_int binary32 (pos n)) (fin false 1 (pos 16)) n 65536 (lit< tt) (whole_value n (le_trans h (lit≤ tt))) (refl, refl)))
    (part_value n h)

pub record Exact (p : Pan) : Type 0 where
  pub left_is : HasValue (pan_weights p).left false (held_to_unity p.position) 65536
  pub right_is : HasValue (pan_weights p).right false (65536 - held_to_unity p.position) 65536
  pub together : held_to_unity p.position + (65536 - held_to_unity p.position) ≡ 65536

pub exact : (p : Pan) → Exact p
exact p =
    let n = held_to_unity p.position in
    let h = held_le p.position in
    record {
      left_is = share_value n h;
      right_is =
          subst (λ (x : Float). HasValue x false (65536 - n) 65536)
          (sym (rest_of_one binary32 (share n) n 65536 (lit< tt) h (share_value n h)))
          (part_value (65536 - n) (omega arith));
      together = omega arith;
    }
