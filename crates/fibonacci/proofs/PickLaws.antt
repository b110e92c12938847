-- The writer's choice: what is picked, and when the change from the running sample to the target alone decides.
-- Assumes nothing.
use mathlib.Core.Path.{◌≡◌, refl, sym, ap, ◌∙◌}
use mathlib.Core.Bool.{Bool, true, false}
use Prim.Native.Nat.{ℕ, ◌+◌, ◌≤◌, ◌<◌}
use native.Mathlib.Omega.{arith}
use borrow.Author.Tests.{ltb-true, ltb-false}
use lib.Dec.{ltb}
use lib.IntN.{ℤ, pos, negsuc, nat_abs, ◌+ℤ◌, ◌-ℤ◌}
use lib.ListN.{get_or}
use lib.Signed.{lt_z, ◌≤ℤ◌, ◌<ℤ◌}
use mir.Syntax.{w8}
use mir.Val.{SFits}
use Rattle.laws.proofs.Signed.{up, dn, zarith, known, Sum, sum, diff, abs_parts}
use Rattle.fibonacci.specs.Step.{deltas, fib_step}
use Rattle.fibonacci.specs.Pick.{delta_size, distance, fib_pick}
use Rattle.fibonacci.specs.Helpers.{nearest_delta}
use Rattle.fibonacci.proofs.StepLaws.{delta_rises, delta_first, delta_middle, delta_last, Mirrored, mirrored}
use Rattle.fibonacci.proofs.StepLaws.{step_kept, step_free, step_below, step_above, step_apart}
use Rattle.fibonacci.proofs.NearestLaws.{Nearest, nearest_laws, nearest_one, nearest_alone, nearest_same}

-- ---- the choice

pub pick_laws : (prev target : ℤ) → Nearest (distance prev target) (fib_pick prev target)
unfolding fib_pick
pick_laws prev target = nearest_laws (distance prev target)

pub pick_is : (prev target : ℤ) (m : ℕ) → Nearest (distance prev target) m → m ≡ fib_pick prev target
unfolding fib_pick
pick_is prev target m n = nearest_one (distance prev target) m n

-- where one nibble alone is at the least distance it is picked: what the rule for equal distances says doesn't count there
pub pick_untied : (prev target : ℤ) (m : ℕ) → m < 16 → ((k : ℕ) → k < 16 → (k ≡ m → ⊥) → distance prev target m < distance prev target k) → m ≡ fib_pick prev target
unfolding fib_pick
pick_untied prev target m w nearer = nearest_alone (distance prev target) m w nearer

pub pick_below : (prev target : ℤ) → fib_pick prev target < 16
pick_below prev target = (pick_laws prev target).within

-- a number is nearer to itself than any other is
itself_nearer : (x y : ℤ) → (x ≡ y → ⊥) → nat_abs (y -ℤ y) < nat_abs (x -ℤ y)
itself_nearer x y other = go (ltb 0 (nat_abs (x -ℤ y))) refl
  where
    go : (t : Bool) → ltb 0 (nat_abs (x -ℤ y)) ≡ t → nat_abs (y -ℤ y) < nat_abs (x -ℤ y)
    go true q = omega (zarith, ltb-true 0 (nat_abs (x -ℤ y)) q, diff y y, abs_parts (y -ℤ y))
    go false q = absurd (other (omega (zarith, ltb-false 0 (nat_abs (x -ℤ y)) q, diff x y, abs_parts (x -ℤ y))))

-- a step's nibble is picked for the sample that it leads to: no other leads there
pub pick_back : (prev : ℤ) (k : ℕ) → k < 16 → fib_pick prev (fib_step prev k) ≡ k
unfolding distance
pick_back prev k h = sym (pick_untied prev (fib_step prev k) k h (λ m l other. itself_nearer (fib_step prev m) (fib_step prev k) (apart m l other (ltb m k) refl)))
  where
    apart : (m : ℕ) → m < 16 → (m ≡ k → ⊥) → (t : Bool) → ltb m k ≡ t → fib_step prev m ≡ fib_step prev k → ⊥
    apart m l other true q e = step_apart prev m k (ltb-true m k q) h e
    apart m l other false q e = step_apart prev k m (omega (arith, ltb-false m k q, other)) l (sym e)

-- ---- by the change

-- far enough from the ends the change alone decides
pub pick_free : (prev target : ℤ) → negsuc 93 ≤ℤ prev → prev ≤ℤ pos 106 → nearest_delta (target -ℤ prev) ≡ fib_pick prev target
unfolding nearest_delta fib_pick distance
pick_free prev target l u = nearest_same _ _ (λ k h. ap nat_abs (same k h))
  where
    same : (k : ℕ) → k < 16 → get_or deltas k (pos 0) -ℤ (target -ℤ prev) ≡ fib_step prev k -ℤ target
    same k h =
        let d = get_or deltas k (pos 0) in
        rw (step_free prev k l u h) (omega (zarith, (sum prev d).parts, (diff target prev).parts, (diff d (target -ℤ prev)).parts, (diff (prev +ℤ d) target).parts))

module _ (change : ℤ) where
  abbrev away : ℕ → ℕ
  away k = nat_abs (get_or deltas k (pos 0) -ℤ change)

  pub nearest_below : nearest_delta change < 16
  unfolding nearest_delta
  nearest_below = (nearest_laws away).within

  -- how far from the change a delta is, by the side on which it lies
  short_by : (d : ℤ) → d ≤ℤ change → nat_abs (d -ℤ change) + (up d + dn change) ≡ up change + dn d
  short_by d h = omega (zarith, diff d change, abs_parts (d -ℤ change))

  past_by : (d : ℤ) → change ≤ℤ d → nat_abs (d -ℤ change) + (up change + dn d) ≡ up d + dn change
  past_by d h = omega (zarith, diff d change, abs_parts (d -ℤ change))

  -- not past the first delta
  pub nearest_first : change ≤ℤ negsuc 33 → 0 ≡ nearest_delta change
  unfolding nearest_delta
  nearest_first h = nearest_alone away 0 (omega arith) higher
    where
      higher : (k : ℕ) → k < 16 → (k ≡ 0 → ⊥) → away 0 < away k
      higher k l other =
          let some : 0 < k = omega (arith, other) in
          let rise = delta_rises 0 k some l in
          omega (zarith, rise, delta_first, past_by (get_or deltas 0 (pos 0)) (omega (zarith, delta_first)), past_by (get_or deltas k (pos 0)) (omega (zarith, rise, delta_first)))

  -- not before the last
  pub nearest_last : pos 21 ≤ℤ change → 15 ≡ nearest_delta change
  unfolding nearest_delta
  nearest_last h = nearest_alone away 15 (omega arith) lower
    where
      lower : (k : ℕ) → k < 16 → (k ≡ 15 → ⊥) → away 15 < away k
      lower k l other =
          let less : k < 15 = omega (arith, other) in
          let rise = delta_rises k 15 less (omega arith) in
          omega (zarith, rise, delta_last, short_by (get_or deltas 15 (pos 0)) (omega (zarith, delta_last)), short_by (get_or deltas k (pos 0)) (omega (zarith, rise, delta_last)))

-- ---- no third test is needed: of the nibbles that are as near as the one picked no other has a delta as near to 0

-- two numbers as far from a third lie about it
record About (x y t : ℤ) : Type 0 where
  middle : up x + up y + (dn t + dn t) ≡ dn x + dn y + (up t + up t)
  half : nat_abs (x -ℤ t) + nat_abs (x -ℤ t) + (up x + dn y) ≡ up y + dn x

about : (x y t : ℤ) → x <ℤ y → nat_abs (x -ℤ t) ≡ nat_abs (y -ℤ t) → About x y t
about x y t h e = record {
  middle = omega (zarith, diff x t, diff y t, abs_parts (x -ℤ t), abs_parts (y -ℤ t));
  half = omega (zarith, diff x t, diff y t, abs_parts (x -ℤ t), abs_parts (y -ℤ t));
}

-- where one of two nibbles of size n wraps, and they lead as near, nibble 0 leads nearer: w and v are where they lead, z is where it leads
one_wraps :
    (w v z t : ℤ) (n : ℕ) → n ≤ 21 → up v + dn w + (n + n) ≡ up w + dn v + 256 → up z + dn v + 34 ≡ up v + dn z + n →
    nat_abs (w -ℤ t) ≡ nat_abs (v -ℤ t) → nat_abs (v -ℤ t) ≤ nat_abs (z -ℤ t) → ⊥
one_wraps w v z t n most far first e near = omega (zarith, about w v t (omega zarith) e, diff z t, abs_parts (z -ℤ t))

-- where neither does, nibble 8 leads nearer, as it stays at p
none_wraps :
    (w v p t : ℤ) (n : ℕ) → 0 < n → up w + dn p + n ≡ up p + dn w → up v + dn p ≡ up p + dn v + n →
    nat_abs (w -ℤ t) ≡ nat_abs (v -ℤ t) → nat_abs (w -ℤ t) ≤ nat_abs (p -ℤ t) → ⊥
none_wraps w v p t n some down rise e near = omega (zarith, about w v t (omega zarith) e, diff p t, abs_parts (p -ℤ t))

-- so two nibbles whose deltas are as large are never both nearest
module _ (prev target : ℤ) (f : SFits w8 prev) (a b : ℕ) (h : a < b) (l : b < 16) (s : delta_size a ≡ delta_size b) where
  -- the sums of the two, and of nibbles 0 and 8
  abbrev sum_of : ℕ → ℤ
  sum_of k = prev +ℤ get_or deltas k (pos 0)

  parts : (k : ℕ) → Sum prev (get_or deltas k (pos 0))
  parts k = sum prev (get_or deltas k (pos 0))

  sizes : Mirrored a b
  sizes = mirrored a b h l s

  not_nearest :
      nat_abs (fib_step prev a -ℤ target) ≡ nat_abs (fib_step prev b -ℤ target) →
      ((k : ℕ) → k < 16 → nat_abs (fib_step prev a -ℤ target) ≤ nat_abs (fib_step prev k -ℤ target)) → ⊥
  not_nearest e near = go (lt_z (sum_of a) (negsuc 127)) (lt_z (pos 127) (sum_of b)) refl refl
    where
      go : (t u : Bool) → lt_z (sum_of a) (negsuc 127) ≡ t → lt_z (pos 127) (sum_of b) ≡ u → ⊥
      go true u p q =
          let a_is = step_below prev f a (omega arith) (omega zarith) in
          let b_is = step_kept prev b (omega (zarith, (parts a).parts, parts b, sizes, known f)) in
          let first_is = step_below prev f 0 (omega arith) (omega (zarith, delta_first, sizes, (parts 0).parts, (parts a).parts)) in
          let turned = (sum (sum_of a) (pos 256)).parts in
          one_wraps (fib_step prev b) (fib_step prev a) (fib_step prev 0) target (delta_size a) sizes.most (omega (zarith, turned, (parts a).parts, (parts b).parts, sizes))
          (omega (zarith, delta_first, turned, (sum (sum_of 0) (pos 256)).parts, (parts a).parts, (parts 0).parts, sizes)) (sym e) (near 0 (omega arith))
      go false true p q =
          let a_is = step_kept prev a (omega (zarith, parts a, (parts b).parts, sizes, known f)) in
          let b_is = step_above prev f b l (omega zarith) in
          let first_is = step_kept prev 0 (omega (zarith, delta_first, parts 0, (parts b).parts, sizes, known f)) in
          let turned = (diff (sum_of b) (pos 256)).parts in
          one_wraps (fib_step prev b) (fib_step prev a) (fib_step prev 0) target (delta_size a) sizes.most (omega (zarith, turned, (parts a).parts, (parts b).parts, sizes))
          (omega (zarith, delta_first, (parts a).parts, (parts 0).parts, sizes)) (sym e) (near 0 (omega arith))
      go false false p q =
          let a_is = step_kept prev a (omega (zarith, parts a, sizes, known f)) in
          let b_is = step_kept prev b (omega (zarith, parts b, sizes, known f)) in
          let middle_is : fib_step prev 8 ≡ prev = step_kept prev 8 (omega (zarith, delta_middle, parts 8, known f)) ∙ omega (zarith, delta_middle, (parts 8).parts) in
          none_wraps (fib_step prev a) (fib_step prev b) prev target (delta_size a) sizes.some (omega (zarith, (parts a).parts, sizes))
          (omega (zarith, (parts b).parts, sizes)) e (rw middle_is at (near 8 (omega arith)))

pub pick_only :
    (prev target : ℤ) → SFits w8 prev → (k : ℕ) → k < 16 → distance prev target k ≡ distance prev target (fib_pick prev target) →
    delta_size k ≡ delta_size (fib_pick prev target) → k ≡ fib_pick prev target
unfolding distance
pick_only prev target f k h e s = go (ltb k m) (ltb m k) refl refl
  where
    m : ℕ
    m = fib_pick prev target

    near : (j : ℕ) → j < 16 → nat_abs (fib_step prev m -ℤ target) ≤ nat_abs (fib_step prev j -ℤ target)
    near = (pick_laws prev target).near

    go : (t u : Bool) → ltb k m ≡ t → ltb m k ≡ u → k ≡ m
    go true u p q = absurd (not_nearest prev target f k m (ltb-true k m p) (pick_below prev target) s e (λ j l. omega (arith, near j l)))
    go false true p q = absurd (not_nearest prev target f m k (ltb-true m k q) h (sym s) (sym e) near)
    go false false p q = omega (arith, ltb-false k m p, ltb-false m k q)
