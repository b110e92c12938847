-- The look at all sixteen nibbles: the least key's place is that of the nibble that is picked.
-- Assumes nothing.
use mathlib.Core.Path.{◌≡◌, refl, sym, ap, ◌∙◌}
use mathlib.Core.Bool.{Bool, true, false, cond}
use mathlib.Core.Logic.{⊎_elim}
use Prim.Native.Nat.{ℕ, zero, suc, ◌+◌, ◌-◌, ◌*◌, ◌/◌, ◌%◌, ◌≤◌, ◌<◌, min}
use native.Mathlib.Nat.{le_refl, eq-or-lt_of_le, le_of_suc-le-suc}
use native.Mathlib.Numerals.{add-one}
use native.Mathlib.Omega.{arith}
use borrow.Author.Tests.{ltb-true, ltb-false, eqb-true, eqb-false}
use lib.Dec.{eqb, ltb, ltb→lt, eqb→eq}
use lib.IntN.{ℤ, pos, nat_abs, ◌+ℤ◌, ◌-ℤ◌}
use lib.ListN.{get_or}
use mir.Syntax.{w8}
use mir.Val.{SFits}
use Rattle.laws.proofs.Signed.{zarith, known, diff, abs_parts}
use Rattle.laws.proofs.Table.{all_below, below}
use Rattle.field.specs.Wrap.{to_sample}
use Rattle.fibonacci.specs.Step.{deltas}
use Rattle.fibonacci.specs.Pick.{delta_size, distance, fib_pick}
use Rattle.fibonacci.specs.Helpers.{by_size, key_at, least_of}
use Rattle.fibonacci.proofs.StepLaws.{step_fits, step_sum}
use Rattle.fibonacci.proofs.NearestLaws.{Nearest}
use Rattle.fibonacci.proofs.PickLaws.{pick_is}

-- ---- the order by size

-- its rule, as the code has it
pub even_place : (i : ℕ) → i % 2 ≡ 0 → 8 + i / 2 ≡ by_size i
unfolding by_size
even_place i e = rw e

pub odd_place : (i : ℕ) → (i % 2 ≡ 0 → ⊥) → 7 - i / 2 ≡ by_size i
unfolding by_size
odd_place i n = go (eqb (i % 2) 0) refl
  where
    go : (t : Bool) → eqb (i % 2) 0 ≡ t → 7 - i / 2 ≡ cond t (8 + i / 2) (7 - i / 2)
    go true e = absurd (n (eqb-true (i % 2) 0 e))
    go false e = refl

-- where a nibble stands in it
abbrev place_of : ℕ → ℕ
place_of k = cond (ltb k 8) (15 - 2 * k) (2 * (k - 8))

record Placed (k : ℕ) : Type 0 where
  within : place_of k < 16
  is : by_size (place_of k) ≡ k

placed : (k : ℕ) → k < 16 → Placed k
unfolding by_size
placed k h = record {
  within = ltb→lt _ _ (below (λ k. ltb (place_of k) 16) 16 tt k h);
  is = eqb→eq _ _ (below (λ k. eqb (by_size (place_of k)) k) 16 tt k h);
}

by_size_below : (i : ℕ) → i < 16 → by_size i < 16
unfolding by_size
by_size_below i h = ltb→lt _ _ (below (λ i. ltb (by_size i) 16) 16 tt i h)

-- a delta's size, and below it the nibble
abbrev size_at : ℕ → ℕ
size_at i = delta_size (by_size i) * 16 + by_size i

-- earlier are the smaller deltas, and of two as large the lower nibble
earlier : (i j : ℕ) → i < j → j < 16 → size_at i < size_at j
unfolding by_size delta_size deltas
earlier i j h l = ltb→lt _ _ (below (λ i. ltb (size_at i) (size_at j)) j (below (λ j. all_below (λ i. ltb (size_at i) (size_at j)) j) 16 tt j l) i h)

-- ---- keys

-- two samples are less than 256 apart
pub apart_below : (x y : ℤ) → SFits w8 x → SFits w8 y → nat_abs (x -ℤ y) < 256
apart_below x y f g = omega (zarith, diff x y, abs_parts (x -ℤ y), known f, known g)

module _ (prev target : ℤ) where
  -- a key, by the delta at its place
  pub key_of_delta : (i : ℕ) (d : ℤ) → d ≡ get_or deltas (by_size i) (pos 0) → nat_abs (to_sample (prev +ℤ d) -ℤ target) * 16 + i ≡ key_at prev target i
  unfolding key_at distance
  key_of_delta i d e = rw (e, step_sum prev (by_size i))

  key_below : SFits w8 target → (i : ℕ) → i < 16 → key_at prev target i < 4096
  unfolding key_at distance
  key_below f i h = omega (arith, apart_below _ target (step_fits prev (by_size i)) f)

-- ---- the least of keys

module _ (key : ℕ → ℕ) where
  pub least_none : 4096 ≡ least_of key 0
  unfolding least_of
  least_none = refl

  pub least_next : (n : ℕ) → least_of key (n + 1) ≡ min (least_of key n) (key n)
  unfolding least_of
  least_next n = rw add-one

  no_more : (n k : ℕ) → k < n → least_of key n ≤ key k
  unfolding least_of
  no_more zero k h = absurd (omega arith)
  no_more (suc n) k h = ⊎_elim (λ e. rw e (omega arith)) (λ l. omega (arith, no_more n k l)) (eq-or-lt_of_le (le_of_suc-le-suc h))

  -- a place below n that has it, unless it is 4096
  record Found (n : ℕ) : Type 0 where
    place : ℕ
    within : place < n
    is : least_of key n ≡ key place

  found : (n : ℕ) → least_of key n < 4096 → Found n
  unfolding least_of
  found zero h = absurd (omega arith)
  found (suc n) h = go (found n) (ltb (key n) (least_of key n)) refl
    where
      go : (least_of key n < 4096 → Found n) → (t : Bool) → ltb (key n) (least_of key n) ≡ t → Found (suc n)
      go so_far true e = record { place = n; within = le_refl _; is = omega (arith, ltb-true (key n) (least_of key n) e) }
      go so_far false e =
          let f = so_far (omega (arith, ltb-false (key n) (least_of key n) e)) in
          record { place = f.place; within = omega (arith, f.within); is = omega (arith, f.is, ltb-false (key n) (least_of key n) e) }

-- ---- the nibble at its place is picked

module _ (prev target : ℤ) (f : SFits w8 target) where
  at : Found (key_at prev target) 16
  at = found (key_at prev target) 16 (omega (arith, no_more (key_at prev target) 16 0 (omega arith), key_below prev target f 0 (omega arith)))

  -- of two places that which has the least key leads no farther, and as far only if it is no later
  record NoWorse (k : ℕ) : Type 0 where
    near : distance prev target (by_size at.place) ≤ distance prev target k
    early : distance prev target k ≡ distance prev target (by_size at.place) → at.place ≤ place_of k

  no_worse : (k : ℕ) → k < 16 → NoWorse k
  unfolding key_at
  no_worse k h =
      let p = placed k h in
      let least : key_at prev target at.place ≤ key_at prev target (place_of k) = omega (arith, at.is, no_more (key_at prev target) 16 (place_of k) p.within) in
      let here : distance prev target (by_size (place_of k)) ≡ distance prev target k = ap (distance prev target) p.is in
      record { near = omega (arith, least, here, at.within, p.within); early = (λ e. omega (arith, least, here, at.within, p.within)) }

  chosen : Nearest (distance prev target) (by_size at.place)
  chosen = record {
    within = by_size_below at.place at.within;
    near = (λ k h. (no_worse k h).near);
    small = (λ k h e. (go k h e (eqb (place_of k) at.place) refl).0);
    low = (λ k h e s. (go k h e (eqb (place_of k) at.place) refl).1 s);
  }
    where
      m : ℕ
      m = by_size at.place

      go : (k : ℕ) → k < 16 → distance prev target k ≡ distance prev target m → (t : Bool) → eqb (place_of k) at.place ≡ t →
          (delta_size m ≤ delta_size k) × (delta_size k ≡ delta_size m → m ≤ k)
      go k h e true q =
          let same : m ≡ k = ap by_size (sym (eqb-true (place_of k) at.place q)) ∙ (placed k h).is in
          (rw same (le_refl _), λ s. rw same (le_refl _))
      go k h e false q =
          let p = placed k h in
          let later : size_at at.place < size_at (place_of k) = earlier at.place (place_of k) (omega (arith, (no_worse k h).early e, eqb-false (place_of k) at.place q)) p.within in
          let order : delta_size m * 16 + m < delta_size k * 16 + k = rw p.is at later in
          (omega arith, λ s. omega arith)

  place_is : least_of (key_at prev target) 16 % 16 ≡ at.place
  unfolding key_at
  place_is = omega (arith, at.is, at.within)

  pub search_picks : by_size (least_of (key_at prev target) 16 % 16) ≡ fib_pick prev target
  search_picks = ap by_size place_is ∙ pick_is prev target _ chosen
