-- Laws of the deltas and of a step. No other file of laws looks into `fib_step`, and into `deltas` and `delta_size` only to compute a table.
-- Assumes nothing.
use mathlib.Core.Path.{◌≡◌, refl, ap}
use mathlib.Core.Logic.{⊎_elim}
use Prim.Native.Nat.{ℕ, ◌+◌, ◌-◌, ◌≤◌, ◌<◌}
use native.Mathlib.Nat.{eq-or-lt_of_le}
use native.Mathlib.Omega.{arith}
use lib.IntN.{ℤ, pos, negsuc, ◌+ℤ◌, ◌-ℤ◌}
use lib.ListN.{get_or, get_or-eq_default}
use lib.Signed.{lt_z, lt_z_yes, ◌≤ℤ◌, ◌<ℤ◌}
use mir.Syntax.{w8}
use mir.Val.{SFits}
use Rattle.laws.proofs.Signed.{up, dn, zarith, apart, known, sum, abs_parts}
use Rattle.laws.proofs.Table.{all_below, below}
use Rattle.field.specs.Wrap.{to_sample}
use Rattle.fibonacci.specs.Step.{deltas, fib_step}
use Rattle.fibonacci.specs.Pick.{delta_size}
use Rattle.field.proofs.WrapLaws.{sample_fits, sample_kept, sample_below, sample_above, sample_apart}

-- ---- the deltas

-- they rise with the nibble, from -34 to 21
pub delta_rises : (a b : ℕ) → a < b → b < 16 → get_or deltas a (pos 0) <ℤ get_or deltas b (pos 0)
unfolding deltas
delta_rises a b h l = lt_z_yes (below (λ a. lt_z (get_or deltas a (pos 0)) (get_or deltas b (pos 0))) b (below (λ b. all_below (λ a. lt_z (get_or deltas a (pos 0)) (get_or deltas b (pos 0))) b) 16 tt b l) a h)

pub delta_no_lower : (a b : ℕ) → a ≤ b → b < 16 → get_or deltas a (pos 0) ≤ℤ get_or deltas b (pos 0)
delta_no_lower a b h l = ⊎_elim (λ e. rw e (omega zarith)) (λ p. omega (zarith, delta_rises a b p l)) (eq-or-lt_of_le h)

pub delta_first : get_or deltas 0 (pos 0) ≡ negsuc 33
unfolding deltas
delta_first = refl

pub delta_middle : get_or deltas 8 (pos 0) ≡ pos 0
unfolding deltas
delta_middle = refl

pub delta_last : get_or deltas 15 (pos 0) ≡ pos 21
unfolding deltas
delta_last = refl

-- each lies between the first and the last
pub record Within (k : ℕ) : Type 0 where
  pub from : negsuc 33 ≤ℤ get_or deltas k (pos 0)
  pub to : get_or deltas k (pos 0) ≤ℤ pos 21

pub delta_within : (k : ℕ) → k < 16 → Within k
delta_within k h = record {
  from = omega (zarith, delta_no_lower 0 k (omega arith) h, delta_first);
  to = omega (zarith, delta_no_lower k 15 (omega arith) (omega arith), delta_last);
}

pub delta_fits : (k : ℕ) → k < 16 → SFits w8 (get_or deltas k (pos 0))
delta_fits k h = omega (zarith, delta_within k h, apart (get_or deltas k (pos 0)))

-- a delta's size, by its parts
record Size (k : ℕ) : Type 0 where
  whole : delta_size k ≡ up (get_or deltas k (pos 0)) + dn (get_or deltas k (pos 0))
  one_is_zero : up (get_or deltas k (pos 0)) - dn (get_or deltas k (pos 0)) ≡ up (get_or deltas k (pos 0))

size : (k : ℕ) → Size k
unfolding delta_size
size k = record { whole = abs_parts (get_or deltas k (pos 0)); one_is_zero = apart (get_or deltas k (pos 0)) }

-- of two nibbles whose deltas are as large the lower leads down, and the higher up, by that size
pub record Mirrored (a b : ℕ) : Type 0 where
  pub some : 0 < delta_size a
  pub most : delta_size a ≤ 21
  pub down : (up (get_or deltas a (pos 0)) ≡ 0) × (dn (get_or deltas a (pos 0)) ≡ delta_size a)
  pub rise : (up (get_or deltas b (pos 0)) ≡ delta_size a) × (dn (get_or deltas b (pos 0)) ≡ 0)

pub mirrored : (a b : ℕ) → a < b → b < 16 → delta_size a ≡ delta_size b → Mirrored a b
mirrored a b h l e = record {
  some = omega (zarith, delta_rises a b h l, size a, size b);
  most = omega (zarith, delta_rises a b h l, size a, size b, delta_within b l);
  down = (omega (zarith, delta_rises a b h l, size a, size b), omega (zarith, delta_rises a b h l, size a, size b));
  rise = (omega (zarith, delta_rises a b h l, size a, size b), omega (zarith, delta_rises a b h l, size a, size b));
}

-- ---- a step

-- every step is a sample
pub step_fits : (prev : ℤ) (nibble : ℕ) → SFits w8 (fib_step prev nibble)
unfolding fib_step
step_fits prev nibble = sample_fits _

-- it is the sum with the nibble's delta, brought back
pub step_sum : (prev : ℤ) (nibble : ℕ) → to_sample (prev +ℤ get_or deltas nibble (pos 0)) ≡ fib_step prev nibble
unfolding fib_step
step_sum prev nibble = refl

-- past the table the delta is 0, as it is at nibble 8
pub step_past : (prev : ℤ) (nibble : ℕ) → 16 ≤ nibble → fib_step prev nibble ≡ fib_step prev 8
unfolding fib_step deltas
step_past prev nibble h = ap (λ (d : ℤ). to_sample (prev +ℤ d)) (get_or-eq_default deltas (pos 0) h)

-- a sum within the range is the step itself
pub step_kept : (prev : ℤ) (k : ℕ) → SFits w8 (prev +ℤ get_or deltas k (pos 0)) → fib_step prev k ≡ prev +ℤ get_or deltas k (pos 0)
unfolding fib_step
step_kept prev k f = sample_kept (prev +ℤ get_or deltas k (pos 0)) f

-- far enough from the ends no step wraps
pub step_free : (prev : ℤ) (k : ℕ) → negsuc 93 ≤ℤ prev → prev ≤ℤ pos 106 → k < 16 → fib_step prev k ≡ prev +ℤ get_or deltas k (pos 0)
step_free prev k l u h = step_kept prev k (omega (zarith, sum prev (get_or deltas k (pos 0)), delta_within k h))

-- one that wraps comes back at the other end
module _ (prev : ℤ) (f : SFits w8 prev) (k : ℕ) (h : k < 16) where
  pub step_below : (prev +ℤ get_or deltas k (pos 0)) <ℤ negsuc 127 → fib_step prev k ≡ (prev +ℤ get_or deltas k (pos 0)) +ℤ pos 256
  unfolding fib_step
  step_below u =
      let d = get_or deltas k (pos 0) in
      sample_below (prev +ℤ d) (omega (zarith, sum prev d, known f, delta_within k h)) u

  pub step_above : pos 127 <ℤ (prev +ℤ get_or deltas k (pos 0)) → fib_step prev k ≡ (prev +ℤ get_or deltas k (pos 0)) -ℤ pos 256
  unfolding fib_step
  step_above l =
      let d = get_or deltas k (pos 0) in
      sample_above (prev +ℤ d) l (omega (zarith, sum prev d, known f, delta_within k h))

-- the sixteen nibbles lead to sixteen samples
pub step_apart : (prev : ℤ) (a b : ℕ) → a < b → b < 16 → fib_step prev a ≡ fib_step prev b → ⊥
unfolding fib_step
step_apart prev a b h l =
    let x = get_or deltas a (pos 0) in
    let y = get_or deltas b (pos 0) in
    let past = prev +ℤ x in
    sample_apart past (prev +ℤ y) (omega (zarith, delta_rises a b h l, (sum prev x).parts, (sum prev y).parts))
    (omega (zarith, delta_within a (omega arith), delta_within b l, (sum prev x).parts, (sum prev y).parts, (sum past (pos 256)).parts))
