-- A Fibonacci channel one sample at a time: which byte nibble m lies in, and each sample from the one before. A step is not looked into.
-- Assumes nothing.
use mathlib.Core.Path.{◌≡◌, refl, sym, ap, ◌∙◌}
use mathlib.Core.List.{List, [], ◌∷◌}
use Prim.Native.Nat.{ℕ, zero, suc, ◌+◌, ◌*◌, ◌/◌, ◌%◌, ◌≤◌, ◌<◌}
use native.Mathlib.Nat.{not-suc-le-zero, le_of_suc-le-suc}
use native.Mathlib.Numerals.{add-one}
use native.Mathlib.Omega.{arith}
use lib.IntN.{ℤ, pos}
use lib.ListN.{length, get_or, drop, length-drop, get_or-eq_default}
use lib.Seq.{get_or-drop}
use Rattle.field.specs.Signed.{sample_of}
use Rattle.fibonacci.specs.Step.{fib_step}
use Rattle.fibonacci.specs.Decode.{nibbles, running, fib_samples}
use Rattle.fibonacci.proofs.DecodeLaws.{nibbles_length, running_length}

high : (bs : List ℕ) (m : ℕ) → get_or (nibbles bs) (2 * m) 0 ≡ get_or bs m 0 / 16
unfolding nibbles
high [] m = refl
high (b ∷ bs) zero = refl
high (b ∷ bs) (suc m) =
    let next : 2 * suc m ≡ suc (suc (2 * m)) = omega arith in
    ap (λ (k : ℕ). get_or (nibbles (b ∷ bs)) k 0) next ∙ high bs m

low : (bs : List ℕ) (m : ℕ) → get_or (nibbles bs) (suc (2 * m)) 0 ≡ get_or bs m 0 % 16
unfolding nibbles
low [] m = refl
low (b ∷ bs) zero = refl
low (b ∷ bs) (suc m) =
    let next : suc (2 * suc m) ≡ suc (suc (suc (2 * m))) = omega arith in
    ap (λ (k : ℕ). get_or (nibbles (b ∷ bs)) k 0) next ∙ low bs m

-- nibble m of a channel, whose nibbles begin at byte 2
module _ (l : List ℕ) (m : ℕ) where
  pub nibble_past : length l ≤ 2 + m / 2 → 0 ≡ get_or (nibbles (drop 2 l)) m 0
  nibble_past h =
      let past : length (nibbles (drop 2 l)) ≤ m = omega (arith, nibbles_length (drop 2 l), length-drop 2 l) in
      sym (get_or-eq_default (nibbles (drop 2 l)) 0 past)

  pub nibble_even : m % 2 ≡ 0 → get_or l (2 + m / 2) 0 / 16 ≡ get_or (nibbles (drop 2 l)) m 0
  nibble_even e =
      let same : 2 * (m / 2) ≡ m = omega arith in
      rw (← get_or-drop 2 l (m / 2) 0) (sym (high (drop 2 l) (m / 2)) ∙ rw same)

  pub nibble_odd : (m % 2 ≡ 0 → ⊥) → get_or l (2 + m / 2) 0 % 16 ≡ get_or (nibbles (drop 2 l)) m 0
  nibble_odd e =
      let same : suc (2 * (m / 2)) ≡ m = omega arith in
      rw (← get_or-drop 2 l (m / 2) 0) (sym (low (drop 2 l) (m / 2)) ∙ rw same)

running_at_0 : (s : ℤ) (ks : List ℕ) → get_or (running s ks) 0 (pos 0) ≡ s
unfolding running
running_at_0 s [] = refl
running_at_0 s (k ∷ ks) = refl

running_next : (s : ℤ) (ks : List ℕ) (j : ℕ) → j < length ks → get_or (running s ks) (suc j) (pos 0) ≡ fib_step (get_or (running s ks) j (pos 0)) (get_or ks j 0)
unfolding running
running_next s [] j h = absurd (not-suc-le-zero h)
running_next s (k ∷ ks) zero h = running_at_0 (fib_step s k) ks
running_next s (k ∷ ks) (suc j) h = running_next (fib_step s k) ks j (le_of_suc-le-suc h)

-- the samples of a channel
module _ (body : List ℕ) where
  pub sample_first : get_or (fib_samples body) 0 (pos 0) ≡ sample_of (get_or body 1 0)
  unfolding fib_samples
  sample_first = running_at_0 (sample_of (get_or body 1 0)) (nibbles (drop 2 body))

  pub sample_next : (j : ℕ) → j + 1 < length (fib_samples body) → get_or (fib_samples body) (j + 1) (pos 0) ≡ fib_step (get_or (fib_samples body) j (pos 0)) (get_or (nibbles (drop 2 body)) j 0)
  unfolding fib_samples
  sample_next j h =
      let first = sample_of (get_or body 1 0) in
      let ks = nibbles (drop 2 body) in
      let more : j < length ks = omega (arith, running_length first ks) in
      rw add-one (running_next first ks j more)

  -- the next sample, from one that the code has
  pub sample_after :
      (s s' : ℤ) (j : ℕ) → (j < length (fib_samples body) → s ≡ get_or (fib_samples body) j (pos 0)) → s' ≡ fib_step s (get_or (nibbles (drop 2 body)) j 0) →
      j + 1 < length (fib_samples body) → s' ≡ get_or (fib_samples body) (j + 1) (pos 0)
  sample_after s s' j here step more = step ∙ ap (λ (x : ℤ). fib_step x (get_or (nibbles (drop 2 body)) j 0)) (here (omega arith)) ∙ sym (sample_next j more)
