-- Laws of a channel read: how many samples there are, and what a byte adds to them. A step is not looked into.
-- Assumes nothing.
use mathlib.Core.Path.{◌≡◌, refl, sym, ap, ◌∙◌}
use mathlib.Core.List.{List, [], ◌∷◌, ◌++◌}
use Prim.Native.Nat.{ℕ, suc, ◌+◌, ◌-◌, ◌*◌, ◌/◌, ◌%◌, ◌<◌}
use native.Mathlib.Numerals.{add-one}
use native.Mathlib.Omega.{arith}
use lib.IntN.{ℤ}
use lib.ListN.{length, get_or, take, drop, set, length-drop}
use lib.Seq.{drop-cons}
use Rattle.laws.proofs.Prefix.{rest_past, prefix_next}
use Rattle.field.specs.Signed.{sample_of}
use Rattle.fibonacci.specs.Step.{fib_step}
use Rattle.fibonacci.specs.Decode.{nibbles, running, fib_samples}

-- ---- lengths

pub nibbles_length : (bs : List ℕ) → length (nibbles bs) ≡ 2 * length bs
unfolding nibbles
nibbles_length [] = refl
nibbles_length (b ∷ bs) = omega (arith, nibbles_length bs)

pub running_length : (s : ℤ) (ks : List ℕ) → length (running s ks) ≡ suc (length ks)
unfolding running
running_length s [] = refl
running_length s (k ∷ ks) = ap suc (running_length (fib_step s k) ks)

-- the first, and two for each byte after the first two
pub samples_length : (body : List ℕ) → length (fib_samples body) ≡ 2 * (length body - 2) + 1
unfolding fib_samples
samples_length body = rw (running_length, nibbles_length, length-drop) (omega arith)

-- ---- what comes next

nibbles_next : (body : List ℕ) (k : ℕ) → k < length body → nibbles (drop k body) ≡ get_or body k 0 / 16 ∷ get_or body k 0 % 16 ∷ nibbles (drop (k + 1) body)
unfolding nibbles
nibbles_next body k h = rw (drop-cons body k 0 h, add-one)

pub running_first : (s : ℤ) (ks : List ℕ) → running s ks ≡ s ∷ drop 1 (running s ks)
unfolding running
running_first s [] = refl
running_first s (k ∷ ks) = refl

running_two : (s : ℤ) (a b : ℕ) (ks : List ℕ) → running s (a ∷ b ∷ ks) ≡ s ∷ fib_step s a ∷ running (fib_step (fib_step s a) b) ks
unfolding running
running_two s a b ks = refl

-- ---- the decoder's loop

-- the start: byte 1 is the first sample, and is stored
module _ (body : List ℕ) (s : ℤ) (s_is : s ≡ sample_of (get_or body 1 0)) where
  pub first_left : running s (nibbles (drop 2 body)) ≡ fib_samples body
  unfolding fib_samples
  first_left = rw s_is

  pub first_stored : (d : List ℤ) → 0 < length d → set d 0 s ≡ take 1 (fib_samples body) ++ drop 1 d
  first_stored d h = prefix_next (fib_samples body) _ d d 0 s (sym first_left ∙ running_first s _) h refl

-- A turn: of the samples `all` 2 j are passed, s is the next, and byte 2 + j gives two after it.
-- They are stored in a buffer that held d and holds all samples up to s.
module _ (body : List ℕ) (all d out : List ℤ) (j : ℕ) (s high : ℤ)
    (left : running s (nibbles (drop (2 + j) body)) ≡ drop (2 * j) all)
    (more : 2 + j < length body)
    (high_is : high ≡ fib_step s (get_or body (2 + j) 0 / 16))
    (so_far : out ≡ take (2 * j + 1) all ++ drop (2 * j + 1) d) where
  high_next : drop (2 * j + 1) all ≡ high ∷ running (fib_step high (get_or body (2 + j) 0 % 16)) (nibbles (drop (2 + j + 1) body))
  high_next = rest_past all _ (2 * j) s (sym left ∙ rw (nibbles_next body (2 + j) more, high_is) (running_two s _ _ _))

  pub high_stored : 2 * j + 1 < length d → set out (2 * j + 1) high ≡ take (2 * j + 2) all ++ drop (2 * j + 2) d
  high_stored h =
      let past : 2 * j + 2 ≡ 2 * j + 1 + 1 = omega arith in
      rw past (prefix_next all _ d out (2 * j + 1) high high_next h so_far)

  module _ (low : ℤ) (low_is : low ≡ fib_step high (get_or body (2 + j) 0 % 16)) where
    pub low_left : running low (nibbles (drop (2 + (j + 1)) body)) ≡ drop (2 * (j + 1)) all
    low_left =
        let at : 2 + (j + 1) ≡ 2 + j + 1 = omega arith in
        let past : 2 * (j + 1) ≡ 2 * j + 1 + 1 = omega arith in
        rw (at, past, low_is) (sym (rest_past all _ (2 * j + 1) high high_next))

    pub low_stored : 2 * j + 2 < length d → set (set out (2 * j + 1) high) (2 * j + 2) low ≡ take (2 * (j + 1) + 1) all ++ drop (2 * (j + 1) + 1) d
    low_stored h =
        let past : 2 * (j + 1) + 1 ≡ 2 * j + 2 + 1 = omega arith in
        let same : 2 * (j + 1) ≡ 2 * j + 2 = omega arith in
        let next = rw same at (sym low_left ∙ running_first low _) in
        rw past (prefix_next all _ d _ (2 * j + 2) low next h (high_stored (omega arith)))
