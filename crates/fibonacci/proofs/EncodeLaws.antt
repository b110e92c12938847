-- Laws of a channel written: how many bytes there are, and which byte two samples add. A step and a choice are not looked into.
-- Assumes nothing.
use mathlib.Core.Path.{◌≡◌, refl, sym, ap, ◌∙◌}
use mathlib.Core.List.{List, [], ◌∷◌, ◌++◌}
use Prim.Native.Nat.{ℕ, suc, ◌+◌, ◌*◌, ◌/◌, ◌<◌}
use native.Mathlib.Nat.{not-suc-le-zero}
use native.Mathlib.Numerals.{add-one}
use native.Mathlib.Omega.{arith}
use lib.IntN.{ℤ, pos}
use lib.ListN.{length, get_or, take, drop, set, drop_of_length-le}
use lib.Seq.{drop-cons}
use Rattle.laws.specs.Buffer.{written}
use Rattle.laws.proofs.Prefix.{rest_past, prefix_next}
use Rattle.field.specs.Signed.{byte_of}
use Rattle.fibonacci.specs.Step.{fib_step}
use Rattle.fibonacci.specs.Pick.{fib_pick}
use Rattle.fibonacci.specs.Encode.{picks, packed, fib_bytes}
use Rattle.fibonacci.specs.Helpers.{packed_pair}

-- ---- lengths

pub picks_length : (s : ℤ) (xs : List ℤ) → length (picks s xs) ≡ length xs
unfolding picks
picks_length s [] = refl
picks_length s (x ∷ xs) = ap suc (picks_length (fib_step s (fib_pick s x)) xs)

pub packed_length : (ks : List ℕ) → length (packed ks) ≡ (length ks + 1) / 2
unfolding packed
packed_length [] = refl
packed_length (a ∷ []) = refl
packed_length (a ∷ (b ∷ ks)) = omega (arith, packed_length ks)

-- two, and one for each two samples after the first
pub bytes_length : (xs : List ℤ) → length (fib_bytes xs) ≡ 2 + length xs / 2
unfolding fib_bytes
bytes_length [] = refl
bytes_length (x ∷ xs) = rw (packed_length, picks_length) (omega arith)

-- ---- what comes next

-- the element at k and what lies past it
next_one : (xs : List ℤ) (k : ℕ) → k < length xs → drop k xs ≡ get_or xs k (pos 0) ∷ drop (k + 1) xs
next_one xs k h = rw add-one (drop-cons xs k (pos 0) h)

bytes_first : (xs : List ℤ) → 0 < length xs → fib_bytes xs ≡ 0 ∷ byte_of (get_or xs 0 (pos 0)) ∷ packed (picks (get_or xs 0 (pos 0)) (drop 1 xs))
unfolding fib_bytes
bytes_first [] h = absurd (not-suc-le-zero h)
bytes_first (x ∷ xs) h = refl

pair_packed : (s a b : ℤ) (xs : List ℤ) → packed (picks s (a ∷ b ∷ xs)) ≡ (packed_pair s a b).byte ∷ packed (picks (packed_pair s a b).last xs)
unfolding picks packed
pair_packed s a b xs = refl

one_packed : (s a : ℤ) → packed (picks s (a ∷ [])) ≡ (fib_pick s a * 16 + 8) ∷ []
unfolding picks packed
one_packed s a = refl

-- no samples
none_bytes : (samples : List ℤ) → length samples ≡ 0 → fib_bytes samples ≡ 0 ∷ 0 ∷ []
unfolding fib_bytes
none_bytes [] e = refl
none_bytes (x ∷ xs) e = absurd (omega arith)

pub none_stored : (samples : List ℤ) (d : List ℕ) → length samples ≡ 0 → 1 < length d → set (set d 0 0) 1 0 ≡ written (fib_bytes samples) d
none_stored samples [] e h = absurd (omega arith)
none_stored samples (x ∷ []) e h = absurd (omega arith)
none_stored samples (x ∷ (y ∷ d)) e h = rw (none_bytes samples e)

-- ---- the writer's loop

-- the start: byte 0 is 0, and byte 1 the first sample, s
module _ (samples : List ℤ) (s : ℤ) (some : 0 < length samples) (s_is : s ≡ get_or samples 0 (pos 0)) where
  first_bytes : fib_bytes samples ≡ 0 ∷ byte_of s ∷ packed (picks s (drop 1 samples))
  first_bytes = rw s_is (bytes_first samples some)

  pub first_rest : packed (picks s (drop 1 samples)) ≡ drop 2 (fib_bytes samples)
  first_rest = rw first_bytes

  pub first_two_stored : (d : List ℕ) (byte : ℕ) → byte ≡ byte_of s → 1 < length d → set (set d 0 0) 1 byte ≡ take 2 (fib_bytes samples) ++ drop 2 d
  first_two_stored d byte e h =
      let one = prefix_next (fib_bytes samples) _ d d 0 0 first_bytes (omega arith) refl in
      rw e (prefix_next (fib_bytes samples) _ d _ 1 (byte_of s) (rest_past (fib_bytes samples) _ 0 0 first_bytes) h one)

-- A turn: 2 j + 1 samples are written, s is what the decoder has of the last of them, and of the bytes `all` 2 + j are stored.
module _ (samples : List ℤ) (all : List ℕ) (j : ℕ) (s : ℤ) (left : packed (picks s (drop (2 * j + 1) samples)) ≡ drop (2 + j) all) where
  -- two samples more
  module _ (a b : ℤ) (more : 2 * j + 2 < length samples) (a_is : a ≡ get_or samples (2 * j + 1) (pos 0)) (b_is : b ≡ get_or samples (2 * j + 2) (pos 0)) where
    pair_next : drop (2 + j) all ≡ (packed_pair s a b).byte ∷ packed (picks (packed_pair s a b).last (drop (2 * (j + 1) + 1) samples))
    pair_next =
        let second : 2 * j + 2 ≡ 2 * j + 1 + 1 = omega arith in
        let third : 2 * (j + 1) + 1 ≡ 2 * j + 2 + 1 = omega arith in
        let two : drop (2 * j + 1 + 1) samples ≡ b ∷ drop (2 * (j + 1) + 1) samples = rw (← second, third, b_is) (next_one samples (2 * j + 2) more) in
        let split : drop (2 * j + 1) samples ≡ a ∷ b ∷ drop (2 * (j + 1) + 1) samples = rw (a_is, ← two) (next_one samples (2 * j + 1) (omega arith)) in
        sym left ∙ rw split (pair_packed s a b _)

    pub pair_left : packed (picks (packed_pair s a b).last (drop (2 * (j + 1) + 1) samples)) ≡ drop (2 + (j + 1)) all
    pair_left =
        let past : 2 + (j + 1) ≡ 2 + j + 1 = omega arith in
        rw past (sym (rest_past all _ (2 + j) _ pair_next))

    pub pair_stored : (d out : List ℕ) → out ≡ take (2 + j) all ++ drop (2 + j) d → 2 + j < length d → set out (2 + j) (packed_pair s a b).byte ≡ take (2 + (j + 1)) all ++ drop (2 + (j + 1)) d
    pair_stored d out e h =
        let past : 2 + (j + 1) ≡ 2 + j + 1 = omega arith in
        rw past (prefix_next all _ d out (2 + j) _ pair_next h e)

  -- one sample more, the last
  pub last_stored :
      (a : ℤ) → 2 * j + 2 ≡ length samples → a ≡ get_or samples (2 * j + 1) (pos 0) → (d out : List ℕ) → out ≡ take (2 + j) all ++ drop (2 + j) d →
      2 + j < length d → set out (2 + j) (fib_pick s a * 16 + 8) ≡ take (2 + j + 1) all ++ drop (2 + j + 1) d
  last_stored a end a_is d out e h =
      let none : drop (2 * j + 1 + 1) samples ≡ [] = drop_of_length-le samples {i = 2 * j + 1 + 1} (omega arith) in
      let only : drop (2 * j + 1) samples ≡ a ∷ [] = next_one samples (2 * j + 1) (omega arith) ∙ rw (none, ← a_is) in
      prefix_next all [] d out (2 + j) _ (sym left ∙ rw only (one_packed s a)) h e
