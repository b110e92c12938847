-- Sums value by value, how large they get, and a sum held within 16 bits.
--     plus_take                                      the first n sums
--     plus_join, plus_zeros, added_zeros             sums of two parts, of zeros and values, and of values followed by zeros
--     all_written                                    what a buffer that is written from its front holds in the end
--     within_more, within_zeros                      a larger bound, and zeros
--     grown_fits, grown_stored, grown_within         a sum that a value is added to: it fits, it is the one that is wanted, and it stays within its bound
--     clamped, held_same, held_zero                  a clamped number is held; a number that fits 16 bits is held as it is
-- Assumes nothing.
use Prim.Native.Nat.{ℕ, zero, suc, ◌+◌, ◌^◌, ◌≤◌, ◌<◌, min}
use mathlib.Core.List.{List, [], ◌∷◌, ◌++◌, append-nil}
use mathlib.Core.Path.{◌≡◌, refl, sym, ap, ◌∙◌}
use native.Mathlib.Omega.{arith}
use lib.IntN.{ℤ, pos, negsuc, nat_abs, ◌+ℤ◌, +ℤ_idl, +ℤ_comm}
use lib.ListN.{length, take, drop, get_or, set, replicate, take-append-drop, length-take, length-drop, drop_of_length-le}
use lib.Seq.{drop-cons, get_or_at, take_at, take_all, length-take-le}
use mir.Syntax.{w16, w32}
use mir.Val.{SFits}
use Rattle.laws.proofs.Prefix.{prefix_store}
use Rattle.laws.proofs.Signed.{zarith, sum, abs_parts, known}
use Rattle.std.proofs.lemmas.Int.{ints, clamps}
use Rattle.std.specs.Int.{int_max, int_min}
use Rattle.ensemble_sums.specs.Sums.{plus, added_to, Within, held_to16}

-- ---- sums value by value

length_least : (xs ys : List ℤ) → length (plus xs ys) ≡ min (length xs) (length ys)
unfolding plus
length_least [] ys = omega arith
length_least (x ∷ xs) [] = omega arith
length_least (x ∷ xs) (y ∷ ys) = omega (arith, length_least xs ys)

plus_longer : (i : ℕ) (xs ys : List ℤ) → i < length xs → i < length ys → i < length (plus xs ys)
plus_longer i xs ys h k = omega (arith, length_least xs ys)

pub plus_take : (n : ℕ) (xs ys : List ℤ) → take n (plus xs ys) ≡ plus (take n xs) (take n ys)
unfolding plus
plus_take zero xs ys = refl
plus_take (suc n) [] ys = refl
plus_take (suc n) (x ∷ xs) [] = refl
plus_take (suc n) (x ∷ xs) (y ∷ ys) = rw (plus_take n xs ys)

plus_at : (i : ℕ) (xs ys : List ℤ) → i < length xs → i < length ys → get_or (plus xs ys) i (pos 0) ≡ get_or xs i (pos 0) +ℤ get_or ys i (pos 0)
unfolding plus
plus_at i [] ys h k = absurd (omega arith)
plus_at i (x ∷ xs) [] h k = absurd (omega arith)
plus_at zero (x ∷ xs) (y ∷ ys) h k = refl
plus_at (suc i) (x ∷ xs) (y ∷ ys) h k = plus_at i xs ys (omega arith) (omega arith)

pub plus_join : (xs ys xs' ys' : List ℤ) → length xs ≡ length ys → plus (xs ++ xs') (ys ++ ys') ≡ plus xs ys ++ plus xs' ys'
unfolding plus
plus_join [] [] xs' ys' e = refl
plus_join [] (y ∷ ys) xs' ys' e = absurd (omega arith)
plus_join (x ∷ xs) [] xs' ys' e = absurd (omega arith)
plus_join (x ∷ xs) (y ∷ ys) xs' ys' e = ap (λ (l : List ℤ). (x +ℤ y) ∷ l) (plus_join xs ys xs' ys' (omega arith))

pub plus_zeros : (n : ℕ) (ys : List ℤ) → n ≡ length ys → plus (replicate n (pos 0)) ys ≡ ys
unfolding plus
plus_zeros zero [] e = refl
plus_zeros zero (y ∷ ys) e = absurd (omega arith)
plus_zeros (suc n) [] e = absurd (omega arith)
plus_zeros (suc n) (y ∷ ys) e = rw (+ℤ_idl y, plus_zeros n ys (omega arith))

-- adding the first n of xs and what follows it is adding xs followed by zeros
pub added_zeros : (xs ys zs : List ℤ) (n k : ℕ) → length xs ≡ n → length ys ≡ n + k → added_to ys n (xs ++ zs) ≡ plus (xs ++ replicate k (pos 0)) ys
added_zeros xs ys zs n k e h =
    let front : length xs ≡ length (take n ys) = omega (arith, length-take n ys) in
    let rest : k ≡ length (drop n ys) = omega (arith, length-drop n ys) in
    rw (take_at xs zs n e)
    (ap (λ (l : List ℤ). plus xs (take n ys) ++ l) (sym (plus_zeros k (drop n ys) rest))
    ∙ sym (plus_join xs (take n ys) (replicate k (pos 0)) (drop n ys) front)
    ∙ rw (take-append-drop n ys))

-- ---- a buffer that is written from its front

left_at : {A : Type 0} (want d out : List A) (i : ℕ) (dft : A) → i ≤ length want → i < length d → out ≡ take i want ++ drop i d → get_or out i dft ≡ get_or d i dft
left_at want d out i dft h k e = rw (e, drop-cons d i dft k) (get_or_at (take i want) (get_or d i dft) (drop (suc i) d) dft i (length-take-le i want h))

pub all_written : {A : Type 0} (want d : List A) (i : ℕ) → i ≡ length want → i ≡ length d → take i want ++ drop i d ≡ want
all_written want d i e h =
    let none : drop i d ≡ [] = drop_of_length-le d {i = i} (omega arith) in
    rw (none, append-nil (take i want)) (take_all i want (omega arith))

-- ---- how large sums get

within_at : (b : ℕ) (xs : List ℤ) (i : ℕ) → Within b xs → nat_abs (get_or xs i (pos 0)) ≤ b
within_at b [] i h = omega arith
within_at b (x ∷ xs) zero h = h.0
within_at b (x ∷ xs) (suc i) h = within_at b xs i h.1

pub within_more : (b c : ℕ) (xs : List ℤ) → b ≤ c → Within b xs → Within c xs
within_more b c [] l h = tt
within_more b c (x ∷ xs) l h = (omega arith, within_more b c xs l h.1)

pub within_zeros : (b n : ℕ) → Within b (replicate n (pos 0))
within_zeros b zero = tt
within_zeros b (suc n) = (omega arith, within_zeros b n)

sum_within : (b c : ℕ) (x y : ℤ) → nat_abs x ≤ b → nat_abs y ≤ c → nat_abs (x +ℤ y) ≤ b + c
sum_within b c x y h k = omega (zarith, abs_parts x, abs_parts y, abs_parts (x +ℤ y), sum x y)

-- a value of 16 bits
abs_fits : (x : ℤ) → SFits w16 x → nat_abs x ≤ 32768
abs_fits x f = omega (zarith, known f, abs_parts x)

-- a store
within_set : (b : ℕ) (xs : List ℤ) (i : ℕ) (y : ℤ) → Within b xs → nat_abs y ≤ b → Within b (set xs i y)
within_set b [] i y h k = tt
within_set b (x ∷ xs) zero y h k = (k, h.1)
within_set b (x ∷ xs) (suc i) y h k = (h.0, within_set b xs i y h.1 k)

-- ---- a value added to a sum

-- the first i sums have their values added, and past them stands what stood; one more is added
module _ (values sums so_far : List ℤ) (i : ℕ) (value : i < length values) (there : i < length sums) (is : so_far ≡ take i (plus values sums) ++ drop i sums) where
  -- the value, and the sum with it
  abbrev next : ℤ
  next = get_or values i (pos 0)

  abbrev pub grown : ℤ
  grown = get_or so_far i (pos 0) +ℤ next

  longer : i < length (plus values sums)
  longer = plus_longer i values sums value there

  untouched : get_or so_far i (pos 0) ≡ get_or sums i (pos 0)
  untouched = left_at (plus values sums) sums so_far i (pos 0) (omega (arith, longer)) there is

  pub grown_fits : SFits w16 next → Within (2 ^ 30) sums → SFits w32 grown
  grown_fits fits small =
      let bound : nat_abs (get_or so_far i (pos 0)) ≤ 2 ^ 30 = rw untouched (within_at (2 ^ 30) sums i small) in
      omega (zarith, known fits, bound, abs_parts (get_or so_far i (pos 0)), sum (get_or so_far i (pos 0)) next)

  pub grown_stored : set so_far i grown ≡ take (i + 1) (plus values sums) ++ drop (i + 1) sums
  grown_stored =
      prefix_store (plus values sums) sums so_far i (pos 0) grown longer there is
      (rw (untouched, plus_at i values sums value there) (+ℤ_comm (get_or sums i (pos 0)) next))

  pub grown_within : SFits w16 next → (b : ℕ) → Within b sums → Within (b + 32768) so_far → Within (b + 32768) (set so_far i grown)
  grown_within fits b h all = within_set (b + 32768) so_far i grown all (sum_within b 32768 (get_or so_far i (pos 0)) next (rw untouched (within_at b sums i h)) (abs_fits next fits))

-- ---- a sum held within 16 bits

pub clamped : (x : ℤ) → int_max (negsuc 32767) (int_min x (pos 32767)) ≡ held_to16 x
unfolding held_to16
clamped (pos n) = omega (arith, ints, clamps)
clamped (negsuc n) = omega (arith, ints, clamps)

pub held_same : (x : ℤ) → SFits w16 x → held_to16 x ≡ x
unfolding held_to16
held_same (pos n) f = omega (arith, ints)
held_same (negsuc n) f = omega (arith, ints)

pub held_zero : held_to16 (pos 0) ≡ pos 0
unfolding held_to16
held_zero = refl
