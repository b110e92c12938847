-- A loop that writes a buffer from its front: after i turns the buffer holds `take i want ++ drop i d`, where `want` is what the
-- loop writes in the end and d what the buffer held.
--     prefix_store, prefix_next     one store more, of want's next element
--     prefix_whole, prefix_part     in the end: all of want, or its first n elements, and past them what d held
--     prefix_map, prefix_map_whole  where want is f of each element of a list
-- Assumes nothing.
use mathlib.Core.Path.{◌≡◌, refl, sym, ap, ◌∙◌}
use mathlib.Core.List.{List, [], ◌∷◌, ◌++◌, map, append_assoc}
use Prim.Native.Nat.{ℕ, zero, suc, ◌+◌, ◌-◌, ◌≤◌, ◌<◌}
use native.Mathlib.Nat.{sub-zero, suc-sub-suc}
use native.Mathlib.Numerals.{add-one}
use native.Mathlib.Omega.{arith}
use lib.ListN.{length, take, drop, set, get_or, length-drop, length-map, get_or-map}
use lib.Seq.{drop-cons, set_at, take-suc, take-length, length-take-le}
use Rattle.laws.specs.Buffer.{written}

module _ {A : Type 0} where
  -- v is the element at i, and what lies past it
  pub next_at : (l rest : List A) (i : ℕ) (v d : A) → drop i l ≡ v ∷ rest → v ≡ get_or l i d
  next_at [] rest zero v d e = let z : ◌≡◌ {A = ℕ} 0 1 = cc in absurd (omega arith)
  next_at [] rest (suc i) v d e = let z : ◌≡◌ {A = ℕ} 0 1 = cc in absurd (omega arith)
  next_at (x ∷ l) rest zero v d e = cc
  next_at (x ∷ l) rest (suc i) v d e = next_at l rest i v d e

  next_past : (l rest : List A) (i : ℕ) (v : A) → drop i l ≡ v ∷ rest → drop (suc i) l ≡ rest
  next_past [] rest zero v e = let z : ◌≡◌ {A = ℕ} 0 1 = cc in absurd (omega arith)
  next_past [] rest (suc i) v e = let z : ◌≡◌ {A = ℕ} 0 1 = cc in absurd (omega arith)
  next_past (x ∷ l) rest zero v e = cc
  next_past (x ∷ l) rest (suc i) v e = next_past l rest i v e

  pub rest_past : (l rest : List A) (i : ℕ) (v : A) → drop i l ≡ v ∷ rest → drop (i + 1) l ≡ rest
  rest_past l rest i v e = rw (add-one i) (next_past l rest i v e)

  pub next_within : (l rest : List A) (i : ℕ) (v : A) → drop i l ≡ v ∷ rest → i < length l
  next_within l rest i v e = omega (arith, ap length e, length-drop i l)

  -- v, which is want's element at i, is stored at i
  pub prefix_store :
      (want d out : List A) (i : ℕ) (dft v : A) → i < length want → i < length d → out ≡ take i want ++ drop i d → v ≡ get_or want i dft →
      set out i v ≡ take (i + 1) want ++ drop (i + 1) d
  prefix_store want d out i dft v hw hd e q =
      let small : i ≤ length want = omega arith in
      let front = take i want in
      let past = drop (suc i) d in
      let stored = set_at front (get_or d i dft) past (get_or want i dft) i (length-take-le i want small) in
      rw (e, q, add-one, take-suc want i dft) (rw (drop-cons d i dft hd) (stored ∙ sym (append_assoc front (get_or want i dft ∷ []) past)))

  -- the same where want is known by what is left of it
  pub prefix_next : (want rest d out : List A) (i : ℕ) (v : A) → drop i want ≡ v ∷ rest → i < length d → out ≡ take i want ++ drop i d → set out i v ≡ take (i + 1) want ++ drop (i + 1) d
  prefix_next want rest d out i v n hd e = prefix_store want d out i v v (next_within want rest i v n) hd e (next_at want rest i v v n)

  pub prefix_whole : (want d : List A) (i : ℕ) → i ≡ length want → take i want ++ drop i d ≡ written want d
  prefix_whole want d i e = rw (e, take-length want)

  pub prefix_part : (want d : List A) (n : ℕ) → n ≤ length want → take n want ++ drop n d ≡ written (take n want) d
  prefix_part want d n h = rw (length-take-le n want h)

-- a loop that writes f of each element of a list
module _ {A B : Type 0} (f : A → B) (l : List A) where
  pub prefix_map :
      (d out : List B) (i : ℕ) (dft : A) (v : B) → i < length l → i < length d → out ≡ take i (map f l) ++ drop i d → v ≡ f (get_or l i dft) →
      set out i v ≡ take (i + 1) (map f l) ++ drop (i + 1) d
  prefix_map d out i dft v hl hd e q =
      let within : i < length (map f l) = rw (length-map l f) hl in
      prefix_store (map f l) d out i (f dft) v within hd e (q ∙ sym (get_or-map f l i dft))

  pub prefix_map_whole : (d : List B) (i : ℕ) → i ≡ length l → take i (map f l) ++ drop i d ≡ written (map f l) d
  prefix_map_whole d i e = prefix_whole (map f l) d i (e ∙ sym (length-map l f))

take_none : {A : Type 0} (m : ℕ) → ◌≡◌ {A = List A} (take m []) []
take_none zero = refl
take_none (suc m) = refl

-- what is left of the first k elements past n of them
pub drop_take : {A : Type 0} (n k : ℕ) (l : List A) → drop n (take k l) ≡ take (k - n) (drop n l)
drop_take zero k l = rw (sub-zero k)
drop_take (suc n) zero l = let e : 0 - suc n ≡ 0 = omega arith in rw e
drop_take (suc n) (suc k) [] = sym (take_none (suc k - suc n))
drop_take (suc n) (suc k) (x ∷ l) = rw (suc-sub-suc k n) (drop_take n k l)
