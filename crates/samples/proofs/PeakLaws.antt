-- The largest magnitude, and the first place that has it.
--     none_louder                                    no sample is louder
--     loudest_more                                   of one sample more
--     first_most, first_has, first_before            what the first place with a magnitude is
--     first_is                                       that place by what samples say
--     part_inside, left_past                         a part more
--     loudest_part, first_no_earlier, first_in_part  the largest magnitude and the first place, of a part more
--     loudest_there, peak_none, peak_is              the peak
--     peak_past, peak_nowhere                        the peak by a search
-- Assumes nothing.
use mathlib.Core.Bool.{Bool, true, false, cond, not}
use mathlib.Core.List.{List, [], ◌∷◌, ◌++◌}
use mathlib.Core.Path.{◌≡◌, refl, sym, ap, ◌∙◌}
use Prim.Native.Nat.{ℕ, zero, suc, ◌+◌, ◌≤◌, ◌<◌, max}
use native.Mathlib.Numerals.{add-one}
use native.Mathlib.Omega.{arith}
use borrow.Author.Tests.{eqb-true, eqb-false, ltb-true, ltb-false}
use lib.Dec.{eqb, ltb}
use lib.IntN.{ℤ, pos, nat_abs}
use lib.ListN.{length, get_or, take, drop, length-append, length-drop}
use lib.Seq.{take-suc, take-add, take_at, drop_at, drop-drop, length-take-le}
use Rattle.laws.proofs.Cases.{impossible}
use Rattle.samples.specs.Peak.{magnitude_at, loudest, first_with, peak_of}
use Rattle.std.specs.Prelude.{None, Some, ◌==◌}
use Rattle.std.specs.List.{position, position_or_len}

-- ---- the largest magnitude

pub none_louder : (l : List ℤ) (j : ℕ) → j < length l → magnitude_at l j ≤ loudest l
unfolding loudest
none_louder [] j h = absurd (omega arith)
none_louder (x ∷ l) zero h = omega arith
none_louder (x ∷ l) (suc j) h = omega (arith, none_louder l j (omega arith))

loudest_append : (a b : List ℤ) → loudest (a ++ b) ≡ max (loudest a) (loudest b)
unfolding loudest
loudest_append [] b = omega arith
loudest_append (x ∷ a) b = omega (arith, loudest_append a b)

pub loudest_more : (l : List ℤ) (i : ℕ) → i < length l → loudest (take (i + 1) l) ≡ max (loudest (take i l)) (magnitude_at l i)
unfolding loudest
loudest_more l i h = rw (add-one, take-suc l i (pos 0) h, loudest_append (take i l) (get_or l i (pos 0) ∷ [])) (omega arith)

-- ---- the first place with a magnitude

module _ (m : ℕ) where
  pub first_most : (l : List ℤ) → first_with m l ≤ length l
  unfolding first_with
  first_most [] = omega arith
  first_most (x ∷ l) = go (eqb (nat_abs x) m) (first_most l)
    where
      go : (t : Bool) → first_with m l ≤ length l → cond t 0 (suc (first_with m l)) ≤ suc (length l)
      go true h = omega arith
      go false h = omega arith

  pub first_has : (l : List ℤ) → first_with m l < length l → magnitude_at l (first_with m l) ≡ m
  unfolding first_with
  first_has [] h = absurd (omega arith)
  first_has (x ∷ l) h = go (eqb (nat_abs x) m) refl h (first_has l)
    where
      go : (t : Bool) → eqb (nat_abs x) m ≡ t → cond t 0 (suc (first_with m l)) < suc (length l) → (first_with m l < length l → magnitude_at l (first_with m l) ≡ m)
          → magnitude_at (x ∷ l) (cond t 0 (suc (first_with m l))) ≡ m
      go true e h on = eqb-true (nat_abs x) m e
      go false e h on = on (omega arith)

  pub first_before : (l : List ℤ) (j : ℕ) → j < first_with m l → magnitude_at l j ≡ m → ⊥
  unfolding first_with
  first_before [] j h = absurd (omega arith)
  first_before (x ∷ l) j h = go (eqb (nat_abs x) m) refl j h (first_before l)
    where
      go : (t : Bool) → eqb (nat_abs x) m ≡ t → (j : ℕ) → j < cond t 0 (suc (first_with m l)) → ((j : ℕ) → j < first_with m l → magnitude_at l j ≡ m → ⊥)
          → magnitude_at (x ∷ l) j ≡ m → ⊥
      go true e j h on = absurd (omega arith)
      go false e zero h on = eqb-false (nat_abs x) m e
      go false e (suc j) h on = on j (omega arith)

  first_later : (a b : List ℤ) → first_with m a ≤ first_with m (a ++ b)
  unfolding first_with
  first_later [] b = omega arith
  first_later (x ∷ a) b = go (eqb (nat_abs x) m) (first_later a b)
    where
      go : (t : Bool) → first_with m a ≤ first_with m (a ++ b) → cond t 0 (suc (first_with m a)) ≤ cond t 0 (suc (first_with m (a ++ b)))
      go true h = omega arith
      go false h = omega arith

  first_past : (a b : List ℤ) → loudest a < m → length a ≤ first_with m (a ++ b)
  unfolding first_with loudest
  first_past [] b h = omega arith
  first_past (x ∷ a) b h = go (eqb (nat_abs x) m) refl (first_past a b (omega arith))
    where
      go : (t : Bool) → eqb (nat_abs x) m ≡ t → length a ≤ first_with m (a ++ b) → suc (length a) ≤ cond t 0 (suc (first_with m (a ++ b)))
      go true e on = absurd (omega (arith, eqb-true (nat_abs x) m e))
      go false e on = omega arith

  pub first_is : (l : List ℤ) (i : ℕ) → i < length l → magnitude_at l i ≡ m → ((j : ℕ) → j < i → magnitude_at l j ≡ m → ⊥) → first_with m l ≡ i
  first_is l i inside e earlier =
      let no_earlier : first_with m l < i → ⊥ = λ h. earlier (first_with m l) h (first_has l (omega (arith, h))) in
      let no_later : i < first_with m l → ⊥ = λ h. first_before l i h e in
      omega arith

-- ---- the samples before i, the part that comes next, and what is left past it

module _ (l part rest : List ℤ) (i : ℕ) (inside : i ≤ length l) (next : drop i l ≡ part ++ rest) where
  pub part_inside : i + length part ≤ length l
  part_inside = omega (arith, ap length next, length-drop i l, length-append part rest)

  pub left_past : rest ≡ drop (i + length part) l
  left_past = sym (sym (drop-drop (length part) i l) ∙ rw next (drop_at part rest (length part) refl))

  more : take (i + length part) l ≡ take i l ++ part
  more = take-add i (length part) l ∙ rw next (ap (λ (p : List ℤ). take i l ++ p) (take_at part rest (length part) refl))

  pub loudest_part : loudest (take (i + length part) l) ≡ max (loudest (take i l)) (loudest part)
  loudest_part = rw more (loudest_append (take i l) part)

  pub first_no_earlier : (m : ℕ) → first_with m (take i l) ≤ first_with m (take (i + length part) l)
  first_no_earlier m = rw more (first_later m (take i l) part)

  pub first_in_part : (m : ℕ) → loudest (take i l) < m → i ≤ first_with m (take (i + length part) l)
  first_in_part m less = let past = first_past m (take i l) part less in rw more (omega (arith, past, length-take-le i l inside))

-- ---- the peak

-- some sample has the largest magnitude
pub loudest_there : (m : ℕ) (l : List ℤ) → m ≡ loudest l → 0 < length l → first_with m l < length l
unfolding first_with loudest
loudest_there m [] e h = absurd (omega arith)
loudest_there m (x ∷ l) e h = go (eqb (nat_abs x) m) refl l e (loudest_there m l)
  where
    go : (t : Bool) → eqb (nat_abs x) m ≡ t → (l : List ℤ) → m ≡ max (nat_abs x) (loudest l) → (m ≡ loudest l → 0 < length l → first_with m l < length l)
        → cond t 0 (suc (first_with m l)) < suc (length l)
    go true q l e on = omega arith
    go false q [] e on = absurd (eqb-false (nat_abs x) m q (omega arith))
    go false q (y ∷ l) e on = omega (arith, on (omega (arith, eqb-false (nat_abs x) m q)) (omega arith))

pub peak_none : (l : List ℤ) → length l ≡ 0 → peak_of l ≡ None
unfolding peak_of
peak_none [] h = refl
peak_none (x ∷ l) h = absurd (omega arith)

pub peak_is : (l : List ℤ) → 0 < length l → peak_of l ≡ Some (record { magnitude = loudest l; place = first_with (loudest l) l })
unfolding peak_of
peak_is [] h = absurd (omega arith)
peak_is (x ∷ l) h = refl

-- ---- the peak by a search from a start that is not past it

-- a search finds the first place with a magnitude
place_is : (m : ℕ) (l : List ℤ) → position_or_len (λ (s : ℤ). nat_abs s == m) l ≡ first_with m l
unfolding first_with
place_is m [] = refl
place_is m (x ∷ l) = go (eqb (nat_abs x) m) (place_is m l)
  where
    go : (t : Bool) → position_or_len (λ (s : ℤ). nat_abs s == m) l ≡ first_with m l → cond (not t) (1 + position_or_len (λ (s : ℤ). nat_abs s == m) l) 0 ≡ cond t 0 (suc (first_with m l))
    go true e = refl
    go false e = omega (arith, e)

searched : (m : ℕ) (l : List ℤ) → position (λ (s : ℤ). nat_abs s == m) l ≡ cond (ltb (first_with m l) (length l)) (Some (first_with m l)) None
searched m l = rw (place_is m l)

-- what lies before the start has no such place
from_start : (m : ℕ) (l : List ℤ) (start : ℕ) → start ≤ first_with m l → first_with m l ≡ start + first_with m (drop start l)
unfolding first_with
from_start m l zero low = omega arith
from_start m [] (suc start) low = absurd (omega arith)
from_start m (x ∷ l) (suc start) low = go (eqb (nat_abs x) m) low (from_start m l start)
  where
    go : (t : Bool) → suc start ≤ cond t 0 (suc (first_with m l)) → (start ≤ first_with m l → first_with m l ≡ start + first_with m (drop start l))
        → cond t 0 (suc (first_with m l)) ≡ suc start + first_with m (drop start l)
    go true low on = absurd (omega arith)
    go false low on = omega (arith, on (omega arith))

module _ (l : List ℤ) (m start : ℕ) (largest : m ≡ loudest l) (low : start ≤ first_with (loudest l) l) where
  -- either it ends at a place past the start, or there are no samples
  found_there : first_with m (drop start l) < length (drop start l) → peak_of l ≡ Some (record { magnitude = m; place = start + first_with m (drop start l) })
  found_there there =
      let whole = from_start m l start (rw largest low) in
      rw (peak_is l (omega (arith, length-drop start l, there)), ← largest, whole)

  none_there : length (drop start l) ≤ first_with m (drop start l) → peak_of l ≡ None
  none_there past =
      let whole = from_start m l start (rw largest low) in
      let some : 0 < length l → ⊥ = λ h. omega (arith, loudest_there m l largest h, past, whole, length-drop start l) in
      peak_none l (omega (arith, some))

  -- what is searched is all from the start on
  module _ (searched_part : List ℤ) (all : searched_part ≡ drop start l) where
    pub peak_past : (i : ℕ) → position (λ (s : ℤ). nat_abs s == m) searched_part ≡ Some i → peak_of l ≡ Some (record { magnitude = m; place = start + i })
    peak_past i e = go (ltb (first_with m (drop start l)) (length (drop start l))) refl (sym (searched m (drop start l)) ∙ rw all at e)
      where
        go : (t : Bool) → ltb (first_with m (drop start l)) (length (drop start l)) ≡ t → cond t (Some (first_with m (drop start l))) None ≡ Some i → peak_of l ≡ Some (record { magnitude = m; place = start + i })
        go true t e = let at : first_with m (drop start l) ≡ i = cc in rw (← at) (found_there (ltb-true (first_with m (drop start l)) (length (drop start l)) t))
        go false t e = impossible cc

    pub peak_nowhere : position (λ (s : ℤ). nat_abs s == m) searched_part ≡ None → peak_of l ≡ None
    peak_nowhere e = go (ltb (first_with m (drop start l)) (length (drop start l))) refl (sym (searched m (drop start l)) ∙ rw all at e)
      where
        go : (t : Bool) → ltb (first_with m (drop start l)) (length (drop start l)) ≡ t → cond t (Some (first_with m (drop start l))) None ≡ None → peak_of l ≡ None
        go true t e = impossible cc
        go false t e = none_there (ltb-false (first_with m (drop start l)) (length (drop start l)) t)
