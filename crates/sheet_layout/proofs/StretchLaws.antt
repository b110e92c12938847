-- Runs of records at the front of the bytes: one record more, the end, and whole parts of a flat voice.
--     stretch_open, stretch_member, stretch_end   the first record of a run, and the end of the run
--     starts_past, starts_own, starts_other       what a place and its byte say of the bytes from there on
--     run_open, run_member, run_end               a run from a place on, before and after its next record
--     starts_each, starts_there                   parts that begin with another kind, or are empty
--     one_there                                   a record that may be missing is passed exactly
--     groups_passed, group_passed                 groups are passed exactly
-- Assumes nothing.
use Prim.Native.Nat.{ℕ, suc, ◌+◌, ◌-◌, ◌≤◌, ◌<◌}
use lib.Dec.{eqb, ltb}
use lib.ListN.{length, get_or, drop, length-append, drop_of_length-le}
use lib.Seq.{drop-cons, drop_at, drop-drop}
use mathlib.Core.Bool.{true, false}
use mathlib.Core.List.{List, [], ◌∷◌, ◌++◌, append_assoc}
use mathlib.Core.Path.{◌≡◌, refl, sym, ap, ◌∙◌}
use native.Mathlib.Omega.{arith}
use borrow.Author.Tests.{eq-eqb, ne_eqb, ltb-true}
use Rattle.laws.specs.Walk.{more, last, each}
use Rattle.laws.proofs.WalkLaws.{walk_more, walk_last}
use Rattle.sheet.specs.Flat.{if_there}
use Rattle.sheet_layout.specs.Stretch.{starts_with, one_length, group_front, sum, stretch}
use Rattle.std.specs.Prelude.{None, Option, Some}

starts_at : (k i d : ℕ) (s : List ℕ) → i < length s → starts_with k (drop i s) ≡ eqb (get_or s i d) k
starts_at k i d s h = rw (drop-cons s i d h)

-- ---- a run, record by record

module _ (o m n : ℕ) (l : List ℕ) where
  pub stretch_open : starts_with o l ≡ true → stretch o m n l ≡ 1 + stretch o m n (drop 1 l)
  unfolding stretch
  stretch_open e =
      let f : group_front o m n l ≡ more 1 0 = rw e in
      ap sum (walk_more (group_front o m n) refl l 1 0 f)

  pub stretch_member : 1 ≤ n → starts_with o l ≡ false → starts_with m l ≡ true → stretch o m n l ≡ n + stretch o m n (drop n l)
  unfolding stretch
  stretch_member h e k =
      let f : group_front o m n l ≡ more n (n - 1) = rw (e, k) in
      let whole : suc (n - 1) ≡ n = omega arith in
      ap sum (walk_more (group_front o m n) refl l n (n - 1) f) ∙ rw whole

  pub stretch_end : starts_with o l ≡ false → starts_with m l ≡ false → stretch o m n l ≡ 0
  unfolding stretch
  stretch_end e k =
      let f : group_front o m n l ≡ last [] = rw (e, k) in
      ap sum (walk_last (group_front o m n) refl l [] f)

-- ---- at a place of a sheet

module _ (s : List ℕ) (i : ℕ) where
  pub starts_past : (k : ℕ) → length s ≤ i → starts_with k (drop i s) ≡ false
  starts_past k h = rw (drop_of_length-le s h)

  -- a run from a place on, before its next record and after it
  module _ (o m n : ℕ) where
    pub run_open : starts_with o (drop i s) ≡ true → i + 1 + stretch o m n (drop (i + 1) s) ≡ i + stretch o m n (drop i s)
    run_open e = rw (stretch_open o m n (drop i s) e, drop-drop 1 i s) (omega arith)

    pub run_member : 1 ≤ n → starts_with o (drop i s) ≡ false → starts_with m (drop i s) ≡ true → i + n + stretch o m n (drop (i + n) s) ≡ i + stretch o m n (drop i s)
    run_member h e k = rw (stretch_member o m n (drop i s) h e k, drop-drop n i s) (omega arith)

    pub run_end : starts_with o (drop i s) ≡ false → starts_with m (drop i s) ≡ false → i ≡ i + stretch o m n (drop i s)
    run_end e k = omega (arith, stretch_end o m n (drop i s) e k)

  -- the byte that is read there
  module _ {b : ℕ} (within : true ≡ ltb i (length s)) (read : b ≡ get_or s i b) (k : ℕ) where
    starts_read : starts_with k (drop i s) ≡ eqb b k
    starts_read = starts_at k i b s (ltb-true i (length s) (sym within)) ∙ ap (λ (x : ℕ). eqb x k) (sym read)

    pub starts_own : b ≡ k → starts_with k (drop i s) ≡ true
    starts_own e = starts_read ∙ eq-eqb b k e

    pub starts_other : (b ≡ k → ⊥) → starts_with k (drop i s) ≡ false
    starts_other e = starts_read ∙ ne_eqb b k e

-- ---- parts that begin with another kind, or are empty

module _ {A : Type 0} (k : ℕ) (g : A → List ℕ) (other : (a : A) (r : List ℕ) → starts_with k (g a ++ r) ≡ false) (r : List ℕ) (h : starts_with k r ≡ false) where
  pub starts_each : (as' : List A) → starts_with k (each g as' ++ r) ≡ false
  starts_each [] = h
  starts_each (a ∷ as') = rw (append_assoc (g a) (each g as') r) (other a (each g as' ++ r))

  pub starts_there : (o : Option A) → starts_with k (if_there g o ++ r) ≡ false
  starts_there None = h
  starts_there (Some a) = other a r

-- ---- a record that may be missing

pub one_there : {A : Type 0} (k n : ℕ) (f : A → List ℕ) → ((a : A) → suc (length (f a)) ≡ n)
    → (o : Option A) (r : List ℕ) → starts_with k r ≡ false → one_length k n (if_there (λ a. k ∷ f a) o ++ r) ≡ length (if_there (λ a. k ∷ f a) o)
one_there k n f size None r h = rw h
one_there k n f size (Some a) r h = rw (eq-eqb k k refl) (sym (size a))

-- ---- groups

module _ (o m n : ℕ) where
  -- bytes that a run passes exactly, whatever follows them
  pub Passed : List ℕ → Type 0
  Passed l = (r : List ℕ) → stretch o m n (l ++ r) ≡ length l + stretch o m n r

  passed_each : {A : Type 0} (g : A → List ℕ) → ((a : A) → Passed (g a)) → (as' : List A) → Passed (each g as')
  unfolding Passed
  passed_each g one [] r = omega arith
  passed_each g one (a ∷ as') r =
      rw (append_assoc (g a) (each g as') r) (one a (each g as' ++ r) ∙ rw (passed_each g one as' r, length-append) (omega arith))

  module _ {A : Type 0} (f : A → List ℕ) (apart : eqb m o ≡ false) (size : (a : A) → suc (length (f a)) ≡ n) where
    passed_member : (a : A) → Passed (m ∷ f a)
    unfolding Passed
    passed_member a r =
        let some_bytes : 1 ≤ n = omega (arith, size a) in
        stretch_member o m n (m ∷ f a ++ r) some_bytes apart (eq-eqb m m refl) ∙ rw (drop_at (m ∷ f a) r n (size a), size a)

    -- a record that opens a group, and its members
    passed_group : (as' : List A) → Passed (o ∷ each (λ a. m ∷ f a) as')
    unfolding Passed
    passed_group as' r =
        stretch_open o m n _ (eq-eqb o o refl) ∙ rw (passed_each (λ a. m ∷ f a) passed_member as' r) (omega arith)

    module _ (r : List ℕ) (other : starts_with o r ≡ false) (no_member : starts_with m r ≡ false) where
      pub groups_passed : (gs : List (List A)) → stretch o m n (each (λ as'. o ∷ each (λ a. m ∷ f a) as') gs ++ r) ≡ length (each (λ as'. o ∷ each (λ a. m ∷ f a) as') gs)
      unfolding Passed
      groups_passed gs = passed_each (λ as'. o ∷ each (λ a. m ∷ f a) as') passed_group gs r ∙ rw (stretch_end o m n r other no_member) (omega arith)

      -- one group, which may be missing
      pub group_passed : (g : Option (List A)) → stretch o m n (if_there (λ as'. o ∷ each (λ a. m ∷ f a) as') g ++ r) ≡ length (if_there (λ as'. o ∷ each (λ a. m ∷ f a) as') g)
      unfolding Passed
      group_passed None = stretch_end o m n r other no_member
      group_passed (Some as') = passed_group as' r ∙ rw (stretch_end o m n r other no_member) (omega arith)
