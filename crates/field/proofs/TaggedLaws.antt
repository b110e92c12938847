-- The laws of `parts` and `tagged`: their parts one by one. No proof elsewhere unfolds them.
-- Assumes nothing.
use Rattle.std.proofs.Common.{◌≡◌, ℕ, suc, ◌+◌, ◌-◌, ◌<◌, ◌≤◌, List, [], ◌∷◌, ◌++◌, length, take, drop, ap, ◌∙◌, arith, length-append, length-drop, drop-drop, le-ltb, lt-ltb}
use Rattle.std.proofs.lemmas.List.{take_at, drop_at}
use Rattle.field.specs.Tagged.{first_part, parts, first_tagged, tagged}
use Rattle.laws.specs.Walk.{last, each}
use Rattle.laws.proofs.WalkLaws.{walk_more, walk_last}

module _ (n : ℕ) (pos : 0 < n) where
  no_part : first_part n [] ≡ last []
  no_part = rw (lt-ltb 0 n pos)

  pub parts_more : (l : List ℕ) → n ≤ length l → parts n l ≡ take n l ∷ parts n (drop n l)
  unfolding parts
  parts_more l h =
      let e : suc (n - 1) ≡ n = omega arith in
      walk_more (first_part n) no_part l (take n l) (n - 1) (rw (le-ltb (length l) n h)) ∙ rw e

  -- the same of a part and what follows it
  pub parts_front : (part rest l : List ℕ) → l ≡ part ++ rest → length part ≡ n → parts n l ≡ part ∷ parts n rest
  parts_front part rest l e h =
      rw (e, parts_more (part ++ rest) (omega (arith, length-append part rest)), take_at part rest n h, drop_at part rest n h)

  pub parts_end : (l : List ℕ) → length l < n → parts n l ≡ []
  unfolding parts
  parts_end l h = walk_last (first_part n) no_part l [] (rw (lt-ltb (length l) n h))

module _ (t n : ℕ) (pos : 0 < n) where
  nil : first_tagged t n [] ≡ last []
  nil = rw (lt-ltb 0 n pos)

  tagged_more : (l : List ℕ) → n ≤ length l → tagged t n l ≡ (t ∷ take n l) ++ tagged t n (drop n l)
  unfolding tagged
  tagged_more l h =
      let e : suc (n - 1) ≡ n = omega arith in
      ap (each (λ x. x)) (walk_more (first_tagged t n) nil l (t ∷ take n l) (n - 1) (rw (le-ltb (length l) n h))) ∙ rw e

  -- the same of a part and what follows it
  pub tagged_front : (part rest l : List ℕ) → l ≡ part ++ rest → length part ≡ n → tagged t n l ≡ (t ∷ part) ++ tagged t n rest
  tagged_front part rest l e h =
      rw (e, tagged_more (part ++ rest) (omega (arith, length-append part rest)), take_at part rest n h, drop_at part rest n h)

  pub tagged_end : (l : List ℕ) → length l < n → tagged t n l ≡ []
  unfolding tagged
  tagged_end l h = ap (each (λ x. x)) (walk_last (first_tagged t n) nil l [] (rw (lt-ltb (length l) n h)))

  -- the same at a place
  pub tagged_at : (s : List ℕ) (i : ℕ) → n ≤ length s - i → tagged t n (drop i s) ≡ (t ∷ take (i + n - i) (drop i s)) ++ tagged t n (drop (i + n) s)
  tagged_at s i h =
      let e : i + n - i ≡ n = omega arith in
      rw (e, ← drop-drop n i s) (tagged_more (drop i s) (rw length-drop h))

  pub tagged_at_end : (s : List ℕ) (i : ℕ) → length s - i < n → tagged t n (drop i s) ≡ []
  tagged_at_end s i h = tagged_end (drop i s) (rw length-drop h)
