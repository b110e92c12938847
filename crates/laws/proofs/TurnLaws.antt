-- Two lists by turns, and the elements at even and at odd places: how many there are, a turn of a loop, and each way back.
--     by_turns_length, by_turns_at, by_turns_first, by_turns_last, pair_stored, turn_stored     two lists by turns
--     evens_length, odds_length, parted_at, parted_last            a list parted
--     evens_back, odds_back, turns_back                            parted again, and by turns again
-- Assumes nothing.
use mathlib.Core.Path.{◌≡◌, refl, sym, ap, ap₂, ◌∙◌}
use mathlib.Core.List.{List, [], ◌∷◌, ◌++◌}
use Prim.Native.Nat.{ℕ, zero, suc, ◌+◌, ◌/◌, ◌≤◌, ◌<◌}
use native.Mathlib.Nat.{not-suc-le-zero, le_of_suc-le-suc}
use native.Mathlib.Numerals.{one-add}
use native.Mathlib.Omega.{arith}
use lib.ListN.{length, get_or, take, drop, set}
use lib.Seq.{drop-nil, drop-drop}
use Rattle.laws.specs.Turns.{by_turns, evens, odds}
use Rattle.laws.proofs.Prefix.{rest_past, prefix_next}

module _ {A : Type 0} where
  -- all elements of both are there
  pub turns_length : (ls rs : List A) → length (by_turns ls rs) ≡ length ls + length rs
  unfolding by_turns
  turns_length [] rs = omega arith
  turns_length (l ∷ ls) [] = omega arith
  turns_length (l ∷ ls) (r ∷ rs) = omega (arith, turns_length ls rs)

  pub by_turns_length : (ls rs : List A) (n : ℕ) → length ls ≡ n → length rs ≡ n → length (by_turns ls rs) ≡ n + n
  by_turns_length ls rs n p q = turns_length ls rs ∙ ap₂ (λ (a b : ℕ). a + b) p q

  -- turn i of the two
  pub by_turns_at : (ls rs : List A) (i : ℕ) (d : A) → i < length ls → i < length rs → drop (i + i) (by_turns ls rs) ≡ get_or ls i d ∷ get_or rs i d ∷ by_turns (drop (suc i) ls) (drop (suc i) rs)
  unfolding by_turns
  by_turns_at [] rs i d h k = absurd (not-suc-le-zero h)
  by_turns_at (l ∷ ls) [] i d h k = absurd (not-suc-le-zero k)
  by_turns_at (l ∷ ls) (r ∷ rs) zero d h k = refl
  by_turns_at (l ∷ ls) (r ∷ rs) (suc i) d h k =
      let twice : suc i + suc i ≡ suc (suc (i + i)) = omega arith in
      ap (λ (n : ℕ). drop n (by_turns (l ∷ ls) (r ∷ rs))) twice ∙ by_turns_at ls rs i d (le_of_suc-le-suc h) (le_of_suc-le-suc k)

  -- the first is the first of the left list
  pub by_turns_first : (ls rs : List A) (d : A) → 0 < length ls → get_or (by_turns ls rs) 0 d ≡ get_or ls 0 d
  unfolding by_turns
  by_turns_first [] rs d h = absurd (omega arith)
  by_turns_first (l ∷ ls) [] d h = refl
  by_turns_first (l ∷ ls) (r ∷ rs) d h = refl

  -- the last of the left list, where it is longer by one
  pub by_turns_last : (ls rs : List A) (i : ℕ) (d : A) → length rs ≡ i → length ls ≡ suc i → drop (i + i) (by_turns ls rs) ≡ get_or ls i d ∷ []
  unfolding by_turns
  by_turns_last [] rs i d p q = absurd (omega arith)
  by_turns_last (l ∷ []) [] zero d p q = refl
  by_turns_last (l ∷ m ∷ ls) [] zero d p q = absurd (omega arith)
  by_turns_last (l ∷ ls) [] (suc i) d p q = absurd (omega arith)
  by_turns_last (l ∷ ls) (r ∷ rs) zero d p q = absurd (omega arith)
  by_turns_last (l ∷ ls) (r ∷ rs) (suc i) d p q =
      let twice : suc i + suc i ≡ suc (suc (i + i)) = omega arith in
      ap (λ (n : ℕ). drop n (by_turns (l ∷ ls) (r ∷ rs))) twice ∙ by_turns_last ls rs i d (omega arith) (omega arith)

  -- a turn: a and b, the next two of what is wanted, are stored in a buffer that held d
  pub pair_stored : (want rest d out : List A) (i : ℕ) (a b : A) → drop (i + i) want ≡ a ∷ b ∷ rest → i + i + 1 < length d → out ≡ take (i + i) want ++ drop (i + i) d
      → set (set out (i + i) a) (i + i + 1) b ≡ take (i + 1 + (i + 1)) want ++ drop (i + 1 + (i + 1)) d
  pair_stored want rest d out i a b here room e =
      let there : drop (i + i + 1) want ≡ b ∷ rest = rest_past want (b ∷ rest) (i + i) a here in
      let past : i + 1 + (i + 1) ≡ i + i + 1 + 1 = omega arith in
      rw past (prefix_next want rest d (set out (i + i) a) (i + i + 1) b there room (prefix_next want (b ∷ rest) d out (i + i) a here (omega arith) e))

  -- the same where they are the i-th of each list
  pub turn_stored :
      (ls rs d out : List A) (i : ℕ) (dft a b : A) → i < length ls → i < length rs → i + i + 1 < length d →
      out ≡ take (i + i) (by_turns ls rs) ++ drop (i + i) d → a ≡ get_or ls i dft → b ≡ get_or rs i dft →
      set (set out (i + i) a) (i + i + 1) b ≡ take (i + 1 + (i + 1)) (by_turns ls rs) ++ drop (i + 1 + (i + 1)) d
  turn_stored ls rs d out i dft a b h k room e p q =
      let rest = by_turns (drop (suc i) ls) (drop (suc i) rs) in
      pair_stored (by_turns ls rs) rest d out i a b (rw (p, q) (by_turns_at ls rs i dft h k)) room e

  -- ---- a list parted

  pub evens_length : (l : List A) → length (evens l) ≡ (length l + 1) / 2
  unfolding evens
  evens_length [] = refl
  evens_length (x ∷ []) = refl
  evens_length (x ∷ y ∷ l) = omega (arith, evens_length l)

  pub odds_length : (l : List A) → length (odds l) ≡ length l / 2
  unfolding odds
  odds_length [] = refl
  odds_length (x ∷ []) = refl
  odds_length (x ∷ y ∷ l) = omega (arith, odds_length l)

  -- a part that has one element of each pair: past i of its elements lies the part of what is past i pairs
  module _ (part : List A → List A) (none : part [] ≡ []) (one : (x : A) → drop 1 (part (x ∷ [])) ≡ []) (more : (x y : A) (l : List A) → drop 1 (part (x ∷ y ∷ l)) ≡ part l) where
    past_one : (i : ℕ) (l rest : List A) → drop 1 l ≡ rest → drop (suc i) l ≡ drop i rest
    past_one i l rest e = sym (drop-drop i 1 l ∙ ap (λ (n : ℕ). drop n l) (one-add i)) ∙ ap (drop i) e

    past : (i : ℕ) (l : List A) → drop i (part l) ≡ part (drop (i + i) l)
    past zero l = refl
    past (suc i) [] = rw (drop-nil (suc i + suc i), none)
    past (suc i) (x ∷ []) =
        let twice : suc i + suc i ≡ suc (suc (i + i)) = omega arith in
        past_one i (part (x ∷ [])) [] (one x) ∙ drop-nil i ∙ rw twice (sym none)
    past (suc i) (x ∷ y ∷ l) =
        let twice : suc i + suc i ≡ suc (suc (i + i)) = omega arith in
        past_one i (part (x ∷ y ∷ l)) (part l) (more x y l) ∙ rw twice (past i l)

  evens_past : (i : ℕ) (l : List A) → drop i (evens l) ≡ evens (drop (i + i) l)
  unfolding evens
  evens_past = past evens refl (λ x. refl) (λ x y l. refl)

  odds_past : (i : ℕ) (l : List A) → drop i (odds l) ≡ odds (drop (i + i) l)
  unfolding odds
  odds_past = past odds refl (λ x. refl) (λ x y l. refl)

  -- pair i of a list is the i-th element of each part
  pub parted_at : (l rest : List A) (i : ℕ) (a b : A) → drop (i + i) l ≡ a ∷ b ∷ rest → (drop i (evens l) ≡ a ∷ evens rest) × (drop i (odds l) ≡ b ∷ odds rest)
  unfolding evens odds
  parted_at l rest i a b e = (evens_past i l ∙ ap evens e, odds_past i l ∙ ap odds e)

  -- a last element without another is the last of the evens
  pub parted_last : (l : List A) (i : ℕ) (a : A) → drop (i + i) l ≡ a ∷ [] → drop i (evens l) ≡ a ∷ []
  unfolding evens
  parted_last l i a e = evens_past i l ∙ ap evens e

  -- ---- each way back

  -- of two lists of one length, or of which the left one is longer by one, each comes back
  one_left : (l : A) (ls : List A) → length (l ∷ ls) ≤ 1 → (evens (l ∷ ls) ≡ l ∷ ls) × (odds (l ∷ ls) ≡ [])
  unfolding evens odds
  one_left l [] p = (refl, refl)
  one_left l (m ∷ ls) p = absurd (omega arith)

  pub evens_back : (ls rs : List A) → length rs ≤ length ls → length ls ≤ length rs + 1 → evens (by_turns ls rs) ≡ ls
  unfolding by_turns evens
  evens_back [] [] p q = refl
  evens_back [] (r ∷ rs) p q = absurd (omega arith)
  evens_back (l ∷ ls) [] p q = (one_left l ls (omega arith)).0
  evens_back (l ∷ ls) (r ∷ rs) p q = ap (◌∷◌ l) (evens_back ls rs (omega arith) (omega arith))

  pub odds_back : (ls rs : List A) → length rs ≤ length ls → length ls ≤ length rs + 1 → odds (by_turns ls rs) ≡ rs
  unfolding by_turns odds
  odds_back [] [] p q = refl
  odds_back [] (r ∷ rs) p q = absurd (omega arith)
  odds_back (l ∷ ls) [] p q = (one_left l ls (omega arith)).1
  odds_back (l ∷ ls) (r ∷ rs) p q = ap (◌∷◌ r) (odds_back ls rs (omega arith) (omega arith))

  -- the parts of a list, by turns
  pub turns_back : (l : List A) → by_turns (evens l) (odds l) ≡ l
  unfolding by_turns evens odds
  turns_back [] = refl
  turns_back (x ∷ []) = refl
  turns_back (x ∷ y ∷ l) = ap (λ (r : List A). x ∷ y ∷ r) (turns_back l)
