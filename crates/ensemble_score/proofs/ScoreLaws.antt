-- The entries of a score that was taken over: how many there are, which they are, and that a score of at most sixteen comes back whole.
--     listed_length, listed_entry          how many, and which stands at a place
--     left_next, left_none, taken_next     the entries that a loop has left, or has taken
--     listed_is, taken_listed              a score of at most sixteen is its entries; every score by value has been taken from some list
-- Assumes nothing.
use Prim.Native.Nat.{ℕ, zero, suc, ◌+◌, ◌≤◌, ◌<◌}
use mathlib.Core.List.{List, [], ◌∷◌, ◌++◌}
use mathlib.Core.Path.{◌≡◌, refl, sym, ap, ◌∙◌}
use native.Mathlib.Numerals.{add-one}
use native.Mathlib.Omega.{arith}
use lib.ListN.{length, take, drop, get_or, drop_of_length-le}
use lib.Seq.{ext_get_or, drop-cons, take-suc}
use Rattle.ensemble_score.specs.Score.{blank, entry_in, entries_from, listed, TakenFrom}
use Rattle.ensemble_score.specs.declared.Entry.{Entry}
use Rattle.ensemble_score.specs.declared.Score.{Score}

module _ (numbers : List ℕ) where
  from_length : (i n : ℕ) → length (entries_from numbers i n) ≡ n
  unfolding entries_from
  from_length i zero = refl
  from_length i (suc n) = ap suc (from_length (suc i) n)

  from_entry : (i n j : ℕ) → j < n → get_or (entries_from numbers i n) j blank ≡ entry_in numbers (i + j)
  unfolding entries_from
  from_entry i zero j h = absurd (omega (arith, h))
  from_entry i (suc n) zero h = let same : i ≡ i + 0 = omega arith in ap (entry_in numbers) same
  from_entry i (suc n) (suc j) h =
      let same : suc i + j ≡ i + suc j = omega arith in
      from_entry (suc i) n j (omega (arith, h)) ∙ ap (entry_in numbers) same

  module _ (count : ℕ) where
    pub listed_length : length (listed count numbers) ≡ count
    listed_length = from_length 0 count

    pub listed_entry : (i : ℕ) → i < count → get_or (listed count numbers) i blank ≡ entry_in numbers i
    listed_entry i h = let same : 0 + i ≡ i = omega arith in from_entry 0 count i h ∙ ap (entry_in numbers) same

    pub left_next : (i : ℕ) → i < count → drop i (listed count numbers) ≡ entry_in numbers i ∷ drop (i + 1) (listed count numbers)
    left_next i h =
        let within : i < length (listed count numbers) = omega (arith, listed_length, h) in
        rw (add-one, ← listed_entry i h) (drop-cons (listed count numbers) i blank within)

    pub left_none : (i : ℕ) → count ≤ i → drop i (listed count numbers) ≡ []
    left_none i h = drop_of_length-le (listed count numbers) {i = i} (omega (arith, listed_length, h))

    pub taken_next : (i : ℕ) → i < count → take (i + 1) (listed count numbers) ≡ take i (listed count numbers) ++ entry_in numbers i ∷ []
    taken_next i h =
        rw (add-one, take-suc (listed count numbers) i blank (omega (arith, h, listed_length))) (ap (λ (e : Entry). take i (listed count numbers) ++ e ∷ []) (listed_entry i h))

module _ (s : Score) where
  pub listed_is : (score : List Entry) → TakenFrom score s → length score ≤ 16 → listed s.count s.numbers ≡ score
  listed_is score taken few =
      let long = listed_length s.numbers s.count in
      ext_get_or blank (listed s.count s.numbers) score (long ∙ taken.count_is)
      (λ i there.
      listed_entry s.numbers s.count i (omega (arith, there, long))
      ∙ taken.entries_are i (omega (arith, there, long, taken.count_is)) (omega (arith, there, long, taken.count_is)))

  -- every score by value, however it was made, is taken from its own entries
  pub taken_listed : TakenFrom (listed s.count s.numbers) s
  taken_listed =
      let long = listed_length s.numbers s.count in
      record { count_is = sym long; entries_are = λ i h there. sym (listed_entry s.numbers s.count i (omega (arith, there, long))) }
