-- A score that was taken over from a lent slice. What a score means is in ensemble_block/specs/Mixed.
use Rattle.std.specs.Prelude.{ℕ, zero, suc, ◌+◌, ◌*◌, ◌%◌, ◌≤◌, ◌<◌, List, [], ◌∷◌, ◌⊎◌, ◌≡◌, length, get_or}
use Rattle.ensemble_score.specs.declared.Entry.{Entry}
use Rattle.ensemble_score.specs.declared.Four.{Four}
use Rattle.ensemble_score.specs.declared.Score.{Score}

-- an entry of zeros, for places past a score's end
abbrev pub blank : Entry
blank = record { start = 0; key_up = 0; step = 0; octave = 0; velocity = 0 }

-- the entry at place i of a score's numbers, five for each
unfoldable pub entry_in : List ℕ → ℕ → Entry
entry_in ns i = record {
  start = get_or ns (5 * i) 0;
  key_up = get_or ns (5 * i + 1) 0;
  step = get_or ns (5 * i + 2) 0;
  octave = get_or ns (5 * i + 3) 0 % 256;
  velocity = get_or ns (5 * i + 4) 0 % 256;
}

-- so many entries from place i on
unfoldable pub entries_from : List ℕ → ℕ → ℕ → List Entry
entries_from ns i zero = []
entries_from ns i (suc n) = entry_in ns i ∷ entries_from ns (suc i) n

-- the entries of a score that was taken over; where it has at most sixteen, these are all
abbrev pub listed : ℕ → List ℕ → List Entry
listed count numbers = entries_from numbers 0 count

-- what is taken over: the score's length, and its entry at each of the first sixteen places that it has; what stands past its end doesn't matter
pub record TakenFrom (score : List Entry) (s : Score) : Type 0 where
  pub count_is : s.count ≡ length score
  pub entries_are : (i : ℕ) → i < 16 → i < length score → entry_in s.numbers i ≡ get_or score i blank

-- ---- for the code that takes it over

-- four entries in a row, from place i on
pub record FourFrom (score : List Entry) (i : ℕ) (f : Four) : Type 0 where
  pub first_is : f.first ≡ get_or score i blank
  pub second_is : f.second ≡ get_or score (i + 1) blank
  pub third_is : f.third ≡ get_or score (i + 2) blank
  pub fourth_is : f.fourth ≡ get_or score (i + 3) blank

-- an entry is stored at place i, and the others stay
pub record EntryPut (before : List ℕ) (i : ℕ) (e : Entry) (after : List ℕ) : Type 0 where
  pub there : entry_in after i ≡ e
  pub others : (j : ℕ) → (j < i) ⊎ (i < j) → entry_in after j ≡ entry_in before j

-- four entries are stored in a row, and the others stay
pub record FourPut (before : List ℕ) (i : ℕ) (f : Four) (after : List ℕ) : Type 0 where
  pub first_there : entry_in after i ≡ f.first
  pub second_there : entry_in after (i + 1) ≡ f.second
  pub third_there : entry_in after (i + 2) ≡ f.third
  pub fourth_there : entry_in after (i + 3) ≡ f.fourth
  pub others : (j : ℕ) → (j < i) ⊎ (i + 4 ≤ j) → entry_in after j ≡ entry_in before j
