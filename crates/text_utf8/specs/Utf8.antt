-- Bytes as subsequences: well-formed ones of one scalar value each, and maximal subparts of ill-formed ones.
-- The Unicode Standard, section 3.9, D85a and D93b, and 'U+FFFD Substitution of Maximal Subparts'.
use Rattle.std.specs.Prelude.{ℕ, suc, eqb, length, take, Bool, true, false, cond, List, [], ◌∷◌, None, Option, Some}
use Rattle.laws.specs.Walk.{Front, more, last, walk, each}
use Rattle.text_utf8.specs.Table.{Range, within, following}

-- how many bytes, from the first on, lie each in its range
unfoldable pub matching : List Range → List ℕ → ℕ
matching [] l = 0
matching (r ∷ rs) [] = 0
matching (r ∷ rs) (b ∷ l) = cond (within r b) (suc (matching rs l)) 0

-- D85a, a well-formed code unit sequence of one scalar value; or D93b, a maximal subpart of an ill-formed one
pub data Subsequence : Type 0 where
  scalar : List ℕ → Subsequence
  ill_formed : List ℕ → Subsequence

-- a first byte b with the ranges that it asks for: it and as many bytes of l as match, which is well-formed if all ranges are met.
-- So an ill-formed one is the longest that begins a well-formed sequence, or one byte: a maximal subpart
abbrev pub from_lead : ℕ → Option (List Range) → List ℕ → Front Subsequence
from_lead b None l = more (ill_formed (b ∷ [])) 0
from_lead b (Some rs) l =
    more
    (cond (eqb (matching rs l) (length rs)) (scalar (b ∷ take (matching rs l) l)) (ill_formed (b ∷ take (matching rs l) l)))
    (matching rs l)

-- the subsequence at the front of the bytes
unfoldable pub first_subsequence : List ℕ → Front Subsequence
first_subsequence [] = last []
first_subsequence (b ∷ l) = from_lead b (following b) l

-- all subsequences of the bytes, in order
unfoldable pub subsequences : List ℕ → List Subsequence
subsequences l = walk first_subsequence 0 l

-- the bytes of a subsequence
abbrev pub bytes : Subsequence → List ℕ
bytes (scalar l) = l
bytes (ill_formed l) = l

-- U+FFFD, the replacement character, in the place of a maximal subpart
abbrev pub replaced : Subsequence → Subsequence
replaced (scalar l) = scalar l
replaced (ill_formed l) = scalar (0xEF ∷ 0xBF ∷ 0xBD ∷ [])

-- the bytes with each maximal subpart replaced: Rust's from_utf8_lossy
unfoldable pub lossy : List ℕ → List ℕ
lossy l = each (λ p. bytes (replaced p)) (subsequences l)

-- no subsequence is ill-formed
abbrev pub all_well_formed : List Subsequence → Bool
all_well_formed [] = true
all_well_formed (scalar l ∷ ps) = all_well_formed ps
all_well_formed (ill_formed l ∷ ps) = false

-- the bytes are well-formed UTF-8: Rust's from_utf8 accepts them
unfoldable pub well_formed : List ℕ → Bool
well_formed l = all_well_formed (subsequences l)
