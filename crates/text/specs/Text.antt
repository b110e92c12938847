-- The text of a payload: cut at the first zero byte, ill-formed parts replaced, trimmed of White_Space. A text is tidy where
-- there is nothing to cut or to trim, and it is not empty.
use Rattle.std.specs.Prelude.{ℕ, eqb, Bool, true, false, cond, not, ◌&&◌, List, [], ◌∷◌}
use Rattle.laws.specs.Walk.{each}
use Rattle.text.specs.WhiteSpace.{code_point, is_white_space}
use Rattle.text_utf8.specs.Utf8.{Subsequence, scalar, ill_formed, subsequences, bytes, lossy}

-- the bytes before the first zero byte
unfoldable pub before_zero : List ℕ → List ℕ
before_zero [] = []
before_zero (b ∷ l) = cond (eqb b 0) [] (b ∷ before_zero l)

-- a subsequence is White_Space; an ill-formed one is not, nor is the U+FFFD that it becomes
abbrev pub is_white : Subsequence → Bool
is_white (scalar l) = is_white_space (code_point l)
is_white (ill_formed l) = false

-- without the white ones at the start
unfoldable pub trim_start : List Subsequence → List Subsequence
trim_start [] = []
trim_start (p ∷ ps) = cond (is_white p) (trim_start ps) (p ∷ ps)

-- there are none
abbrev pub is_empty : List Subsequence → Bool
is_empty [] = true
is_empty (p ∷ ps) = false

-- without the white ones at the end
unfoldable pub trim_end : List Subsequence → List Subsequence
trim_end [] = []
trim_end (p ∷ ps) = cond (is_white p && is_empty (trim_end ps)) [] (p ∷ trim_end ps)

-- the bytes without White_Space at both ends: Rust's trim
unfoldable pub trim : List ℕ → List ℕ
trim l = each bytes (trim_end (trim_start (subsequences l)))

-- the text of a payload
unfoldable pub clean : List ℕ → List ℕ
clean l = trim (lossy (before_zero l))

-- no byte is zero
abbrev pub zero_free : List ℕ → Bool
zero_free [] = true
zero_free (b ∷ l) = not (eqb b 0) && zero_free l

-- there is a first subsequence, and it is not white
abbrev pub first_not_white : List Subsequence → Bool
first_not_white [] = false
first_not_white (p ∷ ps) = not (is_white p)

-- there is a last subsequence, and it is not white
abbrev pub last_not_white : List Subsequence → Bool
last_not_white [] = false
last_not_white (p ∷ []) = not (is_white p)
last_not_white (p ∷ q ∷ ps) = last_not_white (q ∷ ps)

-- a text with no zero byte and no White_Space at either end, and not empty
unfoldable pub tidy : List ℕ → Bool
tidy l = zero_free l && first_not_white (subsequences l) && last_not_white (subsequences l)
