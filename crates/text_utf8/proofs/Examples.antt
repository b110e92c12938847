-- Lists of bytes worked, by computing: tables 3-8 to 3-11 of the Unicode Standard, scalar values of each length, the last one, a
-- surrogate, and short lists with one, three and four replacements.
-- Assumes nothing.
use Prim.Native.Nat.{ℕ, zero, suc}
use mathlib.Core.Bool.{true, false}
use mathlib.Core.List.{List, [], ◌∷◌}
use mathlib.Core.Path.{◌≡◌, refl}
use Rattle.laws.specs.Walk.{walk}
use Rattle.text_utf8.specs.Table.{following}
use Rattle.text_utf8.specs.Utf8.{matching, first_subsequence, subsequences, lossy, well_formed}

-- n times U+FFFD, then l
abbrev replacements : ℕ → List ℕ → List ℕ
replacements zero l = l
replacements (suc n) l = 0xEF ∷ 0xBF ∷ 0xBD ∷ replacements n l

-- table 3-8: sequences that are not the shortest
table_3_8 : lossy (0xC0 ∷ 0xAF ∷ 0xE0 ∷ 0x80 ∷ 0xBF ∷ 0xF0 ∷ 0x81 ∷ 0x82 ∷ 0x41 ∷ []) ≡ replacements 8 (0x41 ∷ [])
unfolding lossy subsequences first_subsequence following matching walk
table_3_8 = refl

-- table 3-9: surrogates
table_3_9 : lossy (0xED ∷ 0xA0 ∷ 0x80 ∷ 0xED ∷ 0xBF ∷ 0xBF ∷ 0xED ∷ 0xAF ∷ 0x41 ∷ []) ≡ replacements 8 (0x41 ∷ [])
unfolding lossy subsequences first_subsequence following matching walk
table_3_9 = refl

-- table 3-10: bytes that no row has, and trailing bytes alone
table_3_10 : lossy (0xF4 ∷ 0x91 ∷ 0x92 ∷ 0x93 ∷ 0xFF ∷ 0x41 ∷ 0x80 ∷ 0xBF ∷ 0x42 ∷ []) ≡ replacements 5 (0x41 ∷ replacements 2 (0x42 ∷ []))
unfolding lossy subsequences first_subsequence following matching walk
table_3_10 = refl

-- table 3-11: truncated sequences
table_3_11 : lossy (0xE1 ∷ 0x80 ∷ 0xE2 ∷ 0xF0 ∷ 0x91 ∷ 0x92 ∷ 0xF1 ∷ 0xBF ∷ 0x41 ∷ []) ≡ replacements 4 (0x41 ∷ [])
unfolding lossy subsequences first_subsequence following matching walk
table_3_11 = refl

-- one scalar value of each length: U+0041, U+00E9, U+20AC, U+1F3B5
each_length : well_formed (0x41 ∷ 0xC3 ∷ 0xA9 ∷ 0xE2 ∷ 0x82 ∷ 0xAC ∷ 0xF0 ∷ 0x9F ∷ 0x8E ∷ 0xB5 ∷ []) ≡ true
unfolding well_formed subsequences first_subsequence following matching walk
each_length = refl

-- U+10FFFF is the last, and U+D800 is no scalar value
last_scalar : well_formed (0xF4 ∷ 0x8F ∷ 0xBF ∷ 0xBF ∷ []) ≡ true
unfolding well_formed subsequences first_subsequence following matching walk
last_scalar = refl

surrogate : well_formed (0xED ∷ 0xA0 ∷ 0x80 ∷ []) ≡ false
unfolding well_formed subsequences first_subsequence following matching walk
surrogate = refl

-- E2 80 is one replacement, ED A0 80 three, F0 80 80 80 four
one_replacement : lossy (0xE2 ∷ 0x80 ∷ []) ≡ replacements 1 []
unfolding lossy subsequences first_subsequence following matching walk
one_replacement = refl

three_replacements : lossy (0xED ∷ 0xA0 ∷ 0x80 ∷ []) ≡ replacements 3 []
unfolding lossy subsequences first_subsequence following matching walk
three_replacements = refl

four_replacements : lossy (0xF0 ∷ 0x80 ∷ 0x80 ∷ 0x80 ∷ []) ≡ replacements 4 []
unfolding lossy subsequences first_subsequence following matching walk
four_replacements = refl
