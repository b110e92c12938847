-- Payloads worked, by computing.
-- Assumes nothing.
use mathlib.Core.List.{[], ◌∷◌}
use mathlib.Core.Path.{◌≡◌, refl}
use Rattle.laws.specs.Walk.{walk}
use Rattle.text.specs.Text.{before_zero, trim_start, trim_end, trim, clean}
use Rattle.text.specs.WhiteSpace.{code_point, is_white_space}
use Rattle.text_utf8.specs.Table.{following}
use Rattle.text_utf8.specs.Utf8.{matching, first_subsequence, subsequences, lossy}

-- a space, U+3000, "A", an ill-formed E2 80, U+2009, a zero byte and what lies past it: "A", U+FFFD
all_of_it : clean (0x20 ∷ 0xE3 ∷ 0x80 ∷ 0x80 ∷ 0x41 ∷ 0xE2 ∷ 0x80 ∷ 0xE2 ∷ 0x80 ∷ 0x89 ∷ 0x00 ∷ 0x42 ∷ []) ≡ 0x41 ∷ 0xEF ∷ 0xBF ∷ 0xBD ∷ []
unfolding clean before_zero trim trim_start trim_end code_point is_white_space lossy subsequences first_subsequence following matching walk
all_of_it = refl

-- White_Space alone, U+00A0 and U+000A
white_alone : clean (0xC2 ∷ 0xA0 ∷ 0x0A ∷ []) ≡ []
unfolding clean before_zero trim trim_start trim_end code_point is_white_space lossy subsequences first_subsequence following matching walk
white_alone = refl

-- nothing before the first zero byte
zero_first : clean (0x00 ∷ 0x41 ∷ []) ≡ []
unfolding clean before_zero trim trim_start trim_end code_point is_white_space lossy subsequences first_subsequence following matching walk
zero_first = refl

-- the byte 85 alone is ill-formed and stays as U+FFFD; C2 85 is U+0085, next line, and is trimmed
byte_85 : clean (0x85 ∷ []) ≡ 0xEF ∷ 0xBF ∷ 0xBD ∷ []
unfolding clean before_zero trim trim_start trim_end code_point is_white_space lossy subsequences first_subsequence following matching walk
byte_85 = refl

next_line : clean (0xC2 ∷ 0x85 ∷ []) ≡ []
unfolding clean before_zero trim trim_start trim_end code_point is_white_space lossy subsequences first_subsequence following matching walk
next_line = refl

-- one replacement for E2 80, three for ED A0 80, four for F0 80 80 80
one_replacement : clean (0xE2 ∷ 0x80 ∷ []) ≡ 0xEF ∷ 0xBF ∷ 0xBD ∷ []
unfolding clean before_zero trim trim_start trim_end code_point is_white_space lossy subsequences first_subsequence following matching walk
one_replacement = refl

three_replacements : clean (0xED ∷ 0xA0 ∷ 0x80 ∷ []) ≡ 0xEF ∷ 0xBF ∷ 0xBD ∷ 0xEF ∷ 0xBF ∷ 0xBD ∷ 0xEF ∷ 0xBF ∷ 0xBD ∷ []
unfolding clean before_zero trim trim_start trim_end code_point is_white_space lossy subsequences first_subsequence following matching walk
three_replacements = refl

four_replacements : clean (0xF0 ∷ 0x80 ∷ 0x80 ∷ 0x80 ∷ []) ≡ 0xEF ∷ 0xBF ∷ 0xBD ∷ 0xEF ∷ 0xBF ∷ 0xBD ∷ 0xEF ∷ 0xBF ∷ 0xBD ∷ 0xEF ∷ 0xBF ∷ 0xBD ∷ []
unfolding clean before_zero trim trim_start trim_end code_point is_white_space lossy subsequences first_subsequence following matching walk
four_replacements = refl

-- not White_Space: U+180E, Mongolian vowel separator; U+200B, zero width space; U+FEFF, zero width no-break space; U+001C
vowel_separator : clean (0xE1 ∷ 0xA0 ∷ 0x8E ∷ []) ≡ 0xE1 ∷ 0xA0 ∷ 0x8E ∷ []
unfolding clean before_zero trim trim_start trim_end code_point is_white_space lossy subsequences first_subsequence following matching walk
vowel_separator = refl

zero_width_space : clean (0xE2 ∷ 0x80 ∷ 0x8B ∷ []) ≡ 0xE2 ∷ 0x80 ∷ 0x8B ∷ []
unfolding clean before_zero trim trim_start trim_end code_point is_white_space lossy subsequences first_subsequence following matching walk
zero_width_space = refl

zero_width_no_break_space : clean (0xEF ∷ 0xBB ∷ 0xBF ∷ []) ≡ 0xEF ∷ 0xBB ∷ 0xBF ∷ []
unfolding clean before_zero trim trim_start trim_end code_point is_white_space lossy subsequences first_subsequence following matching walk
zero_width_no_break_space = refl

file_separator : clean (0x1C ∷ []) ≡ 0x1C ∷ []
unfolding clean before_zero trim trim_start trim_end code_point is_white_space lossy subsequences first_subsequence following matching walk
file_separator = refl
