-- What the code's helpers ask and give; no reader of the meanings needs it. Where the text lies in its payload.
use Rattle.std.specs.Prelude.{ℕ, ◌+◌, length, cond, List, [], ◌∷◌}
use Rattle.laws.specs.Walk.{each}
use Rattle.text.specs.Text.{is_white}
use Rattle.text_utf8.specs.Utf8.{Subsequence, subsequences, bytes}

-- the white subsequences at the start
unfoldable pub start_white : List Subsequence → List Subsequence
start_white [] = []
start_white (p ∷ ps) = cond (is_white p) (p ∷ start_white ps) []

-- the pointer to the trimmed bytes: the bytes' own block, and its offset moved past the white bytes at the start
abbrev pub trimmed_at : ℕ × ℕ → List ℕ → ℕ × ℕ
trimmed_at p l = (p.0, p.1 + length (each bytes (start_white (subsequences l))))

-- the place past the last of these subsequences that is not white, where the first begins at `at`; e where all are white
abbrev pub text_end : ℕ → ℕ → List Subsequence → ℕ
text_end e at [] = e
text_end e at (p ∷ ps) = text_end (cond (is_white p) e (at + length (bytes p))) (at + length (bytes p)) ps
