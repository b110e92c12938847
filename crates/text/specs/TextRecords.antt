-- A text on the sheet.
use Rattle.std.specs.Prelude.{ℕ, List, [], ◌∷◌}

-- a record for each byte of the text: kind 11, then the byte
unfoldable pub text_records : List ℕ → List ℕ
text_records [] = []
text_records (b ∷ l) = 11 ∷ b ∷ text_records l
