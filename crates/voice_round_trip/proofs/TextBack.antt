-- A text that is written, its name from its key and a zero byte after it, is read as that text.
--     name_key       the name of a key has that key
--     text_back      one text
-- Assumes nothing.
use Prim.Native.Nat.{ℕ, zero, suc, ◌≤◌}
use mathlib.Core.Bool.{true, false, cond, false≢true}
use mathlib.Core.List.{List, [], ◌∷◌, ◌++◌}
use mathlib.Core.Path.{◌≡◌, refl, sym, ap, ◌∙◌}
use native.Mathlib.Omega.{arith}
use lib.Dec.{eqb, eqb→eq}
use Rattle.laws.proofs.Table.{below}
use Rattle.text.specs.Text.{before_zero, clean, tidy}
use Rattle.text.proofs.Theorems.{clean_same}
use Rattle.text_utf8.proofs.SubsequenceLaws.{consistent_same}
use Rattle.sheet.specs.Voice.{Text}
use Rattle.sheet.specs.Allowed.{TextAllowed}
use Rattle.sheet_read.specs.FormVoice.{text_key, text_of}
use Rattle.sheet_write.specs.VoiceChunks.{text_name}

-- ---- keys

pub name_key : (k : ℕ) → k ≤ 5 → text_key (text_name k) ≡ k
unfolding text_key
name_key k h = eqb→eq (text_key (text_name k)) k (below (λ (k : ℕ). eqb (text_key (text_name k)) k) 6 tt k (omega arith))

-- ---- bytes

-- what lies past a zero byte is cut off
before_zero_cut : (l rest : List ℕ) → before_zero (l ++ 0 ∷ rest) ≡ before_zero l
unfolding before_zero
before_zero_cut [] rest = refl
before_zero_cut (b ∷ l) rest = ap (λ (r : List ℕ). cond (eqb b 0) [] (b ∷ r)) (before_zero_cut l rest)

clean_cut : (l rest : List ℕ) → clean (l ++ 0 ∷ rest) ≡ clean l
unfolding clean
clean_cut l rest = rw before_zero_cut

-- a tidy text is not empty
tidy_some : tidy [] ≡ false
unfolding tidy
tidy_some = rw (consistent_same [] tt)

-- ---- a text

text_of_lem : (key : ℕ) (bytes : List ℕ) → 1 ≤ key → tidy bytes ≡ true → text_of key bytes ≡ record { key = key; bytes = bytes } ∷ []
unfolding text_of
text_of_lem zero bytes h d = absurd (omega arith)
text_of_lem (suc k) [] h d = absurd (false≢true (sym tidy_some ∙ d))
text_of_lem (suc k) (b ∷ bs) h d = refl

pub text_back : (t : Text) → TextAllowed t → tidy t.bytes ≡ true → text_of (text_key (text_name t.key)) (clean (t.bytes ++ 0 ∷ [])) ≡ t ∷ []
text_back t a d = rw (name_key t.key a.key_to, clean_cut t.bytes [], clean_same t.bytes a.well_formed_lem d) (text_of_lem t.key t.bytes a.key_from_lem d)
