-- The text of a payload of bytes is bytes: cutting and trimming take a part, and replacement adds the three of U+FFFD.
-- Assumes nothing.
use Prim.Native.Nat.{ℕ, ◌<◌}
use lib.Dec.{lit<}
use lib.ListN.{length, take, drop}
use lib.Seq.{take-append_seam, drop-append_seam}
use mathlib.Core.List.{List, [], ◌∷◌, ◌++◌}
use mathlib.Core.Path.{◌≡◌, ap, ◌∙◌}
use Rattle.field.specs.BigEndian.{Bytes}
use Rattle.laws.specs.Walk.{each}
use Rattle.field.proofs.BigEndianLaws.{bytes_tail, bytes_take, bytes_drop}
use Rattle.text_utf8.specs.Utf8.{Subsequence, scalar, ill_formed, subsequences, bytes, replaced, lossy}
use Rattle.text_utf8.proofs.SubsequenceLaws.{subsequences_bytes}
use Rattle.text.specs.Place.{start_white}
use Rattle.text.specs.Text.{before_zero, trim_start, trim, clean}
use Rattle.text.proofs.PlaceLaws.{before_zero_part}
use Rattle.text.proofs.TrimLaws.{end_white, trim_split, clean_is}
use Rattle.sheet.specs.Allowed.{All}

-- ---- a part

cut_bytes : (l : List ℕ) → Bytes l → Bytes (before_zero l)
cut_bytes l h = rw (← before_zero_part l) (bytes_take (length (before_zero l)) l h)

trim_bytes : (l : List ℕ) → Bytes l → Bytes (trim l)
trim_bytes l h =
    let a = each bytes (start_white (subsequences l)) in
    let b = each bytes (end_white (trim_start (subsequences l))) in
    let part : take (length (trim l)) (drop (length a) l) ≡ trim l =
    ap (λ (x : List ℕ). take (length (trim l)) (drop (length a) x)) (trim_split l)
    ∙ ap (take (length (trim l))) (drop-append_seam a (trim l ++ b))
    ∙ take-append_seam (trim l) b in
    rw (← part) (bytes_take (length (trim l)) (drop (length a) l) (bytes_drop (length a) l h))

-- ---- replacement

-- bytes before others, and the same before what else is bytes
bytes_before : (l r m : List ℕ) → Bytes (l ++ r) → All (λ b. b < 256) m → All (λ b. b < 256) (l ++ m)
bytes_before [] r m h k = k
bytes_before (b ∷ l) r m h k = (h 0, bytes_before l r m (bytes_tail b (l ++ r) h) k)

bytes_after : (l r : List ℕ) → Bytes (l ++ r) → Bytes r
bytes_after l r h = rw (drop-append_seam l r) at (bytes_drop (length l) (l ++ r) h)

replaced_bytes : (ps : List Subsequence) → Bytes (each bytes ps) → All (λ b. b < 256) (each (λ p. bytes (replaced p)) ps)
replaced_bytes [] h = tt
replaced_bytes (scalar l ∷ ps) h = bytes_before l (each bytes ps) _ h (replaced_bytes ps (bytes_after l (each bytes ps) h))
replaced_bytes (ill_formed l ∷ ps) h = (lit< tt, (lit< tt, (lit< tt, replaced_bytes ps (bytes_after l (each bytes ps) h))))

lossy_bytes : (l : List ℕ) → Bytes l → All (λ b. b < 256) (lossy l)
unfolding lossy
lossy_bytes l h = replaced_bytes (subsequences l) (rw subsequences_bytes h)

pub clean_bytes : (l : List ℕ) → Bytes l → All (λ b. b < 256) (clean l)
clean_bytes l h = rw clean_is (lossy_bytes (trim (before_zero l)) (trim_bytes (before_zero l) (cut_bytes l h)))
