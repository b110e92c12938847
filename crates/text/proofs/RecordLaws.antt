-- Text records: they are `tagged` parts of one byte, and a writer that has put those of one subsequence is under way with the
-- rest.
-- Assumes nothing.
use Prim.Native.Nat.{ℕ, ◌+◌, ◌*◌, ◌≤◌}
use lib.ListN.{length, drop}
use mathlib.Core.List.{List, [], ◌∷◌, ◌++◌}
use mathlib.Core.Path.{◌≡◌, refl, ap, ◌∙◌}
use native.Mathlib.Omega.{arith}
use Rattle.field.proofs.TaggedLaws.{tagged_at, tagged_at_end}
use Rattle.field.specs.Tagged.{tagged}
use Rattle.laws.proofs.PutLaws.{Underway, underway_step, underway_room}
use Rattle.laws.specs.Put.{Put}
use Rattle.text.proofs.LengthLaws.{lossy_step}
use Rattle.text.specs.TextRecords.{text_records}
use Rattle.text_utf8.proofs.SpanLaws.{Spans}
use Rattle.text_utf8.specs.Utf8.{Subsequence, bytes, replaced, lossy}

records_append : (a b : List ℕ) → text_records (a ++ b) ≡ text_records a ++ text_records b
unfolding text_records
records_append [] b = refl
records_append (x ∷ a) b = ap (λ (r : List ℕ). 11 ∷ x ∷ r) (records_append a b)

pub records_length : (l : List ℕ) → length (text_records l) ≡ 2 * length l
unfolding text_records
records_length [] = refl
records_length (b ∷ l) = omega (arith, records_length l)

pub records_tagged : (l : List ℕ) → tagged 11 1 l ≡ text_records l
unfolding text_records
records_tagged [] = tagged_at_end 11 1 (omega arith) [] 0 (omega arith)
records_tagged (b ∷ l) = tagged_at 11 1 (omega arith) (b ∷ l) 0 (omega arith) ∙ ap (λ (r : List ℕ). 11 ∷ b ∷ r) (records_tagged l)

-- a turn of the writer
module _ {s : List ℕ} {i next : ℕ} {p : Subsequence} (w : Spans s i next p) where
  records_step : text_records (lossy (drop i s)) ≡ text_records (bytes (replaced p)) ++ text_records (lossy (drop next s))
  records_step = ap text_records (lossy_step w) ∙ records_append (bytes (replaced p)) (lossy (drop next s))

  module _ {d₀ all d : List ℕ} {at o : ℕ} (g : Underway d₀ at all d o (text_records (lossy (drop i s)))) where
    pub text_room : o + length (text_records (bytes (replaced p))) ≤ at + length all
    text_room = underway_room (text_records (bytes (replaced p))) _ g records_step

    pub text_more : {d' : List ℕ} {r : ℕ} → Put d o (text_records (bytes (replaced p))) d' r → Underway d₀ at all d' r (text_records (lossy (drop next s)))
    text_more q = underway_step _ g records_step q
