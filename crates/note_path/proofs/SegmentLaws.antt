-- How the segments of a sequence lie in a part of a sheet, from one place to the next. No other law of paths looks at the bytes.
--     segments_end                  none where no member follows
--     segment_here                  the next member is a segment, and those past it follow
--     segments_given                an iterator over them gives them in order
-- Assumes nothing.
use Prim.Native.Nat.{ℕ, ◌+◌}
use mathlib.Core.List.{List, [], ◌∷◌, map}
use mathlib.Core.Path.{◌≡◌, ap, ◌∙◌}
use lib.ListN.{length, drop}
use Rattle.small_chunks.specs.Sequence.{segment_of}
use Rattle.small_chunks.proofs.FieldLaws.{segment_take}
use Rattle.sheet_layout.specs.Members.{segments_in, next_member}
use Rattle.sheet_layout.proofs.NextLaws.{no_member, member_here}
use Rattle.note_path.specs.declared.segments.Segments.{Segments}
use Rattle.note_path.specs.Segments.{left, Takes}
use Rattle.std.proofs.lemmas.Iterator.{YieldsList}
use Rattle.std.proofs.lemmas.Iterator.Consumers.{YieldsList-from_shown}
use Rattle.std.specs.Prelude.{None, Some}

module _ (part : List ℕ) (at : ℕ) where
  pub segments_end : next_member 8 at part ≡ None → segments_in (drop at part) ≡ []
  segments_end e = ap (map segment_of) (no_member 8 part at e 8)

  pub segment_here : {k : ℕ} → next_member 8 at part ≡ Some k → segments_in (drop at part) ≡ segment_of (drop (k + 1) part) ∷ segments_in (drop (k + 9) part)
  segment_here {k} e = ap (map segment_of) (member_here 8 8 part at e) ∙ rw (segment_take (drop (k + 1) part))

pub segments_given : (s : Segments) → YieldsList Takes (λ x. x) s (left s)
segments_given = YieldsList-from_shown Takes (λ x. x) left (λ s t h. ap length h.0) (λ s x t h. h.0)
