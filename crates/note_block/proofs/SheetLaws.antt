-- The parts of a sound sheet, cut out by its layout.
--     places_are                   the places follow one another and lie in the sheet
--     attacks_are, releases_are    the points of its envelopes, none of them cut off
--     segments_at, sequence_is     the bytes of its sequence, and the sequence by the code's answers
-- Assumes nothing.
use Prim.Native.Nat.{ℕ, ◌≤◌}
use mathlib.Core.Bool.{Bool}
use mathlib.Core.List.{List}
use mathlib.Core.Path.{◌≡◌, refl, ap, ◌∙◌}
use lib.ListN.{length, get_or}
use mir.Syntax.{w8}
use mir.Val.{Fits}
use Rattle.small_chunks.specs.declared.sequence.SeqnSegment.{SeqnSegment}
use Rattle.sheet.specs.Judge.{judged}
use Rattle.sheet.specs.Read.{read_sheet}
use Rattle.sheet_layout.specs.Layout.{layout_of}
use Rattle.sheet_layout.specs.Joined.{joined}
use Rattle.sheet_layout.specs.Members.{between, points_in, segments_in, Whole}
use Rattle.sheet_layout.specs.declared.Layout.{Layout}
use Rattle.sheet_layout.proofs.PointLaws.{places, attack_points, attacks_whole, release_points, releases_whole}
use Rattle.note_path.specs.Run.{sequence_in}
use Rattle.note_path.specs.Path.{segments_of}
use Rattle.note_rules.proofs.SequenceLaws.{part_segments}
use Rattle.note_block.specs.Block.{sequence_part}
use Rattle.std.specs.Option.{is_some}
use Rattle.std.specs.Prelude.{None, Ok, Option, Some, option_map}

module _ (sheet : List ℕ) (bytes : (i : ℕ) → Fits w8 (get_or sheet i 0)) (sound : judged sheet ≡ Ok tt) (l : Layout) (is : l ≡ layout_of (read_sheet sheet)) where
  pub places_are : (l.attacks ≤ l.releases) × (l.releases ≤ l.sequence) × (l.sequence ≤ l.fade) × (l.fade ≤ length sheet)
  places_are = rw is (places sheet bytes sound)

  -- ---- the points

  pub attacks_are : (points_in (between l.attacks l.releases sheet) ≡ joined (read_sheet sheet).attacks) × Whole 6 6 (between l.attacks l.releases sheet)
  attacks_are = rw is (attack_points sheet bytes sound, attacks_whole sheet bytes sound)

  pub releases_are : (points_in (between l.releases l.sequence sheet) ≡ joined (read_sheet sheet).releases) × Whole 6 6 (between l.releases l.sequence sheet)
  releases_are = rw is (release_points sheet bytes sound, releases_whole sheet bytes sound)

  -- ---- the sequence

  pub segments_at : between l.sequence l.fade sheet ≡ sequence_part sheet
  segments_at = ap (λ (l : Layout). between l.sequence l.fade sheet) is

  -- what the code's answers say
  pub sequence_is : (answer : Option ℕ) (there : Bool) → answer ≡ option_map length (read_sheet sheet).sequence → there ≡ is_some answer
      → sequence_in there (between l.sequence l.fade sheet) ≡ (read_sheet sheet).sequence
  sequence_is answer there e t =
      ap (λ (b : Bool). sequence_in b (between l.sequence l.fade sheet)) (t ∙ ap is_some e) ∙ go (read_sheet sheet).sequence (part_segments sheet bytes sound l is)
    where
      go : (o : Option (List SeqnSegment)) → segments_in (between l.sequence l.fade sheet) ≡ segments_of o → sequence_in (is_some (option_map length o)) (between l.sequence l.fade sheet) ≡ o
      go None e = refl
      go (Some segments) e = ap Some e
