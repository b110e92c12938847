-- The points and the segments of a sound sheet, read off the bytes between the places of its layout, are those of its voice.
--     places                                           the places follow one another and lie in the sheet
--     attack_points, release_points                    the points of its envelopes
--     sequence_there, no_sequence                      the segments of its sequence, where it has one
--     attacks_whole, releases_whole, sequence_whole    no point or segment is cut off
-- Assumes nothing.
use Prim.Native.Nat.{ℕ, ◌+◌, ◌-◌, ◌≤◌}
use mathlib.Core.List.{List, [], ◌++◌, map}
use mathlib.Core.Path.{◌≡◌, ap, ◌∙◌, subst}
use native.Mathlib.Omega.{arith}
use lib.ListN.{length, take, drop, get_or}
use lib.Seq.{take_at}
use mir.Syntax.{w8}
use mir.Val.{Fits}
use Rattle.small_chunks.specs.Sequence.{segment_of}
use Rattle.small_chunks.specs.declared.sequence.SeqnSegment.{SeqnSegment}
use Rattle.sheet.specs.Allowed.{All, SegmentFits, IfThere}
use Rattle.sheet.specs.Flat.{if_there, flat_sequence}
use Rattle.sheet.specs.Judge.{judged}
use Rattle.sheet.specs.Read.{read_sheet}
use Rattle.sheet_layout.specs.Layout.{attacks_at, releases_at, sequence_at, fade_at}
use Rattle.sheet_layout.specs.Joined.{joined}
use Rattle.sheet_layout.specs.Members.{between, points_in, segments_in, Whole}
use Rattle.sheet_layout.proofs.MemberLaws.{none_left, envelope_points_lem, envelope_whole, sequence_segments_lem, segments_whole}
use Rattle.sheet_layout.proofs.PartLaws.{attacks_part, from_releases, releases_part, from_sequence, sequence_part, from_fade, at_attacks, at_releases, at_sequence}
use Rattle.sheet_layout.proofs.PlaceLaws.{places_within}
use Rattle.sheet_layout.proofs.SoundLaws.{sound_flat, sound_allowed}
use Rattle.std.specs.Prelude.{None, Ok, Some}

-- a part that stands at a place, cut out by the place past it
cut_out : (s p r : List ℕ) (at next : ℕ) → drop at s ≡ p ++ r → next ≡ at + length p → between at next s ≡ p
cut_out s p r at next e h =
    let long : length p ≡ next - at = omega arith in
    ap (take (next - at)) e ∙ take_at p r (next - at) long

module _ (s : List ℕ) (bytes : (i : ℕ) → Fits w8 (get_or s i 0)) (sound : judged s ≡ Ok tt) where
  pub places : let v = read_sheet s in (attacks_at v ≤ releases_at v) × (releases_at v ≤ sequence_at v) × (sequence_at v ≤ fade_at v) × (fade_at v ≤ length s)
  places = places_within (read_sheet s) s (sound_flat s bytes sound)

  -- ---- what stands between the places

  attacks_cut : between (attacks_at (read_sheet s)) (releases_at (read_sheet s)) s ≡ attacks_part (read_sheet s)
  unfolding releases_at
  attacks_cut =
      let v = read_sheet s in
      cut_out s (attacks_part v) (from_releases v) (attacks_at v) (releases_at v) (at_attacks v s (sound_flat s bytes sound)) (omega arith)

  releases_cut : between (releases_at (read_sheet s)) (sequence_at (read_sheet s)) s ≡ releases_part (read_sheet s)
  unfolding sequence_at
  releases_cut =
      let v = read_sheet s in
      cut_out s (releases_part v) (from_sequence v) (releases_at v) (sequence_at v) (at_releases v s (sound_flat s bytes sound)) (omega arith)

  sequence_cut : between (sequence_at (read_sheet s)) (fade_at (read_sheet s)) s ≡ sequence_part (read_sheet s)
  unfolding fade_at
  sequence_cut =
      let v = read_sheet s in
      cut_out s (sequence_part v) (from_fade v) (sequence_at v) (fade_at v) (at_sequence v s (sound_flat s bytes sound)) (omega arith)

  -- ---- the points

  pub attack_points : points_in (between (attacks_at (read_sheet s)) (releases_at (read_sheet s)) s) ≡ joined (read_sheet s).attacks
  attack_points = ap points_in attacks_cut ∙ envelope_points_lem 4 (read_sheet s).attacks (λ e. omega (arith, e)) (sound_allowed s bytes sound).attacks

  pub attacks_whole : Whole 6 6 (between (attacks_at (read_sheet s)) (releases_at (read_sheet s)) s)
  attacks_whole = rw attacks_cut (envelope_whole 4 (read_sheet s).attacks (λ e. omega (arith, e)))

  pub release_points : points_in (between (releases_at (read_sheet s)) (sequence_at (read_sheet s)) s) ≡ joined (read_sheet s).releases
  release_points = ap points_in releases_cut ∙ envelope_points_lem 5 (read_sheet s).releases (λ e. omega (arith, e)) (sound_allowed s bytes sound).releases

  pub releases_whole : Whole 6 6 (between (releases_at (read_sheet s)) (sequence_at (read_sheet s)) s)
  releases_whole = rw releases_cut (envelope_whole 5 (read_sheet s).releases (λ e. omega (arith, e)))

  -- ---- the segments

  pub sequence_there : (segments : List SeqnSegment) → (read_sheet s).sequence ≡ Some segments → segments_in (between (sequence_at (read_sheet s)) (fade_at (read_sheet s)) s) ≡ segments
  sequence_there segments e =
      ap segments_in sequence_cut
      ∙ ap (λ o. segments_in (if_there flat_sequence o)) e
      ∙ sequence_segments_lem segments (subst (IfThere (All SegmentFits)) e (sound_allowed s bytes sound).sequence)

  pub no_sequence : (read_sheet s).sequence ≡ None → segments_in (between (sequence_at (read_sheet s)) (fade_at (read_sheet s)) s) ≡ []
  no_sequence e = ap segments_in sequence_cut ∙ ap (λ o. segments_in (if_there flat_sequence o)) e ∙ ap (map segment_of) (none_left 8 8)

  pub sequence_whole : Whole 8 8 (between (sequence_at (read_sheet s)) (fade_at (read_sheet s)) s)
  sequence_whole = rw sequence_cut (segments_whole (read_sheet s).sequence)
