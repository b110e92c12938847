-- Each part of a voice is read from the payload that it is written as; so the voice of the written chunks is the voice.
--     parts_back      parts of n bytes, joined, are cut into those parts
--     voice_back      the voice of the items that are written for it
-- Assumes nothing.
use Prim.Native.Nat.{ℕ, ◌≤◌, ◌<◌}
use mathlib.Core.Bool.{true}
use mathlib.Core.List.{List, [], ◌∷◌, ◌++◌, map, append-nil}
use mathlib.Core.Path.{◌≡◌, refl, ap, ◌∙◌}
use native.Mathlib.Omega.{arith}
use lib.ListN.{length, length-append}
use lib.Seq.{take_at, drop_at}
use Rattle.field.proofs.TaggedLaws.{parts_more, parts_end}
use Rattle.field.specs.Tagged.{parts}
use Rattle.laws.specs.Walk.{each}
use Rattle.header.specs.Header.{header_bytes}
use Rattle.small_chunks.specs.Pan.{pan_of, pan_bytes}
use Rattle.small_chunks.specs.Envelope.{point_of, point_bytes, envelope_points}
use Rattle.small_chunks.specs.Sequence.{segment_of, segment_bytes, fade_of, fade_bytes, sequence_segments}
use Rattle.small_chunks.specs.declared.channel.ChannelAssignment.{ChannelAssignment}
use Rattle.small_chunks.specs.declared.points.EgPoint.{EgPoint}
use Rattle.small_chunks.specs.declared.sequence.SeqnSegment.{SeqnSegment}
use Rattle.small_chunks.proofs.ChannelLaws.{channel_back}
use Rattle.small_chunks.proofs.FieldLaws.{point_length, segment_length_lem}
use Rattle.form.specs.Names.{vhdr, chan, pan, atak, rlse, seqn, fade, body}
use Rattle.form.specs.Find.{all_of, first_of}
use Rattle.text.specs.Text.{tidy}
use Rattle.sheet.specs.Voice.{Voice}
use Rattle.sheet.specs.Allowed.{All, IfThere, PointFits, SegmentFits, Allowed}
use Rattle.sheet.specs.Read.{first, map_option}
use Rattle.sheet_grammar.proofs.ListLaws.{map_back}
use Rattle.sheet_grammar.proofs.FormLaws.{listed}
use Rattle.sheet_grammar.proofs.FieldForms.{header_body, pan_body, point_body, segment_body, fade_body}
use Rattle.sheet_read.specs.FormVoice.{chunk_channel, text_key, form_voice}
use Rattle.voice_round_trip.proofs.Items.{channel_payload, channel_number, voice_items}
use Rattle.voice_round_trip.proofs.FindLaws.{first_all, payloads, items_all, items_texts}
use Rattle.std.specs.Prelude.{None, Option, Some}

-- ---- parts of n bytes

module _ {A : Type 0} (n : ℕ) (some_bytes : 0 < n) (write : A → List ℕ) (size : (a : A) → length (write a) ≡ n) where
  pub parts_back : (l : List A) → parts n (each write l) ≡ map write l
  parts_back [] = parts_end n some_bytes [] some_bytes
  parts_back (a ∷ l) =
      let rest = each write l in
      let long : n ≤ length (write a ++ rest) = rw length-append (omega (arith, size a)) in
      parts_more n some_bytes (write a ++ rest) long
      ∙ rw (take_at (write a) rest n (size a), drop_at (write a) rest n (size a)) (ap (λ (r : List (List ℕ)). write a ∷ r) (parts_back l))

points_back : (l : List EgPoint) → All PointFits l → envelope_points (each point_bytes l) ≡ l
points_back l h = ap (map point_of) (parts_back 6 (omega arith) point_bytes point_length l) ∙ map_back point_bytes point_of point_body.back l h

segments_back : (l : List SeqnSegment) → All SegmentFits l → sequence_segments (each segment_bytes l) ≡ l
segments_back l h = ap (map segment_of) (parts_back 8 (omega arith) segment_bytes segment_length_lem l) ∙ map_back segment_bytes segment_of segment_body.back l h

-- ---- what may be missing

option_back : {A : Type 0} {F : A → Type 0} (write : A → List ℕ) (read : List ℕ → A) → ((a : A) → F a → read (write a) ≡ a)
    → (o : Option A) → IfThere F o → map_option read (first (map write (listed o))) ≡ o
option_back write read back None h = refl
option_back write read back (Some a) h = ap Some (back a h)

channel_in : (o : Option ChannelAssignment) → chunk_channel (first (map channel_payload (listed o))) ≡ o
channel_in None = refl
channel_in (Some c) = rw (channel_number c, channel_back c)

-- ---- the voice

module _ (v : Voice) (samples : List ℕ) (a : Allowed v) where
  -- the payloads of a name
  all_back : (id : ℕ) → text_key id ≡ 0 → (l : List (List ℕ)) → payloads v samples id ≡ l ++ [] → all_of id (voice_items v samples) ≡ l
  all_back id e l p = items_all v samples a.texts id e ∙ p ∙ append-nil l

  -- the first of them
  first_back : (id : ℕ) → text_key id ≡ 0 → (l : List (List ℕ)) → payloads v samples id ≡ l ++ [] → first_of id (voice_items v samples) ≡ first l
  first_back id e l p = first_all id (voice_items v samples) ∙ ap first (all_back id e l p)

  pub header_there : first_of vhdr (voice_items v samples) ≡ Some (header_bytes v.header)
  unfolding text_key
  header_there = first_back vhdr refl (header_bytes v.header ∷ []) refl

  pub body_there : first_of body (voice_items v samples) ≡ Some samples
  unfolding text_key
  body_there = first_back body refl (samples ∷ []) refl

  pub voice_back : All (λ t. tidy t.bytes ≡ true) v.texts → form_voice (voice_items v samples) ≡ v
  unfolding form_voice text_key
  voice_back d =
      rw (
        header_there,
        header_body.back v.header a.header,
        first_back chan refl (map channel_payload (listed v.channel)) refl,
        channel_in v.channel,
        first_back pan refl (map pan_bytes (listed v.pan)) refl,
        option_back pan_bytes pan_of pan_body.back v.pan a.pan,
        all_back atak refl (map (each point_bytes) v.attacks) refl,
        map_back (each point_bytes) envelope_points points_back v.attacks a.attacks,
        all_back rlse refl (map (each point_bytes) v.releases) refl,
        map_back (each point_bytes) envelope_points points_back v.releases a.releases,
        first_back seqn refl (map (each segment_bytes) (listed v.sequence)) refl,
        option_back (each segment_bytes) sequence_segments segments_back v.sequence a.sequence,
        first_back fade refl (map fade_bytes (listed v.fade)) refl,
        option_back fade_bytes fade_of fade_body.back v.fade a.fade,
        items_texts v samples a.texts d,
      )
