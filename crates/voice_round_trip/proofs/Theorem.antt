-- A voice that the writer accepts, uncompressed and with tidy texts, is the same after writing and reading: its sheet and both sides.
-- Assumes nothing.
use Prim.Native.Nat.{ℕ}
use mathlib.Core.Bool.{true}
use mathlib.Core.List.{List}
use mathlib.Core.Path.{◌≡◌, ap, ◌∙◌}
use Rattle.field.specs.Signed.{Samples}
use Rattle.header.specs.Compression.{known_compression}
use Rattle.header.specs.declared.compression.Compression.TheVariants.{None}
use Rattle.text.specs.Text.{tidy}
use Rattle.sheet.specs.Voice.{Voice, is_stereo}
use Rattle.sheet.specs.Allowed.{All, Allowed}
use Rattle.body_read.proofs.SampleLaws.{raw_back}
use Rattle.body_read.specs.Sides.{Sides, body_sides}
use Rattle.body_write.specs.BodyBytes.{body_bytes}
use Rattle.voice_read.specs.ReadVoice.{with_sides, read_items, read_voice}
use Rattle.voice_write.specs.WriteVoice.{file_of, write_voice}
use Rattle.voice_round_trip.proofs.Written.{accepts, raw_body, contents_items}
use Rattle.voice_round_trip.proofs.Items.{voice_items, items_chunks}
use Rattle.voice_round_trip.proofs.FileBack.{file_read}
use Rattle.voice_round_trip.proofs.NoneBad.{items_sound}
use Rattle.voice_round_trip.proofs.PartsBack.{header_there, body_there, voice_back}
use Rattle.refusal.specs.Outcome.{Outcome, and_then}
use Rattle.std.specs.Prelude.{Ok}

-- the chunks of a voice are read as that voice, with the sides of its BODY
items_read : (v : Voice) (samples : List ℕ) → Allowed v → All (λ t. tidy t.bytes ≡ true) v.texts → read_items (voice_items v samples) ≡ with_sides v samples
unfolding read_items
items_read v samples a d = rw (items_sound v samples a, header_there v samples a, body_there v samples a, voice_back v samples a d)

pub round_trip : (v : Voice) (s : Sides) (file : List ℕ)
    → Allowed v
    → known_compression v.header.compression_byte ≡ Ok None
    → All (λ t. tidy t.bytes ≡ true) v.texts
    → Samples s.left → Samples s.right
    → write_voice v s ≡ Ok file
    → read_voice file ≡ Ok (record { voice = v; sides = s })
round_trip v s file a k d left right w =
    let ok = accepts v None s file k w in
    let stereo = is_stereo v.channel in
    let samples = body_bytes None stereo s.left s.right in
    let small = rw (contents_items v None s) at ok.small in
    let sides = ap (body_sides v.header stereo) (raw_body v.header stereo s.left s.right ok.suit)
    ∙ raw_back v.header stereo s.left s.right k ok.total ok.suit left right in
    ap read_voice (ok.is ∙ ap file_of (contents_items v None s))
    ∙ file_read (items_chunks v samples a) small
    ∙ items_read v samples a d
    ∙ ap (λ (o : Outcome Sides). and_then o (λ sides. Ok (record { voice = v; sides = sides }))) sides
