-- What reading gives is accepted: its sheet is judged sound and says that voice, the texts are tidy, and the sides suit the header.
-- Assumes nothing.
use Prim.Native.Nat.{ℕ}
use mathlib.Core.List.{List}
use mathlib.Core.Path.{◌≡◌}
use Rattle.field.specs.BigEndian.{Bytes}
use Rattle.field.specs.Signed.{Samples}
use Rattle.field.proofs.BigEndianLaws.{bytes_take}
use Rattle.chunk.specs.Chunk.{items_from, end_of}
use Rattle.sheet.specs.Allowed.{Allowed}
use Rattle.sheet.specs.Voice.{is_stereo}
use Rattle.sheet_grammar.proofs.Theorem.{judged_flat, read_flat}
use Rattle.body_read.proofs.SideLaws.{sides_suit, sides_total, sides_known}
use Rattle.body_read.proofs.SampleLaws.{sides_samples}
use Rattle.sheet_read.proofs.VoiceLaws.{form_allowed, form_tidy}
use Rattle.voice_read.specs.ReadVoice.{Reading, form_of, read_voice}
use Rattle.voice_read.proofs.ReadLaws.{file_given}
use Rattle.demands.specs.Demand2.{TidyTexts, Acceptable}
use Rattle.std.specs.Prelude.{Ok}

module _ (file : List ℕ) (r : Reading) where
  pub read_sound : Bytes file → read_voice file ≡ Ok r → Acceptable r
  read_sound b e =
      let from = file_given file r e in
      let h = r.voice.header in
      let stereo = is_stereo r.voice.channel in
      let allowed : Allowed r.voice = rw from.voice (form_allowed (form_of file) (bytes_take (end_of file) file b)) in
      let tidy : TidyTexts r.voice = rw from.voice (form_tidy (items_from (form_of file) 12)) in
      let known = sides_known h stereo from.bytes r.sides from.sides in
      record {
        allowed = allowed;
        sheet_sound = judged_flat r.voice allowed;
        sheet_says = read_flat r.voice allowed;
        tidy_texts = tidy;
        lengths_suit_lem = sides_suit h stereo from.bytes r.sides from.sides;
        total = sides_total h stereo from.bytes r.sides from.sides;
        known = (known.compression, known.known);
      }

  pub read_samples : read_voice file ≡ Ok r → Samples r.sides.left × Samples r.sides.right
  read_samples e = let from = file_given file r e in sides_samples r.voice.header (is_stereo r.voice.channel) from.bytes r.sides from.sides
