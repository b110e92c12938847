-- What a sheet and its sides fulfil where they are written: the file is there, and it fits.
-- Assumes nothing.
use Prim.Native.Nat.{ℕ, ◌+◌, ◌^◌, ◌≤◌, ◌<◌}
use lib.ListN.{length}
use mathlib.Core.List.{List}
use mathlib.Core.Path.{◌≡◌, sym, ap, ◌∙◌}
use native.Mathlib.Omega.{arith}
use Rattle.field.specs.BigEndian.{Bytes}
use Rattle.sheet_grammar.proofs.Theorem.{flat_read}
use Rattle.header.specs.Compression.{known_compression}
use Rattle.header.specs.declared.compression.Compression.{Compression}
use Rattle.refusal.specs.Room.{Room}
use Rattle.refusal.proofs.OutcomeLaws.{room_gives}
use Rattle.sheet.proofs.SoundLaws.{if_sound_lem, gives_sound}
use Rattle.sheet.specs.Judge.{judged}
use Rattle.sheet.specs.Read.{read_sheet}
use Rattle.body_read.specs.Sides.{Sides}
use Rattle.voice_write.specs.WriteVoice.{contents, file_of, write_voice, write_sheet}
use Rattle.voice_write.proofs.WriteLaws.{accepted, accepted_as, file_length, left_bound, flat_within, right_within}
use Rattle.std.specs.Prelude.{Ok}

-- where there is room for a file, the sheet is sound
pub room_sound : (sheet : List ℕ) (s : Sides) (n places : ℕ) → Room (write_sheet sheet s) n places → judged sheet ≡ Ok tt
room_sound sheet s n places r = let g = (room_gives (write_sheet sheet s) n places r).0 in gives_sound sheet (write_voice (read_sheet sheet) s) g.output g.is

-- what a writer of n bytes into so many places counts on
pub record Writes (sheet : List ℕ) (c : Compression) (s : Sides) (n places : ℕ) : Type 0 where
  pub sound : judged sheet ≡ Ok tt
  pub sheet_short : length sheet < 2 ^ 34
  pub left_short : length s.left < 2 ^ 34
  pub right_short : length s.right < 2 ^ 34
  pub held : n ≡ length (contents (read_sheet sheet) c s) + 8
  pub fits : length (contents (read_sheet sheet) c s) < 2 ^ 32
  pub room : n ≤ places
  pub is : write_sheet sheet s ≡ Ok (file_of (contents (read_sheet sheet) c s))

pub writes : (sheet : List ℕ) → Bytes sheet → (c : Compression) (s : Sides) (n places : ℕ)
    → known_compression (read_sheet sheet).header.compression_byte ≡ Ok c → Room (write_sheet sheet s) n places → Writes sheet c s n places
writes sheet bytes c s n places k r =
    let v = read_sheet sheet in
    let g = room_gives (write_sheet sheet s) n places r in
    let file = g.0.output in
    let sound = gives_sound sheet (write_voice v s) file g.0.is in
    let a = accepted v s file (sym (if_sound_lem sheet (write_voice v s) sound) ∙ g.0.is) in
    let same = accepted_as v s file c k a in
    let fits : length (contents v c s) < 2 ^ 32 = rw same at a.fits in
    let is : file ≡ file_of (contents v c s) = rw same at a.is in
    let left : length s.left < 2 ^ 34 = omega (arith, left_bound v c s) in
    record {
      sound = sound;
      sheet_short = omega (arith, flat_within v c s, ap length (flat_read sheet bytes sound));
      left_short = left;
      right_short = omega (arith, right_within v s a.suits);
      held = g.0.long ∙ ap length is ∙ file_length (contents v c s);
      fits = fits;
      room = g.1;
      is = g.0.is ∙ ap Ok is;
    }
