-- A read voice in a vault: each of its channels has a difference order, and restoring that gives the channel back. It is proved as `read_vault`.
use Rattle.std.specs.Prelude.{ℕ, true, List, ◌≡◌, ℤ, Ok}
use Rattle.field.specs.BigEndian.{Bytes}
use Rattle.header.specs.declared.voice_header.VoiceHeader.{VoiceHeader}
use Rattle.sheet.specs.Voice.{is_stereo}
use Rattle.voice_read.specs.ReadVoice.{Reading, read_voice}
use Rattle.vault.specs.DifferenceOrder.{difference_order, difference_restore}

-- a channel that can be stored: its values in difference order, and that they lead back to it
pub record Stored (h : VoiceHeader) (channel : List ℤ) : Type 0 where
  pub values : List ℤ
  pub ordered : difference_order h channel ≡ Ok values
  pub back : difference_restore h values ≡ Ok channel

-- of the voice that a file of bytes gives
pub record ReadVault : Type 0 where
  -- the left channel
  pub left : (file : List ℕ) (r : Reading) → Bytes file → read_voice file ≡ Ok r → Stored r.voice.header r.sides.left
  -- and of two the right one
  pub right : (file : List ℕ) (r : Reading) → Bytes file → read_voice file ≡ Ok r → is_stereo r.voice.channel ≡ true → Stored r.voice.header r.sides.right
