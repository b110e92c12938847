-- The voices that a sheet can hold: every number fits its field, texts have a key and are UTF-8.
use Rattle.std.specs.Prelude.{◌^◌, ◌≤◌, ◌<◌, true, List, [], ◌∷◌, ◌≡◌, None, Option, Some}
use Rattle.std.specs.Int.{w32}
use Rattle.std.proofs.Common.{SFits}
use Rattle.text_utf8.specs.Utf8.{well_formed}
use Rattle.header.specs.Header.{Fitting}
use Rattle.small_chunks.specs.declared.pan.Pan.{Pan}
use Rattle.small_chunks.specs.declared.points.EgPoint.{EgPoint}
use Rattle.small_chunks.specs.declared.sequence.SeqnSegment.{SeqnSegment}
use Rattle.small_chunks.specs.declared.sequence.Fade.{Fade}
use Rattle.sheet.specs.Voice.{Text, Voice}

-- of every element of a list
abbrev pub All : {A : Type 0} → (A → Type 0) → List A → Type 0
All P [] = Unit
All P (a ∷ as') = P a × All P as'

-- of a value that may be missing, where it is there
abbrev pub IfThere : {A : Type 0} → (A → Type 0) → Option A → Type 0
IfThere P None = Unit
IfThere P (Some a) = P a

-- a position of 32 bits, signed
pub record PanFits (p : Pan) : Type 0 where
  pub position : SFits w32 p.position

-- milliseconds of 16 bits, and a level of 32, signed
pub record PointFits (p : EgPoint) : Type 0 where
  pub duration : p.duration_ms < 2 ^ 16
  pub dest : SFits w32 p.dest

-- offsets of 32 bits
pub record SegmentFits (s : SeqnSegment) : Type 0 where
  pub start : s.start < 2 ^ 32
  pub end : s.end < 2 ^ 32

-- a number of 32 bits
pub record FadeFits (f : Fade) : Type 0 where
  pub segment : f.segment < 2 ^ 32

-- a key from 1 to 5, and bytes that are UTF-8
pub record TextAllowed (t : Text) : Type 0 where
  pub key_from_lem : 1 ≤ t.key
  pub key_to : t.key ≤ 5
  pub well_formed_lem : well_formed t.bytes ≡ true
  pub bytes : All (λ b. b < 256) t.bytes

-- all of that, of a voice; a channel is one of three by its type
pub record Allowed (v : Voice) : Type 0 where
  pub header : Fitting v.header
  pub pan : IfThere PanFits v.pan
  pub attacks : All (All PointFits) v.attacks
  pub releases : All (All PointFits) v.releases
  pub sequence : IfThere (All SegmentFits) v.sequence
  pub fade : IfThere FadeFits v.fade
  pub texts : All TextAllowed v.texts
