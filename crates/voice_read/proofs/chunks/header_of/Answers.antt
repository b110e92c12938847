-- `voice_read::chunks::header_of` meets its contract: the header is read where the VHDR lies, and there is one.
use mathlib.Core.Path.{◌∙◌}
use native.Mathlib.Omega.{arith}
use Rattle.form.proofs.FindLaws.{found}
use Rattle.voice_read.proofs.VoiceLaws.{header_long, header_at, header_there}
use Rattle.voice_read.proofs.chunks.header_of.Goals as goal

-- `w` says where the chunk lies
pub read_header-requires : goal.read_header-requires
read_header-requires c =
    let w = rw c.in-Some.is at (found _ _ _ c.find.ensures) in
    omega (arith, w.inside, header_long w c.requires.sound)

pub returns-in-Some : goal.returns-in-Some
returns-in-Some c =
    let w = rw c.in-Some.is at (found _ _ _ c.find.ensures) in
    c.read_header.ensures ∙ header_at w c.requires.sound

pub returns-in-None : goal.returns-in-None
returns-in-None c =
    absurd (header_there (rw c.in-None.is at (found _ _ _ c.find.ensures)) c.requires)
