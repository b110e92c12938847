-- `voice_read::chunks::is_stereo` meets its contract: the value of a right CHAN is read where it lies.
use lib.Dec.{eqb}
use mathlib.Core.Path.{ap, ◌∙◌}
use native.Mathlib.Omega.{arith}
use Rattle.form.proofs.FindLaws.{found}
use Rattle.voice_read.proofs.VoiceLaws.{channel_long, stereo_at, stereo_none}
use Rattle.voice_read.proofs.chunks.is_stereo.Goals as goal

-- `w` says where the chunk lies
pub read32-requires : goal.read32-requires
read32-requires c =
    let w = rw c.in-Some.is at (found _ _ _ c.find.ensures) in
    omega (arith, w.inside, channel_long w c.requires)

pub returns-in_default : goal.returns-in_default
returns-in_default c = stereo_none (rw c.in_default.is at (found _ _ _ c.find.ensures))

pub returns : goal.returns
returns c =
    let w = rw c.in-Some.is at (found _ _ _ c.find.ensures) in
    ap (λ v. eqb v 6) c.read32.ensures ∙ stereo_at w c.requires
