-- `held_to_unity` meets its contract. The machine reads a signed number back from its bits; each `return` then follows from the tests and from `held_is`.
use mir.Facts.{to_z-of_z}
use Rattle.laws.proofs.Signed.{abs_parts, zarith, known}
use Rattle.small_chunks.proofs.PanLaws.{held_is}
use Rattle.small_chunks.proofs.pan.held_to_unity.Goals as goal

pub returns-then-z-le0 : goal.returns-then-z-le0
returns-then-z-le0 c = omega (zarith, known c.ranges.z, held_is c.args.z)

pub returns-then-z-ge65536 : goal.returns-then-z-ge65536
returns-then-z-ge65536 c = omega (zarith, known c.ranges.z, held_is c.args.z)

pub returns : goal.returns
returns c =
    rw (to_z-of_z c.ranges.z) (omega (zarith, known c.ranges.z, abs_parts c.args.z, held_is c.args.z))
