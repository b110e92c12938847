-- `drawn::draw::draw` meets its contract: a shift left drops what 32 bits don't keep, and no shift makes a number longer.
use native.Mathlib.Omega.{arith}
use Rattle.drawn.proofs.DrawLaws.{draw_is}
use Rattle.drawn.proofs.draw.draw.Goals as goal

pub returns : goal.returns
returns c = draw_is c.args.x (omega arith)
