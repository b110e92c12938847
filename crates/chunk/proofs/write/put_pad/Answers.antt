-- `chunk::write::put_pad` meets its contract: a zero after an odd payload, nothing after an even one.
use native.Mathlib.Omega.{arith}
use Rattle.chunk.proofs.WriteLaws.{pad_even, pad_odd}
use Rattle.laws.proofs.PutLaws.{put_none}
use Rattle.chunk.proofs.write.put_pad.Goals as goal

pub returns-then-n-eq0 : goal.returns-then-n-eq0
returns-then-n-eq0 c = rw (pad_even c.args.n (omega arith)) (put_none _ _)

pub returns : goal.returns
returns c = rw (pad_odd c.args.n c.if-n-eq0.false) c.put_byte.ensures
