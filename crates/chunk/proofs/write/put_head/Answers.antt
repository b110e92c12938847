-- `chunk::write::put_head` meets its contract: two stores joined; the low 32 bits of a number have its four bytes.
use native.Mathlib.Omega.{arith}
use Rattle.field.proofs.BigEndianLaws.{bytes_length, bytes_low}
use Rattle.laws.proofs.PutLaws.{put_then}
use Rattle.chunk.proofs.write.put_head.Goals as goal

pub put32-requires : goal.put32-requires
put32-requires c = omega (arith, c.put32-named.ensures.end, bytes_length 4 c.args.id)

pub returns : goal.returns
returns c =
    rw (← bytes_low 4 c.args.size)
    (put_then c.put32-named.ensures c.put32.ensures)
