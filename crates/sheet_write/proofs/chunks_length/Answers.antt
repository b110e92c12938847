-- `chunks_length` meets its contract: over an empty buffer the writer measures.
use native.Mathlib.Omega.{arith}
use Rattle.field.specs.BigEndian.{Bytes}
use Rattle.sheet_write.proofs.BoundLaws.{sheet_bound}
use Rattle.sheet_write.proofs.chunks_length.Goals as goal

pub returns : goal.returns
returns c =
    let s = c.args.sheet.now in
    let bytes : Bytes s = λ i. (c.type_inv.sheet i).fits in
    let end = c.put_chunks.ensures.end in
    (omega (arith, end), omega (arith, end, sheet_bound s bytes c.requires.0))
