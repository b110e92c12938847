-- `put_chunks` meets its contract: the chunks of a sound sheet's records are its voice's, and under eight times as long as the sheet.
use lib.ListN.{length}
use mathlib.Core.Path.{ap}
use native.Mathlib.Omega.{arith}
use Rattle.field.specs.BigEndian.{Bytes}
use Rattle.sheet_write.proofs.BoundLaws.{sheet_bound}
use Rattle.sheet_write.proofs.VoiceChunkLaws.{chunks_voice}
use Rattle.sheet_write.proofs.put_chunks.Goals as goal

pub put_records-requires : goal.put_records-requires
put_records-requires c =
    let s = c.args.sheet.now in
    let bytes : Bytes s = λ i. (c.type_inv.sheet i).fits in
    let sound = c.requires.0 in
    (omega arith, omega (arith, sheet_bound s bytes sound, ap length (chunks_voice s bytes sound)))

pub returns : goal.returns
returns c =
    let bytes : Bytes c.args.sheet.now = λ i. (c.type_inv.sheet i).fits in
    rw (← chunks_voice _ bytes c.requires.0) c.put_records.ensures
