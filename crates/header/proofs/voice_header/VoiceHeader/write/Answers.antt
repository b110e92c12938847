-- `header::VoiceHeader::write` meets its contract: seven stores, joined, over the whole of the array.
use mathlib.Core.Path.{sym}
use native.Mathlib.Omega.{arith}
use Rattle.laws.proofs.PutLaws.{put_then, put_whole}
use Rattle.field.proofs.BigEndianLaws.{bytes_length}
use Rattle.header.specs.Header.{header_bytes}
use Rattle.header.proofs.HeaderLaws.{header_length}
use Rattle.header.proofs.voice_header.VoiceHeader.write.Goals as goal

pub put32-cycle-requires : goal.put32-cycle-requires
put32-cycle-requires c = omega (arith, bytes_length)

pub put32-rate-requires : goal.put32-rate-requires
put32-rate-requires c = omega (arith, bytes_length)

pub put16-octaves-requires : goal.put16-octaves-requires
put16-octaves-requires c = omega (arith, bytes_length)

pub put_byte-compression-requires : goal.put_byte-compression-requires
put_byte-compression-requires c = omega (arith, bytes_length)

pub put_byte-volume-requires : goal.put_byte-volume-requires
put_byte-volume-requires c = omega (arith, bytes_length)

pub put32-requires : goal.put32-requires
put32-requires c = omega (arith, bytes_length)

pub returns : goal.returns
unfolding header_bytes
returns c =
    put_whole (sym (header_length _))
    (put_then
    (put_then
    (put_then (put_then (put_then c.put32-repeat.ensures c.put32-cycle.ensures) c.put32-rate.ensures) c.put16-octaves.ensures)
    (put_then c.put_byte-compression.ensures c.put_byte-volume.ensures))
    c.put32.ensures)
