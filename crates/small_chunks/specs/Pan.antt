-- PAN: where a mono voice stands between the speakers, from 0 (right) to 65,536 (left).
use Rattle.std.specs.Prelude.{ℕ, min, false, cond, List, ltb, ℤ, pos, negsuc, Float, length, Err, Ok}
use Rattle.std.specs.Float.{fin, binary32}
use Rattle.std.specs.Float.Ieee.{div, sub, of_int}
use Rattle.field.specs.BigEndian.{big_endian, big_endian_bytes}
use Rattle.field.specs.Signed.{signed32, bits32}
use Rattle.small_chunks.specs.declared.pan.Pan.{Pan}
use Rattle.small_chunks.specs.declared.pan.PanWeights.{PanWeights}
use Rattle.refusal.specs.declared.Refusal.TheVariants.{ChunkLength}
use Rattle.refusal.specs.Outcome.{Outcome}

-- four bytes, signed
unfoldable pub pan_of : List ℕ → Pan
pan_of l = record { position = signed32 (big_endian 4 l) }

-- its four bytes
unfoldable pub pan_bytes : Pan → List ℕ
pan_bytes p = big_endian_bytes 4 (bits32 p.position)

-- a chunk under 4 bytes is refused by 6; what lies past them is ignored
abbrev pub parsed_pan : List ℕ → Outcome Pan
parsed_pan l = cond (ltb (length l) 4) (Err ChunkLength) (Ok (pan_of l))

-- a signed 16.16 number held within 0..65,536
unfoldable pub held_to_unity : ℤ → ℕ
held_to_unity (pos n) = min n 65536
held_to_unity (negsuc n) = 0

-- n over 65,536 as a float; `fin false 1 (pos 16)` is 65,536
abbrev pub share : ℕ → Float
share n = div binary32 (of_int binary32 (pos n)) (fin false 1 (pos 16))

-- left's share is the position, and right's is what is left of 1, which is `fin false 1 (pos 0)`
abbrev pub pan_weights : Pan → PanWeights
pan_weights p = record {
  left = share (held_to_unity p.position);
  right = sub binary32 (fin false 1 (pos 0)) (share (held_to_unity p.position));
}
