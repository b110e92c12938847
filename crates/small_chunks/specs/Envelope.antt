-- A point of ATAK or RLSE: milliseconds in 16 bits, then a signed 16.16 level.
use Rattle.std.specs.Prelude.{List, ◌++◌, map, ℕ, drop}
use Rattle.field.specs.BigEndian.{big_endian, big_endian_bytes}
use Rattle.field.specs.Signed.{signed32, bits32}
use Rattle.field.specs.Tagged.{parts}
use Rattle.small_chunks.specs.declared.points.EgPoint.{EgPoint}

-- the point of six bytes
unfoldable pub point_of : List ℕ → EgPoint
point_of l = record { duration_ms = big_endian 2 l; dest = signed32 (big_endian 4 (drop 2 l)) }

-- the six bytes of a point
unfoldable pub point_bytes : EgPoint → List ℕ
point_bytes p = big_endian_bytes 2 p.duration_ms ++ big_endian_bytes 4 (bits32 p.dest)

-- the points of an ATAK or RLSE
abbrev pub envelope_points : List ℕ → List EgPoint
envelope_points body = map point_of (parts 6 body)
