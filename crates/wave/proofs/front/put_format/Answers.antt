-- `wave::front::put_format` meets its contract: six numbers, joined.
use Prim.Native.Nat.{ℕ, ◌+◌}
use mathlib.Core.List.{List}
use mathlib.Core.Path.{◌≡◌}
use native.Mathlib.Omega.{arith}
use Rattle.laws.specs.Put.{Put}
use Rattle.laws.proofs.PutLaws.{put_then, put_end}
use Rattle.field.specs.LittleEndian.{little_endian_bytes}
use Rattle.field.proofs.LittleEndianLaws.{little_length}
use Rattle.wave.specs.Riff.{format_bytes}
use Rattle.wave.proofs.front.put_format.Goals as goal

-- where a number ends
number_end : {d d' : List ℕ} {at r : ℕ} (n v : ℕ) → Put d at (little_endian_bytes n v) d' r → r ≡ at + n
number_end n v p = put_end (little_length n v) p

pub put16_le-counted-requires : goal.put16_le-counted-requires
put16_le-counted-requires c = omega (arith, number_end 2 _ c.put16_le-coded.ensures)

pub put32_le-timed-requires : goal.put32_le-timed-requires
put32_le-timed-requires c = omega (arith, number_end 2 _ c.put16_le-coded.ensures, number_end 2 _ c.put16_le-counted.ensures)

pub put32_le-paced-requires : goal.put32_le-paced-requires
put32_le-paced-requires c =
    omega (arith, number_end 2 _ c.put16_le-coded.ensures, number_end 2 _ c.put16_le-counted.ensures, number_end 4 _ c.put32_le-timed.ensures)

pub put16_le-framed-requires : goal.put16_le-framed-requires
put16_le-framed-requires c =
    omega (
      arith,
      number_end 2 _ c.put16_le-coded.ensures,
      number_end 2 _ c.put16_le-counted.ensures,
      number_end 4 _ c.put32_le-timed.ensures,
      number_end 4 _ c.put32_le-paced.ensures,
    )

pub put16_le-requires : goal.put16_le-requires
put16_le-requires c =
    omega (
      arith,
      number_end 2 _ c.put16_le-coded.ensures,
      number_end 2 _ c.put16_le-counted.ensures,
      number_end 4 _ c.put32_le-timed.ensures,
      number_end 4 _ c.put32_le-paced.ensures,
      number_end 2 _ c.put16_le-framed.ensures,
    )

pub returns : goal.returns
unfolding format_bytes
returns c =
    put_then (put_then (put_then (put_then (put_then c.put16_le-coded.ensures c.put16_le-counted.ensures) c.put32_le-timed.ensures) c.put32_le-paced.ensures) c.put16_le-framed.ensures)
    c.put16_le.ensures
