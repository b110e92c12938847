-- `wave::front::put_front` meets its contract: its five parts, joined. They end at 8, 12, 20 and 36.
use native.Mathlib.Omega.{arith}
use Rattle.laws.proofs.PutLaws.{put_then, put_end}
use Rattle.field.proofs.BigEndianLaws.{bytes_length}
use Rattle.wave.specs.Helpers.{front_bytes}
use Rattle.wave.proofs.RiffLaws.{head_length, format_length}
use Rattle.wave.proofs.front.put_front.Goals as goal

pub put32-typed-requires : goal.put32-typed-requires
put32-typed-requires c = omega (arith, put_end (head_length _ _) c.put_riff_head-sized.ensures)

pub put_riff_head-begun-requires : goal.put_riff_head-begun-requires
put_riff_head-begun-requires c = omega (arith, put_end (head_length _ _) c.put_riff_head-sized.ensures, put_end (bytes_length 4 _) c.put32-typed.ensures)

pub put_format-told-requires : goal.put_format-told-requires
put_format-told-requires c = (
  omega arith,
  omega (
    arith,
    put_end (head_length _ _) c.put_riff_head-sized.ensures,
    put_end (bytes_length 4 _) c.put32-typed.ensures,
    put_end (head_length _ _) c.put_riff_head-begun.ensures,
  ),
)

pub put_riff_head-requires : goal.put_riff_head-requires
put_riff_head-requires c =
    omega (
      arith,
      put_end (head_length _ _) c.put_riff_head-sized.ensures,
      put_end (bytes_length 4 _) c.put32-typed.ensures,
      put_end (head_length _ _) c.put_riff_head-begun.ensures,
      put_end (format_length _ _) c.put_format-told.ensures,
    )

pub returns : goal.returns
unfolding front_bytes
returns c =
    put_then (put_then (put_then (put_then c.put_riff_head-sized.ensures c.put32-typed.ensures) c.put_riff_head-begun.ensures) c.put_format-told.ensures)
    c.put_riff_head.ensures
