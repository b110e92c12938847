-- `EgPoint::write` meets its contract: two runs of stores, joined, over the whole of the array.
use mathlib.Core.Path.{◌≡◌, ap, ◌∙◌, sym}
use native.Mathlib.Omega.{arith}
use mir.Syntax.{w32}
use mir.Val.{SFits}
use mir.Facts.{to_z-of_z}
use borrow.Author.Rules.{rules}
use Rattle.laws.proofs.PutLaws.{put_then, put_whole}
use Rattle.field.specs.Signed.{bits32}
use Rattle.field.proofs.BigEndianLaws.{bytes_length}
use Rattle.small_chunks.specs.Envelope.{point_bytes}
use Rattle.small_chunks.proofs.FieldLaws.{point_length}
use Rattle.small_chunks.proofs.points.EgPoint.write.Goals as goal

pub put32-requires : goal.put32-requires
put32-requires c = omega (arith, simp bytes_length at c.put16-at.ensures.end)

pub returns : goal.returns
unfolding point_bytes
returns c =
    let dest_fits : SFits w32 c.args.self.dest = search rules in
    let bits : c.bits_of_i32.result ≡ bits32 c.args.self.dest = c.bits_of_i32.ensures ∙ ap bits32 (to_z-of_z dest_fits) in
    put_whole (sym (point_length _)) (put_then c.put16-at.ensures (rw bits at c.put32.ensures))
