-- What the subsequence that stands at the place adds to the records, by `text_more`.
use mathlib.Core.Path.{sym, ap, ◌∙◌}
use native.Mathlib.Omega.{arith}
use Rattle.laws.proofs.PutLaws.{underway_done}
use Rattle.text.proofs.LengthLaws.{lossy_end}
use Rattle.text.proofs.RecordLaws.{text_room, text_more}
use Rattle.text.specs.TextRecords.{text_records}
use Rattle.text_utf8.proofs.SpanLaws.{step_says}
use Rattle.text.proofs.write.put_lossy.Goals as goal

pub put_part-o-requires : goal.put_part-o-requires
put_part-o-requires c =
    let w = step_says _ _ (sym c.step_at.ensures ∙ c.in-Some.is) in
    let room = text_room w c.loop-part.invariant.0 in
    omega arith

pub loop-part-preserved : goal.loop-part-preserved
loop-part-preserved c =
    let w = step_says _ _ (sym c.step_at.ensures ∙ c.in-Some.is) in
    let inv = c.loop-part.invariant in
    (text_more w inv.0 c.put_part-o.ensures, c.put_part-o.auto.d ∙ inv.1)

pub returns : goal.returns
unfolding text_records
returns c = underway_done c.loop-part.invariant.0 (ap text_records (lossy_end _ _ (step_says _ _ (sym c.step_at.ensures ∙ c.in_default.is)).0))
