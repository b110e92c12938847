-- A well-formed part is its own text, by `records_tagged`; the records of U+FFFD are those that stand in the code.
use native.Mathlib.Omega.{arith}
use Rattle.text.proofs.RecordLaws.{records_tagged}
use Rattle.text.specs.TextRecords.{text_records}
use Rattle.text.proofs.write.put_part.Goals as goal

pub put_tagged-requires : goal.put_tagged-requires
put_tagged-requires c = (omega arith, rw records_tagged (rw c.if-well_formed.true at c.requires))

pub returns-then-well_formed : goal.returns-then-well_formed
returns-then-well_formed c = rw c.if-well_formed.true (rw records_tagged at c.put_tagged.ensures)

pub put_all-requires : goal.put_all-requires
unfolding text_records
put_all-requires c = rw c.if-well_formed.false at c.requires

pub returns : goal.returns
unfolding text_records
returns c = rw c.if-well_formed.false c.put_all.ensures
