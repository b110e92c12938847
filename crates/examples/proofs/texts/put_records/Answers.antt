-- The end is a number that the machine can count: cleaning makes a text at most three times as long.
use native.Mathlib.Omega.{arith}
use Rattle.text.specs.Text.{clean}
use Rattle.text.proofs.RecordLaws.{records_length}
use Rattle.text.proofs.Theorems.{clean_bound}
use Rattle.examples.proofs.texts.put_records.Goals as goal

pub put_text-requires : goal.put_text-requires
put_text-requires c =
    let payload = c.args.payload.now in
    omega (arith, c.requires, clean_bound payload, records_length (clean payload))
