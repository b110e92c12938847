-- The invariant is `Underway` over the chunks of the records that are left; `turn` splits off that of the record in hand.
use Prim.Native.Nat.{◌-◌}
use lib.ListN.{length, drop}
use mathlib.Core.Path.{◌≡◌}
use Rattle.laws.proofs.PutLaws.{Underway}
use Rattle.sheet.specs.Record.{records}
use Rattle.sheet_write.specs.RecordChunks.{record_chunks}
use Rattle.sheet_write.proofs.put_records.Given as goal

abbrev pub invariant-loop-record : goal.invariant-loop-record
invariant-loop-record l = Underway l.initial.d l.at (record_chunks (records l.sheet)) l.d l.o (record_chunks (records (drop l.p l.sheet))) × (length l.d ≡ length l.initial.d)

abbrev pub decreases-loop-record : goal.decreases-loop-record
decreases-loop-record l = length l.sheet - l.p
