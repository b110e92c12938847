-- The invariant is `Underway`: to store the records of the rest from here is to store all from the start.
use Prim.Native.Nat.{◌-◌}
use lib.ListN.{length, drop}
use mathlib.Core.Path.{◌≡◌}
use Rattle.laws.proofs.PutLaws.{Underway}
use Rattle.text.specs.TextRecords.{text_records}
use Rattle.text_utf8.specs.Utf8.{lossy}
use Rattle.text.proofs.write.put_lossy.Given as goal

abbrev pub invariant-loop-part : goal.invariant-loop-part
invariant-loop-part l = Underway l.initial.d l.at (text_records (lossy l.s)) l.d l.o (text_records (lossy (drop l.i l.s))) × (length l.d ≡ length l.initial.d)

abbrev pub decreases-loop-part : goal.decreases-loop-part
decreases-loop-part l = length l.s - l.i
