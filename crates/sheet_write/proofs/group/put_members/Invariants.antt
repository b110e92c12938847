-- The invariant is `Underway` over the members that are left; `turn` splits off the one in hand.
use Prim.Native.Nat.{◌-◌}
use lib.ListN.{length, drop}
use mathlib.Core.Path.{◌≡◌}
use Rattle.laws.proofs.PutLaws.{Underway}
use Rattle.sheet.specs.Record.{records}
use Rattle.sheet_write.specs.RecordChunks.{members_after}
use Rattle.sheet_write.proofs.group.put_members.Given as goal

abbrev pub invariant-loop-record : goal.invariant-loop-record
invariant-loop-record l = Underway l.initial.d l.at (members_after l.member (records (drop l.from l.sheet))) l.d l.o (members_after l.member (records (drop l.p l.sheet))) × (length l.d ≡ length l.initial.d)

abbrev pub decreases-loop-record : goal.decreases-loop-record
decreases-loop-record l = length l.sheet - l.p
