-- The invariant: the members counted and those that are left are all of them.
use Prim.Native.Nat.{◌+◌, ◌-◌, ◌≤◌}
use lib.ListN.{length, drop}
use mathlib.Core.Path.{◌≡◌}
use Rattle.sheet.specs.Read.{leading}
use Rattle.sheet.specs.Record.{records}
use Rattle.sheet_write.proofs.group.member_count.Given as goal

abbrev pub invariant-loop-record : goal.invariant-loop-record
invariant-loop-record l = (l.m + length (leading l.member (records (drop l.p l.sheet))) ≡ length (leading l.member (records (drop l.from l.sheet)))) × (l.m ≤ l.p)

abbrev pub decreases-loop-record : goal.decreases-loop-record
decreases-loop-record l = length l.sheet - l.p
