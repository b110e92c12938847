-- The walk ends, since each record takes a byte at least.
use Rattle.std.proofs.Common.{◌-◌, length}
use Rattle.sheet_kinds.proofs.kinds.Given as goal

abbrev pub decreases-loop-kind : goal.decreases-loop-kind
decreases-loop-kind g l = length l.sheet - l.at
