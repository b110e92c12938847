-- `note_calls::run_calls` meets its contract: what is left to play gives the whole.
use Prim.Native.Nat.{◌-◌}
use lib.ListN.{length}
use Rattle.note_calls.proofs.UnderwayLaws.{Calling}
use Rattle.note_calls.proofs.run_calls.Given as goal

abbrev pub invariant-loop-call : goal.invariant-loop-call
invariant-loop-call l = Calling l.sheet (record { left = l.left; right = l.right }) l.initial.run.note l.calls l.initial.out l.initial.answers l.out l.answers l.run l.call-index
