-- The invariant: judging what is left, with this group in hand and the texts so far, gives the whole sheet's verdict. `whole` is
-- the record in hand.
use Prim.Native.Nat.{◌-◌}
use lib.ListN.{length, drop}
use mathlib.Core.Path.{◌≡◌}
use Rattle.sheet.proofs.JudgeLaws.{judged_from}
use Rattle.sheet.specs.Judge.{judged}
use Rattle.sheet.specs.Record.{records}
use Rattle.sheet.specs.TextState.{text_state_of}
use Rattle.sheet.proofs.judge.judge_sheet.Given as goal

abbrev pub invariant-loop-record : goal.invariant-loop-record
invariant-loop-record l = judged_from l.group (text_state_of l.texts) (records (drop l.at l.sheet)) ≡ judged l.sheet

abbrev pub decreases-loop-record : goal.decreases-loop-record
decreases-loop-record l = length l.sheet - l.at
