-- `ensemble_block::stretch::stretch_end` meets its contract. The invariant: the stretch up to `next` is calm for the entries seen.
use lib.ListN.{take}
use Rattle.ensemble_block.specs.Stretch.{StretchTo}
use Rattle.ensemble_block.proofs.stretch.stretch_end.Given as goal

abbrev pub invariant-loop-e : goal.invariant-loop-e
invariant-loop-e l = StretchTo (take l.e-index l.score) l.at l.end l.most l.next
