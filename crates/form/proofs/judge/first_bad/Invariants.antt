-- `form::first_bad` meets its contract. The invariant: the first bad chunk from here on, after the kinds that came, is the whole FORM's.
use Prim.Native.Nat.{◌-◌}
use lib.ListN.{length}
use mathlib.Core.Path.{◌≡◌}
use Rattle.chunk.specs.Chunk.{items_from}
use Rattle.form.specs.FirstBad.{bad_from, first_bad}
use Rattle.form.proofs.judge.first_bad.Given as goal

abbrev pub invariant-loop-chunk : goal.invariant-loop-chunk
invariant-loop-chunk l = bad_from l.came (items_from l.form l.at) ≡ first_bad (items_from l.form 12)

abbrev pub decreases-loop-chunk : goal.decreases-loop-chunk
decreases-loop-chunk l = length l.form - l.at
