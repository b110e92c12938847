-- `form::find` meets its contract. The invariant: the first chunk of the name from here on lies where the whole FORM's does.
use Prim.Native.Nat.{◌-◌}
use lib.ListN.{length}
use mathlib.Core.Path.{◌≡◌}
use Rattle.chunk.specs.Chunk.{items_from}
use Rattle.form.specs.Find.{place_from, first_place}
use Rattle.form.proofs.place.find.Given as goal

abbrev pub invariant-loop-chunk : goal.invariant-loop-chunk
invariant-loop-chunk l = place_from l.at l.id (items_from l.form l.at) ≡ first_place l.form l.id

abbrev pub decreases-loop-chunk : goal.decreases-loop-chunk
decreases-loop-chunk l = length l.form - l.at
