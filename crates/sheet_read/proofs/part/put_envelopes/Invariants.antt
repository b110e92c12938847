-- `sheet_read::part::put_envelopes` meets its contract. The invariant: to store the envelopes of the chunks that are left is to
-- store all of them. `turn` splits off the envelope of a chunk of the name.
use Prim.Native.Nat.{◌-◌}
use lib.ListN.{length}
use mathlib.Core.Path.{◌≡◌}
use Rattle.laws.proofs.PutLaws.{Underway}
use Rattle.chunk.specs.Chunk.{items_from}
use Rattle.sheet_read.specs.Parts.{envelope_part}
use Rattle.sheet_read.proofs.part.put_envelopes.Given as goal

abbrev pub invariant-loop-chunk : goal.invariant-loop-chunk
invariant-loop-chunk l = Underway l.initial.d l.at (envelope_part l.id l.kind (items_from l.form 12)) l.d l.o (envelope_part l.id l.kind (items_from l.form l.p)) × (length l.d ≡ length l.initial.d)

abbrev pub decreases-loop-chunk : goal.decreases-loop-chunk
decreases-loop-chunk l = length l.form - l.p
