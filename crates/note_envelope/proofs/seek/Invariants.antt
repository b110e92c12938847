-- `note_envelope::seek` meets its contract. The invariant is `Passed`: from t on the place stands for the same levels as the place where
-- the loop began; and the point in hand is the next one from that place on.
use Prim.Native.Nat.{◌-◌}
use lib.ListN.{length}
use mathlib.Core.Path.{◌≡◌}
use Rattle.sheet_layout.specs.Members.{next_member}
use Rattle.note_envelope.proofs.CursorLaws.{Passed}
use Rattle.note_envelope.proofs.seek.Given as goal

abbrev pub invariant-loop-here : goal.invariant-loop-here
invariant-loop-here l = Passed l.part l.t l.initial.at l.initial.before l.initial.level l.at l.before l.level × (l.here ≡ next_member 6 l.at l.part)

abbrev pub decreases-loop-here : goal.decreases-loop-here
decreases-loop-here l = length l.part - l.at
