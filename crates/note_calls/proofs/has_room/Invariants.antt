-- `note_calls::has_room` meets its contract. The invariant: what is left of the room, for the calls that are left, decides as the whole.
use Prim.Native.Nat.{◌≤◌, ◌-◌}
use mathlib.Core.Path.{◌≡◌}
use lib.ListN.{length, drop}
use Rattle.note_calls.specs.Made.{room_for}
use Rattle.note_calls.proofs.has_room.Given as goal

abbrev pub invariant-loop-call : goal.invariant-loop-call
invariant-loop-call l = (l.call-index ≤ length l.calls) × (room_for (drop l.call-index l.calls) l.places_left l.answers_left ≡ room_for l.calls l.places l.answers)
