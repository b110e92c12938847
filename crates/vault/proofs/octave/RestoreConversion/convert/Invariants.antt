-- After i turns `out` holds the first 2 i samples, and from `before`, the last of them, and the values that are left come the samples that are left.
use mathlib.Core.Path.{◌≡◌}
use mathlib.Core.List.{◌++◌}
use Prim.Native.Nat.{◌+◌, ◌<◌}
use lib.IntN.{pos}
use lib.ListN.{take, drop, get_or}
use mir.Syntax.{w8}
use mir.Val.{SFits}
use Rattle.laws.specs.Turns.{by_turns}
use Rattle.vault.specs.DifferenceOrder.{added_to}
use Rattle.vault.proofs.octave.RestoreConversion.convert.Given as goal

abbrev pub invariant-loop-i : goal.invariant-loop-i
invariant-loop-i l =
    let values = by_turns l.evens l.odds in
    (l.out ≡ take (l.i + l.i) (added_to (pos 0) values) ++ drop (l.i + l.i) l.initial.out)
    × (added_to l.before (drop (l.i + l.i) values) ≡ drop (l.i + l.i) (added_to (pos 0) values))
    × (0 < l.i → SFits w8 (get_or values 0 (pos 0)))
