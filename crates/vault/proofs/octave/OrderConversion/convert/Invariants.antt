-- After i turns each part holds its first i values, and from `before` and the samples that are left come the differences that are left.
use mathlib.Core.Path.{◌≡◌}
use mathlib.Core.List.{List, ◌++◌}
use Prim.Native.Nat.{◌+◌, ◌<◌}
use lib.IntN.{ℤ, pos}
use lib.ListN.{take, drop, get_or}
use mir.Syntax.{w8}
use mir.Val.{SFits}
use Rattle.laws.specs.Turns.{evens, odds}
use Rattle.vault.specs.DifferenceOrder.{less_before}
use Rattle.vault.proofs.octave.OrderConversion.convert.Given as goal

-- the values in their order, before they are parted
abbrev values : List ℤ → List ℤ
values samples = less_before (pos 0) samples

abbrev pub invariant-loop-i : goal.invariant-loop-i
invariant-loop-i l =
    (l.evens ≡ take l.i (evens (values l.samples)) ++ drop l.i l.initial.evens)
    × (l.odds ≡ take l.i (odds (values l.samples)) ++ drop l.i l.initial.odds)
    × (less_before l.before (drop (l.i + l.i) l.samples) ≡ drop (l.i + l.i) (values l.samples))
    × (0 < l.i → SFits w8 (get_or l.samples 0 (pos 0)))
