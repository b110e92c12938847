-- After i turns `out` holds the first i samples, and from x, the last of i draws, come those that are left.
use mathlib.Core.Path.{◌≡◌}
use mathlib.Core.List.{◌++◌}
use Prim.Native.Nat.{◌-◌}
use lib.ListN.{take, drop}
use Rattle.drawn.specs.Draw.{nth_draw}
use Rattle.drawn.specs.DrawnVoice.{drawn_samples}
use Rattle.drawn.proofs.draw.put_samples.Given as goal

abbrev pub invariant-loop-i : goal.invariant-loop-i
invariant-loop-i l =
    (l.out ≡ take l.i (drawn_samples l.n l.number) ++ drop l.i l.initial.out)
    × (drop l.i (drawn_samples l.n l.number) ≡ drawn_samples (l.n - l.i) l.x)
    × (nth_draw (l.n - l.i) l.x ≡ nth_draw l.n l.number)
