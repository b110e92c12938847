use mathlib.Core.Path.{◌≡◌, sym, ◌∙◌}
use Prim.Native.Nat.{◌+◌, ◌-◌}
use native.Mathlib.Omega.{arith}
use Rattle.std.specs.Prelude.{Ok}
use Rattle.crossing.specs.Crossing.{nearest_crossing}
use Rattle.crossing.proofs.SearchLaws.{found_after, found_none}
use Rattle.crossing.proofs.search_after.Goals as goal

pub returns-then-turns : goal.returns-then-turns
returns-then-turns c =
    let a = c.args in
    let d = c.loop-i.i - a.start in
    let here : a.start + d ≡ c.loop-i.i = omega arith in
    let told = rw c.is_below-below.ensures at c.turns.ensures in
    let found : nearest_crossing a.samples.now a.start a.reach ≡ Ok (a.start + d) =
    found_after c.loop-i.invariant a.reach (λ room. absurd (omega (arith, room))) (omega arith) (rw here (sym told ∙ c.if-turns.true))
    in
    sym (rw here at found)

pub returns : goal.returns
returns c = sym (found_none c.loop-i.invariant c.args.reach (omega arith) (omega arith))
