-- One row of the definition for each way out: a channel by the contract of `is_channel`, a text's key by its bounds.
use Prim.Native.Nat.{ℕ, ◌<◌}
use borrow.Author.Tests.{ltb-true, ltb-false, lt-ltb, le-ltb, ne_eqb}
use lib.Dec.{ltb}
use mathlib.Core.Bool.{Bool, true, false, not, or-false}
use mathlib.Core.Path.{◌≡◌, refl, sym}
use native.Mathlib.Omega.{arith}
use Rattle.sheet.specs.Order.{value_wrong}
use Rattle.sheet.proofs.judge.is_value_wrong.Goals as goal

-- above 5 is not below 6
above_five : (v : ℕ) → ltb 5 v ≡ not (ltb v 6)
above_five v = go (ltb v 6) refl
  where
    go : (u : Bool) → ltb v 6 ≡ u → ltb 5 v ≡ not u
    go true e = le-ltb 5 v (omega (arith, ltb-true v 6 e))
    go false e = lt-ltb 5 v (omega (arith, ltb-false v 6 e))

pub returns-then-kind-eq2 : goal.returns-then-kind-eq2
unfolding value_wrong
returns-then-kind-eq2 c = rw (c.if-kind-eq2.true, c.is_channel.ensures) (sym (or-false _))

pub returns-then-value-eq0 : goal.returns-then-value-eq0
unfolding value_wrong
returns-then-value-eq0 c = rw (c.if-kind-eq10.true, c.if-value-eq0.true)

pub returns-else-value-eq0 : goal.returns-else-value-eq0
unfolding value_wrong
returns-else-value-eq0 c = let v = c.args.value in let h : 0 < v = omega arith in rw (c.if-kind-eq10.true, lt-ltb 0 v h) (above_five v)

pub returns : goal.returns
unfolding value_wrong
returns c = rw (ne_eqb _ _ c.if-kind-eq2.false, ne_eqb _ _ c.if-kind-eq10.false)
