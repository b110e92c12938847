use mathlib.Core.Path.{sym, ◌∙◌}
use native.Mathlib.Omega.{arith}
use Rattle.crossing.proofs.SearchLaws.{found_before, found_after}
use Rattle.crossing.proofs.search.Goals as goal

pub returns-then-turns_before : goal.returns-then-turns_before
returns-then-turns_before c =
    let told = rw c.is_below-below.ensures at c.turns-turns_before.ensures in
    sym (found_before c.loop-d.invariant c.args.reach (omega arith) (sym told ∙ c.if-turns_before.true))

pub returns-then-turns_after : goal.returns-then-turns_after
returns-then-turns_after c =
    let side = c.is_below-below.ensures in
    let not_before = sym (rw side at c.turns-turns_before.ensures) ∙ c.if-turns_before.false in
    sym (found_after c.loop-d.invariant c.args.reach (λ _. not_before) (omega arith) (sym (rw side at c.turns-turns_after.ensures) ∙ c.if-turns_after.true))
