-- `note_rules::note_rule::speed_refusal` meets its contract: at each `return` the tests that led there are the rules' own.
use Prim.Native.Nat.{ℕ, ◌≤◌}
use mathlib.Core.Path.{◌≡◌, sym, ◌∙◌}
use Rattle.note_rules.specs.Rules.{speed_rules}
use Rattle.refusal.proofs.RuleLaws.{Passed, first_here, first_later, first_none}
use Rattle.note_rules.proofs.RuleLaws.{outside_most, within_most}
use Rattle.note_rules.proofs.note_rule.speed_refusal.Goals as goal

step_passed : (step rate : ℕ) → (step ≡ 0 → ⊥) → step ≤ 16777216 → Passed 1 (speed_rules step rate)
step_passed step rate some small = first_later _ _ (within_most step 16777216 some small)

pub returns-then-step-eq0 : goal.returns-then-step-eq0
returns-then-step-eq0 c = sym (first_here _ _ (outside_most c.args.step 16777216 c.then-step-eq0.either))

pub returns-then-rate-eq0 : goal.returns-then-rate-eq0
returns-then-rate-eq0 c =
    let a = c.args in
    sym (step_passed a.step a.rate c.if-step-eq0.false c.if-step-gt16777216.false ∙ first_here _ _ (outside_most a.rate 192000 c.then-rate-eq0.either))

pub returns : goal.returns
returns c =
    let a = c.args in
    sym (step_passed a.step a.rate c.if-step-eq0.false c.if-step-gt16777216.false ∙ first_later _ _ (within_most a.rate 192000 c.if-rate-eq0.false c.if-rate-gt192000.false) ∙ first_none)
