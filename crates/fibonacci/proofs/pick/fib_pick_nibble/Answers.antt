-- Near an end of the range by a look at all sixteen nibbles; else by the change alone, as no step wraps.
use mathlib.Core.Path.{◌≡◌, sym, ◌∙◌, ap}
use Prim.Native.Nat.{ℕ}
use lib.IntN.{ℤ, pos, ◌+ℤ◌, ◌-ℤ◌}
use lib.ListN.{get_or}
use mir.Syntax.{w8, w16}
use mir.Val.{to_z, of_z}
use mir.Facts.{to_z-of_z}
use borrow.Author.Rules.{rules}
use Rattle.laws.proofs.Signed.{zarith, known, back}
use Rattle.field.specs.Wrap.{to_sample}
use Rattle.fibonacci.specs.Step.{deltas, fib_step}
use Rattle.fibonacci.specs.Helpers.{nearest_step}
use Rattle.fibonacci.specs.declared.pick.NearestStep.{NearestStep}
use Rattle.fibonacci.specs.declared.pick.Picked.{Picked}
use Rattle.fibonacci.proofs.StepLaws.{step_sum}
use Rattle.fibonacci.proofs.PickLaws.{pick_below, pick_free}
use Rattle.fibonacci.proofs.pick.fib_pick_nibble.Goals as goal

pub fib_step-sample-requires : goal.fib_step-sample-requires
fib_step-sample-requires c = rw c.nearest_of_all-nibble.ensures (pick_below _ _)

-- the step that is nearest to the change
near_is : (c : goal.After-sample_sum-sample) → c.nearest_step-near.result ≡ nearest_step (c.args.target -ℤ c.args.prev)
near_is c =
    let change_is = back w16 c.difference.type_inv ∙ rw (to_z-of_z c.ranges.target, to_z-of_z c.ranges.prev) at c.difference.ensures in
    c.nearest_step-near.ensures ∙ ap nearest_step change_is

-- where it leads
sum_is : (c : goal.After-sample_sum-sample) → c.sample_sum-sample.result ≡ fib_step c.args.prev c.nearest_step-near.result.nibble
sum_is c =
    let near = c.nearest_step-near.result in
    let delta_is = back w8 {z = near.delta} (search rules) ∙ ap (λ (p : NearestStep). p.delta) (near_is c) ∙ ap (λ (p : NearestStep). get_or deltas p.nibble (pos 0)) (sym (near_is c)) in
    c.sample_sum-sample.ensures ∙ ap (λ (z : ℤ). to_sample (z +ℤ to_z w8 (of_z w8 near.delta))) (to_z-of_z c.ranges.prev) ∙ ap (λ (z : ℤ). to_sample (c.args.prev +ℤ z)) delta_is ∙ step_sum c.args.prev near.nibble

abbrev answer : ℕ → ℤ → Picked
answer nibble sample = record { nibble = nibble; sample = sample }

pub returns : goal.returns
returns c =
    let free = pick_free c.args.prev c.args.target (omega (zarith, known c.ranges.prev)) (omega (zarith, known c.ranges.prev)) in
    let nibble_is = ap (λ (p : NearestStep). p.nibble) (near_is c) ∙ free in
    ap (λ (z : ℤ). answer c.nearest_step-near.result.nibble z) (back w8 c.sample_sum-sample.type_inv ∙ sum_is c) ∙ ap (λ (k : ℕ). answer k (fib_step c.args.prev k)) nibble_is
