use Prim.Native.Nat.{◌+◌, ◌-◌}
use borrow.Author.Rules.{rules}
use mathlib.Core.Bool.{true}
use mathlib.Core.Path.{◌≡◌, sym, ◌∙◌}
use native.Mathlib.Omega.{arith}
use mir.Facts.{to_z-of_z}
use mir.Syntax.{w16}
use mir.Val.{SFits}
use Rattle.note_stage.specs.Block.{goes_on}
use Rattle.note_stage.proofs.StretchLaws.{stretch_one, stretching_none, stretching_more}
use Rattle.note_stage.proofs.step.play_step.Goals as goal

-- the test holds in a turn
goes : (t : goal.After-next_frame-h) →
    let a = t.args in
    goes_on (a.q + 1) a.ms a.end t.loop-stage.h ≡ true
goes t = sym t.goes_on.ensures ∙ t.loop-stage-test.true

-- a frame's values are 16-bit ones
fit : (s : goal.After-next_frame-h) → SFits w16 s.args.f.left × SFits w16 s.args.f.right
fit s = (search rules, search rules)

pub loop-stage-init : goal.loop-stage-init
loop-stage-init c = stretching_none _ _ _ _ _ _ _ _ c.requires.1

pub loop-stage-preserved : goal.loop-stage-preserved
loop-stage-preserved c =
    let next = c.next_frame-h.ensures in
    stretching_more _ _ _ _ _ _ _ _ c.loop-stage.invariant _ _
    (stretch_one _ _ _ _ _ _ _ _ _ _ _ _ c.loop-stage.invariant.stands (omega (arith, c.requires.1.first, c.loop-stage.invariant.begun)) (goes c)
    (to_z-of_z (fit c).0) (to_z-of_z (fit c).1) c.put_frame.ensures next.0 next.1)
