use Prim.Native.Nat.{ℕ, ◌+◌, ◌-◌, ◌/◌, ◌<◌, ◌^◌}
use mathlib.Core.Bool.{true}
use mathlib.Core.Path.{◌≡◌, refl, sym, ap, ◌∙◌}
use native.Mathlib.Omega.{arith}
use Rattle.note_stage.specs.Block.{run_frame, goes_on, StretchReady}
use Rattle.note_stage.proofs.PlayheadLaws.{place_small}
use Rattle.note_stage.proofs.StretchLaws.{in_block, in_steps, stretch_as, stretching_none, stretching_more, stretching_again}
use Rattle.note_stage.proofs.run.play_run.Goals as goal

-- the test holds in a turn
goes : (t : goal.After-out-1) →
    let a = t.args in
    goes_on a.r.until a.e.until a.end t.loop-g.h ≡ true
goes t = sym t.goes_on.ensures ∙ t.loop-g-test.true

-- the step of the frame: the run has it, and it is small
in_run : (t : goal.After-out-1) → t.loop-g.h.place / 65536 < t.args.r.until
in_run t = let a = t.args in in_steps a.r.until a.e.until a.end t.loop-g.h (goes t)

small : (t : goal.After-out-1) → t.loop-g.h.place / 65536 < 2 ^ 62
small t =
    let a = t.args in
    let ready = t.requires.2 in
    let before_end = in_block a.r.until a.e.until a.end t.loop-g.h (goes t) in
    omega (arith, place_small ready.timed t.loop-g.h.frame (omega (arith, before_end, ready.in_time)), t.loop-g.invariant.stands.place_is)

pub loop-g-init : goal.loop-g-init
loop-g-init c = stretching_none _ _ _ _ _ _ _ _ c.requires.2

-- the step's own frames may be written
ready : (t : goal.After-out-1) →
    let a = t.args in
    StretchReady a.stage (t.loop-g.h.place / 65536 + 1) a.e.until a.m a.end t.loop-g.h t.loop-g.out
ready t = stretching_again _ _ _ _ _ _ _ _ t.loop-g.invariant t.requires.2 _ (goes t) (omega arith)

pub loop-g-preserved : goal.loop-g-preserved
loop-g-preserved c =
    let a = c.args in
    let frame : ℕ → _ = run_frame a.g a.r a.e.now a.left.now a.right.now in
    stretching_more _ _ _ _ _ _ _ _ c.loop-g.invariant _ _
    (stretch_as c.step_frame-f.result _ a.stage a.r.until a.e.until a.m a.end (c.loop-g.h.place / 65536) _ _ _ _ (ready c) refl (in_run c)
    (λ p of. c.step_frame-f.ensures ∙ ap frame (sym of)) c.play_step-h.ensures)
