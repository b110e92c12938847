use Prim.Native.Nat.{◌-◌, ◌<◌, ◌^◌}
use borrow.Author.Rules.{rules}
use mathlib.Core.Path.{sym, ◌∙◌}
use native.Mathlib.Omega.{arith}
use mir.Facts.{to_z-of_z}
use mir.Syntax.{w32}
use mir.Val.{SFits}
use Rattle.note_envelope.proofs.CursorLaws.{stood}
use Rattle.note_stage.proofs.PlayheadLaws.{ms_small, ms_here}
use Rattle.note_stage.proofs.PlayLaws.{so_far_none, so_far_all, so_far_over, suits, begins, ready, so_far_more}
use Rattle.note_stage.proofs.play.Goals as goal

-- the stage's level, as the machine reads it back
level_fits : (s : goal.After-run_start-r) → SFits w32 s.args.stage.level
level_fits s = search rules

pub loop-h-init : goal.loop-h-init
loop-h-init c =
    let a = c.args in
    let follows = rw (to_z-of_z (level_fits c)) at c.cursor_at-e.ensures.0 in
    let head = c.playhead_at-h.ensures in
    let run = c.run_start-r.ensures in
    so_far_none a.g a.path a.stage a.points.now a.segments.now a.left.now a.right.now a.m a.d a.out.now
    _ _ _ head.0 head.1 follows run.0 run.1

-- the playhead is before the block's end
in_time : (c : goal.After-struct_known-in-loop-h-1) → c.loop-h.h.frame < 2 ^ 32
in_time c = omega (arith, c.requires.in_time, c.loop-h-test.true)

pub cursor_to-e-requires : goal.cursor_to-e-requires
cursor_to-e-requires c =
    let k = c.loop-h.invariant in
    (rw (ms_here k.stands) (stood k.level), ms_small k.stands c.requires.timed (in_time c))

pub returns-then-is_over : goal.returns-then-is_over
returns-then-is_over c =
    so_far_over _ _ _ _ _ _ _ _ _ _ c.requires c.loop-h.invariant _ _ c.cursor_to-e.ensures c.run_to-r.ensures
    (sym c.is_over.ensures ∙ c.if-is_over.true)

pub play_run-h-requires : goal.play_run-h-requires
play_run-h-requires c =
    let asked = c.requires in
    let k = c.loop-h.invariant in
    let moved = c.cursor_to-e.ensures in
    let reached = c.run_to-r.ensures in
    let goes = sym c.is_over.ensures ∙ c.if-is_over.false in (
      suits _ _ _ _ _ _ _ _ _ _ asked k _ _ moved reached goes,
      begins _ _ _ _ _ _ _ _ _ _ asked k _ _ moved reached goes,
      ready _ _ _ _ _ _ _ _ _ _ asked k _ _ moved reached goes c.loop-h-test.true,
    )

pub loop-h-preserved : goal.loop-h-preserved
loop-h-preserved c =
    so_far_more _ _ _ _ _ _ _ _ _ _ c.requires c.loop-h.invariant _ _ c.cursor_to-e.ensures c.run_to-r.ensures (sym c.is_over.ensures ∙ c.if-is_over.false) _ _ c.play_run-h.ensures

pub returns : goal.returns
returns c = so_far_all _ _ _ _ _ _ _ _ _ _ c.requires c.loop-h.invariant c.loop-h-test.false
