-- A point that has ended sets the level and takes its time off what is left; the first that has not is on the way.
use mathlib.Core.Path.{◌≡◌, sym, ap, ◌∙◌}
use borrow.Author.Rules.{rules}
use Prim.Native.Nat.{ℕ, ◌<◌, ◌≤◌}
use lib.IntN.{ℤ}
use mathlib.Core.List.{List}
use mir.Syntax.{w32}
use mir.Val.{SFits, to_z, of_z}
use mir.Facts.{to_z-of_z}
use native.Mathlib.Omega.{arith}
use Rattle.laws.proofs.Signed.{back}
use Rattle.small_chunks.specs.Envelope.{envelope_points}
use Rattle.small_chunks.specs.declared.points.EgPoint.{EgPoint}
use Rattle.envelope.specs.Envelope.{level_at}
use Rattle.envelope.proofs.LevelLaws.{passed, on_way, none_left}
use Rattle.envelope.proofs.level_at_ms.Goals as goal

-- the start, as the machine reads it back
start_is : (points : List EgPoint) (start : ℤ) (t : ℕ) → SFits w32 start → level_at points (to_z w32 (of_z w32 start)) t ≡ level_at points start t
start_is points start t f = ap (λ (z : ℤ). level_at points z t) (to_z-of_z f)

pub returns-then-left-duration : goal.returns-then-left-duration
returns-then-left-duration c =
    let p = c.read_point-p.result in
    let next = c.in-Some.ensures.steps.1 in
    let dest_is : to_z w32 (of_z w32 c.read_point-p.result.dest) ≡ c.read_point-p.result.dest = to_z-of_z {w = w32} (search rules) in
    let before : c.loop-point.left < c.read_point-p.result.duration_ms = omega (arith, c.from-duration.ensures, c.if-left-duration.true) in
    back w32 c.on_the_way.type_inv
    ∙ rw dest_is at c.on_the_way.ensures
    ∙ sym (on_way p _ _ _ c.read_point-p.ensures next.0 (next.1 ∙ c.loop-point.invariant.1) (to_z w32 c.loop-point.level-bits) c.loop-point.left before)
    ∙ c.loop-point.invariant.0
    ∙ start_is (envelope_points c.args.points.now) c.args.start c.args.t_ms c.ranges.start

pub loop-point-preserved : goal.loop-point-preserved
loop-point-preserved c =
    let p = c.read_point-p.result in
    let steps = c.in-Some.ensures.steps in
    let dest_is : to_z w32 (of_z w32 c.read_point-p.result.dest) ≡ c.read_point-p.result.dest = to_z-of_z {w = w32} (search rules) in
    let ended : c.read_point-p.result.duration_ms ≤ c.loop-point.left = omega (arith, c.from-duration.ensures, c.if-left-duration.false) in
    let past = passed p _ _ _ c.read_point-p.ensures steps.1.0 (steps.1.1 ∙ c.loop-point.invariant.1) (to_z w32 c.loop-point.level-bits) c.loop-point.left ended in
    (rw (dest_is, c.from-duration.ensures) (sym past ∙ c.loop-point.invariant.0), steps.0 ∙ c.loop-point.invariant.1)

pub returns : goal.returns
returns c =
    let short = c.in-None.ensures.steps.1.0 in
    let none = none_left _ (omega (arith, short, c.loop-point.invariant.1)) (to_z w32 c.loop-point.level-bits) c.loop-point.left in
    sym none ∙ c.loop-point.invariant.0 ∙ start_is (envelope_points c.args.points.now) c.args.start c.args.t_ms c.ranges.start
