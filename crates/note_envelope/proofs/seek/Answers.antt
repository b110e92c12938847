use borrow.Author.Rules.{rules}
use mathlib.Core.Path.{sym, ap, ◌∙◌}
use mir.Syntax.{w32}
use mir.Val.{to_z, of_z}
use mir.Facts.{to_z-of_z}
use native.Mathlib.Omega.{arith}
use Rattle.laws.proofs.Signed.{back}
use Rattle.small_chunks.specs.Pan.{held_to_unity}
use Rattle.note_envelope.proofs.CursorLaws.{passed_none, passed_more, point_long, point_after, stopped_way, stopped_rest}
use Rattle.note_envelope.proofs.seek.Goals as goal

pub loop-here-init : goal.loop-here-init
loop-here-init c = let e = c.args.e in (passed_none c.args.part.now e c.args.t (to_z w32 (of_z w32 e.level)) c.requires.0, c.next_member-here.ensures)

pub read_point-p-requires : goal.read_point-p-requires
read_point-p-requires c = omega (arith, point_long c.loop-here.invariant.0 (sym c.loop-here.invariant.1 ∙ c.in-Some.is))

pub returns-then-into-duration : goal.returns-then-into-duration
returns-then-into-duration c =
    let a = c.args in
    let l = c.loop-here in
    let dest = to_z w32 (of_z w32 c.read_point-p.result.dest) in
    stopped_way a.part.now a.e a.t l.at l.before (to_z w32 l.level-bits) c.held_to_unity.result
    (search rules) l.invariant.0 (sym l.invariant.1 ∙ c.in-Some.is) c.read_point-p.result dest
    c.read_point-p.ensures (to_z-of_z {w = w32} (search rules)) c.if-into-duration.true
    (c.held_to_unity.ensures ∙ ap held_to_unity (back w32 c.on_the_way.type_inv ∙ c.on_the_way.ensures))

pub next_member-here-requires-in-Some : goal.next_member-here-requires-in-Some
next_member-here-requires-in-Some c = omega (arith, point_long c.loop-here.invariant.0 (sym c.loop-here.invariant.1 ∙ c.in-Some.is))

pub loop-here-preserved : goal.loop-here-preserved
loop-here-preserved c =
    let l = c.loop-here in
    let dest = to_z w32 (of_z w32 c.read_point-p.result.dest) in (
      passed_more l.invariant.0 (sym l.invariant.1 ∙ c.in-Some.is) c.read_point-p.result dest
          c.read_point-p.ensures (to_z-of_z {w = w32} (search rules)) c.if-into-duration.false,
      c.next_member-here-in-Some.ensures,
    )

pub loop-here-smaller : goal.loop-here-smaller
loop-here-smaller c =
    let l = c.loop-here in
    let here = sym l.invariant.1 ∙ c.in-Some.is in
    omega (arith, point_long l.invariant.0 here, point_after l.invariant.0 here)

pub returns : goal.returns
returns c =
    let a = c.args in
    let l = c.loop-here in
    stopped_rest a.part.now a.e a.t l.at l.before (to_z w32 l.level-bits) c.held_to_unity-2.result
    (search rules) l.invariant.0 _ (omega arith) (sym l.invariant.1 ∙ c.in_default.is) c.held_to_unity-2.ensures
