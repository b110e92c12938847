-- With a fade the step lies on the path, so neither difference wraps and the factor is at most the divisor.
use mathlib.Core.Path.{◌∙◌}
use borrow.Author.Tests.{le-leb, lt-leb}
use mir.Syntax.{w32}
use mir.Facts.{to_z-of_z}
use Rattle.laws.proofs.Signed.{back}
use Rattle.note_frame.specs.Gains.{faded_with}
use Rattle.note_frame.proofs.chain.fade_by.Goals as goal
use Rattle.note_frame.proofs.chain.fade_by.Goals.{else-g-via-then-g+else-g-q, else-g-via-else-g}

pub returns-then-g-q : goal.returns-then-g-q
unfolding faded_with
returns-then-g-q c =
    back w32 c.scaled.type_inv
    ∙ c.scaled.ensures
    ∙ rw (c.if-g.true, le-leb c.args.g.fade_start c.args.q c.if-g-q.true, to_z-of_z c.ranges.x)

pub returns : goal.returns
unfolding faded_with
returns c =
    elim c.else-g.branch [
      | else-g-via-then-g+else-g-q w ↦ rw (w.if-g.true, lt-leb c.args.g.fade_start c.args.q w.if-g-q.false) (to_z-of_z c.ranges.x)
      | else-g-via-else-g w ↦ rw w.if-g.false (to_z-of_z c.ranges.x)
    ]
