use mathlib.Core.Path.{refl}
use Rattle.note_path.proofs.AheadLaws.{rest_of, rest_past, rest_found, rest_end}
use Rattle.note_path.proofs.run.next_run.Goals as goal

pub loop-s-init : goal.loop-s-init
loop-s-init c = rest_of c.requires.1 c.requires.3 c.requires.2

pub returns-then-q-past : goal.returns-then-q-past
returns-then-q-past c =
    rest_found c.loop-s.invariant _ _ c.in-Some.ensures.steps _ refl c.in-Some.ensures.goes.keeps c.if-q-past.true

pub loop-s-preserved : goal.loop-s-preserved
loop-s-preserved c =
    rest_past c.loop-s.invariant _ _ c.in-Some.ensures.steps _ refl c.in-Some.ensures.goes.keeps c.if-q-past.false

pub returns : goal.returns
returns c =
    let past = c.in_default.ensures.steps in
    rw past.1 (rest_end c.loop-s.invariant c.requires.0 past.0)
