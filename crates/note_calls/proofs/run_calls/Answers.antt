-- The next call has room, it brings the calls under way one call further, and past the last all are made.
use borrow.Author.Rules.{rules}
use Rattle.body_read.specs.Sides.{Sides}
use Rattle.note_calls.proofs.UnderwayLaws.{calling_room, calling_step, calling_done}
use Rattle.note_calls.proofs.run_calls.Goals as goal

pub one_call-run-requires : goal.one_call-run-requires
one_call-run-requires c =
    let a = c.args in
    let s : Sides = record { left = a.left.now; right = a.right.now } in
    let o = c.loop-call in
    calling_room a.sheet.now s a.note a.calls.now a.out.now a.answers.now _ _ _ o.call-index o.invariant (search rules)

pub loop-call-preserved : goal.loop-call-preserved
loop-call-preserved c =
    let a = c.args in
    let s : Sides = record { left = a.left.now; right = a.right.now } in
    let o = c.loop-call in
    let e = c.one_call-run.ensures in
    calling_step a.sheet.now s a.note a.calls.now a.out.now a.answers.now _ _ _ o.call-index o.invariant (search rules) _ _ _ e.note e.blocks e.answers

pub returns : goal.returns
returns c =
    let a = c.args in
    let s : Sides = record { left = a.left.now; right = a.right.now } in
    let o = c.loop-call in
    let d = calling_done a.sheet.now s a.note a.calls.now a.out.now a.answers.now _ _ _ o.call-index o.invariant (search rules) in
    record { made = rw (d.note_is, d.at_is, d.count_is); blocks = d.out_is; answers = d.answers_is }
