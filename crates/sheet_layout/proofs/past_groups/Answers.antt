use mathlib.Core.Path.{◌∙◌}
use native.Mathlib.Omega.{arith}
use Rattle.sheet_layout.proofs.StretchLaws.{starts_past, starts_own, starts_other, run_open, run_member, run_end}
use Rattle.sheet_layout.proofs.past_groups.Goals as goal

pub loop-kind-preserved-then-kind-opens : goal.loop-kind-preserved-then-kind-opens
loop-kind-preserved-then-kind-opens c =
    let a = c.args in
    let l = c.loop-kind in
    let read = c.in-Some.ensures.lookup in
    run_open a.sheet.now l.i a.opens a.member a.n (starts_own a.sheet.now l.i read.0 read.1 a.opens c.if-kind-opens.true) ∙ l.invariant

pub loop-kind-preserved : goal.loop-kind-preserved
loop-kind-preserved c =
    let a = c.args in
    let l = c.loop-kind in
    let read = c.in-Some.ensures.lookup in
    run_member a.sheet.now l.i a.opens a.member a.n (omega arith)
    (starts_other a.sheet.now l.i read.0 read.1 a.opens c.if-kind-opens.false)
    (starts_own a.sheet.now l.i read.0 read.1 a.member c.if-kind-member.true)
    ∙ l.invariant

pub returns-else-kind-member : goal.returns-else-kind-member
returns-else-kind-member c =
    let a = c.args in
    let l = c.loop-kind in
    let read = c.in-Some.ensures.lookup in
    run_end a.sheet.now l.i a.opens a.member a.n
    (starts_other a.sheet.now l.i read.0 read.1 a.opens c.if-kind-opens.false)
    (starts_other a.sheet.now l.i read.0 read.1 a.member c.if-kind-member.false)
    ∙ l.invariant

pub returns-in_default : goal.returns-in_default
returns-in_default c =
    let a = c.args in
    let l = c.loop-kind in
    let past = c.in_default.ensures.lookup in
    run_end a.sheet.now l.i a.opens a.member a.n
    (starts_past a.sheet.now l.i a.opens (omega (arith, past)))
    (starts_past a.sheet.now l.i a.member (omega (arith, past)))
    ∙ l.invariant
