-- The record in hand is a member, or none is there, and what the laws of MemberLaws make of it.
use lib.ListN.{length}
use mathlib.Core.Path.{ap}
use native.Mathlib.Omega.{arith}
use Rattle.sheet_write.proofs.MemberLaws.{none_stopped, member_more, member_none}
use Rattle.sheet_write.proofs.StopLaws.{in_hand, stopped}
use Rattle.sheet_write.proofs.group.member_count.Goals as goal

pub returns : goal.returns
returns c =
    let end = stopped _ _ _ c.record_at.ensures c.unwrap_or.ensures c.in_default.is in
    omega (arith, c.loop-record.invariant.0, ap length (none_stopped c.args.member end))

pub returns-then-record-member : goal.returns-then-record-member
returns-then-record-member c =
    let w = in_hand c.record_at.ensures c.unwrap_or.ensures c.in-Some.is in
    omega (arith, c.loop-record.invariant.0, ap length (member_none _ w c.if-record-member.true))

pub overflow_add-m : goal.overflow_add-m
overflow_add-m c =
    let w = in_hand c.record_at.ensures c.unwrap_or.ensures c.in-Some.is in
    omega (arith, c.loop-record.invariant.1)

pub loop-record-smaller : goal.loop-record-smaller
loop-record-smaller c = let w = in_hand c.record_at.ensures c.unwrap_or.ensures c.in-Some.is in omega arith

pub loop-record-preserved : goal.loop-record-preserved
loop-record-preserved c =
    let w = in_hand c.record_at.ensures c.unwrap_or.ensures c.in-Some.is in
    let inv = c.loop-record.invariant in
    (omega (arith, inv.0, ap length (member_more _ w c.if-record-member.false)), omega (arith, inv.1))
