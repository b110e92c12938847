-- The record in hand is a member, or none is there, and what the laws of MemberLaws make of it.
use Prim.Native.Nat.{ℕ, ◌+◌, ◌-◌, ◌≤◌}
use lib.ListN.{length, take, drop}
use mathlib.Core.List.{List, ◌++◌}
use mathlib.Core.Path.{◌≡◌, ap, ◌∙◌}
use native.Mathlib.Omega.{arith}
use Rattle.laws.proofs.PutLaws.{Underway, underway_step, underway_room, underway_done}
use Rattle.laws.specs.Walk.{each}
use Rattle.sheet.proofs.RecordLaws.{Whole}
use Rattle.sheet.specs.Record.{records}
use Rattle.sheet_write.proofs.MemberLaws.{none_stopped, member_more, member_none}
use Rattle.sheet_write.proofs.StopLaws.{in_hand, stopped}
use Rattle.sheet_write.specs.RecordChunks.{members_after}
use Rattle.sheet_write.proofs.group.put_members.Goals as goal

-- the body in hand, and the members after it
turn : {s : List ℕ} {at k start next : ℕ} (m : ℕ) → Whole s at k start next → k ≡ m
    → members_after m (records (drop at s)) ≡ take (next - start) (drop start s) ++ members_after m (records (drop next s))
turn m w e = ap (each (λ b. b)) (member_more m w e)

-- the body in hand ends within the whole
room : {s d₀ all d : List ℕ} {at k start next at₀ o : ℕ} (m : ℕ) → Whole s at k start next → k ≡ m → Underway d₀ at₀ all d o (members_after m (records (drop at s)))
    → o + length (take (next - start) (drop start s)) ≤ at₀ + length all
room {s = s} {start = start} {next} m w e u = underway_room (take (next - start) (drop start s)) (members_after m (records (drop next s))) u (turn m w e)

pub returns : goal.returns
returns c =
    let end = stopped _ _ _ c.record_at.ensures c.unwrap_or.ensures c.in_default.is in
    underway_done c.loop-record.invariant.0 (ap (each (λ b. b)) (none_stopped c.args.member end))

pub returns-then-record-member : goal.returns-then-record-member
returns-then-record-member c =
    let w = in_hand c.record_at.ensures c.unwrap_or.ensures c.in-Some.is in
    underway_done c.loop-record.invariant.0 (ap (each (λ b. b)) (member_none _ w c.if-record-member.true))

pub slice_bounds-put_all-count : goal.slice_bounds-put_all-count
slice_bounds-put_all-count c = let w = in_hand c.record_at.ensures c.unwrap_or.ensures c.in-Some.is in omega arith

pub slice_bounds-put_all-start : goal.slice_bounds-put_all-start
slice_bounds-put_all-start c = let w = in_hand c.record_at.ensures c.unwrap_or.ensures c.in-Some.is in omega arith

pub slice_bounds-put_all-end : goal.slice_bounds-put_all-end
slice_bounds-put_all-end c = let w = in_hand c.record_at.ensures c.unwrap_or.ensures c.in-Some.is in omega arith

pub put_all-o-requires : goal.put_all-o-requires
put_all-o-requires c =
    let w = in_hand c.record_at.ensures c.unwrap_or.ensures c.in-Some.is in
    omega (arith, room c.args.member w c.if-record-member.false c.loop-record.invariant.0)

pub loop-record-smaller : goal.loop-record-smaller
loop-record-smaller c = let w = in_hand c.record_at.ensures c.unwrap_or.ensures c.in-Some.is in omega arith

pub loop-record-preserved : goal.loop-record-preserved
loop-record-preserved c =
    let w = in_hand c.record_at.ensures c.unwrap_or.ensures c.in-Some.is in
    let inv = c.loop-record.invariant in
    (underway_step _ inv.0 (turn c.args.member w c.if-record-member.false) c.put_all-o.ensures, c.put_all-o.auto.d ∙ inv.1)
