-- `put_group` meets its contract: the head, the members, and the zero bytes with the pad. The size is the members' length, since
-- each has that of its kind.
use Prim.Native.Nat.{ℕ, ◌*◌, ◌^◌, ◌<◌}
use lib.ListN.{length, drop, length-drop}
use mathlib.Core.List.{List}
use mathlib.Core.Path.{◌≡◌, sym}
use native.Mathlib.Omega.{arith}
use Rattle.chunk.proofs.WriteLaws.{head_end}
use Rattle.sheet.specs.Read.{leading}
use Rattle.sheet.specs.Record.{records, body_length}
use Rattle.sheet_write.proofs.MemberLaws.{members_sized}
use Rattle.sheet_write.proofs.ZeroLaws.{chunk_zeros}
use Rattle.sheet_write.specs.RecordChunks.{members_after}
use Rattle.sheet_write.proofs.group.put_group.Goals as goal

-- the members' length, and that it is small
sized : (s : List ℕ) (from member m n : ℕ) → m ≡ length (leading member (records (drop from s))) → n ≡ body_length member → length s < 2 ^ 34
    → (m * n ≡ length (members_after member (records (drop from s)))) × (length (members_after member (records (drop from s))) < 2 ^ 34)
sized s from member m n counted long few =
    let h = members_sized member (drop from s) in
    (rw (counted, long) (sym h.total), omega (arith, h.inside, length-drop from s))

pub overflow_mul-size : goal.overflow_mul-size
overflow_mul-size c =
    let w = sized c.args.sheet.now c.args.from c.args.member _ _ c.member_count-m.ensures c.requires.0 c.requires.3 in
    omega (arith, w.0, w.1)

pub overflow_add-size : goal.overflow_add-size
overflow_add-size c =
    let w = sized c.args.sheet.now c.args.from c.args.member _ _ c.member_count-m.ensures c.requires.0 c.requires.3 in
    omega (arith, w.0, w.1)

pub put_members-p-requires : goal.put_members-p-requires
put_members-p-requires c =
    let w = sized c.args.sheet.now c.args.from c.args.member _ _ c.member_count-m.ensures c.requires.0 c.requires.3 in
    omega (arith, w.1, head_end _ _ c.put_head-o.ensures)

pub put_zeros-requires : goal.put_zeros-requires
put_zeros-requires c =
    let w = sized c.args.sheet.now c.args.from c.args.member _ _ c.member_count-m.ensures c.requires.0 c.requires.3 in
    (omega arith, omega (arith, w.1, head_end _ _ c.put_head-o.ensures, c.put_members-p.ensures.end))

pub returns : goal.returns
returns c =
    let w = sized c.args.sheet.now c.args.from c.args.member _ _ c.member_count-m.ensures c.requires.0 c.requires.3 in
    chunk_zeros _ _ _ (members_after c.args.member (records (drop c.args.from c.args.sheet.now))) (omega (arith, w.0)) c.put_head-o.ensures c.put_members-p.ensures c.put_zeros.ensures
