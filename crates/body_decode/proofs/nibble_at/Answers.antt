-- `body_decode::nibble_at` meets its contract: nibble m lies in byte 2 + m / 2, the high one where m is even.
use Prim.Native.Nat.{◌+◌, ◌/◌}
use native.Mathlib.Omega.{arith}
use Rattle.body_decode.proofs.NibbleLaws.{nibble_past, nibble_even, nibble_odd}
use Rattle.body_decode.proofs.nibble_at.Goals as goal

pub returns-then-body-k : goal.returns-then-body-k
returns-then-body-k c = (omega arith, nibble_past c.args.body.now c.args.m c.if-body-k.true)

pub returns-then-m-eq0 : goal.returns-then-m-eq0
returns-then-m-eq0 c =
    let a = c.args in
    (omega (arith, c.type_inv.body (2 + a.m / 2)), nibble_even a.body.now a.m c.if-m-eq0.true)

pub returns-else-m-eq0 : goal.returns-else-m-eq0
returns-else-m-eq0 c =
    let a = c.args in
    (omega arith, nibble_odd a.body.now a.m c.if-m-eq0.false)
