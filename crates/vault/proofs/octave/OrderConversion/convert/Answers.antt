-- A turn stores one difference in each part, the last sample of an odd number stores one more, and then both parts are whole.
use mathlib.Core.Path.{◌≡◌, sym, ap, ◌∙◌}
use mathlib.Core.List.{[], ◌∷◌}
use Prim.Native.Nat.{◌+◌, ◌*◌, ◌/◌, ◌<◌}
use native.Mathlib.Omega.{arith}
use borrow.Author.Rules.{rules}
use lib.IntN.{pos}
use lib.ListN.{length, drop, get_or}
use lib.Signed.{mag}
use mir.Syntax.{w8}
use mir.Val.{to_z}
use Rattle.laws.proofs.Signed.{back}
use Rattle.vault.proofs.OctaveLaws.{first_known, pair_at, sole_at, order_even, order_odd, order_left, order_last, order_ended}
use Rattle.vault.proofs.octave.OrderConversion.convert.Goals as goal

pub loop-i-preserved : goal.loop-i-preserved
loop-i-preserved c =
    let l = c.loop-i in
    let i = l.i in
    let samples = c.args.samples.now in
    let pair = get_or c.as_chunks.result.0.now i [] in
    let first_fits : mag (get_or pair 0 (pos 0)) < 128 = search rules in
    let second_fits : mag (get_or pair 1 (pos 0)) < 128 = search rules in
    let x_is = back w8 {z = get_or pair 0 (pos 0)} first_fits in
    let y_is = back w8 {z = get_or pair 1 (pos 0)} second_fits in
    let a_is = rw x_is at (back w8 c.sample_difference.type_inv ∙ c.sample_difference.ensures) in
    let b_is = rw (x_is, y_is) at (back w8 c.sample_difference-in-loop-i.type_inv ∙ c.sample_difference-in-loop-i.ensures) in
    let next = pair_at samples i pair (omega arith) (ap (λ p. get_or p i []) c.as_chunks.ensures.front) in
    let before = to_z w8 l.before-bits in (
      order_even samples i before l.invariant.2 _ _ _ _ a_is b_is next c.split_at_mut-evens.result.0.now l.evens l.invariant.0 (omega arith),
      order_odd samples i before l.invariant.2 _ _ _ _ a_is b_is next c.split_at_mut-evens.result.1.now l.odds l.invariant.1 (omega arith),
      rw y_is (order_left samples i before l.invariant.2 _ _ _ _ a_is b_is next),
      λ h. first_known samples _ i _ l.invariant.3 next (record { sfits = first_fits }),
    )

pub returns-else-pairs-evens : goal.returns-else-pairs-evens
returns-else-pairs-evens c =
    let l = c.loop-i in
    let samples = c.args.samples.now in
    let d = c.split_at_mut-evens.result.0.now in
    let e = c.split_at_mut-evens.result.1.now in
    order_ended samples d e l.evens l.odds l.i l.i (λ h. l.invariant.3 (omega arith)) (omega arith) (omega arith) (omega arith) (omega arith) l.invariant.0 l.invariant.1

pub returns-then-pairs-evens : goal.returns-then-pairs-evens
returns-then-pairs-evens c =
    let l = c.loop-i in
    let i = l.i in
    let samples = c.args.samples.now in
    let rest = c.as_chunks.result.1.now in
    let read : mag (get_or rest 0 (pos 0)) < 128 = search rules in
    let d = c.split_at_mut-evens.result.0.now in
    let e = c.split_at_mut-evens.result.1.now in
    let x_is = back w8 {z = get_or rest 0 (pos 0)} read in
    let a_is = rw x_is at (back w8 c.sample_difference-then-pairs-evens.type_inv ∙ c.sample_difference-then-pairs-evens.ensures) in
    let pairs : length c.as_chunks.result.0.now ≡ i = omega arith in
    let next : drop (i + i) samples ≡ get_or rest 0 (pos 0) ∷ [] =
    let twice : length samples / 2 * 2 ≡ i + i = omega arith in
    rw twice at (sym c.as_chunks.ensures.back) ∙ sole_at rest (omega arith) in
    let last = order_last samples i (to_z w8 l.before-bits) l.invariant.2 _ _ a_is next d l.evens l.invariant.0 (omega arith) in
    order_ended samples d e _ l.odds (i + 1) i (λ h. first_known samples _ i _ l.invariant.3 next (record { sfits = read })) (omega arith) (omega arith) (omega arith) (omega arith) (rw pairs last) l.invariant.1
