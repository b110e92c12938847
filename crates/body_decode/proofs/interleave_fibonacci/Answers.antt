-- The first samples are byte 1 of either side, and a turn stores the bytes of the two samples that it has and reads the next ones.
use mathlib.Core.Path.{refl, sym, ap, ◌∙◌}
use Prim.Native.Nat.{◌+◌}
use native.Mathlib.Omega.{arith}
use mir.Syntax.{w8}
use Rattle.laws.proofs.Prefix.{prefix_whole}
use Rattle.laws.proofs.Signed.{back}
use Rattle.field.specs.Signed.{byte_of}
use Rattle.fibonacci.specs.Decode.{fib_samples}
use Rattle.laws.specs.Turns.{by_turns}
use Rattle.body_decode.specs.Body.{frame_bytes}
use Rattle.body_decode.proofs.BodyLaws.{frame_length, frame_at}
use Rattle.body_decode.proofs.NibbleLaws.{sample_first, sample_after}
use Rattle.laws.proofs.TurnLaws.{by_turns_length, turn_stored}
use Rattle.body_decode.proofs.interleave_fibonacci.Goals as goal

pub loop-i-init : goal.loop-i-init
loop-i-init c =
    let left_first = back w8 c.sample_of_byte-a.type_inv ∙ c.sample_of_byte-a.ensures in
    let right_first = back w8 c.sample_of_byte-b.type_inv ∙ c.sample_of_byte-b.ensures in
    (refl, (λ _. left_first ∙ sym (sample_first c.args.left.now)), (λ _. right_first ∙ sym (sample_first c.args.right.now)))

pub loop-i-preserved : goal.loop-i-preserved
loop-i-preserved c =
    let l = c.loop-i in
    let a = c.args in
    let ls = fib_samples a.left.now in
    let rs = fib_samples a.right.now in
    let left_here = l.invariant.1 (omega arith) in
    let right_here = l.invariant.2 (omega arith) in (
      turn_stored (frame_bytes a.n ls) (frame_bytes a.n rs) a.out.now l.out l.i 0 _ _
          (rw (frame_length a.n ls (omega arith)) (omega arith))
          (rw (frame_length a.n rs (omega arith)) (omega arith))
          (omega arith) l.invariant.0
          (c.byte_of_sample.ensures ∙ ap byte_of left_here ∙ sym (frame_at a.n ls l.i (omega arith) (omega arith)))
          (c.byte_of_sample-in-loop-i.ensures ∙ ap byte_of right_here ∙ sym (frame_at a.n rs l.i (omega arith) (omega arith))),
      sample_after a.left.now _ _ l.i l.invariant.1 (back w8 c.next_sample-a.type_inv ∙ c.next_sample-a.ensures),
      sample_after a.right.now _ _ l.i l.invariant.2 (back w8 c.next_sample-b.type_inv ∙ c.next_sample-b.ensures),
    )

pub returns : goal.returns
returns c =
    let l = c.loop-i in
    let a = c.args in
    let ls = fib_samples a.left.now in
    let rs = fib_samples a.right.now in
    let long = by_turns_length (frame_bytes a.n ls) (frame_bytes a.n rs) a.n (frame_length a.n ls (omega arith)) (frame_length a.n rs (omega arith)) in
    l.invariant.0 ∙ prefix_whole (by_turns (frame_bytes a.n ls) (frame_bytes a.n rs)) a.out.now (l.i + l.i) (omega (arith, long))
