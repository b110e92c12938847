-- The first sample is byte 1, and a turn stores the byte of the sample that it has and reads the next one.
use mathlib.Core.Path.{refl, sym, ap, ◌∙◌}
use Prim.Native.Nat.{◌<◌}
use native.Mathlib.Omega.{arith}
use lib.IntN.{pos}
use lib.ListN.{length, take}
use lib.Seq.{get_or-take, length-take-le}
use mir.Syntax.{w8}
use Rattle.laws.proofs.Prefix.{prefix_map}
use Rattle.laws.proofs.Signed.{back}
use Rattle.field.specs.Signed.{byte_of}
use Rattle.fibonacci.specs.Decode.{fib_samples}
use Rattle.body_decode.proofs.NibbleLaws.{sample_first, sample_after}
use Rattle.body_decode.proofs.copy_fibonacci.Goals as goal

pub loop-i-init : goal.loop-i-init
loop-i-init c =
    let first = back w8 c.sample_of_byte-prev.type_inv ∙ c.sample_of_byte-prev.ensures in
    (refl, (λ _. first ∙ sym (sample_first c.args.body.now)))

pub loop-i-preserved : goal.loop-i-preserved
loop-i-preserved c =
    let l = c.loop-i in
    let a = c.args in
    let all = fib_samples a.body.now in
    let here = l.invariant.1 (omega arith) in
    let within : l.i < length (take a.n all) = rw (length-take-le a.n all (omega arith)) (omega arith) in (
      prefix_map byte_of (take a.n all) a.out.now l.out l.i (pos 0) _ within (omega arith) l.invariant.0
          (c.byte_of_sample.ensures ∙ ap byte_of (here ∙ sym (get_or-take a.n all l.i (pos 0) (omega arith)))),
      sample_after a.body.now _ _ l.i l.invariant.1 (back w8 c.next_sample-prev.type_inv ∙ c.next_sample-prev.ensures),
    )
