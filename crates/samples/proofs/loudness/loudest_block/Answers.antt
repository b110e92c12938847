use Prim.Native.Nat.{◌+◌, ◌≤◌}
use mathlib.Core.List.{◌++◌}
use mathlib.Core.Path.{◌≡◌, refl, sym, ap, ◌∙◌}
use native.Mathlib.Omega.{arith}
use lib.ListN.{length, take, drop}
use Rattle.std.specs.Slice.Iter.{chunks_rest}
use Rattle.samples.specs.Peak.{loudest, first_with}
use Rattle.samples.specs.declared.loudness.LoudestBlock.{LoudestBlock}
use Rattle.samples.proofs.PeakLaws.{part_inside, left_past, loudest_part, first_no_earlier, first_in_part}
use Rattle.samples.proofs.loudness.loudest_block.Goals as goal
use Rattle.samples.proofs.loudness.loudest_block.Goals.{then-best-magnitude, else-best-magnitude}

pub loop-block-init : goal.loop-block-init
unfolding loudest first_with
loop-block-init c =
    let same = c.into_iter-block-iterator.ensures.into_iter_gives in
    (omega arith, rw same c.chunks-block-items.ensures.rest, rw same c.chunks-block-items.ensures.size, refl, omega arith, omega arith)

pub loop-block-preserved : goal.loop-block-preserved
loop-block-preserved c =
    let xs = c.args.samples.now in
    let s = c.loop-block in
    let part = c.in-Some.block.now in
    let rest = chunks_rest c.next.new.self in
    let step = c.in-Some.ensures.steps in
    let next : drop s.start xs ≡ part ++ rest = sym s.invariant.1 ∙ step.1.0 in
    let inside : s.start ≤ length xs = s.invariant.0 in
    let whole = loudest_part xs part rest s.start inside next in
    let held = part_inside xs part rest s.start inside next in
    let past = left_past xs part rest s.start inside next in
    elim c.if-best-magnitude.branch [
      | then-best-magnitude w ↦
          let magnitude_is = ap (λ (b : LoudestBlock). b.magnitude) w.best-is in
          let start_is = ap (λ (b : LoudestBlock). b.start) w.best-is in
          let largest : c.largest_magnitude-magnitude.result ≡ loudest (take (s.start + length part) xs) = omega (arith, whole, w.if-best-magnitude.true) in
          let first = first_in_part xs part rest s.start inside next c.largest_magnitude-magnitude.result (omega (arith, w.if-best-magnitude.true)) in
          (held, past, step.0 ∙ s.invariant.2, magnitude_is ∙ largest, rw (magnitude_is, start_is) first, omega (arith, start_is))
      | else-best-magnitude w ↦
          let magnitude_is = ap (λ (b : LoudestBlock). b.magnitude) w.best-is in
          let start_is = ap (λ (b : LoudestBlock). b.start) w.best-is in
          let largest : s.best.magnitude ≡ loudest (take (s.start + length part) xs) = omega (arith, whole, w.if-best-magnitude.false) in
          let later = first_no_earlier xs part rest s.start inside next s.best.magnitude in
          (held, past, step.0 ∙ s.invariant.2, magnitude_is ∙ largest, rw (magnitude_is, start_is) (omega (arith, later)), omega (arith, start_is))
    ]
