-- The part between the two places, by the laws of PlaceLaws.
use Prim.Native.Nat.{ℕ, ◌+◌}
use mathlib.Core.Path.{ap, ◌∙◌}
use native.Mathlib.Nat.{add_comm}
use Rattle.text.proofs.PlaceLaws.{part_is, part_start}
use Rattle.text.proofs.part.trimmed.Goals as goal

pub returns-clause-contents : goal.returns-clause-contents
returns-clause-contents c = part_is c.args.s.now _ c.text_start-from.ensures.0 _ c.text_end-end.ensures.0

pub returns-clause-place : goal.returns-clause-place
returns-clause-place c =
    let s = c.args.s in
    let from = c.text_start-from.result in
    let start = c.text_start-from.ensures in
    let moved = add_comm from s.ref_ptr.1 ∙ ap (λ (k : ℕ). s.ref_ptr.1 + k) (part_start s.now from start.0 start.1) in
    ap (λ (k : ℕ). (s.ref_ptr.0, k)) moved
