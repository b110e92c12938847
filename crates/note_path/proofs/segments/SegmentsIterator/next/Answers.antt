-- A member's body is read as a segment, and those past it are left; where no member follows none is left.
use mathlib.Core.Path.{refl, sym, ◌∙◌}
use native.Mathlib.Omega.{arith}
use Prim.Native.Nat.{◌+◌, ◌≤◌}
use lib.ListN.{length, drop}
use Rattle.sheet_layout.specs.Members.{Whole}
use Rattle.sheet_layout.proofs.NextLaws.{member_long, member_whole}
use Rattle.note_path.proofs.SegmentLaws.{segments_end, segment_here}
use Rattle.note_path.proofs.segments.SegmentsIterator.next.Goals as goal

pub returns-in_err-at-clause-steps : goal.returns-in_err-at-clause-steps
returns-in_err-at-clause-steps c =
    let none = segments_end c.args.self.now.part.now _ (sym c.next_member.ensures ∙ c.in_err-at.was) in
    rw c.from_residual.ensures (none, refl)

pub read_segment-requires : goal.read_segment-requires
read_segment-requires c = omega (arith, member_long 8 8 c.args.self.now.part.now _ (sym c.next_member.ensures ∙ c.in_ok-at.was) c.requires.1)

pub returns-clause-steps : goal.returns-clause-steps
returns-clause-steps c = (segment_here c.args.self.now.part.now _ (sym c.next_member.ensures ∙ c.in_ok-at.was) ∙ rw (← c.read_segment.ensures), refl)

pub returns-clause-goes : goal.returns-clause-goes
returns-clause-goes c =
    let part = c.args.self.now.part.now in
    let e = sym c.next_member.ensures ∙ c.in_ok-at.was in
    let past = c.in_ok-at.at + 9 in
    let can : (past ≤ length part) × Whole 8 8 (drop past part) = (member_long 8 8 part _ e c.requires.1, member_whole 8 8 part _ e c.requires.1) in
    record { on = λ u. (can, tt, rw (segment_here part _ e) (omega arith)); keeps = can; rests = λ u. tt }
