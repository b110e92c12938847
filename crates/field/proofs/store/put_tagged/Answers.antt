-- A turn stores the part that comes off the front of what is left.
use Rattle.std.proofs.Common.{◌∷◌, ◌∙◌, arith}
use Rattle.laws.proofs.PutLaws.{underway_step, underway_room, underway_done}
use Rattle.field.proofs.TaggedLaws.{tagged_front, tagged_end}
use Rattle.field.proofs.store.put_tagged.Goals as goal

pub put_record-o-requires : goal.put_record-o-requires
put_record-o-requires c =
    let next = c.in-Some.ensures.steps.1 in
    let turn = tagged_front c.args.tag c.args.n c.requires.0 _ _ _ next.0 (next.1 ∙ c.loop-part.invariant.1) in
    omega (arith, underway_room (c.args.tag ∷ c.in-Some.part.now) _ c.loop-part.invariant.0 turn)

pub loop-part-preserved : goal.loop-part-preserved
loop-part-preserved c =
    let steps = c.in-Some.ensures.steps in
    let turn = tagged_front c.args.tag c.args.n c.requires.0 _ _ _ steps.1.0 (steps.1.1 ∙ c.loop-part.invariant.1) in
    (underway_step _ c.loop-part.invariant.0 turn c.put_record-o.ensures, steps.0 ∙ c.loop-part.invariant.1)

pub returns : goal.returns
returns c =
    let short = c.in-None.ensures.steps.1.0 in
    underway_done c.loop-part.invariant.0 (tagged_end c.args.tag c.args.n c.requires.0 _ (omega (arith, short, c.loop-part.invariant.1)))
