-- `drawn::plan::plan_of` meets its contract: each of the five draws follows the one before it.
use mathlib.Core.Path.{ap, ◌∙◌}
use Rattle.drawn.specs.Draw.{next_draw, nth_draw}
use Rattle.drawn.specs.DrawnVoice.{drawn_header}
use Rattle.drawn.proofs.plan.plan_of.Goals as goal

pub returns : goal.returns
unfolding drawn_header nth_draw
returns c =
    let e1 = c.draw-channels.ensures in
    let e2 = c.draw-octaves.ensures ∙ ap next_draw e1 in
    let e3 = c.draw-one_shot.ensures ∙ ap next_draw e2 in
    let e4 = c.draw-repeat.ensures ∙ ap next_draw e3 in
    let e5 = c.draw-rate.ensures ∙ ap next_draw e4 in
    record { header = rw (c.one_shot_beside-one_shot_samples.ensures, e5, e4, e3, e2); stereo = rw e1; last = e5 }
