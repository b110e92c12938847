-- `samples::loudness::peak` meets its contract: the loudest block has the magnitude, and the search from its start finds the place.
use mathlib.Core.Path.{sym, ◌∙◌}
use native.Mathlib.Omega.{arith}
use lib.ListN.{drop, length-drop}
use lib.Seq.{take_all}
use Rattle.samples.proofs.PeakLaws.{peak_past, peak_nowhere}
use Rattle.samples.proofs.loudness.peak.Goals as goal

pub returns-in_err-past : goal.returns-in_err-past
returns-in_err-past c =
    let xs = c.args.samples.now in
    let block = c.loudest_block-magnitude in
    let all = take_all _ (drop block.result.start xs) (omega (arith, length-drop block.result.start xs)) in
    c.from_residual.ensures ∙ sym (peak_nowhere xs _ _ block.ensures.magnitude block.ensures.start _ all (sym c.first_with.ensures ∙ c.in_err-past.was))

pub returns : goal.returns
returns c =
    let xs = c.args.samples.now in
    let block = c.loudest_block-magnitude in
    let all = take_all _ (drop block.result.start xs) (omega (arith, length-drop block.result.start xs)) in
    sym (peak_past xs _ _ block.ensures.magnitude block.ensures.start _ all c.in_ok-past.past (sym c.first_with.ensures ∙ c.in_ok-past.was))
