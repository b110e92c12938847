-- `note_path::run::path_of` meets its contract: the octave lies within the samples, so no product passes 64 bits.
use mathlib.Core.Path.{sym, ◌∙◌}
use Rattle.note_path.proofs.OctavePathLaws.{path_none, path_some}
use Rattle.note_path.proofs.run.path_of.Goals as goal

pub returns-then-hi-eq0 : goal.returns-then-hi-eq0
returns-then-hi-eq0 c =
    let a = c.args in
    let p = c.power_of_two-scale in
    path_none a.h a.k a.sequence a.samples a.segments.now p.result p.ensures c.requires.0 c.requires.1
    (sym c.hi_octave_samples-hi.ensures ∙ c.if-hi-eq0.true)

pub returns : goal.returns
returns c =
    let a = c.args in
    let p = c.power_of_two-scale in
    let n = c.hi_octave_samples-hi in
    path_some a.h a.k a.sequence a.samples a.segments.now p.result p.ensures c.requires.0 c.requires.1
    n.result n.ensures c.if-hi-eq0.false
