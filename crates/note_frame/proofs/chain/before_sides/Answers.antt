-- A sample × 256 is a 16-bit value, and no later step makes it larger.
use mathlib.Core.Path.{◌≡◌, refl, ◌∙◌}
use lib.IntN.{pos, ◌*ℤ◌}
use mir.Syntax.{w8, w32}
use mir.Val.{SFits, to_z, of_z}
use mir.Facts.{to_z-of_z}
use Rattle.laws.proofs.Signed.{zarith, known, times, widened, back}
use Rattle.note_frame.specs.Gains.{before_sides}
use Rattle.note_frame.proofs.ChainLaws.{before_sides_fits}
use Rattle.note_frame.proofs.chain.before_sides.Goals as goal

sample_is : (s : goal.After-fade_by) → to_z w32 (of_z w32 (to_z w8 (of_z w8 s.args.sample))) ≡ s.args.sample
sample_is s = widened w8 w32 tt s.ranges.sample

whole_fits : (s : goal.After-fade_by) → SFits w32 (s.args.sample *ℤ pos 256)
whole_fits s = omega (zarith, known s.ranges.sample, times s.args.sample 256)

result_is : (c : goal.After-fade_by) →
    let a = c.args in
    to_z w32 (of_z w32 c.fade_by.result) ≡ before_sides a.g a.level a.q a.sample
unfolding before_sides
result_is c =
    back w32 c.fade_by.type_inv
    ∙ c.fade_by.ensures
    ∙ rw (
      back w32 c.scaled.type_inv,
      c.scaled.ensures,
      back w32 c.scaled-at_volume.type_inv,
      c.scaled-at_volume.ensures,
      back w32 c.scaled-at_level.type_inv,
      c.scaled-at_level.ensures,
      sample_is c,
      to_z-of_z (whole_fits c),
    )

pub returns : goal.returns
returns c =
    rw (result_is c) (refl, before_sides_fits c.args.g c.args.level c.args.q c.args.sample c.requires.0 c.requires.1 c.requires.2 c.ranges.sample)
