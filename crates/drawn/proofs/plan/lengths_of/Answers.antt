-- `drawn::plan::lengths_of` meets its contract: a header is a record of 21 bytes, and a channel one of 2.
use Rattle.drawn.proofs.VoiceLaws.{flat_length}
use Rattle.drawn.proofs.plan.lengths_of.Goals as goal

pub returns-then-stereo-clause-sheet : goal.returns-then-stereo-clause-sheet
returns-then-stereo-clause-sheet c = rw (flat_length c.args.h c.args.stereo, c.if-stereo.true)

pub returns-clause-sheet : goal.returns-clause-sheet
returns-clause-sheet c = rw (flat_length c.args.h c.args.stereo, c.if-stereo.false)
