-- The first of the segments that are left, added up to 2^32.
use mathlib.Core.Path.{◌∙◌}
use borrow.Author.Rules.{rules}
use borrow.Author.Tests.{tests}
use Rattle.note_path.proofs.LengthLaws.{add_length, length_list}
use Rattle.note_path.proofs.SegmentLaws.{segments_given}
use Rattle.std.proofs.lemmas.Iterator.{YieldsList-from_take}
use Rattle.std.proofs.lemmas.Iterator.Consumers.{fold_from_yields_List, YieldsList-at}
use Rattle.note_path.proofs.sequence.sequence_length.Goals as goal

pub returns : goal.returns
returns c =
    fold_from_yields_List _ add_length _ _ c.fold.ensures.ran
    (YieldsList-from_take c.args.count (YieldsList-at c.take.ensures.source (segments_given _)) c.take.ensures.count)
    (λ a x b q k. search (rules, tests))
    ∙ length_list _
