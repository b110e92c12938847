-- Every segment that is left is valid.
use mathlib.Core.Path.{◌∙◌}
use borrow.Author.Rules.{rules}
use borrow.Author.Tests.{tests}
use Rattle.std.specs.Result.{is_ok}
use Rattle.small_chunks.specs.Sequence.{segment_verdict}
use Rattle.note_path.proofs.LengthLaws.{valid_list}
use Rattle.note_path.proofs.SegmentLaws.{segments_given}
use Rattle.std.proofs.lemmas.Iterator.Search.{all_from_yields_List}
use Rattle.note_path.proofs.sequence.sequence_valid.Goals as goal

pub returns : goal.returns
returns c =
    all_from_yields_List (λ s. is_ok (segment_verdict s c.args.hi)) _ _ _ c.all.ensures.ran (segments_given _) (λ x b q k. search (rules, tests))
    ∙ valid_list c.args.hi _
