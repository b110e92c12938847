-- The front up to the place that `first_zero` finds, or the whole.
use Rattle.text.proofs.PlaceLaws.{first_zero_or_end, before_zero_part}
use Rattle.text.proofs.part.cut_at_zero.Goals as goal

pub returns-clause-contents : goal.returns-clause-contents
returns-clause-contents c = rw (c.unwrap_or-end.ensures, c.first_zero.ensures, first_zero_or_end) (before_zero_part _)
