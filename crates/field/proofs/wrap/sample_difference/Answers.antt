use Rattle.std.proofs.Common.{◌∙◌, w8}
use Rattle.std.proofs.lemmas.Int.{wrapping_sub_is}
use Rattle.field.proofs.WrapLaws.{library_wraps}
use Rattle.field.proofs.wrap.sample_difference.Goals as goal

pub returns : goal.returns
returns c = wrapping_sub_is w8 c.args.a c.args.b c.ranges.a c.ranges.b ∙ library_wraps _
