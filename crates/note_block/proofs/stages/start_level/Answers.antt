-- `note_block::stages::start_level` meets its contract: there is a point exactly if a member follows.
use mathlib.Core.Path.{sym, ◌∙◌}
use Rattle.note_block.proofs.StartLaws.{start_none, start_some}
use Rattle.note_block.proofs.stages.start_level.Goals as goal

pub returns-in-None : goal.returns-in-None
returns-in-None c = start_none c.args.attack.now (sym c.next_member.ensures ∙ c.in-None.is)

pub returns-in-Some : goal.returns-in-Some
returns-in-Some c = start_some c.args.attack.now (sym c.next_member.ensures ∙ c.in-Some.is)
