-- `ensemble_score::put_entry` meets its contract: its five numbers are stored in a row.
use borrow.Author.Rules.{rules}
use Rattle.ensemble_score.proofs.StoreLaws.{entry_stored}
use Rattle.ensemble_score.proofs.put_entry.Goals as goal

pub returns : goal.returns
returns c =
    let a = c.args in
    entry_stored a.numbers.now a.i a.e c.requires.0 c.requires.1 (search rules) (search rules)
