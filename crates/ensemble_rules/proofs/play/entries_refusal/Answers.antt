-- `ensemble_rules::play::entries_refusal` meets its contract: the first of the rules of all entries that holds is the first of those of the
-- entries that are left.
use mathlib.Core.Path.{sym, ◌∙◌}
use Rattle.sheet.specs.Read.{read_sheet}
use Rattle.ensemble_rules.proofs.RuleLaws.{entries_turned, entries_passed, entries_end}
use Rattle.ensemble_rules.proofs.play.entries_refusal.Goals as goal
use Rattle.std.proofs.lemmas.Result.{err_from_is_err_and}

pub returns-in_err-entry_refusal : goal.returns-in_err-entry_refusal
returns-in_err-entry_refusal c =
    let l = c.loop-e in
    let a = c.args in
    let p = err_from_is_err_and c.from_residual.result c.from_residual.ensures.1 in
    let turned =
    entries_turned a.score.now l.e-index c.loop-e-test.true (read_sheet a.sheet.now) a.rate _ (sym c.entry_refusal.ensures ∙ c.in_err-entry_refusal.was)
    in
    rw (p.1, p.2) (sym turned ∙ l.invariant)

pub loop-e-preserved : goal.loop-e-preserved
loop-e-preserved c =
    let l = c.loop-e in
    let a = c.args in
    sym (entries_passed a.score.now l.e-index c.loop-e-test.true (read_sheet a.sheet.now) a.rate (sym c.entry_refusal.ensures ∙ c.in_ok-entry_refusal.was))
    ∙ l.invariant

pub returns : goal.returns
returns c =
    let l = c.loop-e in
    let a = c.args in
    sym (entries_end a.score.now l.e-index c.loop-e-test.false (read_sheet a.sheet.now) a.rate) ∙ l.invariant
