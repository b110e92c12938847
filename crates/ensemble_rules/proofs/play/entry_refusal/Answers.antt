-- `ensemble_rules::play::entry_refusal` meets its contract: the first of the octave's rules that holds, or else of those of a note that
-- begins and is held.
use mathlib.Core.Path.{sym, ap, ◌∙◌}
use Rattle.refusal.specs.Rules.{first_holding}
use Rattle.refusal.proofs.RuleLaws.{first_stands, first_join}
use Rattle.sheet.specs.Read.{read_sheet}
use Rattle.note_frame.specs.declared.playing.Key.TheVariants.{Held}
use Rattle.note_rules.specs.Rules.{octave_rules, note_rules}
use Rattle.ensemble_rules.proofs.RuleLaws.{held_first}
use Rattle.ensemble_rules.proofs.play.entry_refusal.Goals as goal
use Rattle.std.proofs.lemmas.Result.{err_from_is_err_and}

pub returns-in_err-octave_refusal : goal.returns-in_err-octave_refusal
returns-in_err-octave_refusal c =
    let a = c.args in
    let p = err_from_is_err_and c.from_residual.result c.from_residual.ensures.1 in
    rw (p.1, p.2) (sym (first_stands (octave_rules (read_sheet a.sheet.now) a.e.octave) _ _ (sym c.octave_refusal.ensures ∙ c.in_err-octave_refusal.was)))

pub returns : goal.returns
returns c =
    let a = c.args in
    let v = read_sheet a.sheet.now in
    let e = a.e in
    let none = sym c.octave_refusal.ensures ∙ c.in_ok-octave_refusal.was in
    c.note_refusal.ensures
    ∙ ap (λ h. first_holding (note_rules h (record { octave = e.octave; velocity = e.velocity; step = e.step; rate = a.rate; key = Held }) 0)) c.sheet_header-h.ensures
    ∙ held_first v.header e.octave e.velocity e.step a.rate
    ∙ sym (first_join (octave_rules v e.octave) _ none)
