-- `voice_read::chunks::form_lengths` meets its contract: each test is one case of the chunks read.
use borrow.Author.Tests.{not-true, not-false}
use mathlib.Core.Path.{sym, ap, ◌∙◌}
use Rattle.std.proofs.lemmas.Result.{err_from_is_err_and}
use Rattle.voice_read.specs.Parsed.{needed_by}
use Rattle.voice_read.proofs.ReadLaws.{items_bad, items_headless, items_bodiless, items_whole}
use Rattle.voice_read.proofs.chunks.form_lengths.Goals as goal

pub returns-in_err-first_bad : goal.returns-in_err-first_bad
returns-in_err-first_bad c =
    let p = err_from_is_err_and c.from_residual.result c.from_residual.ensures.1 in
    rw (p.1, p.2) (sym (ap needed_by (items_bad _ _ (sym c.first_bad.ensures ∙ c.in_err-first_bad.was))))

-- `sound`: no chunk is bad
pub returns-then-is_missing : goal.returns-then-is_missing
returns-then-is_missing c =
    let sound = sym c.first_bad.ensures ∙ c.in_ok-first_bad.was in
    sym (ap needed_by (items_headless _ sound (not-true _ (sym c.is_missing.ensures ∙ c.if-is_missing.true))))

-- `header`: there is a VHDR
pub returns-then-is_missing-2 : goal.returns-then-is_missing-2
returns-then-is_missing-2 c =
    let sound = sym c.first_bad.ensures ∙ c.in_ok-first_bad.was in
    let header = not-false _ (sym c.is_missing.ensures ∙ c.if-is_missing.false) in
    sym (ap needed_by (items_bodiless _ sound header (not-true _ (sym c.is_missing-2.ensures ∙ c.if-is_missing-2.true))))

pub returns : goal.returns
returns c =
    let sound = sym c.first_bad.ensures ∙ c.in_ok-first_bad.was in
    let header = not-false _ (sym c.is_missing.ensures ∙ c.if-is_missing.false) in
    c.body_lengths.ensures
    ∙ sym (ap needed_by (items_whole _ sound header (not-false _ (sym c.is_missing-2.ensures ∙ c.if-is_missing-2.false))))
