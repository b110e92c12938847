-- `voice_read::parse::head_refusal` meets its contract: the tests are those of the meaning, in its order.
use mathlib.Core.Path.{sym, ◌∙◌}
use Rattle.voice_read.proofs.ReadLaws.{head_short, head_other, head_type, head_right}
use Rattle.voice_read.proofs.parse.head_refusal.Goals as goal

pub returns-then-file-lt12 : goal.returns-then-file-lt12
returns-then-file-lt12 c = sym (head_short c.args.file.now c.if-file-lt12.true)

pub returns-then-read32-ne-FORM : goal.returns-then-read32-ne-FORM
returns-then-read32-ne-FORM c =
    sym (head_other c.args.file.now c.if-file-lt12.false (λ e. c.if-read32-ne-FORM.true (c.read32.ensures ∙ e)))

-- `is_form`: it begins with FORM
pub returns-then-read32-ne-FORM_TYPE : goal.returns-then-read32-ne-FORM_TYPE
returns-then-read32-ne-FORM_TYPE c =
    let is_form = sym c.read32.ensures ∙ c.if-read32-ne-FORM.false in
    sym (head_type c.args.file.now c.if-file-lt12.false is_form (λ e. c.if-read32-ne-FORM_TYPE.true (c.read32-2.ensures ∙ e)))

pub returns : goal.returns
returns c =
    let is_form = sym c.read32.ensures ∙ c.if-read32-ne-FORM.false in
    sym (head_right c.args.file.now c.if-file-lt12.false is_form (sym c.read32-2.ensures ∙ c.if-read32-ne-FORM_TYPE.false))
