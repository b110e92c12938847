-- `voice_read::parse::voice_lengths` meets its contract: the head is refused, or the FORM's chunks say the lengths.
use mathlib.Core.Path.{sym, ap, ◌∙◌}
use Rattle.std.proofs.lemmas.Result.{err_from_is_err_and}
use Rattle.chunk.specs.Chunk.{items_from}
use Rattle.voice_read.specs.Parsed.{needed_by}
use Rattle.voice_read.specs.ReadVoice.{read_items}
use Rattle.voice_read.proofs.ReadLaws.{voice_refused, voice_form}
use Rattle.voice_read.proofs.parse.voice_lengths.Goals as goal

pub returns-in_err-head_refusal : goal.returns-in_err-head_refusal
returns-in_err-head_refusal c =
    let p = err_from_is_err_and c.from_residual.result c.from_residual.ensures.1 in
    rw (p.1, p.2) (sym (ap needed_by (voice_refused _ _ (sym c.head_refusal.ensures ∙ c.in_err-head_refusal.was))))

pub returns : goal.returns
returns c =
    c.form_lengths.ensures
    ∙ ap (λ f. needed_by (read_items (items_from f 12))) c.form.ensures.contents
    ∙ sym (ap needed_by (voice_form _ (sym c.head_refusal.ensures ∙ c.in_ok-head_refusal.was)))
