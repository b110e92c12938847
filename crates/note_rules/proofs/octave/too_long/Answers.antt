-- `note_rules::octave::too_long` meets its contract: a length times 2 ^ k is past a number if the length is past the quotient.
use mathlib.Core.Path.{sym, ◌∙◌}
use Rattle.note_rules.proofs.SequenceLaws.{long_by_quotient, long_if_any}
use Rattle.note_rules.proofs.octave.too_long.Goals as goal

pub returns-then-k-ge32 : goal.returns-then-k-ge32
returns-then-k-ge32 c =
    let a = c.args in
    let there = sym c.has_octave.ensures ∙ c.if-not-has_octave.false in
    rw there (long_if_any a.k a.segments.now _ c.sequence_length-joined.ensures c.if-k-ge32.true)

pub returns : goal.returns
returns c =
    let a = c.args in
    let there = sym c.has_octave.ensures ∙ c.if-not-has_octave.false in
    rw there (long_by_quotient a.k a.segments.now _ c.sequence_length-joined.ensures)
