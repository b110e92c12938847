-- The walk ends, since each record takes a byte at least, and no record's end lies before its body's start.
use mathlib.Core.Path.{sym, ap, ◌∙◌}
use native.Mathlib.Omega.{arith}
use Rattle.sheet.proofs.RecordLaws.{is_record}
use Rattle.std.specs.Prelude.{Ok}
use Rattle.sheet_kinds.proofs.kinds.Goals as goal

pub overflow_sub-next : goal.overflow_sub-next
overflow_sub-next g c = (is_record _ _ _ (sym c.read_step.ensures ∙ c.in-Ok-Some.is ∙ ap Ok c.in-Ok-Some.field-0-is)).ordered

pub loop-kind-smaller : goal.loop-kind-smaller
loop-kind-smaller g c =
    let w = is_record _ _ _ (sym c.read_step.ensures ∙ c.in-Ok-Some.is ∙ ap Ok c.in-Ok-Some.field-0-is) in
    omega arith
