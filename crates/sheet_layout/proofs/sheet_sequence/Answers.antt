-- `sheet_layout::sheet_sequence` meets its contract: the places of a sequence and of the part after it say how many bytes it takes.
use mathlib.Core.Path.{sym, ap}
use native.Mathlib.Omega.{arith}
use Rattle.sheet.specs.Read.{read_sheet}
use Rattle.sheet_layout.proofs.ThereLaws.{sequence_missing, sequence_within, sequence_counted}
use Rattle.sheet_layout.proofs.sheet_sequence.Goals as goal
use Rattle.std.specs.Prelude.{length, option_map}

pub returns-then-at-l : goal.returns-then-at-l
returns-then-at-l c =
    sym (ap (option_map length) (sequence_missing (read_sheet c.args.sheet.now) c.args.l c.requires.1 c.if-at-l.true))

pub overflow_sub-segments : goal.overflow_sub-segments
overflow_sub-segments c =
    sequence_within (read_sheet c.args.sheet.now) c.args.l c.requires.1

pub overflow_sub-segments-2 : goal.overflow_sub-segments-2
overflow_sub-segments-2 c =
    omega (arith, c.if-at-l.false, sequence_within (read_sheet c.args.sheet.now) c.args.l c.requires.1)

pub returns : goal.returns
returns c =
    sequence_counted (read_sheet c.args.sheet.now) c.args.l c.requires.1 c.if-at-l.false
