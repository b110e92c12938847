-- What a step makes of a reader.
use Rattle.std.specs.Prelude.{ℕ, Err, None, Ok, Option, Some}
use Rattle.sheet_records.specs.declared.SheetReader.{SheetReader}
use Rattle.sheet.specs.declared.record.Record.{Record}
use Rattle.refusal.specs.Outcome.{Outcome}

-- past a record; the end, an unknown kind and a cut record don't move it
abbrev pub place_after : Outcome (Option Record) → ℕ → ℕ
place_after (Ok (Some it)) at = it.next
place_after (Err refusal) at = at
place_after (Ok None) at = at

-- the same sheet, and the place after the step
abbrev pub moved_by : SheetReader → Outcome (Option Record) → SheetReader
moved_by r s = record { sheet = r.sheet; at = place_after s r.at }
