-- What stepping through a sheet gives: a list of records, as the sheet's meaning has them.
use Rattle.std.specs.Prelude.{ℕ, zero, suc, ◌-◌, List, [], ◌∷◌, take, drop, Err, None, Ok, Option, Some}
use Rattle.sheet.specs.Record.{RecordItem, entry, bad, record_at}
use Rattle.sheet.specs.declared.record.Record.{Record}
use Rattle.refusal.specs.Outcome.{Outcome}

-- a step's record, and those that `later` finds from the place after it on; a refusal or the end is the last
abbrev pub told : List ℕ → Outcome (Option Record) → (ℕ → List RecordItem) → List RecordItem
told sheet (Ok (Some it)) later = entry it.kind (take (it.next - it.start) (drop it.start sheet)) ∷ later it.next
told sheet (Err refusal) later = bad refusal ∷ []
told sheet (Ok None) later = []

-- the records of at most n steps from a place on
unfoldable pub stepped : ℕ → List ℕ → ℕ → List RecordItem
stepped zero sheet at = []
stepped (suc n) sheet at = told sheet (record_at sheet at) (stepped n sheet)
