-- Stepping through a sheet from its front to its end gives exactly the records of the sheet's meaning, in order.
-- Each step takes a byte at least, so as many steps as the sheet has bytes, and one more, are enough.
-- Assumes nothing.
use Prim.Native.Nat.{ℕ, zero, suc, ◌-◌, ◌<◌}
use lib.ListN.{length, take, drop}
use mathlib.Core.List.{List, ◌∷◌}
use mathlib.Core.Path.{◌≡◌, refl, ap, sym, ◌∙◌}
use native.Mathlib.Omega.{arith}
use Rattle.sheet.proofs.RecordLaws.{is_end, is_refused, is_record}
use Rattle.sheet.specs.Record.{records, RecordItem, entry, record_at}
use Rattle.sheet_records.specs.Walked.{told, stepped}
use Rattle.sheet.specs.declared.record.Record.{Record}
use Rattle.refusal.specs.Outcome.{Outcome}
use Rattle.std.specs.Prelude.{Err, None, Ok, Option, Some}

-- from any place on, where the steps outnumber the bytes that are left
pub walked_from : (n : ℕ) (sheet : List ℕ) (at : ℕ) → length sheet - at < n → stepped n sheet at ≡ records (drop at sheet)
unfolding stepped
walked_from zero sheet at h = absurd (omega (arith, h))
walked_from (suc n) sheet at h = go (λ next. walked_from n sheet next) (record_at sheet at) refl
  where
    go : ((next : ℕ) → length sheet - next < n → stepped n sheet next ≡ records (drop next sheet))
        → (step : Outcome (Option Record)) → record_at sheet at ≡ step → told sheet step (stepped n sheet) ≡ records (drop at sheet)
    go later (Ok (Some it)) e =
        let whole = is_record sheet at it e in
        ap (λ (items : List RecordItem). entry it.kind (take (it.next - it.start) (drop it.start sheet)) ∷ items) (later it.next (omega (arith, h, whole.on, whole.begun))) ∙ sym whole.items
    go later (Err refusal) e = sym (is_refused sheet at refusal e)
    go later (Ok None) e = sym (is_end sheet at e)

pub walked : (sheet : List ℕ) (n : ℕ) → length sheet < n → stepped n sheet 0 ≡ records sheet
walked sheet n h = walked_from n sheet 0 (omega (arith, h))
