-- A walk that takes records alone stops at any other answer: `while let Some(record) = record_at(..).unwrap_or(None)`.
--     in_hand     the record in hand stands whole where the walk takes it
--     stopped     where the walk ends no record stands
-- Assumes nothing.
use Prim.Native.Nat.{ℕ}
use lib.ListN.{drop}
use mathlib.Core.List.{List, [], ◌∷◌}
use mathlib.Core.Path.{◌≡◌, refl, sym, ◌∙◌}
use Rattle.refusal.proofs.OutcomeLaws.{whole_step, no_step}
use Rattle.refusal.specs.Outcome.{Outcome}
use Rattle.refusal.specs.declared.Refusal.{Refusal}
use Rattle.sheet.proofs.RecordLaws.{Whole, is_record, is_refused, is_end}
use Rattle.sheet.specs.Record.{RecordItem, bad, records, record_at}
use Rattle.sheet.specs.declared.record.Record.{Record}
use Rattle.std.specs.Prelude.{Err, None, Ok, Option, Some}
use Rattle.std.specs.Result.{result_unwrap_or}

-- no record stands at the front
pub data Stopped : List RecordItem → Type 0 where
  ended : Stopped []
  refused : {refusal : Refusal} → Stopped (bad refusal ∷ [])

pub in_hand : {s : List ℕ} {at : ℕ} {r : Outcome (Option Record)} {o : Option Record} {it : Record} → r ≡ record_at s at → o ≡ result_unwrap_or r None → o ≡ Some it
    → Whole s at it.kind it.start it.next
in_hand step o is = is_record _ _ _ (sym step ∙ whole_step _ _ (sym o ∙ is))

pub stopped : (s : List ℕ) (at : ℕ) (r : Outcome (Option Record)) {o : Option Record} → r ≡ record_at s at → o ≡ result_unwrap_or r None → o ≡ None → Stopped (records (drop at s))
stopped s at r step o is = go r step (no_step r (sym o ∙ is))
  where
    go : (r : Outcome (Option Record)) → r ≡ record_at s at → ((it : Record) → r ≡ Ok (Some it) → ⊥) → Stopped (records (drop at s))
    go (Ok (Some it)) e stop = absurd (stop it refl)
    go (Ok None) e stop = rw (is_end s at (sym e)) ended
    go (Err refusal) e stop = rw (is_refused s at refusal (sym e)) refused
