-- The refusal of the first bad chunk of a FORM, and of the first bad record of a sheet.
-- Assumes nothing.
use Prim.Native.Nat.{ℕ, ◌<◌}
use mathlib.Core.Bool.{Bool, false, ◌||◌}
use mathlib.Core.List.{List, [], ◌∷◌}
use mathlib.Core.Logic.{inl, inr, ⊎_elim}
use mathlib.Core.Path.{◌≡◌, refl}
use lib.Dec.{eqb}
use lib.ListN.{length, get_or, take, drop}
use Rattle.laws.specs.Among.{Among}
use Rattle.chunk.specs.Chunk.{items_from}
use Rattle.chunk.specs.ForCode.{step_at}
use Rattle.chunk.proofs.ChunkLaws.{at_end, at_refused, at_chunk}
use Rattle.form.specs.Kind.{kind_of, length_wrong}
use Rattle.form.specs.FirstBad.{channel_wrong, chunk_wrong, bad_from}
use Rattle.form.proofs.FormLaws.{refused_number, came_then}
use Rattle.sheet.specs.Record.{records, record_at}
use Rattle.sheet.specs.Order.{misplaced, group_after, value_wrong, first_wrong}
use Rattle.sheet.proofs.RecordLaws.{is_end, is_refused, is_number, is_record}
use Rattle.demands.specs.Demand1.{record_refusals}
use Rattle.demands.proofs.RefusalLaws.{one_of, Within, by_test, accepted_then, along}
use Rattle.chunk.specs.declared.Chunk.{Chunk}
use Rattle.sheet.specs.declared.record.Record.{Record}
use Rattle.refusal.specs.declared.Refusal.TheVariants.{ChunkPastForm, ChunkTwice, ChunkLength, ChannelValue, RecordWrong}
use Rattle.refusal.specs.Outcome.{Outcome}
use Rattle.std.specs.Prelude.{Err, None, Ok, Option, Some}
use Rattle.refusal.specs.declared.Refusal.{Refusal}

-- ---- chunks

-- what may be wrong with a chunk
abbrev pub chunk_refusals : List Refusal
chunk_refusals = ChunkPastForm ∷ ChunkTwice ∷ ChunkLength ∷ ChannelValue ∷ []

chunk_within : (came : Bool) (kind : ℕ) (b : List ℕ) → Within chunk_refusals (chunk_wrong came kind b)
unfolding chunk_wrong
chunk_within came kind b =
    by_test (Within chunk_refusals) came (one_of chunk_refusals ChunkTwice tt)
    (by_test (Within chunk_refusals) (length_wrong kind (length b)) (one_of chunk_refusals ChunkLength tt)
    (by_test (Within chunk_refusals) (channel_wrong kind b) (one_of chunk_refusals ChannelValue tt) tt))

pub bad_within : (f : List ℕ) (at : ℕ) (came : List Bool) → Within chunk_refusals (bad_from came (items_from f at))
unfolding bad_from
bad_within f = along (λ at. (came : List Bool) → Within chunk_refusals (bad_from came (items_from f at))) (length f) (λ at later came. go at later came (step_at f at) refl)
  where
    go : (at : ℕ) → (at < length f → (next : ℕ) → at < next → (came : List Bool) → Within chunk_refusals (bad_from came (items_from f next))) → (came : List Bool)
        → (s : Outcome (Option Chunk)) → step_at f at ≡ s → Within chunk_refusals (bad_from came (items_from f at))
    go at later came (Ok (Some it)) e =
        let w = at_chunk f at it e in
        let here = chunk_within (get_or came (kind_of it.id) false) (kind_of it.id) (take it.size (drop it.start f)) in
        rw w.items (accepted_then chunk_refusals _ _ here (later w.begun it.next w.on (came_then came it.id)))
    go at later came (Err r) e = rw (at_refused f at r e) (inl (refused_number f at r e))
    go at later came (Ok None) e = rw (at_end f at e) tt

-- ---- records

pub refused_record : (sheet : List ℕ) (at : ℕ) (refusal : Refusal) → record_at sheet at ≡ Err refusal → Among refusal record_refusals
refused_record sheet at refusal e = ⊎_elim inl (λ w. inr (inl w)) (is_number sheet at refusal e)

pub wrong_within : (sheet : List ℕ) (at group : ℕ) → Within record_refusals (first_wrong group (records (drop at sheet)))
unfolding first_wrong
wrong_within sheet =
    along (λ at. (group : ℕ) → Within record_refusals (first_wrong group (records (drop at sheet)))) (length sheet) (λ at later group. go at later group (record_at sheet at) refl)
  where
    wrong : Among RecordWrong record_refusals
    wrong = one_of record_refusals RecordWrong tt

    go : (at : ℕ) → (at < length sheet → (next : ℕ) → at < next → (group : ℕ) → Within record_refusals (first_wrong group (records (drop next sheet)))) → (group : ℕ)
        → (s : Outcome (Option Record)) → record_at sheet at ≡ s → Within record_refusals (first_wrong group (records (drop at sheet)))
    go at later group (Ok (Some it)) e =
        let w = is_record sheet at it e in
        rw w.items (by_test (Within record_refusals) (misplaced group it.kind || value_wrong it.kind _) wrong (later w.begun it.next w.on (group_after group it.kind)))
    go at later group (Err r) e = rw (is_refused sheet at r e) (refused_record sheet at r e)
    go at later group (Ok None) e = rw (is_end sheet at e) (by_test (Within record_refusals) (eqb group 0) wrong tt)
