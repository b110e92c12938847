-- The law `chunks_more` splits off the chunk of the record in hand.
use Prim.Native.Nat.{ℕ, ◌+◌, ◌-◌, ◌≤◌}
use lib.ListN.{length, take, drop}
use mathlib.Core.List.{List}
use mathlib.Core.Path.{◌≡◌, ap, ◌∙◌}
use native.Mathlib.Omega.{arith}
use Rattle.laws.proofs.PutLaws.{Underway, underway_step, underway_room, underway_done}
use Rattle.sheet.proofs.RecordLaws.{Whole}
use Rattle.sheet.specs.Record.{records, body_length}
use Rattle.sheet_write.proofs.RecordChunkLaws.{chunks_stopped, chunks_more}
use Rattle.sheet_write.proofs.StopLaws.{in_hand, stopped}
use Rattle.sheet_write.specs.RecordChunks.{record_chunk, record_chunks}
use Rattle.sheet_write.proofs.put_records.Goals as goal

one_long : {s : List ℕ} {at k start past : ℕ} → Whole s at k start past → body_length k ≡ 1 → past ≡ start + 1
one_long w e = omega (arith, w.sized, w.ordered)

-- its chunk ends within the whole
room : {s d₀ all d : List ℕ} {at k start next at₀ o : ℕ} → Whole s at k start next → Underway d₀ at₀ all d o (record_chunks (records (drop at s)))
    → o + length (record_chunk k (take (next - start) (drop start s)) (records (drop next s))) ≤ at₀ + length all
room {s = s} {k = k} {start} {next} w u =
    underway_room (record_chunk k (take (next - start) (drop start s)) (records (drop next s))) (record_chunks (records (drop next s))) u (chunks_more w)

pub returns : goal.returns
returns c =
    underway_done c.loop-record.invariant.0 (chunks_stopped (stopped _ _ _ c.record_at.ensures c.unwrap_or.ensures c.in_default.is))

pub put_record_chunk-o-requires : goal.put_record_chunk-o-requires
put_record_chunk-o-requires c =
    let w = in_hand c.record_at.ensures c.unwrap_or.ensures c.in-Some.is in
    let place = room w c.loop-record.invariant.0 in
    (w.ordered, w.inside, omega arith, omega (arith, place), λ e. one_long w (ap body_length e), λ e. one_long w (ap body_length e))

pub loop-record-smaller : goal.loop-record-smaller
loop-record-smaller c = let w = in_hand c.record_at.ensures c.unwrap_or.ensures c.in-Some.is in omega arith

pub loop-record-preserved : goal.loop-record-preserved
loop-record-preserved c =
    let w = in_hand c.record_at.ensures c.unwrap_or.ensures c.in-Some.is in
    let inv = c.loop-record.invariant in
    (underway_step _ inv.0 (chunks_more w) c.put_record_chunk-o.ensures, c.put_record_chunk-o.auto.d ∙ inv.1)
