-- `form::find` meets its contract: each answer of `chunk_at` says what the chunk in hand is.
use mathlib.Core.Path.{sym, ◌∙◌}
use native.Mathlib.Omega.{arith}
use Rattle.chunk.proofs.ChunkLaws.{at_chunk}
use Rattle.form.proofs.FindLaws.{place_hit, place_miss, place_stop}
use Rattle.refusal.proofs.OutcomeLaws.{whole_step, no_step}
use Rattle.form.proofs.place.find.Goals as goal

pub returns-then-chunk-id : goal.returns-then-chunk-id
returns-then-chunk-id c =
    let w = at_chunk _ _ _ (sym c.chunk_at.ensures ∙ whole_step _ _ (sym c.unwrap_or.ensures ∙ c.in-Some.is)) in sym (place_hit _ w c.if-chunk-id.true) ∙ c.loop-chunk.invariant

pub loop-chunk-smaller : goal.loop-chunk-smaller
loop-chunk-smaller c =
    let w = at_chunk _ _ _ (sym c.chunk_at.ensures ∙ whole_step _ _ (sym c.unwrap_or.ensures ∙ c.in-Some.is)) in omega arith

pub loop-chunk-preserved : goal.loop-chunk-preserved
loop-chunk-preserved c =
    let w = at_chunk _ _ _ (sym c.chunk_at.ensures ∙ whole_step _ _ (sym c.unwrap_or.ensures ∙ c.in-Some.is)) in sym (place_miss _ w c.if-chunk-id.false) ∙ c.loop-chunk.invariant

pub returns : goal.returns
returns c =
    sym (place_stop _ _ _ _ c.chunk_at.ensures (no_step _ (sym c.unwrap_or.ensures ∙ c.in_default.is))) ∙ c.loop-chunk.invariant
