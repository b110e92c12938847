-- `form::first_bad` meets its contract: each answer of `chunk_at` says what the chunk in hand is.
use mathlib.Core.Path.{◌≡◌, sym, ap, ◌∙◌}
use Prim.Native.Nat.{◌+◌, ◌-◌}
use native.Mathlib.Omega.{arith}
use Rattle.std.specs.Prelude.{Ok}
use Rattle.std.proofs.lemmas.Result.{err_from_is_err_and}
use Rattle.chunk.proofs.ChunkLaws.{at_chunk, at_end, at_refused}
use Rattle.form.proofs.FormLaws.{wrong_here, bad_here, bad_later}
use Rattle.form.specs.FirstBad.{bad_from}
use Rattle.form.proofs.judge.first_bad.Goals as goal

pub returns-in_err-chunk : goal.returns-in_err-chunk
unfolding bad_from
returns-in_err-chunk c =
    let p = err_from_is_err_and c.from_residual.result c.from_residual.ensures.1 in
    rw (p.1, p.2) (sym (ap (bad_from _) (at_refused _ _ _ (sym c.chunk_at.ensures ∙ c.in_err-chunk.was))) ∙ c.loop-chunk.invariant)

pub overflow_add-end : goal.overflow_add-end
overflow_add-end c = let w = at_chunk _ _ _ (sym c.chunk_at.ensures ∙ c.in_ok-chunk.was ∙ ap Ok c.in-Some.is) in omega arith

pub slice_bounds-chunk_wrong-end : goal.slice_bounds-chunk_wrong-end
slice_bounds-chunk_wrong-end c = (at_chunk _ _ _ (sym c.chunk_at.ensures ∙ c.in_ok-chunk.was ∙ ap Ok c.in-Some.is)).inside

-- `answer` is what `chunk_wrong` says of the chunk in hand
pub returns-in_err-chunk_wrong : goal.returns-in_err-chunk_wrong
returns-in_err-chunk_wrong c =
    let g = c.in-Some.chunk in
    let w = at_chunk _ _ _ (sym c.chunk_at.ensures ∙ c.in_ok-chunk.was ∙ ap Ok c.in-Some.is) in
    let e : g.start + g.size - g.start ≡ g.size = omega arith in
    let answer : c.chunk_wrong.result ≡ wrong_here c.loop-chunk.came w = cc e in
    let p = err_from_is_err_and c.from_residual-in_err-chunk_wrong.result c.from_residual-in_err-chunk_wrong.ensures.1 in
    rw (p.1, p.2) (sym (bad_here _ w _ (sym answer ∙ c.in_err-chunk_wrong.was)) ∙ c.loop-chunk.invariant)

pub loop-chunk-smaller : goal.loop-chunk-smaller
loop-chunk-smaller c = let w = at_chunk _ _ _ (sym c.chunk_at.ensures ∙ c.in_ok-chunk.was ∙ ap Ok c.in-Some.is) in omega arith

pub loop-chunk-preserved : goal.loop-chunk-preserved
loop-chunk-preserved c =
    let g = c.in-Some.chunk in
    let w = at_chunk _ _ _ (sym c.chunk_at.ensures ∙ c.in_ok-chunk.was ∙ ap Ok c.in-Some.is) in
    let e : g.start + g.size - g.start ≡ g.size = omega arith in
    let answer : c.chunk_wrong.result ≡ wrong_here c.loop-chunk.came w = cc e in
    rw c.kind_of-kind.ensures.0 (sym (bad_later _ w (sym answer ∙ c.in_ok-chunk_wrong.was)) ∙ c.loop-chunk.invariant)

pub returns : goal.returns
unfolding bad_from
returns c = sym (ap (bad_from _) (at_end _ _ (sym c.chunk_at.ensures ∙ c.in_ok-chunk.was ∙ ap Ok c.in_default.is))) ∙ c.loop-chunk.invariant
