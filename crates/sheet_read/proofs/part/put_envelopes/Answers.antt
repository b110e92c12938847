-- `sheet_read::part::put_envelopes` meets its contract: `turn` splits off the envelope of a chunk of the name.
use Prim.Native.Nat.{ℕ, ◌+◌, ◌-◌}
use lib.ListN.{take, drop}
use mathlib.Core.List.{List, ◌∷◌, ◌++◌}
use mathlib.Core.Path.{◌≡◌, ◌∙◌}
use native.Mathlib.Omega.{arith}
use Rattle.laws.proofs.PutLaws.{underway_step, underway_room, underway_done}
use Rattle.field.specs.BigEndian.{Bytes}
use Rattle.field.specs.Tagged.{tagged}
use Rattle.chunk.specs.Chunk.{items_from}
use Rattle.chunk.proofs.ChunkLaws.{Whole}
use Rattle.sheet_read.specs.Parts.{envelope_part}
use Rattle.sheet_read.proofs.TurnLaws.{envelope_hit, envelope_miss, in_hand, none_left, envelope_stops}
use Rattle.sheet_read.proofs.part.put_envelopes.Goals as goal

-- the envelope of a turn, its payload as the code has it
abbrev part : ℕ → List ℕ → ℕ → ℕ → List ℕ
part kind f start size = kind ∷ tagged 6 6 (take (start + size - start) (drop start f))

turn : {f : List ℕ} {at i start size next : ℕ} → Whole f at i start size next → (id kind : ℕ) → Bytes f → i ≡ id
    → envelope_part id kind (items_from f at) ≡ part kind f start size ++ envelope_part id kind (items_from f next)
turn {start = start} {size = size} w id kind b h =
    let e : start + size - start ≡ size = omega arith in
    rw e (envelope_hit w id kind b h)

pub returns : goal.returns
returns c =
    let end = none_left _ _ c.chunk_at.ensures c.unwrap_or.ensures c.in_default.is in underway_done c.loop-chunk.invariant.0 (envelope_stops _ end _ _)

pub overflow_add-end : goal.overflow_add-end
overflow_add-end c = let w = in_hand c.chunk_at.ensures c.unwrap_or.ensures c.in-Some.is in omega arith

pub slice_bounds-put_group-end : goal.slice_bounds-put_group-end
slice_bounds-put_group-end c = (in_hand c.chunk_at.ensures c.unwrap_or.ensures c.in-Some.is).inside

pub put_group-o-requires : goal.put_group-o-requires
put_group-o-requires c =
    let a = c.args in
    let g = c.in-Some.chunk in
    let w = in_hand c.chunk_at.ensures c.unwrap_or.ensures c.in-Some.is in
    let t = turn w a.id a.kind (λ i. (c.type_inv.form i).fits) c.if-chunk-id.true in
    (omega arith, omega (arith, underway_room (part a.kind a.form.now g.start g.size) _ c.loop-chunk.invariant.0 t))

pub loop-chunk-smaller-then-chunk-id : goal.loop-chunk-smaller-then-chunk-id
loop-chunk-smaller-then-chunk-id c = let w = in_hand c.chunk_at.ensures c.unwrap_or.ensures c.in-Some.is in omega arith

pub loop-chunk-preserved-then-chunk-id : goal.loop-chunk-preserved-then-chunk-id
loop-chunk-preserved-then-chunk-id c =
    let a = c.args in
    let inv = c.loop-chunk.invariant in
    let w = in_hand c.chunk_at.ensures c.unwrap_or.ensures c.in-Some.is in
    let t = turn w a.id a.kind (λ i. (c.type_inv.form i).fits) c.if-chunk-id.true in
    (underway_step _ inv.0 t c.put_group-o.ensures, c.put_group-o.auto.d ∙ inv.1)

pub loop-chunk-smaller : goal.loop-chunk-smaller
loop-chunk-smaller c = let w = in_hand c.chunk_at.ensures c.unwrap_or.ensures c.in-Some.is in omega arith

pub loop-chunk-preserved : goal.loop-chunk-preserved
loop-chunk-preserved c =
    let inv = c.loop-chunk.invariant in
    let w = in_hand c.chunk_at.ensures c.unwrap_or.ensures c.in-Some.is in
    (rw (← envelope_miss w _ _ c.if-chunk-id.false) inv.0, inv.1)
