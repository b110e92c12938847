-- `sheet_read::text_chunk::put_texts` meets its contract: `turn` splits off the text of a chunk.
use Prim.Native.Nat.{ℕ, ◌+◌, ◌-◌}
use lib.ListN.{take, drop, length-take}
use mathlib.Core.List.{List, ◌++◌}
use mathlib.Core.Path.{◌≡◌, ◌∙◌}
use native.Mathlib.Omega.{arith}
use Rattle.laws.specs.Walk.{each}
use Rattle.laws.proofs.PutLaws.{underway_step, underway_room, underway_done}
use Rattle.chunk.specs.Chunk.{items_from}
use Rattle.chunk.proofs.ChunkLaws.{Whole}
use Rattle.text.specs.Text.{clean}
use Rattle.sheet.specs.Flat.{flat_text}
use Rattle.sheet_read.specs.FormVoice.{text_key, text_of}
use Rattle.sheet_read.specs.Parts.{text_part}
use Rattle.sheet_read.proofs.BoundLaws.{texts_bound}
use Rattle.sheet_read.proofs.TurnLaws.{text_turn, in_hand, none_left, text_stops}
use Rattle.sheet_read.proofs.text_chunk.put_texts.Goals as goal

-- the text of a turn, its payload as the code has it
abbrev part : ℕ → List ℕ → ℕ → ℕ → List ℕ
part key f start size = each flat_text (text_of key (clean (take (start + size - start) (drop start f))))

turn : {f : List ℕ} {at id start size next : ℕ} → Whole f at id start size next → (key : ℕ) → key ≡ text_key id
    → text_part (items_from f at) ≡ part key f start size ++ text_part (items_from f next)
turn {start = start} {size = size} w key k =
    let e : start + size - start ≡ size = omega arith in
    rw (e, k) (text_turn w)

pub returns : goal.returns
returns c =
    let end = none_left _ _ c.chunk_at.ensures c.unwrap_or.ensures c.in_default.is in
    underway_done c.loop-chunk.invariant.0 (text_stops _ end)

pub overflow_add-end : goal.overflow_add-end
overflow_add-end c = let w = in_hand c.chunk_at.ensures c.unwrap_or.ensures c.in-Some.is in omega arith

pub slice_bounds-put_text-end : goal.slice_bounds-put_text-end
slice_bounds-put_text-end c = (in_hand c.chunk_at.ensures c.unwrap_or.ensures c.in-Some.is).inside

pub put_text-o-requires : goal.put_text-o-requires
put_text-o-requires c =
    let f = c.args.form.now in
    let g = c.in-Some.chunk in
    let w = in_hand c.chunk_at.ensures c.unwrap_or.ensures c.in-Some.is in
    let t = turn w _ c.text_key.ensures in
    let room = underway_room (part c.text_key.result f g.start g.size) _ c.loop-chunk.invariant.0 t in (
      omega (arith, length-take (g.start + g.size - g.start) (drop g.start f), w.inside, c.requires.0),
      omega (arith, room, texts_bound f, c.requires.0, c.requires.1),
    )

pub loop-chunk-smaller : goal.loop-chunk-smaller
loop-chunk-smaller c = let w = in_hand c.chunk_at.ensures c.unwrap_or.ensures c.in-Some.is in omega arith

pub loop-chunk-preserved : goal.loop-chunk-preserved
loop-chunk-preserved c =
    let inv = c.loop-chunk.invariant in
    let w = in_hand c.chunk_at.ensures c.unwrap_or.ensures c.in-Some.is in
    let t = turn w _ c.text_key.ensures in
    (underway_step _ inv.0 t c.put_text-o.ensures, c.put_text-o.auto.d ∙ inv.1)
