-- `note_block::sounding_block` meets its contract: path and gains are the voice's, and `play_stage` plays them.
use Prim.Native.Nat.{◌≤◌, ◌<◌, ◌^◌}
use native.Mathlib.Omega.{arith}
use borrow.Author.Rules.{rules}
use lib.ListN.{length}
use Rattle.note_block.proofs.SheetLaws.{places_are}
use Rattle.note_block.proofs.BeginLaws.{path_asks, gains_ask, block_ready}
use Rattle.note_block.proofs.sounding_block.Goals as goal

pub slice_bounds-segments-count : goal.slice_bounds-segments-count
slice_bounds-segments-count c = let a = c.args in (places_are a.sheet.now c.type_inv.sheet c.requires.0 a.l c.requires.1).2

pub slice_bounds-segments-start : goal.slice_bounds-segments-start
slice_bounds-segments-start c = let a = c.args in let p = places_are a.sheet.now c.type_inv.sheet c.requires.0 a.l c.requires.1 in omega arith

pub slice_bounds-segments-end : goal.slice_bounds-segments-end
slice_bounds-segments-end c = let a = c.args in let p = places_are a.sheet.now c.type_inv.sheet c.requires.0 a.l c.requires.1 in omega arith

pub path_of-path-requires : goal.path_of-path-requires
path_of-path-requires c =
    let a = c.args in
    let small : length a.left.now < 2 ^ 63 = search rules in
    path_asks a.n a.frames (length a.out.now) a.sheet.now a.l a.left.now a.right.now c.type_inv.sheet c.requires.0 c.requires.1 c.requires.2 small _ c.sheet_header.ensures

pub gains_of-g-requires : goal.gains_of-g-requires
gains_of-g-requires c =
    let a = c.args in
    let small : length a.left.now < 2 ^ 63 = search rules in
    let g = gains_ask a.n a.frames (length a.out.now) a.sheet.now a.l a.left.now a.right.now c.type_inv.sheet c.requires.0 c.requires.1 c.requires.2 small in
    (c.requires.0, c.requires.1, g.0, g.1)

pub play_stage-requires : goal.play_stage-requires
play_stage-requires c =
    let a = c.args in
    let small : length a.left.now < 2 ^ 63 = search rules in
    let counted : a.frames ≤ 4294967295 = omega (arith, c.ranges.frames) in
    block_ready a.n a.frames (length a.out.now) a.sheet.now a.l a.left.now a.right.now c.type_inv.sheet c.requires.0 c.requires.1 c.requires.2 small
    _ c.sheet_header.ensures _ _ _ c.sheet_sequence.ensures c.is_some-sequence.ensures c.path_of-path.ensures
    _ _ _ c.gains_of-g.ensures counted c.least-d.ensures
