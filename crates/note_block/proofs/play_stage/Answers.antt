-- `note_block::play_stage` meets its contract: the bytes between the layout's places are the points and segments that the stage plays.
use native.Mathlib.Omega.{arith}
use Rattle.note_block.proofs.SheetLaws.{places_are, attacks_are}
use Rattle.note_block.proofs.ReadyLaws.{held_asks, held_plays, released_asks, released_plays}
use Rattle.note_block.proofs.play_stage.Goals as goal

pub slice_bounds-attack-count : goal.slice_bounds-attack-count
slice_bounds-attack-count c = let a = c.args in (places_are a.sheet.now c.type_inv.sheet c.requires.sound a.l c.requires.layout_is).0

pub slice_bounds-attack-start : goal.slice_bounds-attack-start
slice_bounds-attack-start c = let a = c.args in let p = places_are a.sheet.now c.type_inv.sheet c.requires.sound a.l c.requires.layout_is in omega arith

pub slice_bounds-attack-end : goal.slice_bounds-attack-end
slice_bounds-attack-end c = let a = c.args in let p = places_are a.sheet.now c.type_inv.sheet c.requires.sound a.l c.requires.layout_is in omega arith

pub slice_bounds-segments-count : goal.slice_bounds-segments-count
slice_bounds-segments-count c = let a = c.args in (places_are a.sheet.now c.type_inv.sheet c.requires.sound a.l c.requires.layout_is).2

pub slice_bounds-segments-start : goal.slice_bounds-segments-start
slice_bounds-segments-start c = let a = c.args in let p = places_are a.sheet.now c.type_inv.sheet c.requires.sound a.l c.requires.layout_is in omega arith

pub slice_bounds-segments-end : goal.slice_bounds-segments-end
slice_bounds-segments-end c = let a = c.args in let p = places_are a.sheet.now c.type_inv.sheet c.requires.sound a.l c.requires.layout_is in omega arith

-- ---- held

pub play-requires : goal.play-requires
play-requires c = held_asks _ _ _ _ _ _ _ _ _ _ c.requires c.type_inv.sheet _ c.attack_stage-stage.ensures

pub returns-in-Held : goal.returns-in-Held
returns-in-Held c = held_plays _ _ _ _ _ _ _ _ _ _ c.requires c.type_inv.sheet _ c.attack_stage-stage.ensures _ _ c.in-Held.is c.play.ensures

-- ---- released

pub release_stage-stage-requires : goal.release_stage-stage-requires
release_stage-stage-requires c = let a = c.args in (c.requires.rate_some, (attacks_are a.sheet.now c.type_inv.sheet c.requires.sound a.l c.requires.layout_is).1)

pub slice_bounds-release-count : goal.slice_bounds-release-count
slice_bounds-release-count c = let a = c.args in (places_are a.sheet.now c.type_inv.sheet c.requires.sound a.l c.requires.layout_is).1

pub slice_bounds-release-start : goal.slice_bounds-release-start
slice_bounds-release-start c = let a = c.args in let p = places_are a.sheet.now c.type_inv.sheet c.requires.sound a.l c.requires.layout_is in omega arith

pub slice_bounds-release-end : goal.slice_bounds-release-end
slice_bounds-release-end c = let a = c.args in let p = places_are a.sheet.now c.type_inv.sheet c.requires.sound a.l c.requires.layout_is in omega arith

pub play-requires-in-Released : goal.play-requires-in-Released
play-requires-in-Released c = released_asks _ _ _ _ _ _ _ _ _ _ c.requires c.type_inv.sheet _ c.in-Released.is _ c.release_stage-stage.ensures

pub returns-in-Released : goal.returns-in-Released
returns-in-Released c =
    released_plays _ _ _ _ _ _ _ _ _ _ c.requires c.type_inv.sheet _ c.in-Released.is _ c.release_stage-stage.ensures _ _ c.play-in-Released.ensures
