-- `note_calls::fill_part` meets its contract: the fill sees the part's length alone, and its block is stored at the part's place.
use Prim.Native.Nat.{ℕ, ◌+◌, ◌-◌}
use mathlib.Core.List.{List, ◌++◌}
use mathlib.Core.Path.{◌≡◌, sym, ap, ◌∙◌}
use native.Mathlib.Omega.{arith}
use lib.IntN.{ℤ}
use lib.ListN.{take, drop}
use lib.Seq.{sets}
use Rattle.body_read.specs.Sides.{Sides}
use Rattle.note.specs.Fill.{after_fill}
use Rattle.note_calls.specs.Play.{accepted_block}
use Rattle.note_calls.proofs.PartLaws.{zeros, same_answer, same_note, part_places, part_stored}
use Rattle.note_calls.proofs.fill_part.Goals as goal
use Rattle.refusal.specs.Outcome.{Outcome}

-- the whole, with the part as the fill leaves it
abbrev put_back : List ℤ → ℕ → ℕ → List ℤ → List ℤ
put_back d at size b = take at d ++ (b ++ drop size (drop at d))

-- the whole, with the accepted block stored
abbrev by_answer : List ℤ → ℕ → List ℤ → Outcome ℕ → List ℤ
by_answer d at buffer x = sets d at (accepted_block x buffer)

pub returns : goal.returns
returns c =
    let a = c.args in
    let s : Sides = record { left = a.left.now; right = a.right.now } in
    let n = a.at + a.places - a.at in
    let size : n ≡ a.places = omega arith in
    -- the part that is lent
    let part = take n (drop a.at a.out.now) in
    let done = c.fill.ensures in
    let same = part_places a.sheet.now s a.n a.out.now a.at n a.places size c.requires in
    let answer = done.answer ∙ same_answer a.sheet.now s a.n part (zeros a.places) same in
    let stored = part_stored a.sheet.now s a.n a.out.now a.at n a.places size c.requires in
    let block = by_answer a.out.now a.at (after_fill a.sheet.now s a.n (zeros a.places)).buffer in
    record {
      answer = answer;
      note = done.note ∙ same_note a.sheet.now s a.n part (zeros a.places) same;
      buffer = ap (put_back a.out.now a.at n) done.buffer ∙ stored ∙ ap block (sym answer);
    }
