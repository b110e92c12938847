-- `sheet_read::part::put_channel` meets its contract: what is parsed is what the part is made of.
use Prim.Native.Nat.{◌+◌, ◌-◌}
use mathlib.Core.Path.{◌≡◌}
use native.Mathlib.Omega.{arith}
use Rattle.laws.proofs.PutLaws.{put_none}
use Rattle.form.proofs.FindLaws.{found}
use Rattle.sheet_read.proofs.PlaceLaws.{channel_at_lem}
use Rattle.sheet_read.proofs.part.put_channel.Goals as goal

-- `w` says where the chunk lies
pub overflow_add-end : goal.overflow_add-end
overflow_add-end c = let w = rw c.in-Some.is at (found _ _ _ c.find.ensures) in omega (arith, w.inside)

pub slice_bounds-parse-end : goal.slice_bounds-parse-end
slice_bounds-parse-end c = (rw c.in-Some.is at (found _ _ _ c.find.ensures)).inside

pub returns-in_default : goal.returns-in_default
returns-in_default c = rw (← rw c.in_default.is at (found _ _ _ c.find.ensures).is) (put_none _ _)

-- `part_is` is the part, by what is parsed
pub returns-in_default-parse : goal.returns-in_default-parse
returns-in_default-parse c =
    let g = c.in-Some.place in
    let w = rw c.in-Some.is at (found _ _ _ c.find.ensures) in
    let e : g.start + g.size - g.start ≡ g.size = omega arith in
    let part_is = channel_at_lem w c.requires.0 _ (rw e at c.parse.ensures) in
    rw (part_is, c.in_default-parse.is) (put_none _ _)

pub returns : goal.returns
returns c =
    let g = c.in-Some.place in
    let w = rw c.in-Some.is at (found _ _ _ c.find.ensures) in
    let e : g.start + g.size - g.start ≡ g.size = omega arith in
    let part_is = channel_at_lem w c.requires.0 _ (rw e at c.parse.ensures) in
    rw (part_is, c.in-Ok.is) c.put_channel.ensures
