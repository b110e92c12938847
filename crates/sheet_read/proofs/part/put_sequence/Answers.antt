-- `sheet_read::part::put_sequence` meets its contract: the segments of the chunk that is found are its bytes, tagged.
use Prim.Native.Nat.{ℕ, ◌+◌, ◌-◌}
use lib.ListN.{length, take, drop}
use mathlib.Core.List.{List, ◌∷◌}
use mathlib.Core.Path.{◌≡◌, ap}
use native.Mathlib.Omega.{arith}
use Rattle.laws.proofs.PutLaws.{put_none}
use Rattle.field.specs.BigEndian.{Bytes}
use Rattle.field.specs.Tagged.{tagged}
use Rattle.chunk.specs.Chunk.{items_from}
use Rattle.form.specs.Names.{seqn}
use Rattle.form.specs.declared.place.Place.{Place}
use Rattle.form.proofs.FindLaws.{Found, found}
use Rattle.sheet_read.specs.Parts.{segments_part}
use Rattle.sheet_read.proofs.PlaceLaws.{sequence_at_lem}
use Rattle.sheet_read.proofs.part.put_sequence.Goals as goal
use Rattle.std.specs.Prelude.{Some}

-- the part, its payload as the code has it
part_is : {f : List ℕ} {p : Place} → Found f seqn (Some p) → Bytes f
    → segments_part (items_from f 12) ≡ 7 ∷ tagged 8 8 (take (p.start + p.size - p.start) (drop p.start f))
part_is {p = p} w b =
    let e : p.start + p.size - p.start ≡ p.size = omega arith in
    rw e (sequence_at_lem w b)

-- `w` says where the chunk lies
pub overflow_add-end : goal.overflow_add-end
overflow_add-end c = let w = rw c.in-Some.is at (found _ _ _ c.find.ensures) in omega (arith, w.inside)

pub slice_bounds-put_group-end : goal.slice_bounds-put_group-end
slice_bounds-put_group-end c = (rw c.in-Some.is at (found _ _ _ c.find.ensures)).inside

pub put_group-requires : goal.put_group-requires
put_group-requires c =
    let w = rw c.in-Some.is at (found _ _ _ c.find.ensures) in
    (omega arith, omega (arith, ap length (part_is w (λ i. (c.type_inv.form i).fits)), c.requires))

pub returns-in_default : goal.returns-in_default
returns-in_default c = rw (← rw c.in_default.is at (found _ _ _ c.find.ensures).is) (put_none _ _)

pub returns : goal.returns
returns c =
    let w = rw c.in-Some.is at (found _ _ _ c.find.ensures) in
    rw (part_is w (λ i. (c.type_inv.form i).fits)) c.put_group.ensures
