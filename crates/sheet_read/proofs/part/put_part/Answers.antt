-- `sheet_read::part::put_part` meets its contract: a right chunk has the bytes that are taken from it.
use Prim.Native.Nat.{ℕ, ◌+◌, ◌-◌, ◌≤◌}
use lib.ListN.{length}
use mathlib.Core.List.{List}
use mathlib.Core.Path.{◌≡◌}
use native.Mathlib.Omega.{arith}
use Rattle.laws.proofs.PutLaws.{put_none}
use Rattle.form.specs.declared.place.Place.{Place}
use Rattle.form.proofs.FindLaws.{Found, found}
use Rattle.sheet_read.proofs.PlaceLaws.{least_size, record_at_lem}
use Rattle.sheet_read.proofs.part.put_part.Goals as goal
use Rattle.std.specs.Prelude.{Some}

-- the bytes that are taken lie within the FORM
within : {f : List ℕ} {id : ℕ} {p : Place} → Found f id (Some p) → (n : ℕ) → n ≤ p.size → p.start + n ≤ length f
within w n h = omega (arith, w.inside)

-- `w` says where the chunk lies, and `enough` that it has the bytes
pub overflow_add-end : goal.overflow_add-end
overflow_add-end c =
    let w = rw c.in-Some.is at (found _ _ _ c.find.ensures) in
    let enough : c.args.n ≤ c.in-Some.place.size = omega (arith, least_size w c.requires.0) in
    omega (arith, within w _ enough)

pub slice_bounds-put_record-end : goal.slice_bounds-put_record-end
slice_bounds-put_record-end c =
    let w = rw c.in-Some.is at (found _ _ _ c.find.ensures) in
    let enough : c.args.n ≤ c.in-Some.place.size = omega (arith, least_size w c.requires.0) in
    within w _ enough

pub returns-in_default : goal.returns-in_default
returns-in_default c = rw (← rw c.in_default.is at (found _ _ _ c.find.ensures).is) (put_none _ _)

pub returns : goal.returns
returns c =
    let start = c.in-Some.place.start in
    let n = c.args.n in
    let w = rw c.in-Some.is at (found _ _ _ c.find.ensures) in
    let enough : n ≤ c.in-Some.place.size = omega (arith, least_size w c.requires.0) in
    let e : start + n - start ≡ n = omega arith in
    rw (record_at_lem w _ n enough) (rw e at c.put_record.ensures)
