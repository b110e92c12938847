-- `voice_read::chunks::body_of` meets its contract: BODY's bytes lie at the place that is found.
use Prim.Native.Nat.{◌+◌, ◌-◌}
use mathlib.Core.Path.{◌≡◌, ap}
use native.Mathlib.Omega.{arith}
use Rattle.form.proofs.FindLaws.{found}
use Rattle.sheet.specs.Read.{body_of}
use Rattle.voice_read.proofs.chunks.body_of.Goals as goal

-- `w` says where the chunk lies
pub overflow_add-end : goal.overflow_add-end
overflow_add-end c = let w = rw c.in-Some.is at (found _ _ _ c.find.ensures) in omega (arith, w.inside)

pub slice_bounds-result-end-2 : goal.slice_bounds-result-end-2
slice_bounds-result-end-2 c = (rw c.in-Some.is at (found _ _ _ c.find.ensures)).inside

pub returns-in_default : goal.returns-in_default
returns-in_default c = ap body_of (rw c.in_default.is at (found _ _ _ c.find.ensures).is)

pub returns : goal.returns
returns c =
    let p = c.in-Some.place in
    let w = rw c.in-Some.is at (found _ _ _ c.find.ensures) in
    let e : p.start + p.size - p.start ≡ p.size = omega arith in
    rw e (ap body_of w.is)
