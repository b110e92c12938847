use mathlib.Core.Path.{◌≡◌, refl, ◌∙◌}
use Prim.Native.Nat.{◌+◌, ◌<◌}
use native.Mathlib.Omega.{arith}
use borrow.Author.Rules.{rules}
use lib.IntN.{pos}
use lib.ListN.{length, get_or, take, length-take}
use lib.Seq.{take_all}
use mir.Syntax.{w16, w32}
use mir.Val.{SFits}
use mir.Facts.{to_z-of_z}
use Rattle.laws.proofs.Signed.{widened}
use Rattle.ensemble_sums.proofs.SumLaws.{plus_take, within_more, grown_fits, grown_stored, grown_within}
use Rattle.ensemble_sums.proofs.add_values.Goals as goal

pub loop-i-init : goal.loop-i-init
loop-i-init c = (refl, λ b h. within_more b (b + 32768) c.args.sums.now (omega arith) h)

pub overflow_add-sums : goal.overflow_add-sums
overflow_add-sums c =
    let a = c.args in
    let l = c.loop-i in
    let added = take a.n a.values.now in
    let f : SFits w16 (get_or added l.i (pos 0)) = search rules in
    let g : SFits w32 (get_or l.sums l.i (pos 0)) = search rules in
    rw (widened w16 w32 tt f, to_z-of_z g)
    (grown_fits added a.sums.now l.sums l.i c.loop-i-test.true (omega (arith, length-take a.n a.values.now)) l.invariant.0 f c.requires.2)

pub loop-i-preserved : goal.loop-i-preserved
loop-i-preserved c =
    let a = c.args in
    let l = c.loop-i in
    let added = take a.n a.values.now in
    let f : SFits w16 (get_or added l.i (pos 0)) = search rules in
    let g : SFits w32 (get_or l.sums l.i (pos 0)) = search rules in
    let value = c.loop-i-test.true in
    let there : l.i < length a.sums.now = omega (arith, length-take a.n a.values.now) in
    let fits = grown_fits added a.sums.now l.sums l.i value there l.invariant.0 f c.requires.2 in
    rw (widened w16 w32 tt f, to_z-of_z g, to_z-of_z fits) (
      grown_stored added a.sums.now l.sums l.i value there l.invariant.0,
      λ b h. grown_within added a.sums.now l.sums l.i value there l.invariant.0 f b h (l.invariant.1 b h),
    )

pub returns-clause-sums : goal.returns-clause-sums
returns-clause-sums c =
    let l = c.loop-i in
    let a = c.args in
    let added = take a.n a.values.now in
    let long = length-take a.n a.values.now in
    let e : l.i ≡ a.n = omega (arith, long) in
    l.invariant.0 ∙ rw (e, plus_take a.n added a.sums.now, take_all a.n added (omega (arith, long)))
