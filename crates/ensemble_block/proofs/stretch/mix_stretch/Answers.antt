-- Each entry is added to the sums of those before it, and in the end the sums are held.
use mathlib.Core.Path.{refl, ap, ◌∙◌}
use Prim.Native.Nat.{ℕ}
use borrow.Author.Rules.{rules}
use lib.IntN.{pos}
use native.Mathlib.Omega.{arith}
use lib.ListN.{replicate}
use Rattle.ensemble_block.proofs.SumsLaws.{added_start, added_more, added_held, entry_ready}
use Rattle.ensemble_block.proofs.stretch.mix_stretch.Goals as goal

pub loop-i-init : goal.loop-i-init
loop-i-init c =
    let a = c.args in
    (refl, refl, added_start a.score.now a.rate a.at a.sheet.now a.l a.left.now a.right.now a.sums.now a.out.now c.requires.0)

pub add_entry-requires : goal.add_entry-requires
add_entry-requires c =
    let o = c.loop-i in
    let a = c.args in
    entry_ready a.score.now a.rate a.at a.sheet.now a.l a.left.now a.right.now a.sums.now a.out.now c.requires.0
    o.i (omega arith) o.sums o.out c.requires.1 o.invariant.1 o.invariant.2

pub loop-i-preserved : goal.loop-i-preserved
loop-i-preserved c =
    let o = c.loop-i in
    let a = c.args in
    let e = c.add_entry.ensures in (
      search rules,
      search rules,
      added_more a.score.now a.rate a.at a.sheet.now a.l a.left.now a.right.now a.sums.now a.out.now c.requires.0
          o.i (omega arith) o.sums _ o.out o.invariant.1 e.sums e.small o.invariant.2,
    )

pub returns : goal.returns
returns c =
    let o = c.loop-i in
    let a = c.args in
    let held = c.put_held.ensures in
    let all = added_held a.score.now a.rate a.at a.sheet.now a.l a.left.now a.right.now a.sums.now a.out.now c.requires.0 o.i o.sums (omega arith) o.invariant.2 in
    record { out = held.out ∙ all; sums = held.sums ∙ ap (λ (n : ℕ). replicate n (pos 0)) o.invariant.0 }
