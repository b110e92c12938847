-- A turn stores the next draw's sample, and after the last turn the last draw is at hand.
use mathlib.Core.Path.{◌≡◌, sym, ap, ◌∙◌}
use Prim.Native.Nat.{ℕ, ◌-◌}
use native.Mathlib.Omega.{arith}
use lib.ListN.{length-set}
use mir.Syntax.{w8}
use Rattle.laws.proofs.Prefix.{prefix_next, prefix_whole}
use Rattle.laws.proofs.Signed.{back}
use Rattle.drawn.specs.Draw.{nth_draw}
use Rattle.drawn.specs.DrawnVoice.{drawn_samples}
use Rattle.drawn.proofs.DrawLaws.{samples_length, turn_next, turn_left, turn_last}
use Rattle.drawn.proofs.draw.put_samples.Goals as goal

pub loop-i-preserved : goal.loop-i-preserved
loop-i-preserved c =
    let l = c.loop-i in
    let a = c.args in
    let y_is = c.draw-x.ensures in
    let stored = back w8 c.sample_of_byte.type_inv ∙ c.sample_of_byte.ensures in
    let next = turn_next a.number a.n l.i l.x _ (omega arith) y_is l.invariant.1 in (
      rw stored (prefix_next (drawn_samples a.n a.number) _ a.out.now l.out l.i _ next (omega arith) l.invariant.0),
      turn_left a.number a.n l.i l.x _ (omega arith) y_is l.invariant.1,
      turn_last a.number a.n l.i l.x _ (omega arith) y_is l.invariant.2,
    )

pub returns : goal.returns
unfolding nth_draw
returns c =
    let l = c.loop-i in
    let a = c.args in
    let all : l.i ≡ a.n = omega arith in
    let none : a.n - l.i ≡ 0 = omega arith in
    record {
      result = sym (ap (λ (k : ℕ). nth_draw k l.x) none) ∙ l.invariant.2;
      buffer = l.invariant.0 ∙ prefix_whole (drawn_samples a.n a.number) a.out.now l.i (all ∙ sym (samples_length a.n a.number));
    }
