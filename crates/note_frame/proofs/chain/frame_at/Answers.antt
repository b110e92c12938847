-- Each side's value is its share of what the value chain gives for its sample.
use Prim.Native.Nat.{ℕ, ◌<◌, ◌^◌}
use mathlib.Core.Bool.{Bool, cond}
use mathlib.Core.Path.{◌≡◌, ap, ◌∙◌}
use lib.IntN.{ℤ, pos}
use lib.ListN.{get_or}
use borrow.Author.Rules.{rules}
use lib.Signed.{mag}
use mir.Syntax.{w8, w16, w32}
use mir.Val.{hbits, to_z, of_z}
use Rattle.laws.proofs.Signed.{back}
use Rattle.note_frame.specs.Gains.{before_sides}
use Rattle.note_frame.specs.declared.chain.Gains.{Gains}
use Rattle.note_frame.proofs.ChainLaws.{value_is, sounding}
use Rattle.note_frame.proofs.chain.frame_at.Goals as goal

-- a value before the sides, as the machine reads it back
value_read : (g : Gains) (level q : ℕ) (sample : ℤ) {r : ℤ} → mag r < 2 ^ hbits w32 → mag sample < 2 ^ hbits w8 → r ≡ before_sides g level q (to_z w8 (of_z w8 sample))
    → to_z w32 (of_z w32 r) ≡ before_sides g level q sample
value_read g level q sample fits sample_fits is = back w32 fits ∙ rw (back w8 sample_fits) at is

pub returns-then-g : goal.returns-then-g
returns-then-g c =
    let a = c.args in
    sounding a.g a.left.now a.right.now a.q a.i a.level a.right.now
    (ap (λ (t : Bool). cond t a.right.now a.left.now) c.if-g.true) _ _
    (value_is _ _ _ _ _ (value_read a.g a.level a.q (get_or a.left.now a.i (pos 0)) c.before_sides-l.type_inv (search rules) c.before_sides-l.ensures.0) (back w16 c.on_side.type_inv ∙ c.on_side.ensures))
    (value_is _ _ _ _ _ (value_read a.g a.level a.q (get_or a.right.now a.i (pos 0)) c.before_sides-r.type_inv (search rules) c.before_sides-r.ensures.0) (back w16 c.on_side-then-g.type_inv ∙ c.on_side-then-g.ensures))

pub returns : goal.returns
returns c =
    let a = c.args in
    let l = value_read a.g a.level a.q (get_or a.left.now a.i (pos 0)) c.before_sides-l.type_inv (search rules) c.before_sides-l.ensures.0 in
    sounding a.g a.left.now a.right.now a.q a.i a.level a.left.now
    (ap (λ (t : Bool). cond t a.right.now a.left.now) c.if-g.false) _ _
    (value_is _ _ _ _ _ l (back w16 c.on_side-2.type_inv ∙ c.on_side-2.ensures))
    (value_is _ _ _ _ _ l (back w16 c.on_side-3.type_inv ∙ c.on_side-3.ensures))
