-- One case of `texts_after` for each way out: kind 11, kind 10 after texts that are well-formed or not, and any other kind.
use borrow.Author.Tests.{ne_eqb}
use mathlib.Core.Bool.{Bool, true, false, not, ◌&&◌, ◌||◌}
use mathlib.Core.Path.{◌≡◌, refl}
use Rattle.sheet.specs.TextState.{texts_after}
use Rattle.sheet.proofs.judge.TextState.after.Goals as goal

pub returns-then-kind-eq11 : goal.returns-then-kind-eq11
unfolding texts_after
returns-then-kind-eq11 c = rw (c.if-kind-eq11.true, c.feed.ensures)

-- not well-formed: an earlier text, or the one in hand
ill : (a b : Bool) → not (not a && b) ≡ (not b || a)
ill true true = refl
ill true false = refl
ill false true = refl
ill false false = refl

pub returns-then-kind-eq10 : goal.returns-then-kind-eq10
unfolding texts_after
returns-then-kind-eq10 c = rw (c.if-kind-eq10.true, c.between.ensures, c.is_well_formed.ensures, ill)

pub returns : goal.returns
unfolding texts_after
returns c = rw (ne_eqb _ _ c.if-kind-eq11.false, ne_eqb _ _ c.if-kind-eq10.false)
