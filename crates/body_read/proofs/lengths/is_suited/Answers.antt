-- `body_read::lengths::is_suited` meets its contract: at each `return` the tests that led there say which lengths suit.
use mathlib.Core.Bool.{true}
use mathlib.Core.Path.{◌≡◌, sym, ap, ◌∙◌}
use native.Mathlib.Omega.{arith}
use borrow.Author.Tests.{eq-eqb, ne_eqb}
use lib.Dec.{eqb}
use Rattle.header.specs.Octaves.{hi, total_samples}
use Rattle.header.proofs.OctaveLaws.{total_is, total_not}
use Rattle.body_read.proofs.SideLaws.{right_suits, suit_not, suit_is}
use Rattle.body_read.proofs.lengths.is_suited.Goals as goal
use Rattle.body_read.proofs.lengths.is_suited.Goals.{then-stereo+else-right-left, else-stereo+else-right-ne0}

pub returns-then-right-left : goal.returns-then-right-left
returns-then-right-left c =
    let a = c.args in
    sym (suit_not a.h a.stereo a.left a.right (rw c.if-stereo.true (ne_eqb a.right a.left c.if-right-left.true)))

pub returns-then-right-ne0 : goal.returns-then-right-ne0
returns-then-right-ne0 c =
    let a = c.args in
    sym (suit_not a.h a.stereo a.left a.right (rw c.if-stereo.false (ne_eqb a.right 0 c.if-right-ne0.true)))

-- Below, `right_is` is that past both tests the right side is as long as it should be.

pub returns-then-hi_octave_samples-eq0 : goal.returns-then-hi_octave_samples-eq0
returns-then-hi_octave_samples-eq0 c =
    let a = c.args in
    let right_is : right_suits a.h a.stereo a.left a.right ≡ true = elim c.if-stereo.branch [
      | then-stereo+else-right-left w ↦ rw w.if-stereo.true (eq-eqb a.right a.left w.if-right-left.false)
      | else-stereo+else-right-ne0 w ↦ rw w.if-stereo.false (eq-eqb a.right 0 w.if-right-ne0.false)
    ] in
    let zero : hi a.h ≡ 0 = sym c.hi_octave_samples.ensures ∙ c.if-hi_octave_samples-eq0.true in
    sym (suit_is a.h a.stereo a.left a.right right_is ∙ rw (eq-eqb (hi a.h) 0 zero))

pub returns-in-Err : goal.returns-in-Err
returns-in-Err c =
    let a = c.args in
    let right_is : right_suits a.h a.stereo a.left a.right ≡ true = elim c.if-stereo.branch [
      | then-stereo+else-right-left w ↦ rw w.if-stereo.true (eq-eqb a.right a.left w.if-right-left.false)
      | else-stereo+else-right-ne0 w ↦ rw w.if-stereo.false (eq-eqb a.right 0 w.if-right-ne0.false)
    ] in
    let some : hi a.h ≡ 0 → ⊥ = λ e. c.if-hi_octave_samples-eq0.false (c.hi_octave_samples.ensures ∙ e) in
    let large = total_not a.h _ (sym c.total_samples_per_channel.ensures ∙ c.in-Err.is) in
    let apart : a.left ≡ total_samples a.h → ⊥ = λ e. omega (arith, large.0, c.ranges.left) in
    sym (suit_is a.h a.stereo a.left a.right right_is ∙ rw (ne_eqb (hi a.h) 0 some, ne_eqb a.left (total_samples a.h) apart))

pub returns-in-Ok : goal.returns-in-Ok
returns-in-Ok c =
    let a = c.args in
    let right_is : right_suits a.h a.stereo a.left a.right ≡ true = elim c.if-stereo.branch [
      | then-stereo+else-right-left w ↦ rw w.if-stereo.true (eq-eqb a.right a.left w.if-right-left.false)
      | else-stereo+else-right-ne0 w ↦ rw w.if-stereo.false (eq-eqb a.right 0 w.if-right-ne0.false)
    ] in
    let some : hi a.h ≡ 0 → ⊥ = λ e. c.if-hi_octave_samples-eq0.false (c.hi_octave_samples.ensures ∙ e) in
    let is = total_is a.h c.in-Ok.total (sym c.total_samples_per_channel.ensures ∙ c.in-Ok.is) in
    sym (suit_is a.h a.stereo a.left a.right right_is ∙ rw (ne_eqb (hi a.h) 0 some) (ap (eqb a.left) is.1))
