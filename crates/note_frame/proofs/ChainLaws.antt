-- No step of the value chain makes a value larger, so it stays a 16-bit one; what a frame is where it sounds, and that it is over without a place or a level.
-- Assumes nothing.
use mathlib.Core.Bool.{Bool, true, false, cond}
use mathlib.Core.List.{List}
use mathlib.Core.Path.{◌≡◌, refl}
use Prim.Native.Nat.{ℕ, ◌-◌, ◌≤◌}
use native.Mathlib.Omega.{arith}
use borrow.Author.Tests.{leb-true}
use lib.Dec.{leb}
use lib.IntN.{ℤ, pos, ◌*ℤ◌}
use lib.ListN.{get_or}
use mir.Syntax.{w8, w16}
use mir.Val.{SFits}
use Rattle.laws.proofs.Signed.{zarith, known, times}
use Rattle.envelope.specs.Level.{scaled_by}
use Rattle.envelope.proofs.ScaleLaws.{scaled_fits}
use Rattle.note_frame.specs.declared.chain.Gains.{Gains}
use Rattle.note_frame.specs.Frame.{silent}
use Rattle.note_frame.specs.Gains.{faded_with, before_sides, value_with, frame_with}
use Rattle.std.specs.Prelude.{None, Option, Some}

-- ---- a value stays a 16-bit one

pub faded_fits : (g : Gains) (q : ℕ) (x : ℤ) → SFits w16 x → SFits w16 (faded_with g q x)
unfolding faded_with
faded_fits g q x f = go g.fades (leb g.fade_start q) refl
  where
    start : ℕ
    start = g.fade_start

    end : ℕ
    end = g.path_length

    go : (a b : Bool) → leb start q ≡ b → SFits w16 (cond a (cond b (scaled_by x (end - q) (end - start)) x) x)
    go false b e = f
    go true false e = f
    go true true e = scaled_fits x (end - q) (end - start) (omega (arith, leb-true start q e)) f

pub before_sides_fits : (g : Gains) (level q : ℕ) (s : ℤ) → level ≤ 65536 → g.volume ≤ 65536 → g.velocity ≤ 127 → SFits w8 s → SFits w16 (before_sides g level q s)
unfolding before_sides
before_sides_fits g level q s h₁ h₂ h₃ f =
    let whole : SFits w16 (s *ℤ pos 256) = omega (zarith, known f, times s 256) in
    faded_fits g q _ (scaled_fits _ g.velocity 127 h₃ (scaled_fits _ g.volume 65536 h₂ (scaled_fits _ level 65536 h₁ whole)))

-- ---- what a frame is

-- a side's value, from the value before the sides
pub value_is : (g : Gains) (level q : ℕ) (s : ℤ) (share : ℕ) {x y : ℤ} → x ≡ before_sides g level q s → y ≡ scaled_by x share 65536 → y ≡ value_with g level q s share
unfolding value_with
value_is g level q s share e f = rw (f, e)

module _ (g : Gains) (left right : List ℤ) (q : ℕ) where
  pub no_place : (level : Option ℕ) → frame_with g left right q None level ≡ silent
  unfolding frame_with
  no_place level = refl

  pub no_level : (i : ℕ) → frame_with g left right q (Some i) None ≡ silent
  unfolding frame_with
  no_level i = refl

  pub not_over : (i level : ℕ) → (frame_with g left right q (Some i) (Some level)).sounds ≡ true
  unfolding frame_with
  not_over i level = refl

  -- a frame that sounds: `second` has the samples that the right side plays
  pub sounding : (i level : ℕ) (second : List ℤ) → cond g.stereo right left ≡ second → (a b : ℤ)
      → a ≡ value_with g level q (get_or left i (pos 0)) g.left_share
      → b ≡ value_with g level q (get_or second i (pos 0)) g.right_share
      → record { left = a; right = b; sounds = true } ≡ frame_with g left right q (Some i) (Some level)
  unfolding frame_with
  sounding i level second s a b x y = rw (s, x, y)
