-- `note_block::stages::attack_level` meets its contract: a cursor on the attack says the level at a time, which is at most 65,536.
use Prim.Native.Nat.{ℕ, ◌-◌, ◌<◌}
use mathlib.Core.Path.{◌≡◌, ap, ◌∙◌}
use native.Mathlib.Omega.{arith}
use lib.IntN.{pos}
use mir.Facts.{to_z_pos}
use mir.Syntax.{w32}
use Rattle.laws.proofs.Signed.{zarith, back}
use Rattle.sheet_layout.specs.Members.{points_in}
use Rattle.note_envelope.specs.Cursor.{Follows}
use Rattle.note_envelope.proofs.CursorLaws.{level_small}
use Rattle.note_frame.specs.Frame.{ms_since, start_level}
use Rattle.note_block.proofs.stages.attack_level.Goals as goal

-- the cursor follows the attack from frame u's time on, and says what is so of it
abbrev time : goal.After-struct_known-1 → ℕ
time c = let a = c.args in ms_since a.rate 0 a.u

since_start : (u : ℕ) → u - 0 ≡ u
since_start u = omega arith

followed : (c : goal.After-struct_known-1) →
    let attack = c.args.attack.now in
    Follows attack (start_level (points_in attack)) (time c) c.cursor_at-e.result
followed c =
    rw (since_start c.args.u) (rw (back w32 c.start_level.type_inv, c.start_level.ensures) at c.cursor_at-e.ensures.0)

told : (c : goal.After-struct_known-1) → time c < c.cursor_at-e.result.until
told c = rw (since_start c.args.u) c.cursor_at-e.ensures.1

pub overflow_cast-result : goal.overflow_cast-result
overflow_cast-result c = omega (zarith, level_small (followed c) (told c))

pub returns : goal.returns
returns c =
    let f = followed c in
    to_z_pos w32 (omega (arith, level_small f (told c))) ∙ ap pos (f.now_is (time c) (omega arith) (told c))
