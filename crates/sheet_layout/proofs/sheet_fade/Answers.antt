-- `sheet_layout::sheet_fade` meets its contract: where the part's place and the next one's differ, its bytes stand past its kind, and read back.
use mathlib.Core.Path.{sym, ap, ◌∙◌}
use native.Mathlib.Omega.{arith}
use Rattle.small_chunks.specs.Sequence.{fade_of}
use Rattle.small_chunks.proofs.FieldLaws.{fade_length, fade_back}
use Rattle.sheet.specs.Allowed.{FadeFits}
use Rattle.sheet.specs.Read.{read_sheet}
use Rattle.sheet_layout.proofs.SoundLaws.{sound_flat, sound_allowed}
use Rattle.sheet_layout.proofs.ThereLaws.{present_read, fade_missing, fade_present}
use Rattle.sheet_layout.proofs.sheet_fade.Goals as goal
use Rattle.std.specs.Prelude.{Some}

pub returns-then-at-l : goal.returns-then-at-l
returns-then-at-l c =
    sym (fade_missing (read_sheet c.args.sheet.now) c.args.l c.requires.1 c.if-at-l.true)

pub overflow_add-body : goal.overflow_add-body
overflow_add-body c =
    let s = c.args.sheet.now in
    let p = fade_present (read_sheet s) c.args.l c.requires.1 s (sound_flat s c.type_inv.sheet c.requires.0) c.if-at-l.false in
    omega arith

pub read_fade-requires : goal.read_fade-requires
read_fade-requires c =
    let s = c.args.sheet.now in
    let p = fade_present (read_sheet s) c.args.l c.requires.1 s (sound_flat s c.type_inv.sheet c.requires.0) c.if-at-l.false in
    omega (arith, fade_length p.value)

pub returns : goal.returns
returns c =
    let s = c.args.sheet.now in
    let p = fade_present (read_sheet s) c.args.l c.requires.1 s (sound_flat s c.type_inv.sheet c.requires.0) c.if-at-l.false in
    let allowed = sound_allowed s c.type_inv.sheet c.requires.0 in
    ap Some c.read_fade.ensures ∙ sym (present_read fade_of FadeFits (λ a r f. fade_back a r f.segment) p allowed.fade)
