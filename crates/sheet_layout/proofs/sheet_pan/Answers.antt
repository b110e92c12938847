-- `sheet_layout::sheet_pan` meets its contract: where the part's place and the next one's differ, its bytes stand past its kind, and read back.
use mathlib.Core.Path.{sym, ap, ◌∙◌}
use native.Mathlib.Omega.{arith}
use Rattle.small_chunks.specs.Pan.{pan_of}
use Rattle.small_chunks.proofs.FieldLaws.{pan_length, pan_back}
use Rattle.sheet.specs.Allowed.{PanFits}
use Rattle.sheet.specs.Read.{read_sheet}
use Rattle.sheet_layout.proofs.SoundLaws.{sound_flat, sound_allowed}
use Rattle.sheet_layout.proofs.ThereLaws.{present_read, pan_missing, pan_present}
use Rattle.sheet_layout.proofs.sheet_pan.Goals as goal
use Rattle.std.specs.Prelude.{Some}

pub returns-then-at-l : goal.returns-then-at-l
returns-then-at-l c =
    sym (pan_missing (read_sheet c.args.sheet.now) c.args.l c.requires.1 c.if-at-l.true)

pub overflow_add-body : goal.overflow_add-body
overflow_add-body c =
    let s = c.args.sheet.now in
    let p = pan_present (read_sheet s) c.args.l c.requires.1 s (sound_flat s c.type_inv.sheet c.requires.0) c.if-at-l.false in
    omega arith

pub read_pan-requires : goal.read_pan-requires
read_pan-requires c =
    let s = c.args.sheet.now in
    let p = pan_present (read_sheet s) c.args.l c.requires.1 s (sound_flat s c.type_inv.sheet c.requires.0) c.if-at-l.false in
    omega (arith, pan_length p.value)

pub returns : goal.returns
returns c =
    let s = c.args.sheet.now in
    let p = pan_present (read_sheet s) c.args.l c.requires.1 s (sound_flat s c.type_inv.sheet c.requires.0) c.if-at-l.false in
    let allowed = sound_allowed s c.type_inv.sheet c.requires.0 in
    ap Some c.read_pan.ensures ∙ sym (present_read pan_of PanFits (λ a r f. pan_back a r f.position) p allowed.pan)
