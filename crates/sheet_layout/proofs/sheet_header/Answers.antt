-- `sheet_layout::sheet_header` meets its contract: the header's bytes follow the first byte of a flat voice, and read back.
use Prim.Native.Nat.{ℕ}
use lib.ListN.{length, get_or, drop, length-append, length-drop}
use mathlib.Core.List.{List, ◌++◌}
use mathlib.Core.Path.{◌≡◌, ap, ◌∙◌}
use native.Mathlib.Omega.{arith}
use mir.Syntax.{w8}
use mir.Val.{Fits}
use Rattle.header.specs.Header.{header_of, header_bytes}
use Rattle.header.proofs.HeaderLaws.{header_length, header_back}
use Rattle.sheet.specs.Judge.{judged}
use Rattle.sheet.specs.Read.{read_sheet}
use Rattle.sheet_layout.proofs.PartLaws.{from_channel, at_header}
use Rattle.sheet_layout.proofs.SoundLaws.{sound_flat, sound_allowed}
use Rattle.sheet_layout.proofs.sheet_header.Goals as goal
use Rattle.std.specs.Prelude.{Ok}

header_here : (s : List ℕ) → ((i : ℕ) → Fits w8 (get_or s i 0)) → judged s ≡ Ok tt →
    let v = read_sheet s in
    drop 1 s ≡ header_bytes v.header ++ from_channel v
header_here s bytes sound = at_header (read_sheet s) s (sound_flat s bytes sound)

pub read_header-requires : goal.read_header-requires
read_header-requires c =
    let s = c.args.sheet.now in
    let v = read_sheet s in
    omega (arith, ap length (header_here s c.type_inv.sheet c.requires), length-drop 1 s, length-append (header_bytes v.header) (from_channel v), header_length v.header)

pub returns : goal.returns
returns c =
    let s = c.args.sheet.now in
    let v = read_sheet s in
    let allowed = sound_allowed s c.type_inv.sheet c.requires in
    c.read_header.ensures ∙ ap header_of (header_here s c.type_inv.sheet c.requires) ∙ header_back v.header (from_channel v) allowed.header
