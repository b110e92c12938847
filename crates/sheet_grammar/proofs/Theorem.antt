-- Judging accepts a sheet exactly if it is the flat form of an allowed voice, and that voice is unique.
--     judged_flat, read_flat       an allowed voice in flat form is accepted, and reads as that voice
--     flat_read, allowed_read      a sheet of bytes that is accepted reads as an allowed voice, whose flat form it is
--     unique                       two allowed voices of one flat form are one
-- Assumes nothing.
use Prim.Native.Nat.{ℕ}
use mathlib.Core.List.{List}
use mathlib.Core.Path.{◌≡◌, sym, ap, ◌∙◌}
use Rattle.field.specs.BigEndian.{Bytes}
use Rattle.sheet.specs.Voice.{Voice}
use Rattle.sheet.specs.Flat.{flat}
use Rattle.sheet.specs.Allowed.{Allowed}
use Rattle.sheet.specs.Read.{voice_of, read_sheet}
use Rattle.sheet.specs.Judge.{judged_items, judged}
use Rattle.sheet_grammar.proofs.FlatLaws.{flat_records, flat_judged, flat_voice}
use Rattle.sheet_grammar.proofs.SheetLaws.{flat_found, found_allowed, voice_found}
use Rattle.std.specs.Prelude.{Ok}

pub judged_flat : (v : Voice) → Allowed v → judged (flat v) ≡ Ok tt
judged_flat v a = ap judged_items (flat_records v a) ∙ flat_judged v a

pub read_flat : (v : Voice) → Allowed v → read_sheet (flat v) ≡ v
read_flat v a = ap voice_of (flat_records v a) ∙ flat_voice v a

pub flat_read : (s : List ℕ) → Bytes s → judged s ≡ Ok tt → flat (read_sheet s) ≡ s
flat_read s b j = rw (voice_found s) (flat_found s b j)

pub allowed_read : (s : List ℕ) → Bytes s → judged s ≡ Ok tt → Allowed (read_sheet s)
allowed_read s b j = rw (voice_found s) (found_allowed s b j)

pub unique : (v w : Voice) → Allowed v → Allowed w → flat v ≡ flat w → v ≡ w
unique v w a b e = sym (read_flat v a) ∙ ap read_sheet e ∙ read_flat w b
