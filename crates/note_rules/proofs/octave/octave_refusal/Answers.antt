-- `note_rules::octave::octave_refusal` meets its contract: the bytes between the two places of the sheet are those of the sequence.
use Prim.Native.Nat.{ℕ, ◌^◌}
use mathlib.Core.Bool.{Bool, ◌&&◌}
use mathlib.Core.List.{List}
use mathlib.Core.Path.{◌≡◌, sym, ap₂, ◌∙◌}
use lib.Dec.{ltb}
use Rattle.refusal.proofs.RuleLaws.{first_here, first_later, first_none}
use Rattle.header.specs.Octaves.{octave_there}
use Rattle.header.specs.declared.voice_header.VoiceHeader.{VoiceHeader}
use Rattle.sheet.specs.Read.{read_sheet}
use Rattle.sheet.specs.Voice.{Voice}
use Rattle.sheet_layout.specs.Members.{segments_in}
use Rattle.note_path.specs.Path.{segments_of, joined_length}
use Rattle.note_rules.proofs.SequenceLaws.{part_order, part_within, part_whole, part_segments}
use Rattle.note_rules.proofs.octave.octave_refusal.Goals as goal

pub slice_bounds-segments-count : goal.slice_bounds-segments-count
slice_bounds-segments-count c = part_order c.args.sheet.now c.type_inv.sheet c.requires.0 c.args.l c.requires.1

pub slice_bounds-segments-start : goal.slice_bounds-segments-start
slice_bounds-segments-start c = part_order c.args.sheet.now c.type_inv.sheet c.requires.0 c.args.l c.requires.1

pub slice_bounds-segments-end : goal.slice_bounds-segments-end
slice_bounds-segments-end c = part_within c.args.sheet.now c.type_inv.sheet c.requires.0 c.args.l c.requires.1

pub too_long-requires : goal.too_long-requires
too_long-requires c = part_whole c.args.sheet.now c.type_inv.sheet c.requires.0 c.args.l c.requires.1

-- whether it is too long, by the header and the segments that were read
long : (v : Voice) (k : ℕ) (part : List ℕ) {h : VoiceHeader} {r : Bool} → r ≡ (octave_there h k && ltb 4294967295 (joined_length (2 ^ k) (segments_in part)))
    → h ≡ v.header → segments_in part ≡ segments_of v.sequence
    → (octave_there v.header k && ltb 4294967295 (joined_length (2 ^ k) (segments_of v.sequence))) ≡ r
long v k part is header segments =
    sym (is ∙ ap₂ (λ h ss. octave_there h k && ltb 4294967295 (joined_length (2 ^ k) ss)) header segments)

pub returns-then-too_long : goal.returns-then-too_long
returns-then-too_long c =
    let a = c.args in
    let segments = part_segments a.sheet.now c.type_inv.sheet c.requires.0 a.l c.requires.1 in
    sym (first_here _ _ (long (read_sheet a.sheet.now) a.k _ c.too_long.ensures c.sheet_header-h.ensures segments ∙ c.if-too_long.true))

pub returns : goal.returns
returns c =
    let a = c.args in
    let segments = part_segments a.sheet.now c.type_inv.sheet c.requires.0 a.l c.requires.1 in
    sym (first_later _ _ (long (read_sheet a.sheet.now) a.k _ c.too_long.ensures c.sheet_header-h.ensures segments ∙ c.if-too_long.false) ∙ first_none)
