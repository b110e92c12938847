-- `note_rules::sequence::sequence_refusal` meets its contract: the header, the segments and the fade that were read are the voice's, and
-- each rule that the code has passed doesn't hold.
use Prim.Native.Nat.{ℕ}
use mathlib.Core.Bool.{Bool, true, false, not}
use mathlib.Core.List.{List}
use mathlib.Core.Path.{◌≡◌, sym, ap, ap₂, ◌∙◌}
use lib.ListN.{length}
use Rattle.header.specs.Octaves.{hi}
use Rattle.header.specs.declared.voice_header.VoiceHeader.{VoiceHeader}
use Rattle.sheet.specs.Read.{read_sheet}
use Rattle.sheet.specs.Voice.{Voice}
use Rattle.sheet_layout.specs.Members.{segments_in}
use Rattle.note_path.specs.Path.{segments_of, all_valid}
use Rattle.note_rules.specs.Answers.{beside_one_shot_by, fade_misses_by}
use Rattle.std.specs.Option.{unwrap_or}
use Rattle.note_rules.specs.Rules.{beside_one_shot, fade_misses, sequence_rules}
use Rattle.refusal.proofs.RuleLaws.{Passed, first_here, first_later, first_none}
use Rattle.note_rules.proofs.SequenceLaws.{part_order, part_within, part_whole, part_segments, beside_is, count_is, miss_is}
use Rattle.note_rules.proofs.sequence.sequence_refusal.Goals as goal
use Rattle.small_chunks.specs.declared.sequence.Fade.{Fade}
use Rattle.std.specs.Prelude.{Option, option_map}

-- what the code has read is the voice's
module _ (v : Voice) where
  -- whether every segment is valid
  valid : (part : List ℕ) {h : VoiceHeader} {samples : ℕ} {r : Bool} → r ≡ all_valid (segments_in part) samples → segments_in part ≡ segments_of v.sequence
      → samples ≡ hi h → h ≡ v.header → all_valid (segments_of v.sequence) (hi v.header) ≡ r
  valid part is segments samples_are header = sym (is ∙ ap₂ all_valid segments (samples_are ∙ ap hi header))

  -- whether it is beside a one-shot part
  beside : {h : VoiceHeader} {sequence : Option ℕ} {r : Bool} → r ≡ beside_one_shot_by sequence h.one_shot_hi_samples → sequence ≡ option_map length v.sequence
      → h ≡ v.header → beside_one_shot v.sequence v.header.one_shot_hi_samples ≡ r
  beside is answered header =
      sym (is ∙ ap₂ beside_one_shot_by answered (ap (λ h. h.one_shot_hi_samples) header) ∙ beside_is v.sequence v.header.one_shot_hi_samples)

  -- whether the fade misses the segments
  misses : {fade : Option Fade} {sequence : Option ℕ} {count : ℕ} {r : Bool} → r ≡ fade_misses_by fade count → fade ≡ v.fade
      → count ≡ unwrap_or sequence 0 → sequence ≡ option_map length v.sequence → fade_misses v.fade (length (segments_of v.sequence)) ≡ r
  misses is answered counted sequence_answered =
      sym (
      is ∙ ap₂ fade_misses_by answered (counted ∙ ap (λ (o : Option ℕ). unwrap_or o 0) sequence_answered ∙ count_is v.sequence)
      ∙ miss_is v.fade (length (segments_of v.sequence))
      )

-- the rules that are passed
module _ (v : Voice) (all : all_valid (segments_of v.sequence) (hi v.header) ≡ true) where
  valid_passed : Passed 1 (sequence_rules v)
  valid_passed = first_later _ _ (ap not all)

  module _ (alone : beside_one_shot v.sequence v.header.one_shot_hi_samples ≡ false) where
    beside_passed : Passed 2 (sequence_rules v)
    beside_passed = valid_passed ∙ first_later _ _ alone

    misses_passed : fade_misses v.fade (length (segments_of v.sequence)) ≡ false → Passed 3 (sequence_rules v)
    misses_passed met = beside_passed ∙ first_later _ _ met

pub slice_bounds-segments-count : goal.slice_bounds-segments-count
slice_bounds-segments-count c = part_order c.args.sheet.now c.type_inv.sheet c.requires.0 c.args.l c.requires.1

pub slice_bounds-segments-start : goal.slice_bounds-segments-start
slice_bounds-segments-start c = part_order c.args.sheet.now c.type_inv.sheet c.requires.0 c.args.l c.requires.1

pub slice_bounds-segments-end : goal.slice_bounds-segments-end
slice_bounds-segments-end c = part_within c.args.sheet.now c.type_inv.sheet c.requires.0 c.args.l c.requires.1

-- the bytes between the two places
pub sequence_valid-requires : goal.sequence_valid-requires
sequence_valid-requires c = part_whole c.args.sheet.now c.type_inv.sheet c.requires.0 c.args.l c.requires.1

pub returns-then-not-sequence_valid : goal.returns-then-not-sequence_valid
returns-then-not-sequence_valid c =
    let v = read_sheet c.args.sheet.now in
    let segments = part_segments c.args.sheet.now c.type_inv.sheet c.requires.0 c.args.l c.requires.1 in
    let all = valid v _ c.sequence_valid.ensures segments c.hi_octave_samples.ensures c.sheet_header-h.ensures in
    sym (first_here _ _ (ap not (all ∙ c.if-not-sequence_valid.true)))

pub returns-then-beside_one_shot : goal.returns-then-beside_one_shot
returns-then-beside_one_shot c =
    let v = read_sheet c.args.sheet.now in
    let segments = part_segments c.args.sheet.now c.type_inv.sheet c.requires.0 c.args.l c.requires.1 in
    let all = valid v _ c.sequence_valid.ensures segments c.hi_octave_samples.ensures c.sheet_header-h.ensures in
    let shared = beside v c.beside_one_shot.ensures c.sheet_sequence-sequence.ensures c.sheet_header-h.ensures in
    sym (valid_passed v (all ∙ c.if-not-sequence_valid.false) ∙ first_here _ _ (shared ∙ c.if-beside_one_shot.true))

pub returns-then-fade_misses : goal.returns-then-fade_misses
returns-then-fade_misses c =
    let v = read_sheet c.args.sheet.now in
    let segments = part_segments c.args.sheet.now c.type_inv.sheet c.requires.0 c.args.l c.requires.1 in
    let all = valid v _ c.sequence_valid.ensures segments c.hi_octave_samples.ensures c.sheet_header-h.ensures in
    let shared = beside v c.beside_one_shot.ensures c.sheet_sequence-sequence.ensures c.sheet_header-h.ensures in
    let missed = misses v c.fade_misses.ensures c.sheet_fade.ensures c.unwrap_or.ensures c.sheet_sequence-sequence.ensures in
    sym (
    beside_passed v (all ∙ c.if-not-sequence_valid.false) (shared ∙ c.if-beside_one_shot.false)
    ∙ first_here _ _ (missed ∙ c.if-fade_misses.true)
    )

pub returns : goal.returns
returns c =
    let v = read_sheet c.args.sheet.now in
    let segments = part_segments c.args.sheet.now c.type_inv.sheet c.requires.0 c.args.l c.requires.1 in
    let all = valid v _ c.sequence_valid.ensures segments c.hi_octave_samples.ensures c.sheet_header-h.ensures in
    let shared = beside v c.beside_one_shot.ensures c.sheet_sequence-sequence.ensures c.sheet_header-h.ensures in
    let missed = misses v c.fade_misses.ensures c.sheet_fade.ensures c.unwrap_or.ensures c.sheet_sequence-sequence.ensures in
    sym (
    misses_passed v (all ∙ c.if-not-sequence_valid.false) (shared ∙ c.if-beside_one_shot.false) (missed ∙ c.if-fade_misses.false)
    ∙ first_none
    )
