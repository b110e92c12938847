-- The refusals of a sheet, and of writing its voice.
-- Assumes nothing.
use Prim.Native.Nat.{ℕ, ◌^◌}
use mathlib.Core.List.{List}
use mathlib.Core.Path.{◌≡◌}
use lib.Dec.{T, ltb}
use lib.ListN.{length}
use Rattle.laws.specs.Among.{Among}
use Rattle.header.specs.Octaves.{total_samples}
use Rattle.body_read.specs.Sides.{Sides, lengths_suit}
use Rattle.sheet.specs.Voice.{Voice, is_stereo}
use Rattle.sheet.specs.Read.{read_sheet, groups}
use Rattle.sheet.specs.Record.{records}
use Rattle.sheet.specs.Order.{first_wrong}
use Rattle.sheet.specs.Judge.{texts_well_formed, judged_items, judged, if_sound}
use Rattle.voice_write.specs.WriteVoice.{contents, held32, write_voice, write_sheet}
use Rattle.demands.specs.Demand1.{writing_refusals, sheet_refusals, record_refusals}
use Rattle.demands.proofs.RefusalLaws.{one_of, are_of, Within, by_test, widened, refused_by, accepted_then}
use Rattle.demands.proofs.FirstRefusals.{wrong_within}
use Rattle.demands.proofs.DecodeRefusals.{compression_within}
use Rattle.refusal.specs.declared.Refusal.TheVariants.{UnknownCompression, OctaveTotal, TextIllFormed, SampleLengths, FormLength}
use Rattle.refusal.specs.Outcome.{Outcome}
use Rattle.std.specs.Prelude.{Err, Ok, ⊤}
use Rattle.refusal.specs.declared.Refusal.{Refusal}

-- ---- judging a sheet

sheet_within : (sheet : List ℕ) → Within sheet_refusals (judged sheet)
unfolding judged_items
sheet_within sheet =
    accepted_then sheet_refusals (first_wrong 0 (records sheet)) _ (widened sheet_refusals record_refusals tt (first_wrong 0 (records sheet)) (wrong_within sheet 0 0))
    (by_test (Within sheet_refusals) (texts_well_formed (groups 10 11 (records sheet))) tt (one_of sheet_refusals TextIllFormed tt))

-- what follows for a sheet that is sound
pub if_sound_within : {A : Type 0} (refusals : List Refusal) → T (are_of refusals sheet_refusals) → (sheet : List ℕ) (o : Outcome A) → Within refusals o
    → Within refusals (if_sound (judged sheet) Err o)
if_sound_within {A} refusals t sheet o w = go (judged sheet) (widened refusals sheet_refusals t (judged sheet) (sheet_within sheet))
  where
    go : (j : Outcome ⊤) → Within refusals j → Within refusals (if_sound j Err o)
    go (Ok u) s = w
    go (Err r) s = s

pub sheet_refusal : (sheet : List ℕ) (refusal : Refusal) → judged sheet ≡ Err refusal → Among refusal sheet_refusals
sheet_refusal sheet refusal = refused_by sheet_refusals (judged sheet) refusal (sheet_within sheet)

-- ---- writing a voice

held_within : (held : List ℕ) → Within writing_refusals (held32 held)
held_within held = by_test (Within writing_refusals) (ltb (length held) (2 ^ 32)) tt (one_of writing_refusals FormLength tt)

voice_within : (v : Voice) (s : Sides) → Within writing_refusals (write_voice v s)
unfolding write_voice
voice_within v s =
    compression_within writing_refusals (one_of writing_refusals UnknownCompression tt) v.header.compression_byte _ (λ c.
    by_test (Within writing_refusals) (ltb (total_samples v.header) (2 ^ 64))
    (by_test (Within writing_refusals) (lengths_suit v.header (is_stereo v.channel) (length s.left) (length s.right)) (held_within (contents v c s)) (one_of writing_refusals SampleLengths tt))
    (one_of writing_refusals OctaveTotal tt))

pub writing_within : (sheet : List ℕ) (s : Sides) → Within writing_refusals (write_sheet sheet s)
writing_within sheet s = if_sound_within writing_refusals tt sheet (write_voice (read_sheet sheet) s) (voice_within (read_sheet sheet) s)
