-- A call of the mixer by the first rule that holds: refused by it, or the next mixed frames. No other law unfolds `mix_voice` and `mix_sheet`.
--     mix_refused, mix_accepted     a call on a voice, by the first rule that holds
--     mix_turned                    the first rule that holds, of a refused call
--     block_frames, no_rule         what an accepted call gives, and that no rule holds
--     mix_capped                    a call from past 4,294,967,295 is the one from there
--     by_score, by_sheet, by_voice  a call on a sheet: refused by the score, by the sheet, or as on the sheet's voice
--     mix_sound                     on a sound sheet it is as on its voice
--     refused_leaves, accepted_leaves   what it leaves
-- Assumes nothing.
use Prim.Native.Nat.{ℕ, ◌+◌, ◌/◌, min}
use mathlib.Core.Bool.{Bool, true, false}
use mathlib.Core.List.{List}
use mathlib.Core.Path.{◌≡◌, refl, sym, ◌∙◌}
use native.Mathlib.Omega.{arith}
use borrow.Author.Tests.{leb-true, leb-false}
use lib.Dec.{leb}
use lib.IntN.{ℤ}
use lib.ListN.{length}
use Rattle.refusal.specs.Rules.{Rule, NoneHolds, first_holding}
use Rattle.refusal.proofs.RuleLaws.{turned_back, none_back, none_holds}
use Rattle.sheet.specs.Judge.{judged, if_sound}
use Rattle.sheet.specs.Read.{read_sheet}
use Rattle.sheet.specs.Voice.{Voice}
use Rattle.sheet.proofs.SoundLaws.{if_sound_lem, if_refused}
use Rattle.body_read.specs.Sides.{Sides}
use Rattle.note_frame.specs.Frames.{frames_from, interleaved}
use Rattle.note_frame.specs.declared.chain.Frame.{Frame}
use Rattle.note_frame.proofs.FramesLaws.{frames_shift}
use Rattle.ensemble_score.specs.declared.Entry.{Entry}
use Rattle.ensemble_rules.specs.Rules.{score_rules, mix_rules}
use Rattle.ensemble_rules.proofs.RuleLaws.{mix_score}
use Rattle.ensemble_block.specs.Mixed.{mixed_frame}
use Rattle.ensemble_block.proofs.MixedLaws.{mixed_last}
use Rattle.ensemble.specs.Mix.{mix_voice, mix_sheet, place_after, after_mix}
use Rattle.refusal.specs.Outcome.{Outcome}
use Rattle.refusal.specs.declared.Refusal.{Refusal}
use Rattle.std.specs.Prelude.{Err, Ok, ⊤}

module _ (score : List Entry) (rate place : ℕ) (v : Voice) (s : Sides) (places : ℕ) where
  -- the rules of a call, and the mixed frames that it gives where none holds
  abbrev pub rules_of : List Rule
  rules_of = mix_rules v (length s.left) (length s.right) score rate places

  abbrev pub next_mixed : List Frame
  next_mixed = frames_from (mixed_frame v s rate score) place (places / 2)

  module _ (refusal : Refusal) where
    pub mix_refused : first_holding rules_of ≡ Err refusal → mix_voice score rate place v s places ≡ Err refusal
    unfolding mix_voice
    mix_refused e = rw e

    pub mix_turned : mix_voice score rate place v s places ≡ Err refusal → first_holding rules_of ≡ Err refusal
    unfolding mix_voice
    mix_turned e = turned_back (first_holding rules_of) refusal next_mixed e

  pub mix_accepted : first_holding rules_of ≡ Ok tt → mix_voice score rate place v s places ≡ Ok next_mixed
  unfolding mix_voice
  mix_accepted e = rw e

  module _ (block : List Frame) (e : mix_voice score rate place v s places ≡ Ok block) where
    none_first_of : first_holding rules_of ≡ Ok tt
    unfolding mix_voice
    none_first_of = none_back (first_holding rules_of) next_mixed block e

    pub no_rule : NoneHolds rules_of
    no_rule = none_holds rules_of none_first_of

    pub block_frames : block ≡ next_mixed
    block_frames =
        let same : ◌≡◌ {A = Outcome (List Frame)} (Ok block) (Ok next_mixed) = sym e ∙ mix_accepted none_first_of in
        cc

module _ (score : List Entry) (rate place : ℕ) (v : Voice) (s : Sides) (places : ℕ) where
  mixed_capped : (i : ℕ) → mixed_frame v s rate score (min place 4294967295 + i) ≡ mixed_frame v s rate score (place + i)
  mixed_capped i = go (leb 4294967295 place) refl
    where
      go : (t : Bool) → leb 4294967295 place ≡ t → mixed_frame v s rate score (min place 4294967295 + i) ≡ mixed_frame v s rate score (place + i)
      go true e =
          let past = leb-true 4294967295 place e in
          mixed_last v s rate score (min place 4294967295 + i) (omega arith) ∙ sym (mixed_last v s rate score (place + i) (omega arith))
      go false e =
          let same : min place 4294967295 ≡ place = omega (arith, leb-false 4294967295 place e) in
          rw same

  pub mix_capped : mix_voice score rate (min place 4294967295) v s places ≡ mix_voice score rate place v s places
  unfolding mix_voice
  mix_capped =
      rw (frames_shift (mixed_frame v s rate score) (mixed_frame v s rate score) (min place 4294967295) place (places / 2) (λ i below. mixed_capped i))

module _ (score : List Entry) (rate place : ℕ) (sheet : List ℕ) (s : Sides) (places : ℕ) where
  abbrev pub on_voice : Outcome (List Frame)
  on_voice = mix_voice score rate place (read_sheet sheet) s places

  -- the score's own rules decide
  pub by_score : (refusal : Refusal) → first_holding (score_rules score) ≡ Err refusal → mix_sheet score rate place sheet s places ≡ Err refusal
  unfolding mix_sheet
  by_score refusal e = rw e

  module _ (none : first_holding (score_rules score) ≡ Ok tt) where
    after_score : mix_sheet score rate place sheet s places ≡ if_sound (judged sheet) Err on_voice
    unfolding mix_sheet
    after_score = rw none

    pub by_sheet : (refusal : Refusal) → judged sheet ≡ Err refusal → mix_sheet score rate place sheet s places ≡ Err refusal
    by_sheet refusal e = after_score ∙ if_refused sheet on_voice refusal e

    pub by_voice : judged sheet ≡ Ok tt → mix_sheet score rate place sheet s places ≡ on_voice
    by_voice e = after_score ∙ if_sound_lem sheet on_voice e

  -- on a sound sheet a call is as on its voice, whose rules begin with the score's
  pub mix_sound : judged sheet ≡ Ok tt → mix_sheet score rate place sheet s places ≡ on_voice
  mix_sound e = go (first_holding (score_rules score)) refl
    where
      go : (j : Outcome ⊤) → first_holding (score_rules score) ≡ j → mix_sheet score rate place sheet s places ≡ on_voice
      go (Ok u) none = by_voice none e
      go (Err refusal) is =
          let v = read_sheet sheet in
          by_score refusal is ∙ sym (mix_refused score rate place v s places refusal (mix_score v (length s.left) (length s.right) score rate places refusal is))

-- ---- what a call leaves

module _ (score : List Entry) (rate place : ℕ) (sheet : List ℕ) (s : Sides) (buffer : List ℤ) where
  pub refused_leaves : (refusal : Refusal) → mix_sheet score rate place sheet s (length buffer) ≡ Err refusal
      → (Err refusal ≡ (after_mix score rate place sheet s buffer).answer) × (buffer ≡ (after_mix score rate place sheet s buffer).buffer)
  refused_leaves refusal e = rw e (refl, refl)

  pub accepted_leaves : (block : List Frame) → mix_sheet score rate place sheet s (length buffer) ≡ Ok block
      → (Ok (place_after place (length block)) ≡ (after_mix score rate place sheet s buffer).answer) × (interleaved block ≡ (after_mix score rate place sheet s buffer).buffer)
  accepted_leaves block e = rw e (refl, refl)
