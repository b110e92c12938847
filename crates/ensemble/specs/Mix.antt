-- A call of the mixer: the block of mixed frames that it gives, or the number that turns it back; and what that makes of answer and buffer.
use Rattle.std.specs.Prelude.{ℕ, ◌+◌, ◌/◌, min, List, ℤ, length, Err, Ok}
use Rattle.refusal.specs.Rules.{first_holding, unless_refused}
use Rattle.sheet.specs.Judge.{judged, if_sound}
use Rattle.sheet.specs.Read.{read_sheet}
use Rattle.sheet.specs.Voice.{Voice}
use Rattle.body_read.specs.Sides.{Sides}
use Rattle.note_frame.specs.Frames.{frames_from, interleaved}
use Rattle.note_frame.specs.declared.chain.Frame.{Frame}
use Rattle.ensemble_score.specs.declared.Entry.{Entry}
use Rattle.ensemble_rules.specs.Rules.{score_rules, mix_rules}
use Rattle.ensemble_block.specs.Mixed.{mixed_frame}
use Rattle.refusal.specs.Outcome.{Outcome, if_accepted}

-- the block of a score on a voice: the mixed frames from a place on, one for every two places of the buffer, unless a rule turns the call back
unfoldable pub mix_voice : List Entry → ℕ → ℕ → Voice → Sides → ℕ → Outcome (List Frame)
mix_voice score rate place v s places =
    unless_refused (first_holding (mix_rules v (length s.left) (length s.right) score rate places))
    (frames_from (mixed_frame v s rate score) place (places / 2))

-- the block on a sheet: the score's own numbers come before the sheet's, 15 to 17, and these before the others
unfoldable pub mix_sheet : List Entry → ℕ → ℕ → List ℕ → Sides → ℕ → Outcome (List Frame)
mix_sheet score rate place sheet s places =
    if_accepted (first_holding (score_rules score)) (if_sound (judged sheet) Err (mix_voice score rate place (read_sheet sheet) s places))

-- the place after so many frames more, which stops at 4,294,967,295
abbrev pub place_after : ℕ → ℕ → ℕ
place_after place frames = min (place + frames) 4294967295

-- what a call leaves: its answer, and what the buffer then holds
pub record MixResult : Type 0 where
  pub answer : Outcome ℕ
  pub buffer : List ℤ

-- an accepted call answers the place after its block, and writes left and right values by turns; a refused one answers its number, and leaves
-- the buffer as it was
abbrev pub mix_leaves : Outcome (List Frame) → ℕ → List ℤ → MixResult
mix_leaves (Ok block) place buffer = record { answer = Ok (place_after place (length block)); buffer = interleaved block }
mix_leaves (Err refusal) place buffer = record { answer = Err refusal; buffer = buffer }

-- what `mix` leaves, on a sheet and its samples
abbrev pub after_mix : List Entry → ℕ → ℕ → List ℕ → Sides → List ℤ → MixResult
after_mix score rate place sheet s buffer = mix_leaves (mix_sheet score rate place sheet s (length buffer)) place buffer
