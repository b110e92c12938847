-- What is promised of a mix beyond its definition: what it is of no entries and of one, and the order of its rules. It is proved as `promise`.
-- What a list of calls gives is stated of a file's own bytes, in demands/specs/Ensemble.
use Rattle.std.specs.Prelude.{ℕ, ◌≤◌, List, [], ◌∷◌, ◌++◌, ◌⊎◌, ◌≡◌, length, Err, Ok}
use Rattle.refusal.specs.Rules.{Holds, NoneHolds, numbers_of}
use Rattle.field.specs.Signed.{Samples}
use Rattle.sheet.specs.Judge.{judged}
use Rattle.sheet.specs.Read.{read_sheet}
use Rattle.sheet.specs.Voice.{Voice}
use Rattle.body_read.specs.Sides.{Sides}
use Rattle.note_frame.specs.Frame.{silent, frame}
use Rattle.note_frame.specs.declared.chain.Frame.{Frame}
use Rattle.ensemble_score.specs.declared.Entry.{Entry}
use Rattle.ensemble_rules.specs.Rules.{score_rules, play_rules, mix_rules, order_numbers, entry_numbers}
use Rattle.ensemble_block.specs.Mixed.{entry_note, mixed_frame}
use Rattle.ensemble.specs.Mix.{mix_sheet}
use Rattle.refusal.specs.declared.Refusal.{Refusal}

-- why a call is refused so: a rule of the score's own; or none of those, but the sheet's verdict, 15 to 17; or neither, but a rule on its voice
abbrev pub Why : List Entry → ℕ → List ℕ → Sides → ℕ → Refusal → Type 0
Why score rate sheet s places refusal =
    Holds refusal (score_rules score)
    ⊎ (NoneHolds (score_rules score)
    × ((judged sheet ≡ Err refusal)
    ⊎ ((judged sheet ≡ Ok tt) × Holds refusal (play_rules (read_sheet sheet) (length s.left) (length s.right) score rate places))))

pub record Promise : Type 0 where
  -- an empty score is silence
  pub no_entry : (v : Voice) (s : Sides) (rate m : ℕ) → mixed_frame v s rate [] m ≡ silent
  -- one entry that starts at 0 is its note, frame by frame
  pub one_entry : (v : Voice) (s : Sides) (rate : ℕ) (e : Entry) (m : ℕ) → Samples s.left → Samples s.right → e.start ≡ 0 → e.velocity ≤ 127
      → mixed_frame v s rate (e ∷ []) m ≡ frame v s (entry_note rate e) m
  -- the rules, in the order in which they are judged
  pub order : (v : Voice) (left right : ℕ) (score : List Entry) (rate places : ℕ)
      → numbers_of (mix_rules v left right score rate places) ≡ 46 ∷ order_numbers score ++ 10 ∷ 13 ∷ 18 ∷ 21 ∷ 22 ∷ 23 ∷ 25 ∷ entry_numbers score
  -- a call is refused only by what holds: the score's own rules come first, then the sheet's verdict, then the others
  pub by_a_rule : (score : List Entry) (rate place : ℕ) (sheet : List ℕ) (s : Sides) (places : ℕ) (refusal : Refusal) → mix_sheet score rate place sheet s places ≡ Err refusal
      → Why score rate sheet s places refusal
  -- and accepted only where none does
  pub by_none : (score : List Entry) (rate place : ℕ) (sheet : List ℕ) (s : Sides) (places : ℕ) (block : List Frame) → mix_sheet score rate place sheet s places ≡ Ok block
      → (judged sheet ≡ Ok tt) × NoneHolds (mix_rules (read_sheet sheet) (length s.left) (length s.right) score rate places)
