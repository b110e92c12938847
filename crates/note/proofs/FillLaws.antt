-- A fill by the first rule that holds: refused by it, or the next frames. No other law unfolds `fill_voice`.
--     fill_refused, fill_accepted         the fill, by the first rule that holds
--     rule_holds, none_first_of, no_rule  the rules, by the fill: one holds that has its refusal; none where it isn't refused
--     fill_same                           from two frames on, with the same rules and next frames
-- Assumes nothing.
use Prim.Native.Nat.{ℕ, ◌/◌}
use mathlib.Core.List.{List}
use mathlib.Core.Path.{◌≡◌}
use lib.ListN.{length}
use Rattle.sheet.specs.Voice.{Voice}
use Rattle.body_read.specs.Sides.{Sides}
use Rattle.note_frame.specs.declared.chain.Frame.{Frame}
use Rattle.note_frame.specs.Frame.{frame}
use Rattle.note_frame.specs.Frames.{frames_from}
use Rattle.refusal.specs.Rules.{Rule, Holds, NoneHolds, first_holding}
use Rattle.refusal.proofs.RuleLaws.{turned_back, none_back, none_holds, first_holds}
use Rattle.note_rules.specs.Rules.{fill_rules}
use Rattle.note_frame.specs.declared.playing.Playing.{Playing}
use Rattle.note.specs.Fill.{fill_voice}
use Rattle.std.specs.Prelude.{Err, Ok}
use Rattle.refusal.specs.declared.Refusal.{Refusal}

-- the rules of a fill, and the frames that it gives where none holds
abbrev pub rules_of : Voice → Sides → Playing → ℕ → ℕ → List Rule
rules_of v s n frames places = fill_rules v (length s.left) (length s.right) n frames places

abbrev pub next_frames : Voice → Sides → Playing → ℕ → ℕ → List Frame
next_frames v s n frames places = frames_from (frame v s n) frames (places / 2)

module _ (v : Voice) (s : Sides) (n : Playing) (frames places : ℕ) where
  pub fill_refused : (refusal : Refusal) → first_holding (rules_of v s n frames places) ≡ Err refusal → fill_voice v s n frames places ≡ Err refusal
  unfolding fill_voice
  fill_refused refusal e = rw e

  pub fill_accepted : first_holding (rules_of v s n frames places) ≡ Ok tt → fill_voice v s n frames places ≡ Ok (next_frames v s n frames places)
  unfolding fill_voice
  fill_accepted e = rw e

  pub rule_holds : (refusal : Refusal) → fill_voice v s n frames places ≡ Err refusal → Holds refusal (rules_of v s n frames places)
  unfolding fill_voice
  rule_holds refusal e = first_holds (rules_of v s n frames places) refusal (turned_back (first_holding (rules_of v s n frames places)) refusal _ e)

  module _ (block : List Frame) (e : fill_voice v s n frames places ≡ Ok block) where
    pub none_first_of : first_holding (rules_of v s n frames places) ≡ Ok tt
    unfolding fill_voice
    none_first_of = none_back (first_holding (rules_of v s n frames places)) _ block e

    pub no_rule : NoneHolds (rules_of v s n frames places)
    no_rule = none_holds (rules_of v s n frames places) none_first_of

pub fill_same : (v : Voice) (s : Sides) (n : Playing) (frames frames' places : ℕ) → rules_of v s n frames places ≡ rules_of v s n frames' places
    → next_frames v s n frames places ≡ next_frames v s n frames' places → fill_voice v s n frames places ≡ fill_voice v s n frames' places
unfolding fill_voice
fill_same v s n frames frames' places rules next = rw (rules, next)
