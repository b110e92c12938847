-- The block that a fill of a voice gives: the note's next frames, one for every two places; and a fill asked from past 4,294,967,295
-- frames is the one asked from there.
-- Assumes nothing.
use Prim.Native.Nat.{ℕ, ◌/◌, min}
use mathlib.Core.List.{List}
use mathlib.Core.Path.{◌≡◌, refl, sym, ◌∙◌}
use lib.ListN.{length}
use Rattle.sheet.specs.Voice.{Voice}
use Rattle.body_read.specs.Sides.{Sides}
use Rattle.note_frame.specs.declared.chain.Frame.{Frame}
use Rattle.note_frame.proofs.FramesLaws.{frames_shift}
use Rattle.note_frame.specs.declared.playing.Playing.{Playing}
use Rattle.note_rules.proofs.RuleLaws.{NotAhead, rules_capped}
use Rattle.note.specs.Fill.{fill_voice}
use Rattle.note_frame.specs.Frame.{frame}
use Rattle.note_frame.proofs.FrameLaws.{frame_capped}
use Rattle.note.proofs.FillLaws.{next_frames, fill_accepted, none_first_of, fill_same}
use Rattle.refusal.specs.Outcome.{Outcome}
use Rattle.std.specs.Prelude.{Ok}

module _ (v : Voice) (s : Sides) (n : Playing) (frames places : ℕ) where
  pub block_frames : (block : List Frame) → fill_voice v s n frames places ≡ Ok block → block ≡ next_frames v s n frames places
  block_frames block e =
      let none = none_first_of v s n frames places block e in
      let same : ◌≡◌ {A = Outcome (List Frame)} (Ok block) (Ok (next_frames v s n frames places)) = sym e ∙ fill_accepted v s n frames places none in
      cc

  pub block_capped : NotAhead n.key (min frames 4294967295) → fill_voice v s n (min frames 4294967295) places ≡ fill_voice v s n frames places
  block_capped h =
      fill_same v s n (min frames 4294967295) frames places
      (rules_capped v (length s.left) (length s.right) n frames places h)
      (frames_shift (frame v s n) (frame v s n) (min frames 4294967295) frames (places / 2) (λ i below. frame_capped v s n frames i))
