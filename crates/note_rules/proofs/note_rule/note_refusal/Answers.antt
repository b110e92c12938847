-- `note_rules::note_rule::note_refusal` meets its contract: each rule that the code has passed doesn't hold.
use Prim.Native.Nat.{ℕ}
use mathlib.Core.Bool.{true, not}
use mathlib.Core.Path.{◌≡◌, sym, ap, ◌∙◌}
use Rattle.header.specs.Octaves.{octave_there}
use Rattle.header.specs.declared.voice_header.VoiceHeader.{VoiceHeader}
use Rattle.refusal.specs.Rules.{first_holding}
use Rattle.refusal.proofs.RuleLaws.{Passed, first_here, first_later, first_stands, first_join}
use Rattle.note_frame.specs.declared.playing.Playing.{Playing}
use Rattle.note_rules.specs.Rules.{speed_rules, note_rules}
use Rattle.note_rules.proofs.note_rule.note_refusal.Goals as goal
use Rattle.std.specs.Prelude.{Ok}
use Rattle.std.proofs.lemmas.Result.{err_from_is_err_and}

module _ (h : VoiceHeader) (n : Playing) (frames : ℕ) (there : octave_there h n.octave ≡ true) where
  octave_passed : Passed 1 (note_rules h n frames)
  octave_passed = first_later _ _ (ap not there)

  -- the step's rule and the rate's are passed together
  speed_passed : first_holding (speed_rules n.step n.rate) ≡ Ok tt → Passed 3 (note_rules h n frames)
  speed_passed none = octave_passed ∙ first_join (speed_rules n.step n.rate) _ none

pub returns-then-not-has_octave : goal.returns-then-not-has_octave
returns-then-not-has_octave c = sym (first_here _ _ (ap not (sym c.has_octave.ensures ∙ c.if-not-has_octave.true)))

pub returns-in_err-speed_refusal : goal.returns-in_err-speed_refusal
returns-in_err-speed_refusal c =
    let a = c.args in
    let passed = octave_passed a.h a.n a.frames (sym c.has_octave.ensures ∙ c.if-not-has_octave.false) in
    let p = err_from_is_err_and c.from_residual.result c.from_residual.ensures.1 in
    rw (p.1, p.2) (sym (passed ∙ first_stands _ _ _ (sym c.speed_refusal.ensures ∙ c.in_err-speed_refusal.was)))

pub returns-then-key_up_ahead : goal.returns-then-key_up_ahead
returns-then-key_up_ahead c =
    let a = c.args in
    let passed =
    speed_passed a.h a.n a.frames (sym c.has_octave.ensures ∙ c.if-not-has_octave.false)
    (sym c.speed_refusal.ensures ∙ c.in_ok-speed_refusal.was)
    in
    sym (passed ∙ first_here _ _ (sym c.key_up_ahead.ensures ∙ c.if-key_up_ahead.true))

pub returns : goal.returns
returns c =
    let a = c.args in
    let passed =
    speed_passed a.h a.n a.frames (sym c.has_octave.ensures ∙ c.if-not-has_octave.false)
    (sym c.speed_refusal.ensures ∙ c.in_ok-speed_refusal.was)
    in
    c.velocity_refusal.ensures ∙ sym (passed ∙ first_later _ _ (sym c.key_up_ahead.ensures ∙ c.if-key_up_ahead.false))
