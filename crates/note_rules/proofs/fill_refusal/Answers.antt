-- `note_rules::fill_refusal` meets its contract: the first of the voice's rules that holds, or else of the sequence's, or else of the
-- octave's, or else of the places', or else of the note's.
use Prim.Native.Nat.{ℕ}
use mathlib.Core.List.{◌++◌}
use mathlib.Core.Path.{◌≡◌, sym, ap, ◌∙◌}
use Rattle.refusal.specs.Rules.{first_holding}
use Rattle.refusal.proofs.RuleLaws.{first_stands, first_join}
use Rattle.sheet.specs.Read.{read_sheet}
use Rattle.sheet.specs.Voice.{Voice}
use Rattle.voice_rules.specs.Rules.{voice_rules}
use Rattle.note_frame.specs.declared.playing.Playing.{Playing}
use Rattle.note_rules.specs.Rules.{sequence_rules, octave_rules, place_rules, note_rules, fill_rules}
use Rattle.note_rules.proofs.RuleLaws.{rules_are, from_sequence, from_octave, from_places}
use Rattle.note_rules.proofs.fill_refusal.Goals as goal
use Rattle.std.specs.Prelude.{Ok, ⊤}
use Rattle.std.proofs.lemmas.Result.{err_from_is_err_and}
use Rattle.refusal.specs.Outcome.{Outcome}

-- what the code was given: the first of all rules, and of those from a part on
module _ (v : Voice) (left right : ℕ) (n : Playing) (frames places : ℕ) where
  abbrev first : Outcome ⊤
  first = first_holding (fill_rules v left right n frames places)

  all_are : first ≡ first_holding (voice_rules v left right ++ from_sequence v left right n frames places)
  all_are = ap first_holding (rules_are v left right n frames places)

  module _ (no_voice : first_holding (voice_rules v left right) ≡ Ok tt) where
    voice_passed : first ≡ first_holding (from_sequence v left right n frames places)
    voice_passed = all_are ∙ first_join (voice_rules v left right) _ no_voice

    module _ (no_sequence : first_holding (sequence_rules v) ≡ Ok tt) where
      sequence_passed : first ≡ first_holding (from_octave v left right n frames places)
      sequence_passed = voice_passed ∙ first_join (sequence_rules v) _ no_sequence

      octave_passed : first_holding (octave_rules v n.octave) ≡ Ok tt → first ≡ first_holding (from_places v left right n frames places)
      octave_passed no_octave = sequence_passed ∙ first_join (octave_rules v n.octave) _ no_octave

pub returns-in_err-voice_refusal : goal.returns-in_err-voice_refusal
returns-in_err-voice_refusal c =
    let a = c.args in
    let v = read_sheet a.sheet.now in
    let p = err_from_is_err_and c.from_residual.result c.from_residual.ensures.1 in
    rw (p.1, p.2) (sym (all_are v a.left a.right a.n a.frames a.places ∙ first_stands (voice_rules v a.left a.right) _ _ (sym c.voice_refusal.ensures ∙ c.in_err-voice_refusal.was)))

pub returns-in_err-sequence_refusal : goal.returns-in_err-sequence_refusal
returns-in_err-sequence_refusal c =
    let a = c.args in
    let v = read_sheet a.sheet.now in
    let no_voice = sym c.voice_refusal.ensures ∙ c.in_ok-voice_refusal.was in
    let p = err_from_is_err_and c.from_residual-in_err-sequence_refusal.result c.from_residual-in_err-sequence_refusal.ensures.1 in
    rw (p.1, p.2) (sym (voice_passed v a.left a.right a.n a.frames a.places no_voice ∙ first_stands (sequence_rules v) _ _ (sym c.sequence_refusal.ensures ∙ c.in_err-sequence_refusal.was)))

pub returns-in_err-octave_refusal : goal.returns-in_err-octave_refusal
returns-in_err-octave_refusal c =
    let a = c.args in
    let v = read_sheet a.sheet.now in
    let no_voice = sym c.voice_refusal.ensures ∙ c.in_ok-voice_refusal.was in
    let no_sequence = sym c.sequence_refusal.ensures ∙ c.in_ok-sequence_refusal.was in
    let p = err_from_is_err_and c.from_residual-in_err-octave_refusal.result c.from_residual-in_err-octave_refusal.ensures.1 in
    rw (p.1, p.2) (sym (
    sequence_passed v a.left a.right a.n a.frames a.places no_voice no_sequence
    ∙ first_stands (octave_rules v a.n.octave) _ _ (sym c.octave_refusal.ensures ∙ c.in_err-octave_refusal.was)
    ))

pub returns-in_err-places_refusal : goal.returns-in_err-places_refusal
returns-in_err-places_refusal c =
    let a = c.args in
    let v = read_sheet a.sheet.now in
    let no_voice = sym c.voice_refusal.ensures ∙ c.in_ok-voice_refusal.was in
    let no_sequence = sym c.sequence_refusal.ensures ∙ c.in_ok-sequence_refusal.was in
    let no_octave = sym c.octave_refusal.ensures ∙ c.in_ok-octave_refusal.was in
    let p = err_from_is_err_and c.from_residual-in_err-places_refusal.result c.from_residual-in_err-places_refusal.ensures.1 in
    rw (p.1, p.2) (sym (
    octave_passed v a.left a.right a.n a.frames a.places no_voice no_sequence no_octave
    ∙ first_stands (place_rules a.places) _ _ (sym c.places_refusal.ensures ∙ c.in_err-places_refusal.was)
    ))

pub returns : goal.returns
returns c =
    let a = c.args in
    let v = read_sheet a.sheet.now in
    let no_voice = sym c.voice_refusal.ensures ∙ c.in_ok-voice_refusal.was in
    let no_sequence = sym c.sequence_refusal.ensures ∙ c.in_ok-sequence_refusal.was in
    let no_octave = sym c.octave_refusal.ensures ∙ c.in_ok-octave_refusal.was in
    let even = sym c.places_refusal.ensures ∙ c.in_ok-places_refusal.was in
    c.note_refusal.ensures
    ∙ ap (λ h. first_holding (note_rules h a.n a.frames)) c.sheet_header-h.ensures
    ∙ sym (
    octave_passed v a.left a.right a.n a.frames a.places no_voice no_sequence no_octave
    ∙ first_join (place_rules a.places) _ even
    )
