-- `ensemble_rules::play::play_refusal` meets its contract: the first of the voice's rules that holds, or else of the sequence's, or else of
-- the places', or else of the entries'.
use Prim.Native.Nat.{ℕ}
use mathlib.Core.List.{List}
use mathlib.Core.Path.{◌≡◌, sym, ◌∙◌}
use Rattle.refusal.specs.Outcome.{Outcome}
use Rattle.refusal.specs.Rules.{first_holding}
use Rattle.refusal.proofs.RuleLaws.{first_stands, first_join}
use Rattle.sheet.specs.Read.{read_sheet}
use Rattle.sheet.specs.Voice.{Voice}
use Rattle.voice_rules.specs.Rules.{voice_rules}
use Rattle.note_rules.specs.Rules.{sequence_rules, place_rules}
use Rattle.ensemble_score.specs.declared.Entry.{Entry}
use Rattle.ensemble_rules.specs.Rules.{play_rules}
use Rattle.ensemble_rules.proofs.RuleLaws.{from_sequence, from_places}
use Rattle.ensemble_rules.proofs.play.play_refusal.Goals as goal
use Rattle.std.specs.Prelude.{Ok, ⊤}
use Rattle.std.proofs.lemmas.Result.{err_from_is_err_and}

-- a voice, its sides' lengths, a score, the output rate, and the buffer's places: the first of all rules, and of those from a part on
module _ (v : Voice) (left right : ℕ) (score : List Entry) (rate places : ℕ) where
  abbrev first : Outcome ⊤
  first = first_holding (play_rules v left right score rate places)

  module _ (no_voice : first_holding (voice_rules v left right) ≡ Ok tt) where
    voice_passed : first ≡ first_holding (from_sequence v score rate places)
    voice_passed = first_join (voice_rules v left right) (from_sequence v score rate places) no_voice

    sequence_passed : first_holding (sequence_rules v) ≡ Ok tt → first ≡ first_holding (from_places v score rate places)
    sequence_passed no_sequence = voice_passed ∙ first_join (sequence_rules v) (from_places v score rate places) no_sequence

pub returns-in_err-voice_refusal : goal.returns-in_err-voice_refusal
returns-in_err-voice_refusal c =
    let a = c.args in
    let p = err_from_is_err_and c.from_residual.result c.from_residual.ensures.1 in
    rw (p.1, p.2) (sym (first_stands (voice_rules (read_sheet a.sheet.now) a.left a.right) _ _ (sym c.voice_refusal.ensures ∙ c.in_err-voice_refusal.was)))

pub returns-in_err-sequence_refusal : goal.returns-in_err-sequence_refusal
returns-in_err-sequence_refusal c =
    let a = c.args in
    let v = read_sheet a.sheet.now in
    let no_voice = sym c.voice_refusal.ensures ∙ c.in_ok-voice_refusal.was in
    let p = err_from_is_err_and c.from_residual-in_err-sequence_refusal.result c.from_residual-in_err-sequence_refusal.ensures.1 in
    rw (p.1, p.2) (sym (
    voice_passed v a.left a.right a.score.now a.rate a.places no_voice
    ∙ first_stands (sequence_rules v) _ _ (sym c.sequence_refusal.ensures ∙ c.in_err-sequence_refusal.was)
    ))

pub returns-in_err-places_refusal : goal.returns-in_err-places_refusal
returns-in_err-places_refusal c =
    let a = c.args in
    let v = read_sheet a.sheet.now in
    let no_voice = sym c.voice_refusal.ensures ∙ c.in_ok-voice_refusal.was in
    let no_sequence = sym c.sequence_refusal.ensures ∙ c.in_ok-sequence_refusal.was in
    let p = err_from_is_err_and c.from_residual-in_err-places_refusal.result c.from_residual-in_err-places_refusal.ensures.1 in
    rw (p.1, p.2) (sym (
    sequence_passed v a.left a.right a.score.now a.rate a.places no_voice no_sequence
    ∙ first_stands (place_rules a.places) _ _ (sym c.places_refusal.ensures ∙ c.in_err-places_refusal.was)
    ))

pub returns : goal.returns
returns c =
    let a = c.args in
    let v = read_sheet a.sheet.now in
    let no_voice = sym c.voice_refusal.ensures ∙ c.in_ok-voice_refusal.was in
    let no_sequence = sym c.sequence_refusal.ensures ∙ c.in_ok-sequence_refusal.was in
    let even = sym c.places_refusal.ensures ∙ c.in_ok-places_refusal.was in
    c.entries_refusal.ensures ∙ sym (sequence_passed v a.left a.right a.score.now a.rate a.places no_voice no_sequence ∙ first_join (place_rules a.places) _ even)
