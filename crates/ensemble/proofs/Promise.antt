-- What is promised of a mix.
-- Assumes nothing.
use Prim.Native.Nat.{ℕ}
use mathlib.Core.List.{List}
use mathlib.Core.Logic.{inl, inr}
use mathlib.Core.Path.{◌≡◌, refl, sym, ◌∙◌}
use lib.ListN.{length}
use Rattle.laws.proofs.Cases.{impossible}
use Rattle.refusal.specs.Rules.{NoneHolds, first_holding}
use Rattle.refusal.proofs.RuleLaws.{none_holds, first_holds}
use Rattle.sheet.specs.Judge.{judged}
use Rattle.sheet.specs.Read.{read_sheet}
use Rattle.body_read.specs.Sides.{Sides}
use Rattle.note_frame.specs.declared.chain.Frame.{Frame}
use Rattle.ensemble_score.specs.declared.Entry.{Entry}
use Rattle.ensemble_rules.specs.Rules.{score_rules, play_rules, mix_rules}
use Rattle.ensemble_rules.proofs.RuleLaws.{mix_first, mix_numbers_lem}
use Rattle.ensemble_block.specs.Mixed.{entry_note}
use Rattle.ensemble_block.proofs.MixedLaws.{no_entry, one_entry}
use Rattle.ensemble.specs.Mix.{mix_sheet}
use Rattle.ensemble.specs.Promise.{Why, Promise}
use Rattle.ensemble.proofs.FitsLaws.{frame_fits}
use Rattle.ensemble.proofs.MixLaws.{mix_turned, no_rule, by_score, by_sheet, by_voice}
use Rattle.refusal.specs.Outcome.{Outcome}
use Rattle.refusal.specs.declared.Refusal.{Refusal}
use Rattle.std.specs.Prelude.{Err, Ok, ⊤}

module _ (score : List Entry) (rate place : ℕ) (sheet : List ℕ) (s : Sides) (places : ℕ) where
  abbrev outcome : Outcome (List Frame)
  outcome = mix_sheet score rate place sheet s places

  module _ (none : first_holding (score_rules score) ≡ Ok tt) where
    none_own : NoneHolds (score_rules score)
    none_own = none_holds (score_rules score) none

    why_later : (j : Outcome ⊤) → judged sheet ≡ j → (refusal : Refusal) → outcome ≡ Err refusal → Why score rate sheet s places refusal
    why_later (Ok u) is refusal e =
        let v = read_sheet sheet in
        let first = mix_turned score rate place v s places refusal (sym (by_voice score rate place sheet s places none is) ∙ e) in
        let later = sym (mix_first v (length s.left) (length s.right) score rate places none) ∙ first in
        inr (none_own, inr (is, first_holds (play_rules v (length s.left) (length s.right) score rate places) refusal later))
    why_later (Err k) is refusal e =
        let both : ◌≡◌ {A = Outcome (List Frame)} (Err k) (Err refusal) = sym (by_sheet score rate place sheet s places none k is) ∙ e in
        let same : k ≡ refusal = cc in
        inr (none_own, inl (rw (← same) is))

    sound_later : (j : Outcome ⊤) → judged sheet ≡ j → (block : List Frame) → outcome ≡ Ok block
        → (judged sheet ≡ Ok tt) × NoneHolds (mix_rules (read_sheet sheet) (length s.left) (length s.right) score rate places)
    sound_later (Ok u) is block e = (is, no_rule score rate place (read_sheet sheet) s places block (sym (by_voice score rate place sheet s places none is) ∙ e))
    sound_later (Err k) is block e =
        let both : ◌≡◌ {A = Outcome (List Frame)} (Err k) (Ok block) = sym (by_sheet score rate place sheet s places none k is) ∙ e in
        impossible cc

  by_a_rule : (refusal : Refusal) → outcome ≡ Err refusal → Why score rate sheet s places refusal
  by_a_rule refusal e = go (first_holding (score_rules score)) refl
    where
      go : (j : Outcome ⊤) → first_holding (score_rules score) ≡ j → Why score rate sheet s places refusal
      go (Ok u) none = why_later none (judged sheet) refl refusal e
      go (Err k) is =
          let both : ◌≡◌ {A = Outcome (List Frame)} (Err k) (Err refusal) = sym (by_score score rate place sheet s places k is) ∙ e in
          let same : k ≡ refusal = cc in
          inl (first_holds (score_rules score) refusal (rw (← same) is))

  by_none : (block : List Frame) → outcome ≡ Ok block
      → (judged sheet ≡ Ok tt) × NoneHolds (mix_rules (read_sheet sheet) (length s.left) (length s.right) score rate places)
  by_none block e = go (first_holding (score_rules score)) refl
    where
      go : (j : Outcome ⊤) → first_holding (score_rules score) ≡ j → (judged sheet ≡ Ok tt) × NoneHolds (mix_rules (read_sheet sheet) (length s.left) (length s.right) score rate places)
      go (Ok u) none = sound_later none (judged sheet) refl block e
      go (Err k) is =
          let both : ◌≡◌ {A = Outcome (List Frame)} (Err k) (Ok block) = sym (by_score score rate place sheet s places k is) ∙ e in
          impossible cc

pub promise : Promise
promise = record {
  no_entry = no_entry;
  one_entry = λ v s rate e m left right first soft.
      one_entry v s rate e m (frame_fits v s (entry_note rate e) m left right soft).0 (frame_fits v s (entry_note rate e) m left right soft).1 first;
  order = mix_numbers_lem;
  by_a_rule = by_a_rule;
  by_none = by_none;
}
