-- The refusals of a mix: only where a rule with that refusal holds, and on a read voice no rule of the voice's own.
-- Assumes nothing.
use Prim.Native.Nat.{ℕ}
use mathlib.Core.List.{List, [], ◌∷◌, ◌++◌}
use mathlib.Core.Logic.{◌⊎◌, inl, inr}
use mathlib.Core.Path.{◌≡◌, refl}
use lib.IntN.{ℤ}
use lib.ListN.{length}
use Rattle.laws.specs.Among.{Among}
use Rattle.laws.proofs.Cases.{impossible}
use Rattle.refusal.specs.Rules.{Holds, NoneHolds}
use Rattle.refusal.proofs.RuleLaws.{first_holds, none_not, holds_either}
use Rattle.sheet.specs.Read.{read_sheet}
use Rattle.sheet.specs.Voice.{Voice}
use Rattle.body_read.specs.Sides.{Sides}
use Rattle.voice_rules.specs.Rules.{voice_rules}
use Rattle.note_rules.specs.Rules.{sequence_rules, place_rules}
use Rattle.ensemble_score.specs.declared.Entry.{Entry}
use Rattle.ensemble_rules.specs.Rules.{order_rules, score_rules, entry_rules, entries_rules, play_rules, mix_rules}
use Rattle.ensemble_rules.proofs.RuleLaws.{entry_order, order_is, order_none, entries_are, entries_none, mix_holds}
use Rattle.ensemble.specs.Mix.{mix_voice, mix_sheet, mix_leaves, after_mix}
use Rattle.ensemble.specs.Promise.{Why}
use Rattle.ensemble.proofs.MixLaws.{mix_turned}
use Rattle.ensemble.proofs.Promise.{promise}
use Rattle.demands.specs.Demand1.{mix_refusals, sheet_refusals}
use Rattle.demands.specs.Ensemble.{read_mix_refusals}
use Rattle.demands.proofs.RefusalLaws.{one_of, all_of, holding_among}
use Rattle.demands.proofs.WriteRefusals.{sheet_refusal}
use Rattle.refusal.specs.declared.Refusal.TheVariants.{EntryCount}
use Rattle.refusal.specs.Outcome.{Outcome}
use Rattle.std.specs.Prelude.{Err, Ok}
use Rattle.refusal.specs.declared.Refusal.{Refusal}

-- ---- the rules of a mix, part by part

either : {A B C : Type 0} → (A → C) → (B → C) → A ⊎ B → C
either f g (inl a) = f a
either f g (inr b) = g b

module _ (refusal : Refusal) where
  order_among : (before : ℕ) (score : List Entry) → Holds refusal (order_rules before score) → Among refusal read_mix_refusals
  order_among before [] h = absurd (rw order_none at h)
  order_among before (e ∷ es) h =
      either (holding_among read_mix_refusals (entry_order before e) tt refusal) (order_among e.start es)
      (holds_either refusal (entry_order before e) (order_rules e.start es) (rw order_is at h))

  score_among : (score : List Entry) → Holds refusal (score_rules score) → Among refusal read_mix_refusals
  score_among score (inl here) = rw (← here.0) (one_of read_mix_refusals EntryCount tt)
  score_among score (inr later) = order_among 0 score later

  entries_among : (v : Voice) (rate : ℕ) (score : List Entry) → Holds refusal (entries_rules v rate score) → Among refusal read_mix_refusals
  entries_among v rate [] h = absurd (rw entries_none at h)
  entries_among v rate (e ∷ es) h =
      either (holding_among read_mix_refusals (entry_rules v rate e) tt refusal) (entries_among v rate es)
      (holds_either refusal (entry_rules v rate e) (entries_rules v rate es) (rw entries_are at h))

  module _ (v : Voice) (left right : ℕ) (score : List Entry) (rate places : ℕ) where
    later_among : Holds refusal (sequence_rules v ++ place_rules places ++ entries_rules v rate score) → Among refusal read_mix_refusals
    later_among h =
        either (holding_among read_mix_refusals (sequence_rules v ++ place_rules places) tt refusal) (entries_among v rate score)
        (holds_either refusal (sequence_rules v ++ place_rules places) (entries_rules v rate score) h)

    play_among : Holds refusal (play_rules v left right score rate places) → Holds refusal (voice_rules v left right) ⊎ Among refusal read_mix_refusals
    play_among h = go (holds_either refusal (voice_rules v left right) (sequence_rules v ++ place_rules places ++ entries_rules v rate score) h)
      where
        go : Holds refusal (voice_rules v left right) ⊎ Holds refusal (sequence_rules v ++ place_rules places ++ entries_rules v rate score)
            → Holds refusal (voice_rules v left right) ⊎ Among refusal read_mix_refusals
        go (inl own) = inl own
        go (inr later) = inr (later_among later)

-- ---- any mix

why_among : (score : List Entry) (rate : ℕ) (sheet : List ℕ) (s : Sides) (places : ℕ) (refusal : Refusal) → Why score rate sheet s places refusal → Among refusal mix_refusals
why_among score rate sheet s places refusal (inl own) = all_of mix_refusals read_mix_refusals tt refusal (score_among refusal score own)
why_among score rate sheet s places refusal (inr (none, inl verdict)) = all_of mix_refusals sheet_refusals tt refusal (sheet_refusal sheet refusal verdict)
why_among score rate sheet s places refusal (inr (none, inr (sound, later))) =
    let v = read_sheet sheet in
    either (holding_among mix_refusals (voice_rules v (length s.left) (length s.right)) tt refusal) (all_of mix_refusals read_mix_refusals tt refusal)
    (play_among refusal v (length s.left) (length s.right) score rate places later)

pub mix_or_keeps : (score : List Entry) (rate place : ℕ) (sheet : List ℕ) (s : Sides) (buffer : List ℤ) (refusal : Refusal)
    → (after_mix score rate place sheet s buffer).answer ≡ Err refusal
    → Among refusal mix_refusals × ((after_mix score rate place sheet s buffer).buffer ≡ buffer)
mix_or_keeps score rate place sheet s buffer refusal = go (mix_sheet score rate place sheet s (length buffer)) refl
  where
    go : (o : Outcome _) → mix_sheet score rate place sheet s (length buffer) ≡ o → (mix_leaves o place buffer).answer ≡ Err refusal
        → Among refusal mix_refusals × ((mix_leaves o place buffer).buffer ≡ buffer)
    go (Ok block) is e = impossible cc
    go (Err k) is e =
        let same : k ≡ refusal = cc in
        (why_among score rate sheet s (length buffer) refusal (promise.by_a_rule score rate place sheet s (length buffer) refusal (rw same at is)), refl)

-- ---- a mix on a voice whose own rules don't hold

pub voice_mix : (score : List Entry) (rate place : ℕ) (v : Voice) (s : Sides) (places : ℕ) (refusal : Refusal) → NoneHolds (voice_rules v (length s.left) (length s.right))
    → mix_voice score rate place v s places ≡ Err refusal → Among refusal read_mix_refusals
voice_mix score rate place v s places refusal none e =
    let h = first_holds (mix_rules v (length s.left) (length s.right) score rate places) refusal (mix_turned score rate place v s places refusal e) in
    either (score_among refusal score)
    (λ later. either (λ own. absurd (none_not refusal (voice_rules v (length s.left) (length s.right)) none own)) (λ a. a) (play_among refusal v (length s.left) (length s.right) score rate places later))
    (holds_either refusal (score_rules score) (play_rules v (length s.left) (length s.right) score rate places) (mix_holds v (length s.left) (length s.right) score rate places refusal h))
