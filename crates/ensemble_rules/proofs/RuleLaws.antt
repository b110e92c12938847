-- The rules of a mix, by their parts and entry by entry.
--     order_is, entries_are                          the rules of a score that has a first entry; order_none, entries_none of one that has none
--     order_turned, order_passed, order_end          the first that holds of the entries from a place on, by the entry there, or past the last;
--     entries_turned, entries_passed, entries_end    the same of the entries' rules on a voice
--     held_first                                     the first that holds of a note that begins and is held: no key-up is ahead
--     play_are                                       those that follow the score's own: the voice's, the sequence's, the places' and the entries'
--     mix_first, mix_score                           the first that holds: of the score's own, or else of the others
--     mix_holds                                      one that holds is among the score's own or the others
--     play_parts                                     where none holds, none of a part does, nor of an entry
--     score_small, score_ends                        what the score's own rules leave: at most sixteen entries, no key-up before its start
--     mix_numbers_lem                                the numbers, in the order in which they are judged
-- Assumes nothing.
use Prim.Native.Nat.{ℕ, ◌+◌, ◌≤◌, ◌<◌}
use mathlib.Core.Bool.{not}
use mathlib.Core.List.{List, [], ◌∷◌, ◌++◌, map-append}
use mathlib.Core.Path.{◌≡◌, refl, ap, ap₂, subst, ◌∙◌}
use borrow.Author.Tests.{ltb-false}
use lib.Dec.{ltb}
use lib.ListN.{length, get_or, drop, drop_of_length-le}
use Rattle.refusal.specs.Rules.{Rule, rule, first_holding, numbers_of, Holds, NoneHolds}
use Rattle.refusal.proofs.RuleLaws.{first_none, first_join, first_stands, none_parts}
use Rattle.header.specs.Octaves.{octave_there}
use Rattle.header.specs.declared.voice_header.VoiceHeader.{VoiceHeader}
use Rattle.sheet.specs.Allowed.{All}
use Rattle.sheet.specs.Voice.{Voice}
use Rattle.note_frame.specs.declared.playing.Key.TheVariants.{Held}
use Rattle.voice_rules.specs.Rules.{voice_rules}
use Rattle.note_rules.specs.Rules.{sequence_rules, place_rules, speed_rules, velocity_rules, note_rules}
use Rattle.ensemble_score.specs.declared.Entry.{Entry}
use Rattle.ensemble_rules.specs.Rules.{order_rules, score_rules, entry_rules, entries_rules, play_rules, mix_rules, order_numbers, entry_numbers}
use Rattle.refusal.specs.declared.Refusal.TheVariants.{NoOctave, StartOrder, EarlyKeyUp}
use Rattle.refusal.specs.Refusal.{number_of}
use Rattle.refusal.specs.declared.Refusal.{Refusal}
use Rattle.std.proofs.lemmas.List.{drop_more}
use Rattle.std.specs.Prelude.{Ok, Err}

-- ---- the entries that a loop has left

-- an entry of zeros, which the code would read past a score's end
abbrev pub blank : Entry
blank = record { start = 0; key_up = 0; step = 0; octave = 0; velocity = 0 }

-- 45 and 47, of one entry
abbrev pub entry_order : ℕ → Entry → List Rule
entry_order before e = rule StartOrder (ltb e.start before) ∷ rule EarlyKeyUp (ltb e.key_up e.start) ∷ []

pub order_is : (before : ℕ) (e : Entry) (es : List Entry) → order_rules before (e ∷ es) ≡ entry_order before e ++ order_rules e.start es
unfolding order_rules
order_is before e es = refl

pub order_none : (before : ℕ) → order_rules before [] ≡ []
unfolding order_rules
order_none before = refl

module _ (v : Voice) (rate : ℕ) where
  pub entries_are : (e : Entry) (es : List Entry) → entries_rules v rate (e ∷ es) ≡ entry_rules v rate e ++ entries_rules v rate es
  unfolding entries_rules
  entries_are e es = refl

  pub entries_none : entries_rules v rate [] ≡ []
  unfolding entries_rules
  entries_none = refl

module _ (score : List Entry) (i : ℕ) where
  -- past the last nothing is left
  module _ (end : length score ≤ i) where
    pub order_end : (before : ℕ) → first_holding (order_rules before (drop i score)) ≡ Ok tt
    order_end before = rw (drop_of_length-le score {i = i} end, order_none) first_none

    pub entries_end : (v : Voice) (rate : ℕ) → first_holding (entries_rules v rate (drop i score)) ≡ Ok tt
    entries_end v rate = rw (drop_of_length-le score {i = i} end, entries_none) first_none

  module _ (more : i < length score) where
    -- the entry at the place
    abbrev there : Entry
    there = get_or score i blank

    module _ (before : ℕ) where
      pub order_turned : (refusal : Refusal) → first_holding (entry_order before there) ≡ Err refusal → first_holding (order_rules before (drop i score)) ≡ Err refusal
      order_turned refusal e = rw (drop_more score i blank more, order_is) (first_stands (entry_order before there) _ refusal e)

      pub order_passed : first_holding (entry_order before there) ≡ Ok tt
          → first_holding (order_rules before (drop i score)) ≡ first_holding (order_rules there.start (drop (i + 1) score))
      order_passed none = rw (drop_more score i blank more, order_is) (first_join (entry_order before there) _ none)

    module _ (v : Voice) (rate : ℕ) where
      pub entries_turned : (refusal : Refusal) → first_holding (entry_rules v rate there) ≡ Err refusal → first_holding (entries_rules v rate (drop i score)) ≡ Err refusal
      entries_turned refusal e = rw (drop_more score i blank more, entries_are) (first_stands (entry_rules v rate there) _ refusal e)

      pub entries_passed : first_holding (entry_rules v rate there) ≡ Ok tt
          → first_holding (entries_rules v rate (drop i score)) ≡ first_holding (entries_rules v rate (drop (i + 1) score))
      entries_passed none = rw (drop_more score i blank more, entries_are) (first_join (entry_rules v rate there) _ none)

-- a note that begins and is held
pub held_first : (h : VoiceHeader) (octave velocity step rate : ℕ) →
    first_holding (note_rules h (record { octave = octave; velocity = velocity; step = step; rate = rate; key = Held }) 0)
    ≡ first_holding (rule NoOctave (not (octave_there h octave)) ∷ speed_rules step rate ++ velocity_rules velocity)
unfolding first_holding
held_first h octave velocity step rate = refl

-- ---- none holds

entries_parts : (v : Voice) (rate : ℕ) (score : List Entry) → NoneHolds (entries_rules v rate score) → All (λ e. NoneHolds (entry_rules v rate e)) score
entries_parts v rate [] none = tt
entries_parts v rate (e ∷ es) none =
    let parts = none_parts (entry_rules v rate e) (entries_rules v rate es) (rw entries_are at none) in
    (parts.0, entries_parts v rate es parts.1)

order_ends : (before : ℕ) (score : List Entry) → NoneHolds (order_rules before score) → All (λ e. e.start ≤ e.key_up) score
order_ends before [] none = tt
order_ends before (e ∷ es) none =
    let parts = none_parts (entry_order before e) (order_rules e.start es) (rw order_is at none) in
    (ltb-false e.key_up e.start parts.0.1.0, order_ends e.start es parts.1)

pub score_small : (score : List Entry) → NoneHolds (score_rules score) → length score ≤ 16
score_small score none = ltb-false 16 (length score) none.0

pub score_ends : (score : List Entry) → NoneHolds (score_rules score) → All (λ e. e.start ≤ e.key_up) score
score_ends score none = order_ends 0 score none.1

-- ---- the numbers

order_numbers_lem : (before : ℕ) (score : List Entry) → numbers_of (order_rules before score) ≡ order_numbers score
order_numbers_lem before [] = rw order_none
order_numbers_lem before (e ∷ es) = rw order_is (ap (λ ns. 45 ∷ 47 ∷ ns) (order_numbers_lem e.start es))

entries_numbers : (v : Voice) (rate : ℕ) (score : List Entry) → numbers_of (entries_rules v rate score) ≡ entry_numbers score
entries_numbers v rate [] = rw entries_none
entries_numbers v rate (e ∷ es) = rw entries_are (ap (λ ns. 24 ∷ 31 ∷ 32 ∷ 33 ∷ 44 ∷ ns) (entries_numbers v rate es))

-- ---- a mix

-- the rules after the sequence's, and after the voice's
module _ (v : Voice) (score : List Entry) (rate places : ℕ) where
  abbrev pub from_places : List Rule
  from_places = place_rules places ++ entries_rules v rate score

  abbrev pub from_sequence : List Rule
  from_sequence = sequence_rules v ++ from_places

module _ (v : Voice) (left right : ℕ) (score : List Entry) (rate places : ℕ) where
  pub play_are : play_rules v left right score rate places ≡ voice_rules v left right ++ from_sequence v score rate places
  play_are = refl

  rules_are : mix_rules v left right score rate places ≡ score_rules score ++ play_rules v left right score rate places
  unfolding mix_rules
  rules_are = refl

  pub mix_first : first_holding (score_rules score) ≡ Ok tt → first_holding (mix_rules v left right score rate places) ≡ first_holding (play_rules v left right score rate places)
  mix_first none = rw rules_are (first_join (score_rules score) (play_rules v left right score rate places) none)

  pub mix_score : (refusal : Refusal) → first_holding (score_rules score) ≡ Err refusal → first_holding (mix_rules v left right score rate places) ≡ Err refusal
  mix_score refusal e = rw rules_are (first_stands (score_rules score) (play_rules v left right score rate places) refusal e)

  pub mix_holds : (refusal : Refusal) → Holds refusal (mix_rules v left right score rate places) → Holds refusal (score_rules score ++ play_rules v left right score rate places)
  mix_holds refusal h = rw rules_are at h

  pub play_parts : NoneHolds (play_rules v left right score rate places)
      → NoneHolds (voice_rules v left right) × NoneHolds (sequence_rules v) × NoneHolds (place_rules places) × All (λ e. NoneHolds (entry_rules v rate e)) score
  play_parts none =
      let voice = none_parts (voice_rules v left right) (from_sequence v score rate places) (subst NoneHolds play_are none) in
      let sequence = none_parts (sequence_rules v) (from_places v score rate places) voice.1 in
      let even = none_parts (place_rules places) (entries_rules v rate score) sequence.1 in
      (voice.0, sequence.0, even.0, entries_parts v rate score even.1)

  pub mix_numbers_lem : numbers_of (mix_rules v left right score rate places) ≡ 46 ∷ order_numbers score ++ (10 ∷ 13 ∷ 18 ∷ 21 ∷ 22 ∷ 23 ∷ 25 ∷ entry_numbers score)
  mix_numbers_lem =
      let play = ap (λ ns. 10 ∷ 13 ∷ 18 ∷ 21 ∷ 22 ∷ 23 ∷ 25 ∷ ns) (entries_numbers v rate score) in
      rw rules_are (map-append (λ (r : Rule). number_of r.refusal) (score_rules score) (play_rules v left right score rate places) ∙ ap₂ (λ ms ns. 46 ∷ ms ++ ns) (order_numbers_lem 0 score) play)
