-- The rules of a fill, by their parts, and by the frames filled.
--     rules_are                                      all of them, by those after the voice's
--     NoneOf, none_of                                where none holds, none of a part does
--     NotAhead, not_ahead, never_ahead               a key-up that isn't ahead of the frames filled
--     is_none, past_most, within_most                a number that has to be from 1 to a limit
--     rules_capped                                   from past 4,294,967,295 frames on the rules stay as they are there
-- Assumes nothing.
use Prim.Native.Nat.{ℕ, ◌≤◌, ◌<◌, min}
use mathlib.Core.Bool.{true, false, ◌||◌}
use mathlib.Core.List.{List, ◌++◌}
use mathlib.Core.Logic.{◌⊎◌, inl, inr}
use mathlib.Core.Path.{◌≡◌, refl}
use native.Mathlib.Omega.{arith}
use borrow.Author.Tests.{lt-ltb, le-ltb, eq-eqb, ne_eqb}
use lib.Dec.{eqb, ltb}
use Rattle.refusal.specs.Rules.{Rule, first_holding, NoneHolds}
use Rattle.refusal.proofs.RuleLaws.{none_holds, none_parts}
use Rattle.sheet.specs.Voice.{Voice}
use Rattle.note_frame.specs.declared.playing.Key.{Key}
use Rattle.note_frame.specs.declared.playing.Key.TheVariants.{Held, Released}
use Rattle.note_frame.specs.declared.playing.Playing.{Playing}
use Rattle.voice_rules.specs.Rules.{voice_rules}
use Rattle.note_rules.specs.Rules.{key_up_ahead, sequence_rules, octave_rules, place_rules, note_rules, fill_rules}
use Rattle.std.specs.Prelude.{Ok}

-- ---- the parts

-- no rule of any part holds
pub record NoneOf (v : Voice) (left right : ℕ) (n : Playing) (frames places : ℕ) : Type 0 where
  pub voice : NoneHolds (voice_rules v left right)
  pub sequence : NoneHolds (sequence_rules v)
  pub octave : NoneHolds (octave_rules v n.octave)
  pub even : NoneHolds (place_rules places)
  pub note : NoneHolds (note_rules v.header n frames)

module _ (v : Voice) (left right : ℕ) (n : Playing) (frames places : ℕ) where
  -- the rules after the voice's, after the sequence's, after the octave's
  abbrev pub from_places : List Rule
  from_places = place_rules places ++ note_rules v.header n frames

  abbrev pub from_octave : List Rule
  from_octave = octave_rules v n.octave ++ from_places

  abbrev pub from_sequence : List Rule
  from_sequence = sequence_rules v ++ from_octave

  pub rules_are : fill_rules v left right n frames places ≡ voice_rules v left right ++ from_sequence
  unfolding fill_rules
  rules_are = refl

  pub none_of : first_holding (fill_rules v left right n frames places) ≡ Ok tt → NoneOf v left right n frames places
  none_of accepted =
      let all = none_parts (voice_rules v left right) from_sequence (rw rules_are at (none_holds (fill_rules v left right n frames places) accepted)) in
      let sequence = none_parts (sequence_rules v) from_octave all.1 in
      let octave = none_parts (octave_rules v n.octave) from_places sequence.1 in
      let even = none_parts (place_rules places) (note_rules v.header n frames) octave.1 in
      record { voice = all.0; sequence = sequence.0; octave = octave.0; even = even.0; note = even.1 }

-- ---- from 1 to a limit

module _ (n most : ℕ) where
  pub outside_most : (n ≡ 0) ⊎ ((n ≡ 0 → ⊥) × (most < n)) → (eqb n 0 || ltb most n) ≡ true
  outside_most (inl e) = rw (eq-eqb n 0 e)
  outside_most (inr past) = rw (ne_eqb n 0 past.0, lt-ltb most n past.1)

  pub within_most : (n ≡ 0 → ⊥) → n ≤ most → (eqb n 0 || ltb most n) ≡ false
  within_most some h = rw (ne_eqb n 0 some, le-ltb most n h)

-- ---- the frames filled

-- the key-up frame is at most so many
abbrev pub NotAhead : Key → ℕ → Type 0
NotAhead Held frames = Unit
NotAhead (Released u) frames = u ≤ frames

pub not_ahead : (key : Key) (frames : ℕ) → NotAhead key frames → key_up_ahead key frames ≡ false
not_ahead Held frames h = refl
not_ahead (Released u) frames h = le-ltb frames u h

pub never_ahead : (key : Key) (n m : ℕ) → n ≤ m → NotAhead key n → NotAhead key m
never_ahead Held n m le h = tt
never_ahead (Released u) n m le h = omega arith

pub rules_capped : (v : Voice) (left right : ℕ) (n : Playing) (frames places : ℕ) → NotAhead n.key (min frames 4294967295)
    → fill_rules v left right n (min frames 4294967295) places ≡ fill_rules v left right n frames places
unfolding fill_rules
rules_capped v left right n frames places h =
    let cap = min frames 4294967295 in
    rw (not_ahead n.key cap h, not_ahead n.key frames (never_ahead n.key cap frames (omega arith) h))
