-- The refusals of a fill: only where a rule with that refusal holds, and on a read voice only some.
-- Assumes nothing.
use Prim.Native.Nat.{ℕ, zero, suc, ◌^◌, min}
use mathlib.Core.Bool.{false, not}
use mathlib.Core.List.{List, [], ◌∷◌}
use mathlib.Core.Logic.{◌⊎◌, inl, inr}
use mathlib.Core.Path.{◌≡◌, refl, ap}
use native.Mathlib.Omega.{arith}
use borrow.Author.Tests.{lt-leb}
use lib.Dec.{ltb}
use lib.ListN.{length}
use Rattle.laws.specs.Among.{Among}
use Rattle.laws.proofs.Cases.{impossible}
use Rattle.field.specs.BigEndian.{Bytes}
use Rattle.header.specs.Compression.{known_compression}
use Rattle.header.specs.Octaves.{total_samples}
use Rattle.header.specs.declared.compression.Compression.{Compression}
use Rattle.sheet.specs.Allowed.{All}
use Rattle.sheet.specs.Judge.{judged, if_sound}
use Rattle.sheet.specs.Read.{read_sheet}
use Rattle.sheet.specs.Voice.{Voice}
use Rattle.body_read.specs.Sides.{Sides}
use Rattle.note_frame.specs.declared.chain.Frame.{Frame}
use Rattle.refusal.specs.Rules.{Holds, NoneHolds, numbers_of}
use Rattle.note_rules.specs.Rules.{key_up_ahead, fill_rules}
use Rattle.note_frame.specs.declared.playing.Playing.{Playing}
use Rattle.note_rules.proofs.RuleLaws.{rules_are, not_ahead, never_ahead}
use Rattle.note.specs.Fill.{fill_voice, fill_sheet}
use Rattle.note.proofs.FillLaws.{rules_of, rule_holds, no_rule}
use Rattle.voice_read.specs.ReadVoice.{Reading, read_voice}
use Rattle.demands.specs.Demand1.{fill_refusals, sheet_refusals}
use Rattle.demands.specs.Demand2.{Acceptable}
use Rattle.demands.specs.Demand3.{read_voice_refusals, RefusedAmong}
use Rattle.demands.specs.Reckoning.{Call, fill, key_up, Started, State, playing, at_first, set_by, fill_at, answer_to, grown, reckon_from}
use Rattle.demands.proofs.RefusalLaws.{Within, others, holding_among}
use Rattle.demands.proofs.WriteRefusals.{if_sound_within, sheet_refusal}
use Rattle.demands.proofs.Accepted.{read_sound}
use Rattle.demands.proofs.Played.{Behind, behind_key_up, behind_fill}
use Rattle.refusal.specs.Outcome.{Outcome}
use Rattle.std.specs.Prelude.{Err, Ok, ⊤}
use Rattle.refusal.specs.declared.Refusal.{Refusal}

-- ---- a fill of a sheet

pub by_a_rule : (sheet : List ℕ) (s : Sides) (p : Playing) (frames places : ℕ) (refusal : Refusal) → fill_sheet sheet s p frames places ≡ Err refusal
    → (judged sheet ≡ Err refusal) ⊎ ((judged sheet ≡ Ok tt) × Holds refusal (fill_rules (read_sheet sheet) (length s.left) (length s.right) p frames places))
by_a_rule sheet s p frames places refusal = go (judged sheet) refl
  where
    go : (j : Outcome ⊤) → judged sheet ≡ j → if_sound j Err (fill_voice (read_sheet sheet) s p frames places) ≡ Err refusal
        → (judged sheet ≡ Err refusal) ⊎ ((judged sheet ≡ Ok tt) × Holds refusal (rules_of (read_sheet sheet) s p frames places))
    go (Ok tt) is e = inr (is, rule_holds (read_sheet sheet) s p frames places refusal e)
    go (Err k) is e = let same : k ≡ refusal = cc in inl (rw (← same) is)

pub by_none : (sheet : List ℕ) (s : Sides) (p : Playing) (frames places : ℕ) (block : List Frame) → fill_sheet sheet s p frames places ≡ Ok block
    → (judged sheet ≡ Ok tt) × NoneHolds (fill_rules (read_sheet sheet) (length s.left) (length s.right) p frames places)
by_none sheet s p frames places block = go (judged sheet) refl
  where
    go : (j : Outcome ⊤) → judged sheet ≡ j → if_sound j Err (fill_voice (read_sheet sheet) s p frames places) ≡ Ok block
        → (judged sheet ≡ Ok tt) × NoneHolds (rules_of (read_sheet sheet) s p frames places)
    go (Ok tt) is e = (is, no_rule (read_sheet sheet) s p frames places block e)
    go (Err k) is e = impossible cc

-- ---- the refusals

voice_within : (refusals : List Refusal) (v : Voice) (s : Sides) (p : Playing) (frames places : ℕ) → NoneHolds (others refusals (rules_of v s p frames places))
    → Within refusals (fill_voice v s p frames places)
voice_within refusals v s p frames places none = go (fill_voice v s p frames places) refl
  where
    go : (o : Outcome (List Frame)) → fill_voice v s p frames places ≡ o → Within refusals o
    go (Ok block) e = tt
    go (Err refusal) e = holding_among refusals (rules_of v s p frames places) none refusal (rule_holds v s p frames places refusal e)

-- any fill: every rule has one of the refusals
pub fill_within : (sheet : List ℕ) (s : Sides) (p : Playing) (frames places : ℕ) → Within fill_refusals (fill_sheet sheet s p frames places)
fill_within sheet s p frames places =
    let v = read_sheet sheet in
    let rules = rules_are v (length s.left) (length s.right) p frames places in
    if_sound_within fill_refusals tt sheet (fill_voice v s p frames places) (voice_within fill_refusals v s p frames places (rw rules tt))

-- a refused sheet turns a fill back by its own refusal
pub sheet_first : (sheet : List ℕ) (s : Sides) (p : Playing) (frames places : ℕ) (refusal : Refusal) → judged sheet ≡ Err refusal
    → (fill_sheet sheet s p frames places ≡ Err refusal) × Among refusal sheet_refusals
sheet_first sheet s p frames places refusal e = (ap (λ j. if_sound j Err (fill_voice (read_sheet sheet) s p frames places)) e, sheet_refusal sheet refusal e)

-- the order
pub order : (v : Voice) (left right : ℕ) (p : Playing) (frames places : ℕ)
    → numbers_of (fill_rules v left right p frames places) ≡ 10 ∷ 13 ∷ 18 ∷ 21 ∷ 22 ∷ 23 ∷ 24 ∷ 25 ∷ 31 ∷ 32 ∷ 33 ∷ 34 ∷ 44 ∷ []
order v left right p frames places = rw (rules_are v left right p frames places) refl

-- ---- a read voice

-- 10 doesn't hold
pub known_byte : (byte : ℕ) (c : Compression) → known_compression byte ≡ Ok c → ltb 1 byte ≡ false
unfolding known_compression
known_byte zero c e = refl
known_byte (suc zero) c e = refl
known_byte (suc (suc n)) c e = impossible cc

answer_among : (refusals : List Refusal) (o : Outcome (List Frame)) → Within refusals o → RefusedAmong refusals (answer_to o)
answer_among refusals (Ok block) w = tt
answer_among refusals (Err refusal) w = w

module _ (r : Reading) (s : Started) (sound : Acceptable r) where
  read_fill : (state : State) (places : ℕ) → Behind state → Within read_voice_refusals (fill_at r s state places)
  read_fill state places behind =
      let h = r.voice.header in
      let key : key_up_ahead state.u state.n ≡ false = not_ahead state.u state.n (never_ahead state.u (min state.n 4294967295) state.n (omega arith) behind) in
      let known = known_byte h.compression_byte sound.known.0 sound.known.1 in
      let total = lt-leb (2 ^ 64) (total_samples h) sound.total in
      let suits = ap not sound.lengths_suit_lem in
      let p = playing s state.u in
      voice_within read_voice_refusals r.voice r.sides p state.n places
      (rw (rules_are r.voice (length r.sides.left) (length r.sides.right) p state.n places) (known, (total, (suits, (key, tt)))))

  read_from : (calls : List Call) (state : State) → Behind state → All (RefusedAmong read_voice_refusals) (reckon_from r s state calls).answers
  unfolding reckon_from
  read_from [] state behind = tt
  read_from (fill places ∷ calls) state behind =
      let o = fill_at r s state places in
      (answer_among read_voice_refusals o (read_fill state places behind), read_from calls (grown o state) (behind_fill o state behind))
  read_from (key_up ∷ calls) state behind = read_from calls (record { n = state.n; u = set_by state.u state.n }) (behind_key_up state.n state.u behind)

pub read_voice_lem : (file : List ℕ) (r : Reading) (s : Started) (calls : List Call) → Bytes file → read_voice file ≡ Ok r
    → All (RefusedAmong read_voice_refusals) (reckon_from r s at_first calls).answers
read_voice_lem file r s calls bytes e = read_from r s (read_sound file r bytes e) calls at_first tt
