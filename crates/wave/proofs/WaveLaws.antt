-- Laws of an octave's file: how long it is, when it is refused, and what an octave with a file fulfils.
--     octaves_same                   sides that suit have octaves of one length
--     held_length                    how many bytes the RIFF holds
--     contents_are, rules_are        what it holds, and the rules, by their parts
--     wave_is                        the file by the rules, one after another
--     wave_refused, wave_length      the file by the rules before 19, and its length once they are passed
--     Accepted, accepted             all that is asked of an octave with a file
-- No proof elsewhere looks into `octave_contents`, `wave_rules` or `octave_wave`.
-- Assumes nothing.
use Prim.Native.Nat.{ℕ, ◌*◌, ◌≤◌}
use mathlib.Core.Bool.{Bool, true, false}
use mathlib.Core.List.{List, ◌++◌}
use mathlib.Core.Path.{◌≡◌, refl, sym, ap, ◌∙◌}
use borrow.Author.Tests.{ltb-false, eqb-true, not-false}
use lib.Dec.{ltb}
use lib.IntN.{ℤ}
use lib.ListN.{length}
use Rattle.refusal.proofs.RuleLaws.{first_stands, first_join, first_here, first_later, first_none, none_holds, none_parts, none_back}
use Rattle.refusal.specs.Rules.{Rule, first_holding, NoneHolds, unless_refused}
use Rattle.header.specs.declared.voice_header.VoiceHeader.{VoiceHeader}
use Rattle.body_read.proofs.SideLaws.{suit_parts}
use Rattle.body_read.specs.Sides.{Sides, lengths_suit}
use Rattle.sheet.specs.Voice.{Voice, is_stereo}
use Rattle.octaves.proofs.PartLaws.{part_same}
use Rattle.octaves.specs.Octave.{octave_part, octave_of}
use Rattle.voice_rules.specs.Rules.{voice_rules}
use Rattle.wave.proofs.RiffLaws.{contents_length, held_chunk}
use Rattle.wave.proofs.ValueLaws.{values_length}
use Rattle.wave.specs.Helpers.{held_for, length_for}
use Rattle.wave.specs.Riff.{riff, wave_contents}
use Rattle.wave.specs.Wave.{values_of, channels_of, octave_contents, octave_file, source_rules, length_rules, wave_rules, octave_wave}
use Rattle.refusal.specs.declared.Refusal.TheVariants.{FormLength}
use Rattle.refusal.specs.Outcome.{Outcome, length_of}
use Rattle.refusal.specs.declared.Refusal.{Refusal}
use Rattle.std.specs.Prelude.{Err, Ok, ⊤}

module _ (v : Voice) (s : Sides) (k : ℕ) where
  abbrev h : VoiceHeader
  h = v.header

  abbrev pub stereo : Bool
  stereo = is_stereo v.channel

  -- the octave of each side
  abbrev pub lefts : List ℤ
  lefts = octave_of h k s.left

  abbrev pub rights : List ℤ
  rights = octave_of h k s.right

  abbrev suits : Bool
  suits = lengths_suit h stereo (length s.left) (length s.right)

  -- two sides that suit have octaves of one length
  pub octaves_same : suits ≡ true → stereo ≡ true → length lefts ≡ length rights
  octaves_same suit two =
      let sides = rw two at (suit_parts h stereo (length s.left) (length s.right) suit).1 in
      let same : length s.right ≡ length s.left = eqb-true (length s.right) (length s.left) sides in
      rw (← same) (part_same (octave_part h (length s.right) k) s.left s.right (sym same))

  -- ---- how long

  pub contents_are : octave_contents v s k ≡ wave_contents (channels_of stereo) h.samples_per_sec (values_of stereo lefts rights)
  unfolding octave_contents
  contents_are = refl

  pub held_length : suits ≡ true → length (octave_contents v s k) ≡ held_for (channels_of stereo * length lefts)
  held_length suit =
      ap length contents_are
      ∙ contents_length (channels_of stereo) h.samples_per_sec (values_of stereo lefts rights)
      ∙ ap held_for (values_length stereo lefts rights (octaves_same suit))

  -- ---- by the rules

  -- the rules before 19
  abbrev pub before19 : List Rule
  before19 = voice_rules v (length s.left) (length s.right) ++ source_rules h k

  pub rules_are : wave_rules v s k ≡ before19 ++ length_rules (octave_contents v s k)
  unfolding wave_rules
  rules_are = refl

  pub wave_is : octave_wave v s k ≡ unless_refused (first_holding (before19 ++ length_rules (octave_contents v s k))) (octave_file v s k)
  unfolding octave_wave
  wave_is = rw rules_are

  by_rules : (verdict : Outcome ⊤) → first_holding (before19 ++ length_rules (octave_contents v s k)) ≡ verdict → octave_wave v s k ≡ unless_refused verdict (octave_file v s k)
  by_rules verdict e = wave_is ∙ rw e

  pub wave_refused : (refusal : Refusal) → first_holding before19 ≡ Err refusal → octave_wave v s k ≡ Err refusal
  wave_refused refusal e = by_rules (Err refusal) (first_stands before19 (length_rules (octave_contents v s k)) refusal e)

  -- none of them holds
  module _ (none : first_holding before19 ≡ Ok tt) where
    passed : NoneHolds (voice_rules v (length s.left) (length s.right)) × NoneHolds (source_rules h k)
    passed = none_parts (voice_rules v (length s.left) (length s.right)) (source_rules h k) (none_holds before19 none)

    pub suited : suits ≡ true
    suited = not-false suits passed.0.1.1.0

    left19 : first_holding (before19 ++ length_rules (octave_contents v s k)) ≡ first_holding (length_rules (octave_contents v s k))
    left19 = first_join before19 (length_rules (octave_contents v s k)) none

    long : ltb 4294967295 (length (octave_contents v s k)) ≡ true → octave_wave v s k ≡ Err FormLength
    long e = by_rules (Err FormLength) (left19 ∙ first_here _ _ e)

    short : ltb 4294967295 (length (octave_contents v s k)) ≡ false → octave_wave v s k ≡ Ok (octave_file v s k)
    short e = by_rules (Ok tt) (left19 ∙ first_later _ _ e ∙ first_none)

    pub wave_length : length_of (octave_wave v s k) ≡ length_for (channels_of stereo * length lefts)
    wave_length = go (ltb 4294967295 (length (octave_contents v s k))) refl
      where
        go : (t : Bool) → ltb 4294967295 (length (octave_contents v s k)) ≡ t → length_of (octave_wave v s k) ≡ length_for (channels_of stereo * length lefts)
        go true e =
            let past : ltb 4294967295 (held_for (channels_of stereo * length lefts)) ≡ true = rw (held_length suited) at e in
            ap length_of (long e) ∙ rw past
        go false e =
            let within : ltb 4294967295 (held_for (channels_of stereo * length lefts)) ≡ false = rw (held_length suited) at e in
            ap length_of (short e) ∙ rw within (ap Ok (held_chunk riff (octave_contents v s k) (channels_of stereo * length lefts) (held_length suited)))

-- ---- the other way

-- all that is asked of an octave with a file
pub record Accepted (v : Voice) (s : Sides) (k : ℕ) (file : List ℕ) : Type 0 where
  pub suits : lengths_suit v.header (is_stereo v.channel) (length s.left) (length s.right) ≡ true
  pub fits : length (octave_contents v s k) ≤ 4294967295
  pub is : file ≡ octave_file v s k

pub accepted : (v : Voice) (s : Sides) (k : ℕ) (file : List ℕ) → octave_wave v s k ≡ Ok file → Accepted v s k file
accepted v s k file w =
    let contents = octave_contents v s k in
    let rules = before19 v s k ++ length_rules contents in
    let given = sym (wave_is v s k) ∙ w in
    let none : first_holding rules ≡ Ok tt = none_back (first_holding rules) (octave_file v s k) file given in
    let parts = none_parts (before19 v s k) (length_rules contents) (none_holds rules none) in
    let voice = none_parts (voice_rules v (length s.left) (length s.right)) (source_rules v.header k) parts.0 in
    record {
      suits = not-false (lengths_suit v.header (is_stereo v.channel) (length s.left) (length s.right)) voice.0.1.1.0;
      fits = ltb-false 4294967295 (length contents) parts.1.0;
      is = let e : Ok file ≡ Ok (octave_file v s k) = sym given ∙ rw none in cc;
    }
