-- A channel in difference order: octave by octave, each sample as its difference to the one before, and the values at even places first.
use Rattle.std.specs.Prelude.{ℕ, zero, suc, ◌+◌, ◌/◌, ◌^◌, false, not, List, [], ◌∷◌, ◌++◌, leb, ℤ, ◌+ℤ◌, ◌-ℤ◌, length, take, drop}
use Rattle.laws.specs.Turns.{by_turns, evens, odds}
use Rattle.refusal.specs.Rules.{Rule, rule, first_holding, unless_refused}
use Rattle.field.specs.Wrap.{to_sample}
use Rattle.header.specs.Octaves.{octaves_there, total_samples}
use Rattle.header.specs.declared.voice_header.VoiceHeader.{VoiceHeader}
use Rattle.body_read.specs.Sides.{lengths_suit}
use Rattle.octaves.specs.Octave.{octave_of}
use Rattle.refusal.specs.declared.Refusal.TheVariants.{OctaveTotal, SampleLengths}
use Rattle.refusal.specs.Outcome.{Outcome}

-- ---- an octave

-- each sample less the one before it, modulo 256 as a signed byte; `before` is the one before the first of these
unfoldable pub less_before : ℤ → List ℤ → List ℤ
less_before before [] = []
less_before before (x ∷ xs) = to_sample (x -ℤ before) ∷ less_before x xs

-- the first sample as it is, then each less the one before it
unfoldable pub differences : List ℤ → List ℤ
differences [] = []
differences (x ∷ xs) = x ∷ less_before x xs

-- an octave in difference order: the values at even places, counted from 0, before those at odd places
unfoldable pub octave_order : List ℤ → List ℤ
octave_order octave = evens (differences octave) ++ odds (differences octave)

-- ---- an octave back

-- each value added to the sample before, modulo 256 as a signed byte; `before` is the sample before the first of these
unfoldable pub added_to : ℤ → List ℤ → List ℤ
added_to before [] = []
added_to before (x ∷ xs) = to_sample (before +ℤ x) ∷ added_to (to_sample (before +ℤ x)) xs

-- the first value as it is, then each added to the sample before
unfoldable pub sums : List ℤ → List ℤ
sums [] = []
sums (x ∷ xs) = x ∷ added_to x xs

-- the values at their places again: of n values (n + 1) / 2 are of even places, and the others by turns with them
abbrev pub at_places : List ℤ → List ℤ
at_places values = by_turns (take ((length values + 1) / 2) values) (drop ((length values + 1) / 2) values)

-- the octave that these values are the difference order of
unfoldable pub octave_restored : List ℤ → List ℤ
octave_restored values = sums (at_places values)

-- ---- a channel

-- the first n octaves of a channel, each put through f, joined
unfoldable pub first_octaves : (List ℤ → List ℤ) → VoiceHeader → ℕ → List ℤ → List ℤ
first_octaves f h zero channel = []
first_octaves f h (suc k) channel = first_octaves f h k channel ++ f (octave_of h k channel)

-- all of them
abbrev pub each_octave : (List ℤ → List ℤ) → VoiceHeader → List ℤ → List ℤ
each_octave f h channel = first_octaves f h (octaves_there h) channel

-- what turns a channel of n samples back, in the order in which it is judged: 13, a total past 64 bits; 18, a length that isn't that of a
-- voice of one channel. 20, where the output doesn't fit, comes after them
abbrev pub channel_rules : VoiceHeader → ℕ → List Rule
channel_rules h n =
    rule OctaveTotal (leb (2 ^ 64) (total_samples h))
    ∷ rule SampleLengths (not (lengths_suit h false n 0))
    ∷ []

-- a channel octave by octave through f, unless a rule turns it back
unfoldable pub by_octave : (List ℤ → List ℤ) → VoiceHeader → List ℤ → Outcome (List ℤ)
by_octave f h channel = unless_refused (first_holding (channel_rules h (length channel))) (each_octave f h channel)

-- a channel's samples in difference order
abbrev pub difference_order : VoiceHeader → List ℤ → Outcome (List ℤ)
difference_order h samples = by_octave octave_order h samples

-- the samples of a channel that was put in difference order
abbrev pub difference_restore : VoiceHeader → List ℤ → Outcome (List ℤ)
difference_restore h values = by_octave octave_restored h values
