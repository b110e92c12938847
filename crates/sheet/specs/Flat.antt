-- A voice in flat form: records of one byte of kind and a body, laid out as in its chunk but for kinds 2, 10 and 11, which have one byte.
use Rattle.std.specs.Prelude.{ℕ, List, [], ◌∷◌, ◌++◌, None, Option, Some}
use Rattle.laws.specs.Walk.{each}
use Rattle.header.specs.Header.{header_bytes}
use Rattle.small_chunks.specs.Channel.{channel_value_of}
use Rattle.small_chunks.specs.Pan.{pan_bytes}
use Rattle.small_chunks.specs.Envelope.{point_bytes}
use Rattle.small_chunks.specs.Sequence.{segment_bytes, fade_bytes}
use Rattle.small_chunks.specs.declared.points.EgPoint.{EgPoint}
use Rattle.small_chunks.specs.declared.sequence.SeqnSegment.{SeqnSegment}
use Rattle.sheet.specs.Voice.{Text, Voice}

-- what may be missing
abbrev pub if_there : {A : Type 0} → (A → List ℕ) → Option A → List ℕ
if_there f None = []
if_there f (Some a) = f a

-- 6: a point
abbrev pub flat_point : EgPoint → List ℕ
flat_point p = 6 ∷ point_bytes p

-- 4 begins an attack and 5 a release, each with its points
abbrev pub flat_envelope : ℕ → List EgPoint → List ℕ
flat_envelope kind points = kind ∷ each flat_point points

-- 8: a segment
abbrev pub flat_segment : SeqnSegment → List ℕ
flat_segment s = 8 ∷ segment_bytes s

-- 7 begins the sequence
abbrev pub flat_sequence : List SeqnSegment → List ℕ
flat_sequence segments = 7 ∷ each flat_segment segments

-- 10 begins a text, and each of its bytes is a record of kind 11
abbrev pub flat_text : Text → List ℕ
flat_text t = 10 ∷ t.key ∷ each (λ b. 11 ∷ b ∷ []) t.bytes

-- 1 header, 2 channel, 3 pan, attacks, releases, sequence, 9 fade, texts
unfoldable pub flat : Voice → List ℕ
flat v =
    (1 ∷ header_bytes v.header)
    ++ if_there (λ c. 2 ∷ channel_value_of c ∷ []) v.channel
    ++ if_there (λ p. 3 ∷ pan_bytes p) v.pan
    ++ each (flat_envelope 4) v.attacks
    ++ each (flat_envelope 5) v.releases
    ++ if_there flat_sequence v.sequence
    ++ if_there (λ f. 9 ∷ fade_bytes f) v.fade
    ++ each flat_text v.texts
