-- What the code's helpers ask and give; no reader of the meanings needs it.
-- Where the parts of a voice begin in its flat form.
use Rattle.std.specs.Prelude.{ℕ, ◌+◌, [], ◌∷◌, length}
use Rattle.laws.specs.Walk.{each}
use Rattle.small_chunks.specs.Channel.{channel_value_of}
use Rattle.small_chunks.specs.Pan.{pan_bytes}
use Rattle.small_chunks.specs.Sequence.{fade_bytes}
use Rattle.sheet.specs.Flat.{if_there, flat_envelope, flat_sequence}
use Rattle.sheet.specs.Voice.{Voice}
use Rattle.sheet_layout.specs.declared.Layout.{Layout}

-- Each part begins where the one before it ends.

-- past the header's record, which takes 21 bytes
unfoldable pub channel_at : Voice → ℕ
channel_at v = 21

-- past the channel
unfoldable pub pan_at : Voice → ℕ
pan_at v = channel_at v + length (if_there (λ c. 2 ∷ channel_value_of c ∷ []) v.channel)

-- past the pan
unfoldable pub attacks_at : Voice → ℕ
attacks_at v = pan_at v + length (if_there (λ p. 3 ∷ pan_bytes p) v.pan)

-- past the attacks
unfoldable pub releases_at : Voice → ℕ
releases_at v = attacks_at v + length (each (flat_envelope 4) v.attacks)

-- past the releases
unfoldable pub sequence_at : Voice → ℕ
sequence_at v = releases_at v + length (each (flat_envelope 5) v.releases)

-- past the sequence
unfoldable pub fade_at : Voice → ℕ
fade_at v = sequence_at v + length (if_there flat_sequence v.sequence)

-- past the fade
unfoldable pub texts_at : Voice → ℕ
texts_at v = fade_at v + length (if_there (λ f. 9 ∷ fade_bytes f) v.fade)

-- all of them
abbrev pub layout_of : Voice → Layout
layout_of v = record {
  channel = channel_at v;
  pan = pan_at v;
  attacks = attacks_at v;
  releases = releases_at v;
  sequence = sequence_at v;
  fade = fade_at v;
  texts = texts_at v;
}
