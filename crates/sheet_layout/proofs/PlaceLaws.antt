-- The places of a voice's parts follow one another and lie in its flat form.
-- Assumes nothing.
use Prim.Native.Nat.{ℕ, ◌≤◌}
use lib.ListN.{length, length-append, length-drop}
use mathlib.Core.List.{List}
use mathlib.Core.Path.{◌≡◌, ap}
use native.Mathlib.Omega.{arith}
use Rattle.header.specs.Header.{header_bytes}
use Rattle.header.proofs.HeaderLaws.{header_length}
use Rattle.sheet.specs.Flat.{flat}
use Rattle.sheet.specs.Voice.{Voice}
use Rattle.sheet_layout.specs.Layout.{channel_at, pan_at, attacks_at, releases_at, sequence_at, fade_at}
use Rattle.sheet_layout.proofs.PartLaws.{channel_part, from_channel, pan_part, from_pan, attacks_part, from_attacks, releases_part, from_releases, sequence_part, from_sequence, from_fade, at_header}

module _ (v : Voice) (s : List ℕ) (e : flat v ≡ s) where
  -- all parts up to a fade lie in the sheet, since their lengths add up to its length less what follows
  fade_within : fade_at v ≤ length s
  unfolding channel_at pan_at attacks_at releases_at sequence_at fade_at
  fade_within = omega (
    arith,
    length-drop 1 s,
    ap length (at_header v s e),
    length-append (header_bytes v.header) (from_channel v),
    header_length v.header,
    length-append (channel_part v) (from_pan v),
    length-append (pan_part v) (from_attacks v),
    length-append (attacks_part v) (from_releases v),
    length-append (releases_part v) (from_sequence v),
    length-append (sequence_part v) (from_fade v),
  )

  pub places_within : (attacks_at v ≤ releases_at v) × (releases_at v ≤ sequence_at v) × (sequence_at v ≤ fade_at v) × (fade_at v ≤ length s)
  unfolding releases_at sequence_at fade_at
  places_within = (omega arith, omega arith, omega arith, fade_within)
