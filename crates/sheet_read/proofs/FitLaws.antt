-- What is read from bytes fits its fields.
-- Assumes nothing.
use Prim.Native.Nat.{ℕ}
use lib.ListN.{drop}
use mathlib.Core.List.{List}
use mir.Syntax.{w32}
use mir.Val.{SFits}
use mir.Facts.{sfits_to_z}
use Rattle.field.specs.BigEndian.{big_endian, Bytes}
use Rattle.field.specs.Signed.{signed32}
use Rattle.field.proofs.BigEndianLaws.{bytes_drop, number_fits}
use Rattle.field.proofs.SignedLaws.{read_is}
use Rattle.small_chunks.specs.Pan.{pan_of}
use Rattle.small_chunks.specs.Envelope.{point_of}
use Rattle.small_chunks.specs.Sequence.{segment_of, fade_of}
use Rattle.sheet.specs.Allowed.{PanFits, PointFits, SegmentFits, FadeFits}

module _ (l : List ℕ) (b : Bytes l) where
  signed_fits : SFits w32 (signed32 (big_endian 4 l))
  signed_fits = rw (← read_is w32 (big_endian 4 l)) (sfits_to_z (record { fits = number_fits 4 l b }))

  pub pan_fits : PanFits (pan_of l)
  unfolding pan_of
  pan_fits = record { position = signed_fits }

  pub segment_fits : SegmentFits (segment_of l)
  unfolding segment_of
  segment_fits = record { start = number_fits 4 l b; end = number_fits 4 (drop 4 l) (bytes_drop 4 l b) }

  pub fade_fits : FadeFits (fade_of l)
  unfolding fade_of
  fade_fits = record { segment = number_fits 4 l b }

pub point_fits : (l : List ℕ) → Bytes l → PointFits (point_of l)
unfolding point_of
point_fits l b = record { duration = number_fits 2 l b; dest = signed_fits (drop 2 l) (bytes_drop 2 l b) }
