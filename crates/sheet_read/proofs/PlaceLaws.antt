-- The part of a sheet that one chunk makes, by the place that `find` answers.
-- Assumes nothing.
use Prim.Native.Nat.{ℕ, suc, ◌≤◌, ◌<◌}
use borrow.Author.Tests.{le-ltb}
use lib.Dec.{lit<}
use lib.ListN.{length, get_or, take, drop, length-take}
use lib.Seq.{take-take}
use mathlib.Core.List.{List, [], ◌∷◌}
use mathlib.Core.Path.{◌≡◌, sym, ap, ◌∙◌}
use native.Mathlib.Omega.{arith}
use Rattle.field.specs.BigEndian.{big_endian, Bytes}
use Rattle.field.specs.Tagged.{tagged}
use Rattle.field.proofs.BigEndianLaws.{bytes_take, bytes_drop}
use Rattle.small_chunks.specs.Channel.{channel_of, channel_value_of, parsed_channel}
use Rattle.chunk.specs.Chunk.{items_from}
use Rattle.form.specs.FirstBad.{first_bad}
use Rattle.form.specs.Kind.{names, kind_of, least}
use Rattle.form.specs.Names.{chan, seqn}
use Rattle.form.specs.declared.place.Place.{Place}
use Rattle.form.proofs.FindLaws.{Found}
use Rattle.form.proofs.FormLaws.{kind_name, size_least, first_sound}
use Rattle.sheet.specs.Flat.{if_there}
use Rattle.sheet.specs.Read.{known_channel}
use Rattle.sheet_read.specs.Parts.{record_part, channel_part, segments_part}
use Rattle.sheet_read.proofs.TurnLaws.{segments_tagged}
use Rattle.small_chunks.specs.declared.channel.ChannelAssignment.{ChannelAssignment}
use Rattle.refusal.specs.Outcome.{Outcome}
use Rattle.std.specs.Prelude.{Some, Ok}

-- the least length of a name that has rules
pub least_of_lem : (k : ℕ) → k < 8 → get_or least (kind_of (get_or names k 0)) 0 ≡ get_or least (suc k) 0
least_of_lem k h = ap (λ (kind : ℕ). get_or least kind 0) (kind_name k h)

module _ {f : List ℕ} {id : ℕ} {p : Place} (w : Found f id (Some p)) where
  -- a right chunk has the least length of its kind
  pub least_fits : first_bad (items_from f 12) ≡ Ok tt → get_or least (kind_of id) 0 ≤ length (take p.size (drop p.start f))
  least_fits e = size_least (kind_of id) _ (first_sound id (items_from f 12) e (take p.size (drop p.start f)) (sym w.is)).0

  pub least_size : first_bad (items_from f 12) ≡ Ok tt → get_or least (kind_of id) 0 ≤ p.size
  least_size e = omega (arith, least_fits e, length-take p.size (drop p.start f))

  pub record_at_lem : (kind n : ℕ) → n ≤ p.size → record_part id kind n (items_from f 12) ≡ kind ∷ take n (drop p.start f)
  record_at_lem kind n h = rw (← w.is) (ap (λ (l : List ℕ). kind ∷ l) (take-take n p.size (drop p.start f) h))

module _ {f : List ℕ} {p : Place} where
  pub channel_at_lem : Found f chan (Some p) → first_bad (items_from f 12) ≡ Ok tt → (r : Outcome ChannelAssignment) → r ≡ parsed_channel (take p.size (drop p.start f))
      → channel_part (items_from f 12) ≡ if_there (λ c. 2 ∷ channel_value_of c ∷ []) (known_channel r)
  channel_at_lem w e r h =
      let l = take p.size (drop p.start f) in
      let four : 4 ≤ length l = rw (least_of_lem 1 (lit< tt)) at (least_fits w e) in
      let read : r ≡ channel_of (big_endian 4 l) = h ∙ rw (le-ltb (length l) 4 four) in
      rw (← w.is, read)

  pub sequence_at_lem : Found f seqn (Some p) → Bytes f → segments_part (items_from f 12) ≡ 7 ∷ tagged 8 8 (take p.size (drop p.start f))
  sequence_at_lem w b = rw (← w.is) (ap (λ (l : List ℕ). 7 ∷ l) (segments_tagged (take p.size (drop p.start f)) (bytes_take p.size (drop p.start f) (bytes_drop p.start f b))))
