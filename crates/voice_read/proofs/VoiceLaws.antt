-- The header and the channels of a FORM's voice, by the place that `find` answers.
-- Assumes nothing.
use Prim.Native.Nat.{ℕ, ◌-◌, ◌≤◌}
use borrow.Author.Tests.{eqb-true}
use lib.Dec.{eqb, lit<}
use lib.ListN.{take, drop}
use lib.Seq.{get_or-take}
use mathlib.Core.Bool.{Bool, true, false, cond, true≢false}
use mathlib.Core.List.{List}
use mathlib.Core.Path.{◌≡◌, refl, sym}
use native.Mathlib.Omega.{arith}
use Rattle.laws.proofs.Prefix.{drop_take}
use Rattle.field.specs.BigEndian.{big_endian}
use Rattle.field.proofs.BigEndianLaws.{number_take}
use Rattle.header.specs.Header.{header_of}
use Rattle.small_chunks.specs.Channel.{channel_of}
use Rattle.small_chunks.specs.declared.channel.ChannelAssignment.TheVariants.{Left, Right, Stereo}
use Rattle.chunk.specs.Chunk.{items_from}
use Rattle.form.specs.FirstBad.{first_bad}
use Rattle.form.specs.Names.{vhdr, chan}
use Rattle.form.specs.declared.place.Place.{Place}
use Rattle.form.proofs.FindLaws.{Found}
use Rattle.sheet.specs.Read.{known_channel}
use Rattle.sheet.specs.Voice.{is_stereo}
use Rattle.sheet_read.specs.FormVoice.{form_voice}
use Rattle.sheet_read.specs.ForCode.{Readable}
use Rattle.sheet_read.proofs.PlaceLaws.{least_of_lem, least_size}
use Rattle.refusal.specs.declared.Refusal.TheVariants.{ChannelValue}
use Rattle.std.specs.Prelude.{Err, None, Ok, Some}

-- ---- the header

-- a header's fields lie in its first 20 bytes
header_front : (n : ℕ) (l : List ℕ) → 20 ≤ n → header_of (take n l) ≡ header_of l
unfolding header_of
header_front n l h =
    rw (
      drop_take 4 n l,
      drop_take 8 n l,
      drop_take 12 n l,
      drop_take 16 n l,
      number_take 4 n l (omega arith),
      number_take 4 (n - 4) (drop 4 l) (omega arith),
      number_take 4 (n - 8) (drop 8 l) (omega arith),
      number_take 2 (n - 12) (drop 12 l) (omega arith),
      get_or-take n l 14 0 (omega arith),
      get_or-take n l 15 0 (omega arith),
      number_take 4 (n - 16) (drop 16 l) (omega arith),
    )

module _ {f : List ℕ} {p : Place} where
  pub header_long : Found f vhdr (Some p) → first_bad (items_from f 12) ≡ Ok tt → 20 ≤ p.size
  header_long w e = rw (least_of_lem 0 (lit< tt)) at (least_size w e)

  pub header_at : Found f vhdr (Some p) → first_bad (items_from f 12) ≡ Ok tt → header_of (drop p.start f) ≡ (form_voice (items_from f 12)).header
  unfolding form_voice
  header_at w e = rw (← w.is) (sym (header_front p.size (drop p.start f) (header_long w e)))

-- a FORM that can be read has one
pub header_there : {f : List ℕ} → Found f vhdr None → Readable f → ⊥
header_there w r = true≢false (sym (rw (← w.is) at r.header))

-- ---- the channels

stereo_value : (v : ℕ) → eqb v 6 ≡ is_stereo (known_channel (channel_of v))
stereo_value v = go (eqb v 2) (eqb v 4) (eqb v 6) refl refl refl
  where
    go : (a b c : Bool) → eqb v 2 ≡ a → eqb v 4 ≡ b → eqb v 6 ≡ c
        → c ≡ is_stereo (known_channel (cond a (Ok Left) (cond b (Ok Right) (cond c (Ok Stereo) (Err ChannelValue)))))
    go true b true p q r = absurd (omega (arith, eqb-true v 2 p, eqb-true v 6 r))
    go true b false p q r = refl
    go false true true p q r = absurd (omega (arith, eqb-true v 4 q, eqb-true v 6 r))
    go false true false p q r = refl
    go false false true p q r = refl
    go false false false p q r = refl

module _ {f : List ℕ} {p : Place} where
  pub channel_long : Found f chan (Some p) → first_bad (items_from f 12) ≡ Ok tt → 4 ≤ p.size
  channel_long w e = rw (least_of_lem 1 (lit< tt)) at (least_size w e)

  pub stereo_at : Found f chan (Some p) → first_bad (items_from f 12) ≡ Ok tt → eqb (big_endian 4 (drop p.start f)) 6 ≡ is_stereo (form_voice (items_from f 12)).channel
  unfolding form_voice
  stereo_at w e = rw (← w.is, number_take 4 p.size (drop p.start f) (channel_long w e)) (stereo_value (big_endian 4 (drop p.start f)))

-- without a CHAN there is one channel
pub stereo_none : {f : List ℕ} → Found f chan None → false ≡ is_stereo (form_voice (items_from f 12)).channel
unfolding form_voice
stereo_none w = rw (← w.is)
