-- A pan comes before the channel: which shares and which frames it changes, and that it can put a voice on the other side. Two voices that
-- differ in channel and pan alone have frames that are over together; of those that sound, a side has its share of the value in full. Less than
-- all of a value is all of it only if the value is 0.
-- Assumes nothing.
use Prim.Native.Nat.{ℕ, ◌-◌, ◌≤◌}
use mathlib.Core.Bool.{Bool, true, false, cond}
use mathlib.Core.List.{List}
use mathlib.Core.Logic.{◌↔◌, ◌⊎◌, inl, inr, ⊎_elim}
use mathlib.Core.Path.{◌≡◌, refl, sym, ap, ◌∙◌}
use native.Mathlib.Omega.{arith}
use borrow.Author.Tests.{ltb-true, ltb-false}
use lib.Dec.{ltb}
use lib.IntN.{ℤ, pos}
use lib.ListN.{get_or}
use Rattle.small_chunks.specs.Pan.{held_to_unity}
use Rattle.small_chunks.specs.declared.channel.ChannelAssignment.{ChannelAssignment}
use Rattle.small_chunks.specs.declared.channel.ChannelAssignment.TheVariants.{Left, Right, Stereo}
use Rattle.small_chunks.specs.declared.pan.Pan.{Pan}
use Rattle.small_chunks.proofs.PanLaws.{held_le}
use Rattle.envelope.specs.Level.{scaled_by}
use Rattle.envelope.proofs.ScaleLaws.{scaled_whole, scaled_less, scaled_nothing}
use Rattle.sheet.specs.Voice.{Voice, is_stereo}
use Rattle.body_read.specs.Sides.{Sides}
use Rattle.note_frame.specs.Frame.{attack_level, release_level, level_of, faded_at, value, silent, frame_at, frame}
use Rattle.note_frame.specs.PanFirst.{routed, ChannelAlone, Quiet, PanFirst}
use Rattle.note_frame.specs.Shares.{channel_shares, pan_shares, pan_else, shares_of}
use Rattle.note_frame.specs.declared.chain.Frame.{Frame}
use Rattle.note_frame.specs.declared.playing.Key.{Key}
use Rattle.note_frame.specs.declared.playing.Key.TheVariants.{Held, Released}
use Rattle.note_frame.specs.declared.playing.Playing.{Playing}
use Rattle.note_frame.specs.declared.shares.Shares.{Shares}
use Rattle.note_frame.proofs.SharesLaws.{two_channels_lem, one_channel_lem}
use Rattle.note_frame.proofs.FrameLaws.{both_frames}
use Rattle.std.specs.Prelude.{None, Option, Some}

-- ---- the shares

-- a pan's shares by left's
pan_at_lem : (p : Pan) (l : ℕ) → pan_shares p ≡ record { left = l; right = 65536 - l } ↔ held_to_unity p.position ≡ l
pan_at_lem p l = (ap (λ (s : Shares). s.left), λ e. rw e)

alone : (channel : Option ChannelAssignment) (pan : Option Pan) → shares_of channel pan ≡ channel_shares channel ↔ ChannelAlone channel pan
alone (Some Left) None = (λ e. tt, λ e. one_channel_lem (Some Left) None refl)
alone (Some Left) (Some p) = rw (one_channel_lem (Some Left) (Some p) refl) (pan_at_lem p 65536)
alone (Some Right) None = (λ e. tt, λ e. one_channel_lem (Some Right) None refl)
alone (Some Right) (Some p) = rw (one_channel_lem (Some Right) (Some p) refl) (pan_at_lem p 0)
alone (Some Stereo) None = (λ e. tt, λ e. two_channels_lem None)
alone (Some Stereo) (Some p) = (λ e. tt, λ e. two_channels_lem (Some p))
alone None None = (λ e. tt, λ e. one_channel_lem None None refl)
alone None (Some p) =
    rw (one_channel_lem None (Some p) refl)
    (λ e. let left_full = ap (λ (s : Shares). s.left) e in let right_full = ap (λ (s : Shares). s.right) e in omega arith, λ e. absurd e)

-- ---- parts of a value

full : (x : ℤ) → x ≡ scaled_by x 65536 65536
full x = scaled_whole x 65536 65536 (omega arith) refl

-- a part that is all of it
part_whole : (x : ℤ) (a : ℕ) → a ≤ 65536 → scaled_by x a 65536 ≡ scaled_by x 65536 65536 → (a ≡ 65536) ⊎ (x ≡ pos 0)
part_whole x a h e = go (ltb a 65536) refl
  where
    go : (t : Bool) → ltb a 65536 ≡ t → (a ≡ 65536) ⊎ (x ≡ pos 0)
    go true f = inr (scaled_less x a 65536 (ltb-true a 65536 f) (e ∙ sym (full x)))
    go false f = inl (omega (arith, ltb-false a 65536 f))

sides_same : {a b c d : ℤ} → a ≡ c → b ≡ d → ◌≡◌ {A = Frame} (record { left = a; right = b; sounds = true }) (record { left = c; right = d; sounds = true })
sides_same e e₂ = rw (e, e₂)

-- a frame that sounds: each side's share of its value in full
abbrev parted : ℤ → ℤ → Shares → Frame
parted x y shares = record { left = scaled_by x shares.left 65536; right = scaled_by y shares.right 65536; sounds = true }

-- of one channel both sides have the same value
abbrev shared : ℤ → Shares → Frame
shared x = parted x x

zero_quiet : (x : ℤ) (shares : Shares) → x ≡ pos 0 → Quiet (shared x shares)
zero_quiet x shares e = rw e (part shares.left, part shares.right)
  where
    part : (n : ℕ) → scaled_by (pos 0) n 65536 ≡ pos 0
    part n = scaled_nothing (pos 0) n 65536 (omega arith) (omega arith)

-- ---- one channel, with its pan and without it

module _ (x : ℤ) where
  -- what the channel alone makes of a value
  abbrev plain : Option ChannelAssignment → Frame
  plain channel = shared x (channel_shares channel)

  -- one side at least has all of it
  quiet_zero : (channel : Option ChannelAssignment) → Quiet (plain channel) → x ≡ pos 0
  quiet_zero (Some Left) q = full x ∙ q.0
  quiet_zero (Some Right) q = full x ∙ q.1
  quiet_zero (Some Stereo) q = full x ∙ q.0
  quiet_zero None q = full x ∙ q.0

  stays : (channel : Option ChannelAssignment) (pan : Option Pan) → ChannelAlone channel pan ⊎ Quiet (plain channel) → shared x (shares_of channel pan) ≡ plain channel
  stays channel pan (inl a) = ap (shared x) ((alone channel pan).1 a)
  stays channel pan (inr q) = let z = zero_quiet x (shares_of channel pan) (quiet_zero channel q) in sides_same (z.0 ∙ sym q.0) (z.1 ∙ sym q.1)

  -- what a pan leaves as it is on a side that has all of it without the pan
  module _ (p : Pan) where
    abbrev held : ℕ
    held = held_to_unity p.position

    left_stays : scaled_by x held 65536 ≡ scaled_by x 65536 65536 → (held ≡ 65536) ⊎ (x ≡ pos 0)
    left_stays = part_whole x held (held_le p.position)

    right_stays : scaled_by x (65536 - held) 65536 ≡ scaled_by x 65536 65536 → (held ≡ 0) ⊎ (x ≡ pos 0)
    right_stays e = ⊎_elim (λ f. inl (omega (arith, f, held_le p.position))) inr (part_whole x (65536 - held) (omega arith) e)

  -- so either the shares are the channel's or the value is 0
  by_sides : (channel : Option ChannelAssignment) (pan : Option Pan) → shared x (pan_else pan (channel_shares channel)) ≡ plain channel
      → ChannelAlone channel pan ⊎ (x ≡ pos 0)
  by_sides channel None e = inl tt
  by_sides (Some Left) (Some p) e = left_stays p (ap (λ (f : Frame). f.left) e)
  by_sides (Some Right) (Some p) e = right_stays p (ap (λ (f : Frame). f.right) e)
  by_sides (Some Stereo) (Some p) e = inl tt
  by_sides None (Some p) e =
      ⊎_elim (λ l. ⊎_elim (λ r. absurd (omega (arith, l, r))) inr (right_stays p (ap (λ (f : Frame). f.right) e))) inr
      (left_stays p (ap (λ (f : Frame). f.left) e))

  stayed : (channel : Option ChannelAssignment) (pan : Option Pan) → is_stereo channel ≡ false
      → shared x (shares_of channel pan) ≡ plain channel → ChannelAlone channel pan ⊎ Quiet (plain channel)
  stayed channel pan m e =
      ⊎_elim inl (λ z. inr (zero_quiet x (channel_shares channel) z))
      (by_sides channel pan (ap (shared x) (sym (one_channel_lem channel pan m)) ∙ e))

-- ---- voices that differ in channel and pan alone

module _ (v : Voice) (channel : Option ChannelAssignment) (pan : Option Pan) where
  -- the level is the same
  level_routed : (rate : ℕ) (key : Key) (p : ℕ) → level_of (routed v channel pan) rate key p ≡ level_of v rate key p
  unfolding level_of attack_level release_level
  level_routed rate Held p = refl
  level_routed rate (Released u) p = refl

  -- and so is the value in full, of which a side has its share
  value_routed : (k velocity q level : ℕ) (sample : ℤ) (share : ℕ)
      → value (routed v channel pan) k velocity q level sample share ≡ scaled_by (value v k velocity q level sample 65536) share 65536
  unfolding value faded_at
  value_routed k velocity q level sample share = ap (λ (x : ℤ). scaled_by x share 65536) (full _)

  module _ (s : Sides) (n : Playing) (q i level : ℕ) where
    -- a frame that sounds
    abbrev routed_frame : Frame
    routed_frame = frame_at (routed v channel pan) s (value (routed v channel pan) n.octave n.velocity) q (Some i) (Some level)

    -- the value in full of the sample that lies there
    abbrev in_full : List ℤ → ℤ
    in_full samples = value v n.octave n.velocity q level (get_or samples i (pos 0)) 65536

    routed_parts : routed_frame ≡ parted (in_full s.left) (in_full (cond (is_stereo channel) s.right s.left)) (shares_of channel pan)
    unfolding frame_at
    routed_parts =
        sides_same
        (value_routed n.octave n.velocity q level (get_or s.left i (pos 0)) (shares_of channel pan).left)
        (value_routed n.octave n.velocity q level (get_or (cond (is_stereo channel) s.right s.left) i (pos 0)) (shares_of channel pan).right)

    one_value : is_stereo channel ≡ false → routed_frame ≡ shared (in_full s.left) (shares_of channel pan)
    one_value m = routed_parts ∙ ap (λ b. parted (in_full s.left) (in_full (cond b s.right s.left)) (shares_of channel pan)) m

-- what holds of two frames that are over and of two that sound holds of every frame of both voices
module _ (v : Voice) (s : Sides) (c d : Option ChannelAssignment) (pan pan₂ : Option Pan) where
  every_frame : (n : Playing) (p : ℕ) (P : Frame → Frame → Type 0) → P silent silent
      → ((q i level : ℕ) → P (routed_frame v c pan s n q i level) (routed_frame v d pan₂ s n q i level))
      → P (frame (routed v c pan) s n p) (frame (routed v d pan₂) s n p)
  unfolding frame
  every_frame n p P =
      both_frames (routed v c pan) (routed v d pan₂) s _ _ n p P refl
      (level_routed v c pan n.rate n.key p ∙ sym (level_routed v d pan₂ n.rate n.key p))

-- ---- frames

module _ (v : Voice) (s : Sides) (n : Playing) (p : ℕ) where
  -- the frame by channel and pan
  abbrev by : Option ChannelAssignment → Option Pan → Frame
  by channel pan = frame (routed v channel pan) s n p

  same_shares : (c d : Option ChannelAssignment) (pan pan₂ : Option Pan) → is_stereo c ≡ is_stereo d → shares_of c pan ≡ shares_of d pan₂ → by c pan ≡ by d pan₂
  same_shares c d pan pan₂ e e₂ =
      every_frame v s c d pan pan₂ n p ◌≡◌ refl
      (λ q i level. rw (routed_parts v c pan s n q i level, routed_parts v d pan₂ s n q i level, e, e₂))

  over_same : (channel : Option ChannelAssignment) (pan : Option Pan) → (by channel pan).sounds ≡ (by channel None).sounds
  over_same channel pan =
      every_frame v s channel channel pan None n p (λ f g. f.sounds ≡ g.sounds) refl
      (λ q i level. rw (routed_parts v channel pan s n q i level, routed_parts v channel None s n q i level))

  -- when a frame f is g, which is without the pan
  abbrev Stays : Option ChannelAssignment → Option Pan → Frame → Frame → Type 0
  Stays channel pan f g = f ≡ g ↔ ChannelAlone channel pan ⊎ Quiet g

  one_stays : (channel : Option ChannelAssignment) (pan : Option Pan) → is_stereo channel ≡ false → Stays channel pan (by channel pan) (by channel None)
  one_stays channel pan m =
      every_frame v s channel channel pan None n p (Stays channel pan) (λ e. inr (refl, refl), λ e. refl)
      (λ q i level.
      let x = in_full v channel pan s n q i level s.left in
      rw (one_value v channel pan s n q i level m, one_value v channel None s n q i level m, one_channel_lem channel None m) (stayed x channel pan m, stays x channel pan))

  frame_stays : (channel : Option ChannelAssignment) (pan : Option Pan) → Stays channel pan (by channel pan) (by channel None)
  frame_stays (Some Left) pan = one_stays (Some Left) pan refl
  frame_stays (Some Right) pan = one_stays (Some Right) pan refl
  frame_stays (Some Stereo) pan = (
    λ e. inl ((alone (Some Stereo) pan).0 (two_channels_lem pan)),
    λ e. same_shares (Some Stereo) (Some Stereo) pan None refl (two_channels_lem pan ∙ sym (two_channels_lem None)),
  )
  frame_stays None pan = one_stays None pan refl

  -- a channel on the left has nothing on the right
  left_alone : (by (Some Left) None).right ≡ pos 0
  left_alone =
      every_frame v s (Some Left) (Some Left) None None n p (λ f g. f.right ≡ pos 0) refl
      (λ q i level.
      rw (one_value v (Some Left) None s n q i level refl, one_channel_lem (Some Left) None refl)
      (scaled_nothing (in_full v (Some Left) None s n q i level s.left) 0 65536 (omega arith) (omega arith)))

  -- with a pan of 65,536 one channel is there, wherever it would be without it
  leftmost : (channel : Option ChannelAssignment) (pan : Pan) → is_stereo channel ≡ false → held_to_unity pan.position ≡ 65536 → by channel (Some pan) ≡ by (Some Left) None
  leftmost channel pan m e =
      same_shares channel (Some Left) (Some pan) None m
      (one_channel_lem channel (Some pan) m ∙ (pan_at_lem pan 65536).1 e ∙ sym (one_channel_lem (Some Left) None refl))

pub pan_first : PanFirst
pan_first = record {
  channel_alone = alone;
  no_channel = λ pan. one_channel_lem None pan refl;
  frames = λ v s n p. frame_stays v s n p v.channel v.pan;
  over = λ v s n p. over_same v s n p v.channel v.pan;
  left_only = λ v s n p pan e e₂ e₃.
      let same = ap (λ (c : Option ChannelAssignment). by v s n p c v.pan) e ∙ ap (by v s n p (Some Right)) e₂ ∙ leftmost v s n p (Some Right) pan refl e₃ in
      record { nothing_right = ap (λ (f : Frame). f.right) same ∙ left_alone v s n p; as_left = same };
}
