-- The values of CHAN are those that assignments are written as: each is read as its assignment, and no other value stands for one.
-- Assumes nothing.
use Prim.Native.Nat.{ℕ}
use borrow.Author.Tests.{eqb-true}
use lib.Dec.{eqb}
use mathlib.Core.Bool.{Bool, true, false, cond, true≢false}
use mathlib.Core.Path.{◌≡◌, refl, sym, ap}
use Rattle.small_chunks.specs.Channel.{channel_of, is_parsed, is_channel, channel_value_of}
use Rattle.small_chunks.specs.declared.channel.ChannelAssignment.{ChannelAssignment}
use Rattle.small_chunks.specs.declared.channel.ChannelAssignment.TheVariants.{Left, Right, Stereo}
use Rattle.refusal.specs.declared.Refusal.TheVariants.{ChannelValue}
use Rattle.std.specs.Prelude.{Err, Ok}

pub channel_back : (c : ChannelAssignment) → channel_of (channel_value_of c) ≡ Ok c
channel_back Left = refl
channel_back Right = refl
channel_back Stereo = refl

pub channel_known : (c : ChannelAssignment) → is_channel (channel_value_of c) ≡ true
channel_known c = ap is_parsed (channel_back c)

-- a value of CHAN is that of an assignment
pub channel_assigned : (v : ℕ) → is_channel v ≡ true → (c : ChannelAssignment) × (channel_value_of c ≡ v)
channel_assigned v = go (eqb v 2) (eqb v 4) (eqb v 6) refl refl refl
  where
    go : (a b d : Bool) → eqb v 2 ≡ a → eqb v 4 ≡ b → eqb v 6 ≡ d
        → is_parsed (cond a (Ok Left) (cond b (Ok Right) (cond d (Ok Stereo) (Err ChannelValue)))) ≡ true → (c : ChannelAssignment) × (channel_value_of c ≡ v)
    go true b d e f g h = (Left, sym (eqb-true v 2 e))
    go false true d e f g h = (Right, sym (eqb-true v 4 f))
    go false false true e f g h = (Stereo, sym (eqb-true v 6 g))
    go false false false e f g h = absurd (true≢false (sym h))
