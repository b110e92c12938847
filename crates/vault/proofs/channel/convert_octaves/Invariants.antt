-- `vault::channel::convert_octaves` meets its contract: where hi = 0 the channel is its only octave; else the loop has done the octaves before `at`.
use mathlib.Core.Path.{◌≡◌}
use Prim.Native.Nat.{◌-◌, ◌≤◌}
use lib.ListN.{length}
use Rattle.vault.proofs.ChannelLaws.{Reached}
use Rattle.vault.proofs.channel.convert_octaves.Given as goal

abbrev pub invariant-loop-at : goal.invariant-loop-at
invariant-loop-at g l = (l.at ≤ l.n) × (length l.out ≡ length l.initial.out) × Reached g.C.Conversion.converted l.h l.channel l.initial.out l.out l.at

abbrev pub decreases-loop-at : goal.decreases-loop-at
decreases-loop-at g l = l.n - l.at
