-- The blocks that calls put out one after another, as frames in order.
--     block_of, put_length              the block of a call, which has none where it is turned back, and its values
--     InOrder, order_put, order_count  values that are frames in order: a block's before others, and how many they are
-- Assumes nothing.
use Prim.Native.Nat.{ℕ, ◌+◌, ◌*◌, ◌/◌}
use mathlib.Core.List.{List, [], ◌++◌}
use mathlib.Core.Path.{◌≡◌, refl, sym, ap, ◌∙◌}
use native.Mathlib.Nat.{add-zero}
use lib.IntN.{ℤ}
use lib.ListN.{length}
use Rattle.note_frame.specs.declared.chain.Frame.{Frame}
use Rattle.note_frame.specs.Frames.{frames_from, interleaved}
use Rattle.note_frame.proofs.FramesLaws.{frames_length, frames_join, interleaved_length, interleaved_half, interleaved_join}
use Rattle.demands.specs.Reckoning.{put_out}
use Rattle.refusal.specs.Outcome.{Outcome}
use Rattle.std.specs.Prelude.{Err, Ok}

-- the block of a call; one turned back has none
abbrev pub block_of : Outcome (List Frame) → List Frame
block_of (Ok block) = block
block_of (Err refusal) = []

pub put_length : (o : Outcome (List Frame)) → length (put_out o) ≡ 2 * length (block_of o)
put_length (Ok block) = interleaved_length block
put_length (Err refusal) = refl

-- values that are frames of f in order, from frame n on
pub record InOrder (f : ℕ → Frame) (n : ℕ) (values : List ℤ) : Type 0 where
  pub count : ℕ
  pub is : values ≡ interleaved (frames_from f n count)

module _ (f : ℕ → Frame) (n : ℕ) where
  pub order_put : (o : Outcome (List Frame)) (values : List ℤ) → block_of o ≡ frames_from f n (length (block_of o)) → InOrder f (n + length (block_of o)) values → InOrder f n (put_out o ++ values)
  order_put (Ok block) values e later =
      let rest = frames_from f (n + length block) later.count in
      record {
        count = length block + later.count;
        is = ap (λ l. interleaved block ++ l) later.is ∙ rw (frames_join f n (length block) later.count, ← e) (sym (interleaved_join block rest));
      }
  order_put (Err refusal) values e later = rw add-zero at later

  pub order_count : (values : List ℤ) → InOrder f n values → values ≡ interleaved (frames_from f n (length values / 2))
  order_count values o =
      let half : length values / 2 ≡ o.count = ap (λ (l : List ℤ). length l / 2) o.is ∙ interleaved_half (frames_from f n o.count) ∙ frames_length f n o.count in
      rw half o.is
