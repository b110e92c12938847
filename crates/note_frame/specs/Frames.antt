-- Frames in order, and as values in a buffer.
use Rattle.std.specs.Prelude.{ℕ, zero, suc, ◌+◌, cond, List, [], ◌∷◌, ℤ}
use Rattle.note_frame.specs.declared.chain.Frame.{Frame}

-- d frames from frame m on
unfoldable pub frames_from : (ℕ → Frame) → ℕ → ℕ → List Frame
frames_from f m zero = []
frames_from f m (suc d) = f m ∷ frames_from f (suc m) d

-- left and right values by turns
unfoldable pub interleaved : List Frame → List ℤ
interleaved [] = []
interleaved (f ∷ fs) = f.left ∷ f.right ∷ interleaved fs

-- how many frames aren't over
unfoldable pub sounding : List Frame → ℕ
sounding [] = 0
sounding (f ∷ fs) = cond f.sounds 1 0 + sounding fs
