-- Frames in order, their values by turns, and how many of them aren't over.
--     frames_shift, frames_same, frames_silent                  frames that are the same, or all silent
--     frames_none, -length, -join, -split, -next                how many there are, and those that follow others
--     interleaved_length, -frames, -half                        their values, two for each
--     interleaved_join, -silent, -none, -next                   those of frames that follow others, are silent, or one more
--     sounding_join, -silent, -all, -none                       how many of them aren't over
-- Assumes nothing.
use Prim.Native.Nat.{ℕ, zero, suc, ◌+◌, ◌-◌, ◌*◌, ◌/◌, ◌≤◌, ◌<◌}
use mathlib.Core.Bool.{true}
use mathlib.Core.List.{List, [], ◌∷◌, ◌++◌}
use mathlib.Core.Path.{◌≡◌, refl, sym, ap, ◌∙◌}
use native.Mathlib.Nat.{add-zero, zero-add}
use native.Mathlib.Omega.{arith}
use lib.IntN.{ℤ, pos}
use lib.ListN.{length, replicate}
use Rattle.note_frame.specs.Frame.{silent}
use Rattle.note_frame.specs.declared.chain.Frame.{Frame}
use Rattle.note_frame.specs.Frames.{frames_from, interleaved, sounding}

-- ---- frames

-- f from m on and g from m' on are the same d frames
pub frames_shift : (f g : ℕ → Frame) (m m' d : ℕ) → ((i : ℕ) → i < d → f (m + i) ≡ g (m' + i)) → frames_from f m d ≡ frames_from g m' d
unfolding frames_from
frames_shift f g m m' zero e = refl
frames_shift f g m m' (suc d) e =
    let first : f m ≡ g m' = simp add-zero at (e 0 (omega arith)) in
    let rest : (i : ℕ) → i < d → f (suc m + i) ≡ g (suc m' + i) =
    λ i h.
    let left : m + suc i ≡ suc m + i = omega arith in
    let right : m' + suc i ≡ suc m' + i = omega arith in
    rw (left, right) at (e (suc i) (omega arith)) in
    rw (first, frames_shift f g (suc m) (suc m') d rest)

pub frames_same : (f g : ℕ → Frame) (m d : ℕ) → ((j : ℕ) → m ≤ j → j < m + d → f j ≡ g j) → frames_from f m d ≡ frames_from g m d
frames_same f g m d e = frames_shift f g m m d (λ i h. e (m + i) (omega arith) (omega arith))

pub frames_silent : (f : ℕ → Frame) (m d : ℕ) → ((j : ℕ) → m ≤ j → j < m + d → f j ≡ silent) → frames_from f m d ≡ replicate d silent
unfolding frames_from
frames_silent f m zero e = refl
frames_silent f m (suc d) e = rw (e m (omega arith) (omega arith), frames_silent f (suc m) d (λ j a b. e j (omega arith) (omega arith)))

module _ (f : ℕ → Frame) where
  pub frames_none : (m : ℕ) → frames_from f m 0 ≡ []
  unfolding frames_from
  frames_none m = refl

  pub frames_length : (m d : ℕ) → length (frames_from f m d) ≡ d
  unfolding frames_from
  frames_length m zero = refl
  frames_length m (suc d) = ap suc (frames_length (suc m) d)

  pub frames_join : (m d c : ℕ) → frames_from f m (d + c) ≡ frames_from f m d ++ frames_from f (m + d) c
  unfolding frames_from
  frames_join m zero c = rw (zero-add, add-zero)
  frames_join m (suc d) c =
      let more : suc d + c ≡ suc (d + c) = omega arith in
      let past : suc m + d ≡ m + suc d = omega arith in
      rw (more, frames_join (suc m) d c, past)

  -- those up to frame p, and those from there on
  pub frames_split : (m p q : ℕ) → m ≤ p → p ≤ q → frames_from f m (q - m) ≡ frames_from f m (p - m) ++ frames_from f p (q - p)
  frames_split m p q a b =
      let total : q - m ≡ (p - m) + (q - p) = omega arith in
      let at : m + (p - m) ≡ p = omega arith in
      rw total (frames_join m (p - m) (q - p) ∙ rw at)

  pub frames_next : (m d : ℕ) → frames_from f m (d + 1) ≡ frames_from f m d ++ (f (m + d) ∷ [])
  unfolding frames_from
  frames_next m d = frames_join m d 1

-- ---- values

pub interleaved_length : (fs : List Frame) → length (interleaved fs) ≡ 2 * length fs
unfolding interleaved
interleaved_length [] = refl
interleaved_length (f ∷ fs) = omega (arith, interleaved_length fs)

pub interleaved_frames : (f : ℕ → Frame) (m d : ℕ) → length (interleaved (frames_from f m d)) ≡ 2 * d
interleaved_frames f m d = interleaved_length (frames_from f m d) ∙ ap (λ (n : ℕ). 2 * n) (frames_length f m d)

pub interleaved_half : (fs : List Frame) → length (interleaved fs) / 2 ≡ length fs
interleaved_half fs = omega (arith, interleaved_length fs)

pub interleaved_join : (fs gs : List Frame) → interleaved (fs ++ gs) ≡ interleaved fs ++ interleaved gs
unfolding interleaved
interleaved_join [] gs = refl
interleaved_join (f ∷ fs) gs = ap (λ (l : List ℤ). f.left ∷ f.right ∷ l) (interleaved_join fs gs)

pub interleaved_silent : (d : ℕ) → interleaved (replicate d silent) ≡ replicate (2 * d) (pos 0)
unfolding interleaved
interleaved_silent zero = refl
interleaved_silent (suc d) =
    let two : 2 * suc d ≡ suc (suc (2 * d)) = omega arith in
    rw (two, interleaved_silent d)

-- ---- how many aren't over

pub sounding_join : (fs gs : List Frame) → sounding (fs ++ gs) ≡ sounding fs + sounding gs
unfolding sounding
sounding_join [] gs = sym (zero-add (sounding gs))
sounding_join (f ∷ fs) gs = rw (sounding_join fs gs) (omega arith)

pub sounding_silent : (d : ℕ) → sounding (replicate d silent) ≡ 0
unfolding sounding
sounding_silent zero = refl
sounding_silent (suc d) = rw (sounding_silent d)

pub sounding_all : (f : ℕ → Frame) (m d : ℕ) → ((j : ℕ) → m ≤ j → j < m + d → (f j).sounds ≡ true) → sounding (frames_from f m d) ≡ d
unfolding frames_from sounding
sounding_all f m zero e = refl
sounding_all f m (suc d) e = rw (e m (omega arith) (omega arith), sounding_all f (suc m) d (λ j a b. e j (omega arith) (omega arith))) (omega arith)

-- ---- a block that grows

module _ (f : ℕ → Frame) (m : ℕ) where
  pub interleaved_none : interleaved (frames_from f m 0) ≡ []
  unfolding frames_from interleaved
  interleaved_none = refl

  pub interleaved_next : (d : ℕ) → interleaved (frames_from f m (d + 1)) ≡ interleaved (frames_from f m d) ++ ((f (m + d)).left ∷ (f (m + d)).right ∷ [])
  unfolding interleaved
  interleaved_next d = rw (frames_next f m d, interleaved_join (frames_from f m d) (f (m + d) ∷ []))

  pub sounding_none : sounding (frames_from f m 0) ≡ 0
  unfolding frames_from sounding
  sounding_none = refl
