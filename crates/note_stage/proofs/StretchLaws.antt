-- A stretch of frames, before a step and before a time.
--     goes_if, goes_not_steps, goes_not_block              the loop's test by its three comparisons
--     in_block, in_steps, in_level                         what it says where it holds
--     stretch_one, stretch_as                              one frame; and frames that are the same by another name
--     Stretching, stretching_none, -more, -done            the invariant of a loop that writes stretches
--     stretching_length, -room, -again                     what it says of the buffer, and that one more may follow
-- Assumes nothing.
use Prim.Native.Nat.{ℕ, ◌+◌, ◌-◌, ◌*◌, ◌/◌, ◌≤◌, ◌<◌}
use mathlib.Core.Bool.{Bool, true, false, true≢false, ◌&&◌, and-eq-true_iff}
use mathlib.Core.List.{List, [], ◌∷◌}
use mathlib.Core.Path.{◌≡◌, refl, sym, ap, subst, ◌∙◌}
use native.Mathlib.Numerals.{add-one}
use native.Mathlib.Omega.{arith}
use borrow.Author.Tests.{lt-ltb, le-ltb, ltb-true, ltb-false}
use lib.Dec.{ltb}
use lib.IntN.{ℤ}
use lib.ListN.{length, set}
use lib.Seq.{length-sets}
use Rattle.laws.specs.Put.{Put}
use Rattle.laws.proofs.PutLaws.{put_none, put_then, put_same}
use Rattle.note_frame.specs.Frame.{step_of, ms_since}
use Rattle.note_frame.specs.Frames.{frames_from, interleaved}
use Rattle.note_frame.specs.declared.chain.Frame.{Frame}
use Rattle.note_frame.proofs.FramesLaws.{frames_same, frames_split, interleaved_none, interleaved_next, interleaved_join}
use Rattle.note_stage.specs.Block.{Stands, goes_on, StretchReady, Stretched}
use Rattle.note_stage.specs.declared.Stage.{Stage}
use Rattle.note_stage.specs.declared.playhead.Playhead.{Playhead}
use Rattle.note_stage.proofs.PlayheadLaws.{step_here, ms_here, step_later}

-- ---- the loop's test

module _ (until ms end : ℕ) (h : Playhead) where
  pub goes_if : h.frame < end → h.place / 65536 < until → ltb h.clock.ms ms ≡ goes_on until ms end h
  goes_if a b = rw (lt-ltb h.frame end a, lt-ltb (h.place / 65536) until b)

  pub goes_not_steps : h.frame < end → until ≤ h.place / 65536 → false ≡ goes_on until ms end h
  goes_not_steps a b = rw (lt-ltb h.frame end a, le-ltb (h.place / 65536) until b)

  pub goes_not_block : end ≤ h.frame → false ≡ goes_on until ms end h
  goes_not_block a = rw (le-ltb h.frame end a)

  module _ (g : goes_on until ms end h ≡ true) where
    two : ((ltb h.frame end && ltb (h.place / 65536) until) ≡ true) × (ltb h.clock.ms ms ≡ true)
    two = (and-eq-true_iff (ltb h.frame end && ltb (h.place / 65536) until) (ltb h.clock.ms ms)).0 g

    first : (ltb h.frame end ≡ true) × (ltb (h.place / 65536) until ≡ true)
    first = (and-eq-true_iff (ltb h.frame end) (ltb (h.place / 65536) until)).0 two.0

    pub in_block : h.frame < end
    in_block = ltb-true h.frame end first.0

    pub in_steps : h.place / 65536 < until
    in_steps = ltb-true (h.place / 65536) until first.1

    pub in_level : h.clock.ms < ms
    in_level = ltb-true h.clock.ms ms two.1

-- it is the same wherever the frame is
goes_same : (s : Stage) (until ms end : ℕ) (h h' : Playhead) → Stands s h → Stands s h' → h.frame ≡ h'.frame → goes_on until ms end h ≡ goes_on until ms end h'
goes_same s until ms end h h' k k' same = rw (step_here k, step_here k', ms_here k, ms_here k', same)

-- ---- one frame

module _ (f : ℕ → Frame) (s : Stage) (until ms m end : ℕ) (h : Playhead) (out : List ℤ) where
  pub stretch_one : (out' : List ℤ) (h' : Playhead) (a b : ℤ) → Stands s h → m ≤ h.frame → goes_on until ms end h ≡ true → a ≡ (f h.frame).left → b ≡ (f h.frame).right
      → out' ≡ set (set out (2 * (h.frame - m)) a) (2 * (h.frame - m) + 1) b → Stands s h' → h'.frame ≡ h.frame + 1 → Stretched f s until ms m end h out out' h'
  stretch_one out' h' a b stands first goes ea eb put stands' next =
      let p = h.frame in
      let at = 2 * (p - m) in
      let count : p + 1 - p ≡ 0 + 1 = omega arith in
      let alone : p + 0 ≡ p = omega arith in
      let one : Put out at (a ∷ b ∷ []) out' (2 * (p + 1 - m)) = record { is = rw (add-one at) at put; end = omega arith } in
      record {
        further = omega arith;
        within = omega (arith, in_block until ms end h goes);
        stands = stands';
        in_steps = λ x l u. let e : p ≡ x = omega arith in subst (λ y. step_of s.step y < until) e (rw (step_here stands) at (in_steps until ms end h goes));
        in_level = λ x l u. let e : p ≡ x = omega arith in subst (λ y. ms_since s.rate s.since y < ms) e (rw (ms_here stands) at (in_level until ms end h goes));
        stored = rw (next, count) (put_same (sym (interleaved_next f p 0 ∙ rw (interleaved_none f p, alone, ea, eb))) one);
      }

-- ---- a loop of stretches

module _ (f : ℕ → Frame) (s : Stage) (until ms m end : ℕ) (h₀ : Playhead) (out₀ : List ℤ) where
  -- the frames up to h are stored
  pub record Stretching (out : List ℤ) (h : Playhead) : Type 0 where
    pub begun : h₀.frame ≤ h.frame
    pub within : h.frame ≤ end
    pub stands : Stands s h
    pub in_steps : (p : ℕ) → h₀.frame ≤ p → p < h.frame → step_of s.step p < until
    pub in_level : (p : ℕ) → h₀.frame ≤ p → p < h.frame → ms_since s.rate s.since p < ms
    pub stored : Put out₀ (2 * (h₀.frame - m)) (interleaved (frames_from f h₀.frame (h.frame - h₀.frame))) out (2 * (h.frame - m))

  pub stretching_none : StretchReady s until ms m end h₀ out₀ → Stretching out₀ h₀
  stretching_none ready =
      let none : h₀.frame - h₀.frame ≡ 0 = omega arith in
      record {
        begun = omega arith;
        within = omega (arith, in_block until ms end h₀ ready.goes);
        stands = ready.stands;
        in_steps = λ p a b. absurd (omega arith);
        in_level = λ p a b. absurd (omega arith);
        stored = rw (none, interleaved_none f h₀.frame) (put_none out₀ (2 * (h₀.frame - m)));
      }

  module _ {out : List ℤ} {h : Playhead} (k : Stretching out h) where
    pub stretching_length : length out ≡ length out₀
    stretching_length = rw k.stored.is (length-sets out₀ (2 * (h₀.frame - m)) (interleaved (frames_from f h₀.frame (h.frame - h₀.frame))))

    -- what is so before a frame and from it on
    grows : (P : ℕ → Type 0) (later : ℕ) → ((p : ℕ) → h₀.frame ≤ p → p < h.frame → P p) → ((p : ℕ) → h.frame ≤ p → p < later → P p) → (p : ℕ) → h₀.frame ≤ p → p < later → P p
    grows P later before after p a b = go (ltb p h.frame) refl
      where
        go : (t : Bool) → ltb p h.frame ≡ t → P p
        go true t = before p a (ltb-true p h.frame t)
        go false t = after p (ltb-false p h.frame t) b

    -- one stretch more
    pub stretching_more : (out' : List ℤ) (h' : Playhead) → Stretched f s until ms m end h out out' h' → Stretching out' h'
    stretching_more out' h' t =
        let began = k.begun in
        let further = t.further in
        let fs = frames_from f h₀.frame (h.frame - h₀.frame) in
        let more = frames_split f h₀.frame h.frame h'.frame (omega arith) (omega arith) in
        let joined = ap interleaved more ∙ interleaved_join fs (frames_from f h.frame (h'.frame - h.frame)) in
        record {
          begun = omega arith;
          within = t.within;
          stands = t.stands;
          in_steps = grows (λ p. step_of s.step p < until) h'.frame k.in_steps t.in_steps;
          in_level = grows (λ p. ms_since s.rate s.since p < ms) h'.frame k.in_level t.in_level;
          stored = put_same (sym joined) (put_then k.stored t.stored);
        }

    module _ (ready : StretchReady s until ms m end h₀ out₀) where
      pub stretching_room : goes_on until ms end h ≡ true → 2 * (h.frame - m) + 1 < length out
      stretching_room goes = omega (arith, ready.first, ready.room, k.begun, in_block until ms end h goes, stretching_length)

      -- one more may follow, before a step that is no later
      pub stretching_again : (until' : ℕ) → goes_on until ms end h ≡ true → h.place / 65536 < until' → StretchReady s until' ms m end h out
      stretching_again until' goes step =
          record {
            timed = ready.timed;
            stands = k.stands;
            goes = sym (goes_if until' ms end h (in_block until ms end h goes) step) ∙ lt-ltb h.clock.ms ms (in_level until ms end h goes);
            since_then = ready.since_then;
            first = omega (arith, ready.first, k.begun);
            in_time = ready.in_time;
            room = omega (arith, ready.room, stretching_length);
          }

      pub stretching_done : goes_on until ms end h ≡ false → Stretched f s until ms m end h₀ out₀ out h
      stretching_done stops =
          record {
            further = go (ltb h₀.frame h.frame) refl;
            within = k.within;
            stands = k.stands;
            in_steps = k.in_steps;
            in_level = k.in_level;
            stored = k.stored;
          }
        where
          go : (t : Bool) → ltb h₀.frame h.frame ≡ t → h₀.frame < h.frame
          go true t = ltb-true h₀.frame h.frame t
          go false t =
              let same : h₀.frame ≡ h.frame = omega (arith, ltb-false h₀.frame h.frame t, k.begun) in
              absurd (true≢false (sym ready.goes ∙ goes_same s until ms end h₀ h ready.stands k.stands same ∙ stops))

-- ---- by another name

-- the frames of one step, as those of a longer stretch: each has the step
pub stretch_as : (x : Frame) (f : ℕ → Frame) (s : Stage) (until ms m end q : ℕ) (h : Playhead) (before after : List ℤ) (h' : Playhead)
    → StretchReady s (q + 1) ms m end h before → q ≡ h.place / 65536 → q < until → ((p : ℕ) → step_of s.step p ≡ q → x ≡ f p)
    → Stretched (λ p. x) s (q + 1) ms m end h before after h' → Stretched f s until ms m end h before after h'
stretch_as x f s until ms m end q h before after h' ready at small same t =
    let of_step : (p : ℕ) → h.frame ≤ p → p < h'.frame → step_of s.step p ≡ q =
    λ p a b. omega (arith, t.in_steps p a b, step_later ready.timed h.frame p a, step_here ready.stands, at) in
    let further = t.further in
    record {
      further = t.further;
      within = t.within;
      stands = t.stands;
      in_steps = λ p a b. omega (arith, of_step p a b, small);
      in_level = t.in_level;
      stored = put_same (ap interleaved (frames_same (λ p. x) f h.frame (h'.frame - h.frame) (λ p a b. same p (of_step p a (omega arith))))) t.stored;
    }
