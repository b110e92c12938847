-- A playhead that stands at a frame.
--     place_small, ms_small, runs_on        its place and its milliseconds fit, and its clock can go on
--     stands_more                           one frame on it stands there
--     step_here, ms_here                    its step and its milliseconds are the frame's
--     step_later, ms_later                  those of a later frame are no smaller
-- Assumes nothing.
use Prim.Native.Nat.{ℕ, ◌+◌, ◌-◌, ◌*◌, ◌/◌, ◌≤◌, ◌<◌, ◌^◌}
use mathlib.Core.Path.{◌≡◌, ap}
use native.Mathlib.Nat.{add-mul, one-mul, mul-le-mul}
use native.Mathlib.Omega.{arith}
use lib.Ieee.Nearest.{div_mono}
use Rattle.note_clock.specs.Clock.{Runs, Ticked}
use Rattle.note_clock.specs.declared.Clock.{Clock}
use Rattle.note_clock.proofs.ClockLaws.{runs, shows_more}
use Rattle.note_frame.specs.Frame.{step_of, ms_since}
use Rattle.note_stage.specs.Block.{Timed, Stands}
use Rattle.note_stage.specs.declared.Stage.{Stage}
use Rattle.note_stage.specs.declared.playhead.Playhead.{Playhead}

module _ {s : Stage} (t : Timed s) where
  pub place_small : (p : ℕ) → p ≤ 2 ^ 32 → p * s.step ≤ 2 ^ 56
  place_small p h = omega (arith, mul-le-mul {n₁ = p} {n₂ = 2 ^ 32} h t.step_fits)

  pub step_later : (p later : ℕ) → p ≤ later → step_of s.step p ≤ step_of s.step later
  step_later p later h = div_mono (p * s.step) 65536 (later * s.step) 65536 (omega arith) (omega arith) (mul-le-mul (mul-le-mul h (omega arith)) (omega arith))

  pub ms_later : (p later : ℕ) → p ≤ later → ms_since s.rate s.since p ≤ ms_since s.rate s.since later
  ms_later p later h =
      div_mono (1000 * (p - s.since)) s.rate (1000 * (later - s.since)) s.rate t.rate_some t.rate_some
      (mul-le-mul {n₁ = 1000 * (p - s.since)} {n₂ = 1000 * (later - s.since)} (omega arith) (omega arith))

module _ {s : Stage} {h : Playhead} (k : Stands s h) where
  pub step_here : h.place / 65536 ≡ step_of s.step h.frame
  step_here = ap (λ (x : ℕ). x / 65536) k.place_is

  pub ms_here : h.clock.ms ≡ ms_since s.rate s.since h.frame
  ms_here = k.clock_is.ms_is

  module _ (t : Timed s) where
    pub runs_on : h.frame < 2 ^ 32 → Runs h.clock
    runs_on l = runs k.clock_is t.rate_some t.rate_fits (omega arith)

    pub ms_small : h.frame < 2 ^ 32 → h.clock.ms < 2 ^ 62
    ms_small l = omega (arith, (runs_on l).ms_fits)

    pub stands_more : (c : Clock) → s.since ≤ h.frame → Ticked h.clock c → Stands s (record { frame = h.frame + 1; place = h.place + s.step; clock = c })
    stands_more c l ticked =
        let passed : h.frame + 1 - s.since ≡ h.frame - s.since + 1 = omega arith in
        record {
          place_is = rw (k.place_is, add-mul h.frame 1 s.step, one-mul s.step);
          clock_is = rw passed (shows_more k.clock_is t.rate_some c ticked);
        }
