-- What a run says of the path, and the run before the first step.
--     place_sequence, place_loop              the path in numbers is that of the sequence, or that of the loop
--     run_front                               the run before the first step is good
--     reached_good, reached_later             a run that has been led to step q is good, and has begun by any later step
-- Assumes nothing.
use Prim.Native.Nat.{ℕ, ◌≤◌}
use mathlib.Core.Bool.{true, false}
use mathlib.Core.List.{List}
use mathlib.Core.Path.{◌≡◌}
use native.Mathlib.Nat.{sub-zero}
use native.Mathlib.Omega.{arith}
use Rattle.sheet_layout.specs.Members.{segments_in}
use Rattle.note_path.specs.Path.{segments_path, loop_path}
use Rattle.note_path.specs.Run.{place_of, Sane, Good, Reached}
use Rattle.note_path.specs.declared.run.Path.{Path}
use Rattle.note_path.specs.declared.run.Run.{Run}

module _ (p : Path) (part : List ℕ) where
  pub place_sequence : (q : ℕ) → p.sequence ≡ true → place_of p part q ≡ segments_path p.first p.scale (segments_in part) q
  unfolding place_of
  place_sequence q t = rw t

  pub place_loop : (q : ℕ) → p.sequence ≡ false → place_of p part q ≡ loop_path p.first p.one_shot p.repeat q
  unfolding place_of
  place_loop q t = rw t

  pub run_front : Sane p part → Good p part (record { at = 0; from = 0; until = 0; start = p.first })
  run_front s =
      record {
        inside = omega arith;
        order = omega arith;
        within = omega (arith, s.looped);
        here = λ q g₁ g₂. absurd (omega arith);
        rest = s.segments;
        whole = s.whole;
        later = λ t q g. rw sub-zero (place_sequence q t);
      }

module _ {p : Path} {part : List ℕ} {q : ℕ} {r : Run} (h : Reached p part q r) where
  pub reached_good : Good p part r
  reached_good = h.good

  pub reached_later : (later : ℕ) → q ≤ later → r.from ≤ later
  reached_later later g = omega (arith, h.begun)
