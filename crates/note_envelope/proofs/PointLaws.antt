-- What the record at a place of a part does to the levels and to the end that the place stands for.
--     points_end, points_same, point_here     all that is used of how points lie in a part
--     level_front, end_front                  the front of a part
--     level_same, end_same                    bytes that open groups are passed over
--     level_pass, end_pass                    a point that has ended by then is passed
--     level_way, end_way                      a point on the way
--     level_rest, end_rest                    no point left
-- Assumes nothing.
use Prim.Native.Nat.{ℕ, ◌+◌, ◌-◌, ◌≤◌, ◌<◌}
use lib.IntN.{ℤ}
use lib.ListN.{drop}
use mathlib.Core.List.{List, [], ◌∷◌, map}
use mathlib.Core.Path.{◌≡◌, ap}
use native.Mathlib.Nat.{sub-zero}
use native.Mathlib.Omega.{arith}
use Rattle.envelope.specs.Level.{on_the_way}
use Rattle.small_chunks.specs.Envelope.{point_of}
use Rattle.small_chunks.specs.declared.points.EgPoint.{EgPoint}
use Rattle.small_chunks.proofs.FieldLaws.{point_take}
use Rattle.envelope.specs.Envelope.{level_at, total_duration}
use Rattle.envelope.proofs.LevelLaws.{first_passed, first_on_way, first_total, empty_level, empty_total}
use Rattle.sheet_layout.specs.Members.{points_in, next_member}
use Rattle.sheet_layout.proofs.NextLaws.{no_member, member_same, member_here}
use Rattle.note_envelope.specs.Cursor.{level_from, end_from}
use Rattle.std.specs.Prelude.{None, Some}

-- ---- the points from a place on

module _ (part : List ℕ) (at : ℕ) where
  points_end : next_member 6 at part ≡ None → points_in (drop at part) ≡ []
  points_end e = ap (map point_of) (no_member 6 part at e 6)

  module _ {k : ℕ} (e : next_member 6 at part ≡ Some k) where
    points_same : points_in (drop k part) ≡ points_in (drop at part)
    points_same = ap (map point_of) (member_same 6 6 part at e)

    point_here : (p : EgPoint) → p ≡ point_of (drop (k + 1) part) → points_in (drop at part) ≡ p ∷ points_in (drop (k + 7) part)
    point_here p read = rw (member_here 6 6 part at e, point_take (drop (k + 1) part), read)

-- ---- the levels and the end that a place stands for

module _ (part : List ℕ) where
  pub level_front : (level : ℤ) (s : ℕ) → level_from part 0 0 level s ≡ level_at (points_in part) level s
  unfolding level_from
  level_front level s = rw (sub-zero s)

  pub end_front : end_from part 0 0 ≡ total_duration (points_in part)
  unfolding end_from
  end_front = omega arith

module _ (part : List ℕ) (at before : ℕ) where
  module _ {k : ℕ} (e : next_member 6 at part ≡ Some k) where
    pub level_same : (level : ℤ) (s : ℕ) → level_from part k before level s ≡ level_from part at before level s
    unfolding level_from
    level_same level s = rw (points_same part at e)

    pub end_same : end_from part k before ≡ end_from part at before
    unfolding end_from
    end_same = rw (points_same part at e)

    module _ (p : EgPoint) (read : p ≡ point_of (drop (k + 1) part)) where
      pub level_pass : (level : ℤ) (s : ℕ) → before + p.duration_ms ≤ s → level_from part at before level s ≡ level_from part (k + 7) (before + p.duration_ms) p.dest s
      unfolding level_from
      level_pass level s h =
          let left : s - before - p.duration_ms ≡ s - (before + p.duration_ms) = omega arith in
          rw (point_here part at e p read, ← left) (first_passed p (points_in (drop (k + 7) part)) level (s - before) (omega arith))

      pub level_way : (level : ℤ) (s : ℕ) → s - before < p.duration_ms → level_from part at before level s ≡ on_the_way level p.dest (s - before) p.duration_ms
      unfolding level_from
      level_way level s h = rw (point_here part at e p read) (first_on_way p (points_in (drop (k + 7) part)) level (s - before) h)

      pub end_pass : end_from part at before ≡ end_from part (k + 7) (before + p.duration_ms)
      unfolding end_from
      end_pass = rw (point_here part at e p read) (omega (arith, first_total p (points_in (drop (k + 7) part))))

      pub end_way : before + p.duration_ms ≤ end_from part at before
      unfolding end_from
      end_way = rw (point_here part at e p read) (omega (arith, first_total p (points_in (drop (k + 7) part))))

  module _ (none : next_member 6 at part ≡ None) where
    pub level_rest : (level : ℤ) (s : ℕ) → level_from part at before level s ≡ level
    unfolding level_from
    level_rest level s = rw (points_end part at none) (empty_level level (s - before))

    pub end_rest : end_from part at before ≡ before
    unfolding end_from
    end_rest = rw (points_end part at none) (omega (arith, empty_total))
