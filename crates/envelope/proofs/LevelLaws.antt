-- What the point at the front does to the level and to the time that the points take: passed, on the way, or none left.
--     first_passed, first_on_way, first_total     the first of a list of points
--     empty_level, empty_total                    no point
--     passed, on_way, total_more                  the point at the front of an ATAK or RLSE
--     none_left, total_none                       no point there
-- Assumes nothing.
use Prim.Native.Nat.{ℕ, ◌+◌, ◌-◌, ◌≤◌, ◌<◌}
use borrow.Author.Tests.{le-leb, lt-leb}
use lib.IntN.{ℤ}
use lib.ListN.{length}
use mathlib.Core.List.{List, [], ◌∷◌, ◌++◌}
use mathlib.Core.Path.{◌≡◌, refl}
use native.Mathlib.Omega.{arith}
use Rattle.field.proofs.TaggedLaws.{parts_front, parts_end}
use Rattle.envelope.specs.Level.{on_the_way}
use Rattle.small_chunks.specs.Envelope.{point_of, envelope_points}
use Rattle.small_chunks.specs.declared.points.EgPoint.{EgPoint}
use Rattle.envelope.specs.Envelope.{level_at, total_duration}

-- ---- a list of points

module _ (p : EgPoint) (ps : List EgPoint) where
  pub first_passed : (level : ℤ) (t : ℕ) → p.duration_ms ≤ t → level_at (p ∷ ps) level t ≡ level_at ps p.dest (t - p.duration_ms)
  unfolding level_at
  first_passed level t k = rw (le-leb p.duration_ms t k)

  pub first_on_way : (level : ℤ) (t : ℕ) → t < p.duration_ms → level_at (p ∷ ps) level t ≡ on_the_way level p.dest t p.duration_ms
  unfolding level_at
  first_on_way level t k = rw (lt-leb p.duration_ms t k)

  pub first_total : total_duration (p ∷ ps) ≡ p.duration_ms + total_duration ps
  unfolding total_duration
  first_total = refl

pub empty_level : (level : ℤ) (t : ℕ) → level_at [] level t ≡ level
unfolding level_at
empty_level level t = refl

pub empty_total : total_duration [] ≡ 0
unfolding total_duration
empty_total = refl

-- ---- the points of an ATAK or RLSE, of which the first takes the six bytes at the front

module _ (p : EgPoint) (part rest l : List ℕ) (is : p ≡ point_of part) (e : l ≡ part ++ rest) (h : length part ≡ 6) where
  here : envelope_points l ≡ p ∷ envelope_points rest
  here = rw (parts_front 6 (omega arith) part rest l e h, is)

  pub passed : (level : ℤ) (t : ℕ) → p.duration_ms ≤ t → level_at (envelope_points l) level t ≡ level_at (envelope_points rest) p.dest (t - p.duration_ms)
  passed level t k = rw here (first_passed p (envelope_points rest) level t k)

  pub on_way : (level : ℤ) (t : ℕ) → t < p.duration_ms → level_at (envelope_points l) level t ≡ on_the_way level p.dest t p.duration_ms
  on_way level t k = rw here (first_on_way p (envelope_points rest) level t k)

  pub total_more : total_duration (envelope_points l) ≡ p.duration_ms + total_duration (envelope_points rest)
  total_more = rw here (first_total p (envelope_points rest))

module _ (l : List ℕ) (h : length l < 6) where
  none : envelope_points l ≡ []
  none = rw (parts_end 6 (omega arith) l h)

  pub none_left : (level : ℤ) (t : ℕ) → level_at (envelope_points l) level t ≡ level
  none_left level t = rw none (empty_level level t)

  pub total_none : total_duration (envelope_points l) ≡ 0
  total_none = rw none empty_total
