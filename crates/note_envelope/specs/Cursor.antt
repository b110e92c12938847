-- What the code carries along an envelope; no reader of the meanings needs it. A place in it stands for the points from it on, and the
-- level and the time that they start from.
use Rattle.std.specs.Prelude.{ℕ, ◌+◌, ◌-◌, ◌≤◌, ◌<◌, List, ◌≡◌, leb, ℤ, length, drop}
use Rattle.small_chunks.specs.Pan.{held_to_unity}
use Rattle.envelope.specs.Envelope.{level_at, total_duration}
use Rattle.sheet_layout.specs.Members.{Whole, points_in}
use Rattle.note_envelope.specs.declared.EnvelopeCursor.{EnvelopeCursor}

-- the level at s, from the point at `at`, which begins `before` milliseconds from the start at `level`
unfoldable pub level_from : List ℕ → ℕ → ℕ → ℤ → ℕ → ℤ
level_from part at before level s = level_at (points_in (drop at part)) level (s - before)

-- when the last point from there on ends
unfoldable pub end_from : List ℕ → ℕ → ℕ → ℕ
end_from part at before = before + total_duration (points_in (drop at part))

-- the levels that a cursor stands for
abbrev pub curve : List ℕ → EnvelopeCursor → ℕ → ℤ
curve part e s = level_from part e.at e.before e.level s

-- the end that it stands for
abbrev pub cursor_end : List ℕ → EnvelopeCursor → ℕ
cursor_end part e = end_from part e.at e.before

-- a cursor that can be moved to a time from t on
pub record Ready (part : List ℕ) (e : EnvelopeCursor) (t : ℕ) : Type 0 where
  pub inside : e.at ≤ length part
  pub whole : Whole 6 6 (drop e.at part)
  pub passed : e.before ≤ t

-- from t on, and up to where the cursor says, what it says is so
pub record Stood (part : List ℕ) (e : EnvelopeCursor) (t : ℕ) : Type 0 where
  pub ready : Ready part e t
  pub now_is : (s : ℕ) → t ≤ s → s < e.until → e.now ≡ held_to_unity (curve part e s)
  pub ended_is : (s : ℕ) → t ≤ s → s < e.until → e.ended ≡ leb (cursor_end part e) s

-- r is e moved to t: what it says of t and of the times up to where it says, and that from t on it stands for the same levels
pub record Moved (part : List ℕ) (e : EnvelopeCursor) (t : ℕ) (r : EnvelopeCursor) : Type 0 where
  pub ready : Ready part r t
  pub till : t < r.until
  pub now_is : (s : ℕ) → t ≤ s → s < r.until → r.now ≡ held_to_unity (curve part e s)
  pub ended_is : (s : ℕ) → t ≤ s → s < r.until → r.ended ≡ leb (cursor_end part e) s
  pub end_is : cursor_end part r ≡ cursor_end part e
  pub later : (s : ℕ) → t ≤ s → curve part r s ≡ curve part e s

-- e has been led to t on the envelope of a part, begun at `start`, and follows it from there on
pub record Follows (part : List ℕ) (start : ℤ) (t : ℕ) (e : EnvelopeCursor) : Type 0 where
  pub ready : Ready part e t
  pub now_is : (s : ℕ) → t ≤ s → s < e.until → e.now ≡ held_to_unity (level_at (points_in part) start s)
  pub ended_is : (s : ℕ) → t ≤ s → s < e.until → e.ended ≡ leb (total_duration (points_in part)) s
  pub end_is : cursor_end part e ≡ total_duration (points_in part)
  pub later : (s : ℕ) → t ≤ s → curve part e s ≡ level_at (points_in part) start s
