-- The level of an envelope at a time: points run one after another, each from where the last one got to.
use Rattle.std.specs.Prelude.{ℕ, ◌+◌, ◌-◌, cond, List, [], ◌∷◌, leb, ℤ}
use Rattle.envelope.specs.Level.{on_the_way}
use Rattle.small_chunks.specs.declared.points.EgPoint.{EgPoint}

-- t milliseconds after `level`: a point that has ended by then sets the level (one of duration 0 has), the first other is on the way
unfoldable pub level_at : List EgPoint → ℤ → ℕ → ℤ
level_at [] level t = level
level_at (p ∷ ps) level t =
    cond (leb p.duration_ms t) (level_at ps p.dest (t - p.duration_ms)) (on_the_way level p.dest t p.duration_ms)

-- how long all points take
unfoldable pub total_duration : List EgPoint → ℕ
total_duration [] = 0
total_duration (p ∷ ps) = p.duration_ms + total_duration ps
