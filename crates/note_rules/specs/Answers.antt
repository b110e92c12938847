-- The rules of a sequence by what the code knows of it and of a fade. No reader of the rules needs it.
use Rattle.std.specs.Prelude.{ℕ, Bool, false, not, eqb, ltb, None, Option, Some}
use Rattle.small_chunks.specs.declared.sequence.Fade.{Fade}

-- a sequence beside a one-shot part
abbrev pub beside_one_shot_by : Option ℕ → ℕ → Bool
beside_one_shot_by None one_shot = false
beside_one_shot_by (Some n) one_shot = not (eqb one_shot 0)

-- a fade whose segment isn't among so many
abbrev pub fade_misses_by : Option Fade → ℕ → Bool
fade_misses_by None segments = false
fade_misses_by (Some f) segments = not (ltb f.segment segments)
