-- What the code takes from the sheet for a block; no reader of the definition of a frame needs it.
use Rattle.std.specs.Prelude.{ℕ, true, false, List, pos}
use Rattle.small_chunks.specs.Pan.{held_to_unity}
use Rattle.envelope.specs.Envelope.{level_at}
use Rattle.sheet_layout.specs.Members.{points_in}
use Rattle.note_frame.specs.Frame.{ms_since, start_level}
use Rattle.note_stage.specs.declared.Stage.{Stage}

-- the level of the attack in a part of the sheet, at frame p
abbrev pub attack_in : List ℕ → ℕ → ℕ → ℕ
attack_in part rate p = held_to_unity (level_at (points_in part) (start_level (points_in part)) (ms_since rate 0 p))

-- a held note is in its attack, counted from frame 0, and doesn't end with it
abbrev pub attack_stage : List ℕ → ℕ → ℕ → Stage
attack_stage attack step rate = record { step = step; rate = rate; since = 0; level = start_level (points_in attack); ends = false }

-- a note released at frame u is in its release from there on, at the attack's level, and ends with it
abbrev pub release_stage : List ℕ → ℕ → ℕ → ℕ → Stage
release_stage attack step rate u = record { step = step; rate = rate; since = u; level = pos (attack_in attack rate u); ends = true }
