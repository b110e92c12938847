-- Where an octave lies in a side, and its one-shot and repeat part in the octave.
use Rattle.std.specs.Prelude.{ℕ, ◌+◌, ◌-◌, ◌*◌, ◌^◌, cond, List, eqb, ltb, leb, ℤ, length, None, Option, Some}
use Rattle.header.specs.Octaves.{hi, octaves, in_octave}
use Rattle.header.specs.declared.voice_header.VoiceHeader.{VoiceHeader}
use Rattle.octaves.specs.Part.{part_of}
use Rattle.octaves.specs.declared.part.Part.{Part}

-- octave k of n samples: hi × 2^k samples after the hi × (2^k - 1) of the octaves before it; if hi = 0, octave 0 is all and there is no other
unfoldable pub octave_part : VoiceHeader → ℕ → ℕ → Option Part
octave_part h n k =
    cond (eqb (hi h) 0) (cond (eqb k 0) (Some (record { start = 0; length = n })) None)
    (cond (ltb k (octaves h)) (cond (leb (hi h * (2 ^ k - 1) + hi h * 2 ^ k) n) (Some (record { start = hi h * (2 ^ k - 1); length = hi h * 2 ^ k })) None) None)

-- its samples
abbrev pub octave_of : VoiceHeader → ℕ → List ℤ → List ℤ
octave_of h k side = part_of (octave_part h (length side) k) side

-- where the repeat part begins in an octave of n samples whose one-shot part is this long: there, where both parts make up the octave
abbrev pub repeat_after : Option ℕ → ℕ → ℕ → Option ℕ
repeat_after (Some repeat) n one_shot = cond (eqb (one_shot + repeat) n) (Some one_shot) None
repeat_after None n one_shot = None

-- the same, of a header's octave k
abbrev pub repeat_from : VoiceHeader → ℕ → ℕ → ℕ → Option ℕ
repeat_from h n k one_shot = repeat_after (in_octave h h.repeat_hi_samples k) n one_shot

-- after a one-shot part, where there is one
abbrev pub after_one_shot : Option ℕ → (ℕ → Option ℕ) → Option ℕ
after_one_shot (Some one_shot) next = next one_shot
after_one_shot None next = None

-- where the repeat part begins, by the header's lengths for octave k
abbrev pub repeat_start : VoiceHeader → ℕ → ℕ → Option ℕ
repeat_start h n k = after_one_shot (in_octave h h.one_shot_hi_samples k) (repeat_from h n k)

-- the part before it
abbrev pub part_before : Option ℕ → Option Part
part_before (Some start) = Some (record { start = 0; length = start })
part_before None = None

-- the part from it on
abbrev pub part_from : Option ℕ → ℕ → Option Part
part_from (Some start) n = Some (record { start = start; length = n - start })
part_from None n = None

-- the one-shot part of octave k, which has n samples
abbrev pub one_shot_part : VoiceHeader → ℕ → ℕ → Option Part
one_shot_part h n k = part_before (repeat_start h n k)

-- its repeat part
abbrev pub repeat_part : VoiceHeader → ℕ → ℕ → Option Part
repeat_part h n k = part_from (repeat_start h n k) n
