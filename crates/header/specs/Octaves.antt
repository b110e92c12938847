-- How many samples the octaves have. Octave 0 is the highest and shortest; each next one is twice as long.
use Rattle.std.specs.Prelude.{ℕ, ◌+◌, ◌-◌, ◌*◌, ◌%◌, ◌^◌, min, max, Bool, cond, eqb, ltb, Err, None, Ok, Option, Some}
use Rattle.header.specs.declared.voice_header.VoiceHeader.{VoiceHeader}
use Rattle.refusal.specs.declared.Refusal.TheVariants.{OctaveTotal}
use Rattle.refusal.specs.Outcome.{Outcome}

-- hi: the length of the highest octave, one-shot and repeat
abbrev pub hi : VoiceHeader → ℕ
hi h = h.one_shot_hi_samples + h.repeat_hi_samples

-- the number of octaves, 0 counting as 1
abbrev pub octaves : VoiceHeader → ℕ
octaves h = max h.ct_octave 1

-- how many octaves are there: if hi = 0, only one
abbrev pub octaves_there : VoiceHeader → ℕ
octaves_there h = cond (eqb (hi h) 0) 1 (octaves h)

-- octave k is there: below the number of octaves; if hi = 0, only octave 0
abbrev pub octave_there : VoiceHeader → ℕ → Bool
octave_there h k = cond (eqb (hi h) 0) (eqb k 0) (ltb k (octaves h))

-- a length n of octave 0 as it is in octave k, in 64 bits: bits shifted out are dropped. Absent from k = 64 or the number of octaves on
abbrev pub in_octave : VoiceHeader → ℕ → ℕ → Option ℕ
in_octave h n k = cond (ltb k (min 64 (octaves h))) (Some (n * 2 ^ k % 2 ^ 64)) None

-- the samples of all octaves together
unfoldable pub total_samples : VoiceHeader → ℕ
total_samples h = hi h * (2 ^ octaves h - 1)

-- a total past 64 bits is refused by 13
abbrev pub total : VoiceHeader → Outcome ℕ
total h = cond (ltb (total_samples h) (2 ^ 64)) (Ok (total_samples h)) (Err OctaveTotal)

-- there is a part that repeats
abbrev pub loops : VoiceHeader → Bool
loops h = ltb 0 h.repeat_hi_samples
