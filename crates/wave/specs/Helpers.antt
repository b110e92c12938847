-- What the code's helpers ask and give; no reader of the meanings needs it.
use Rattle.std.specs.Prelude.{ℕ, ◌+◌, ◌%◌, cond, List, ◌++◌, ltb, Err, Ok}
use Rattle.field.specs.BigEndian.{big_endian_bytes}
use Rattle.wave.specs.Riff.{riff, wave_type, fmt, data_name, riff_head, format_bytes}
use Rattle.refusal.specs.declared.Refusal.TheVariants.{FormLength}
use Rattle.refusal.specs.Outcome.{Outcome}

-- what a RIFF holds, for n bytes of values
abbrev pub held_for : ℕ → ℕ
held_for n = 36 + n + n % 2

-- the file's length for n bytes of values; 19
abbrev pub length_for : ℕ → Outcome ℕ
length_for n = cond (ltb 4294967295 (held_for n)) (Err FormLength) (Ok (held_for n + 8))

-- the bytes before n bytes of values, in a RIFF that holds so many
unfoldable pub front_bytes : ℕ → ℕ → ℕ → ℕ → List ℕ
front_bytes channels rate held n =
    riff_head riff held ++ big_endian_bytes 4 wave_type ++ riff_head fmt 16 ++ format_bytes channels rate ++ riff_head data_name n
