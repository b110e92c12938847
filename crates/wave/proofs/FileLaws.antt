-- What a sheet and its sides fulfil where an octave is written, and the file stored part by part.
-- Assumes nothing.
use Prim.Native.Nat.{ℕ, ◌+◌, ◌*◌, ◌≤◌}
use mathlib.Core.Bool.{Bool, true}
use mathlib.Core.List.{List}
use mathlib.Core.Path.{◌≡◌, sym, ap, ◌∙◌}
use lib.IntN.{ℤ}
use lib.ListN.{length}
use Rattle.chunk.specs.ChunkBytes.{pad}
use Rattle.laws.proofs.PutLaws.{put_then}
use Rattle.laws.specs.Put.{Put}
use Rattle.refusal.proofs.OutcomeLaws.{room_gives}
use Rattle.refusal.specs.Room.{Room}
use Rattle.body_read.specs.Sides.{Sides}
use Rattle.sheet.proofs.SoundLaws.{if_sound_lem, gives_sound}
use Rattle.sheet.specs.Judge.{judged}
use Rattle.sheet.specs.Read.{read_sheet}
use Rattle.sheet.specs.Voice.{Voice}
use Rattle.wave.proofs.RiffLaws.{held_chunk, file_parts}
use Rattle.wave.proofs.WaveLaws.{stereo, lefts, rights, octaves_same, contents_are, held_length, accepted}
use Rattle.wave.specs.Helpers.{held_for, front_bytes}
use Rattle.wave.specs.Riff.{riff}
use Rattle.wave.specs.Wave.{values_of, channels_of, octave_contents, octave_file, octave_wave, octave_wave_of}
use Rattle.std.specs.Prelude.{Ok}

-- how many bytes the values of octave k have
abbrev pub value_count : Voice → Sides → ℕ → ℕ
value_count v s k = channels_of (stereo v s k) * length (lefts v s k)

-- what a writer of n bytes into so many places counts on
pub record Writes (sheet : List ℕ) (s : Sides) (k n places : ℕ) : Type 0 where
  pub sound : judged sheet ≡ Ok tt
  pub same : stereo (read_sheet sheet) s k ≡ true → length (lefts (read_sheet sheet) s k) ≡ length (rights (read_sheet sheet) s k)
  pub long : n ≡ length (octave_file (read_sheet sheet) s k)
  pub held : n ≡ held_for (value_count (read_sheet sheet) s k) + 8
  pub fits : held_for (value_count (read_sheet sheet) s k) ≤ 4294967295
  pub room : n ≤ places
  pub is : octave_wave_of sheet s k ≡ Ok (octave_file (read_sheet sheet) s k)

pub writes : (sheet : List ℕ) (s : Sides) (k n places : ℕ) → Room (octave_wave_of sheet s k) n places → Writes sheet s k n places
writes sheet s k n places r =
    let v = read_sheet sheet in
    let g = room_gives (octave_wave_of sheet s k) n places r in
    let sound = gives_sound sheet (octave_wave v s k) g.0.output g.0.is in
    let a = accepted v s k g.0.output (sym (if_sound_lem sheet (octave_wave v s k) sound) ∙ g.0.is) in
    let long = held_length v s k a.suits in
    record {
      sound = sound;
      same = octaves_same v s k a.suits;
      long = g.0.long ∙ ap length a.is;
      held = g.0.long ∙ ap length a.is ∙ held_chunk riff (octave_contents v s k) (value_count v s k) long;
      fits = rw long at a.fits;
      room = g.1;
      is = g.0.is ∙ ap Ok a.is;
    }

-- ---- stored part by part

-- the values and the front by what they are made of
pub values_by : {b b' : Bool} {xs xs' ys ys' : List ℤ} → b ≡ b' → xs ≡ xs' → ys ≡ ys' → values_of b xs ys ≡ values_of b' xs' ys'
values_by p q r = rw (p, q, r)

pub front_by : {c c' r r' held held' : ℕ} (n : ℕ) → c ≡ c' → r ≡ r' → held ≡ held' → front_bytes c r held n ≡ front_bytes c' r' held' n
front_by n p q e = rw (p, q, e)

-- the front, the values and their pad, stored one after another
pub file_put : {d d₁ d₂ d₃ : List ℕ} {p q r : ℕ} (v : Voice) (s : Sides) (k n : ℕ) → n ≡ length (values_of (stereo v s k) (lefts v s k) (rights v s k))
    → Put d 0 (front_bytes (channels_of (stereo v s k)) v.header.samples_per_sec (held_for n) n) d₁ p
    → Put d₁ p (values_of (stereo v s k) (lefts v s k) (rights v s k)) d₂ q → Put d₂ q (pad n) d₃ r
    → Put d 0 (octave_file v s k) d₃ r
file_put v s k n e front values end =
    rw (contents_are v s k, file_parts (channels_of (stereo v s k)) v.header.samples_per_sec (values_of (stereo v s k) (lefts v s k) (rights v s k)), ← e) (put_then (put_then front values) end)
