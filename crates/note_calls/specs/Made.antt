-- Calls in numbers, and what making them leaves.
use Rattle.std.specs.Prelude.{ℕ, ◌+◌, Bool, cond, ◌&&◌, List, [], ◌∷◌, map, eqb, leb, ℤ, pos, length, replicate, Err, Ok}
use Rattle.laws.specs.Buffer.{written}
use Rattle.body_read.specs.Sides.{Sides}
use Rattle.note.specs.declared.Note.{Note}
use Rattle.note_calls.specs.Play.{HostCall, fill_buffer, key_up_now, PutOut, play, last_note}
use Rattle.note_calls.specs.declared.Made.{Made}
use Rattle.refusal.specs.declared.Refusal.TheVariants.{BufferShort}
use Rattle.refusal.specs.Outcome.{Outcome}
use Rattle.refusal.specs.Refusal.{number_of}

-- the number that stands for a key-up
abbrev pub key_up_number : ℕ
key_up_number = 18446744073709551615

-- a number is a key-up
abbrev pub is_key_up : ℕ → Bool
is_key_up call = eqb call key_up_number

-- a number as a call: a key-up, or a fill of so many places. What a buffer held matters to no answer and no accepted block, so let it be zeros
abbrev pub host_call : ℕ → HostCall
host_call call = cond (is_key_up call) key_up_now (fill_buffer (replicate call (pos 0)))

-- numbers as calls
abbrev pub host_calls : List ℕ → List HostCall
host_calls calls = map host_call calls

-- how many places a call fills: a key-up none
abbrev pub places_of : ℕ → ℕ
places_of call = cond (is_key_up call) 0 call

-- how many answers it gives: a key-up none
abbrev pub answers_of : ℕ → ℕ
answers_of call = cond (is_key_up call) 0 1

-- how many places the fills have together
unfoldable pub places_in : List ℕ → ℕ
places_in [] = 0
places_in (call ∷ calls) = places_of call + places_in calls

-- how many fills there are
unfoldable pub fills_in : List ℕ → ℕ
fills_in [] = 0
fills_in (call ∷ calls) = answers_of call + fills_in calls

-- an answer as a number: how many frames aren't over, or 2^63 and the refusal's number
abbrev pub answer_number : Outcome ℕ → ℕ
answer_number (Ok count) = count
answer_number (Err refusal) = 9223372036854775808 + number_of refusal

-- so many places hold the blocks of all fills, and so many their answers
abbrev pub room_for : List ℕ → ℕ → ℕ → Bool
room_for calls places answers = leb (places_in calls) places && leb (fills_in calls) answers

-- what making the calls leaves: the note after them and how many values and answers were put out, or 20; and what both buffers then hold
pub record MadeResult : Type 0 where
  pub made : Outcome Made
  pub blocks : List ℤ
  pub answers : List ℕ

-- by what `play` puts out and the note after it
abbrev pub calls_leave : PutOut → Note → List ℤ → List ℕ → MadeResult
calls_leave p n blocks answers = record {
  made = Ok (record { note = n; values = length p.blocks; answers = length p.answers });
  blocks = written p.blocks blocks;
  answers = written (map answer_number p.answers) answers;
}

-- where there is no room for all, nothing is written
abbrev pub no_room : List ℤ → List ℕ → MadeResult
no_room blocks answers = record { made = Err BufferShort; blocks = blocks; answers = answers }

-- what `make_calls` leaves
abbrev pub after_calls : List ℕ → Sides → Note → List ℕ → List ℤ → List ℕ → MadeResult
after_calls sheet s n calls blocks answers =
    cond (room_for calls (length blocks) (length answers))
    (calls_leave (play sheet s n (host_calls calls)) (last_note sheet s n (host_calls calls)) blocks answers)
    (no_room blocks answers)
