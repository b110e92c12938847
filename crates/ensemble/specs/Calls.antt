-- A list of calls of the mixer, as a host makes them, and what they put out.
use Rattle.std.specs.Prelude.{ℕ, List, [], ◌∷◌, ◌++◌, ℤ, Err, Ok}
use Rattle.body_read.specs.Sides.{Sides}
use Rattle.ensemble_score.specs.declared.Entry.{Entry}
use Rattle.ensemble.specs.Mix.{after_mix}
use Rattle.refusal.specs.Outcome.{Outcome}

-- what a list of calls puts out: every call's answer, and the accepted calls' blocks, joined
pub record MixOut : Type 0 where
  pub answers : List (Outcome ℕ)
  pub blocks : List ℤ

-- an answer and a block before what follows
abbrev pub before : Outcome ℕ → List ℤ → MixOut → MixOut
before answer block later = record { answers = answer ∷ later.answers; blocks = block ++ later.blocks }

-- the block that a buffer holds after a call with this answer; a refused call has none
abbrev pub accepted_block : Outcome ℕ → List ℤ → List ℤ
accepted_block (Ok place) buffer = buffer
accepted_block (Err refusal) buffer = []

-- the place that came back last: a refused call brings none
abbrev pub last_place : Outcome ℕ → ℕ → ℕ
last_place (Ok place) before = place
last_place (Err refusal) before = before

-- what calls put out on a sheet and its samples from a place on, each given the place that came back last, by what `mix` leaves of each buffer
unfoldable pub mix_all : List Entry → ℕ → ℕ → List ℕ → Sides → List (List ℤ) → MixOut
mix_all score rate place sheet s [] = record { answers = []; blocks = [] }
mix_all score rate place sheet s (buffer ∷ buffers) =
    let left = after_mix score rate place sheet s buffer in
    before left.answer (accepted_block left.answer left.buffer) (mix_all score rate (last_place left.answer place) sheet s buffers)
