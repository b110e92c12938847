-- What the code of an accepted block asks, in places and numbers, and what it gives. No reader of the definition of a frame needs it.
use Rattle.std.specs.Prelude.{ℕ, ◌+◌, ◌*◌, ◌≤◌, ◌<◌, ◌^◌, true, false, List, ◌≡◌, ℤ, length, Ok, Some}
use Rattle.sheet.specs.Judge.{judged}
use Rattle.sheet.specs.Read.{read_sheet}
use Rattle.sheet_layout.specs.Layout.{layout_of, sequence_at, fade_at}
use Rattle.sheet_layout.specs.Members.{between}
use Rattle.sheet_layout.specs.declared.Layout.{Layout}
use Rattle.note_path.specs.Path.{path_of}
use Rattle.note_path.specs.Run.{place_of, Sane}
use Rattle.note_path.specs.declared.run.Path.{Path}
use Rattle.note_frame.specs.Frame.{frame}
use Rattle.note_frame.specs.Gains.{Bounded, gains_of}
use Rattle.note_frame.specs.declared.chain.Gains.{Gains}
use Rattle.note_stage.specs.Block.{Played}
use Rattle.note_rules.specs.Rules.{key_up_ahead}
use Rattle.note_frame.specs.declared.playing.Playing.{Playing}

-- the part of a sheet that holds its sequence
abbrev pub sequence_part : List ℕ → List ℕ
sequence_part sheet = between (sequence_at (read_sheet sheet)) (fade_at (read_sheet sheet)) sheet

-- gains and path are the voice's, and the block ends before frame 4,294,967,295
pub record BlockReady (n : Playing) (frames : ℕ) (sheet : List ℕ) (l : Layout) (g : Gains) (path : Path) (left right : List ℤ) (d : ℕ) (out : List ℤ) : Type 0 where
  pub sound : judged sheet ≡ Ok tt
  pub layout_is : l ≡ layout_of (read_sheet sheet)
  pub gains_are : g ≡ gains_of (read_sheet sheet) n.octave n.velocity
  pub bounded : Bounded g
  pub sane : Sane path (sequence_part sheet)
  pub samples_are : path.samples ≡ length left
  pub place_is : (q : ℕ) → place_of path (sequence_part sheet) q ≡ path_of (read_sheet sheet).sequence (read_sheet sheet).header (length left) n.octave q
  pub sides_are : g.stereo ≡ true → length left ≤ length right
  pub fade_ends : g.fades ≡ true → (q i : ℕ) → place_of path (sequence_part sheet) q ≡ Some i → q < g.path_length
  pub rate_some : 0 < n.rate
  pub rate_fits : n.rate ≤ 192000
  pub step_fits : n.step ≤ 16777216
  pub key_then : key_up_ahead n.key frames ≡ false
  pub in_time : frames + d < 2 ^ 32
  pub room : 2 * d ≤ length out

-- of d frames of the note those that aren't over, at the front of the buffer, and how many
abbrev pub BlockPlayed : Playing → ℕ → List ℕ → List ℤ → List ℤ → ℕ → List ℤ → List ℤ → ℕ → Type 0
BlockPlayed n frames sheet left right d before after count =
    Played (frame (read_sheet sheet) (record { left = left; right = right }) n) frames d before after count
