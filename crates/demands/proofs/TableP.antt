-- Table P, every row computed from the definitions; the whole file is read by way of demand 2.
-- Assumes nothing.
use mathlib.Core.Path.{refl, ap}
use Rattle.refusal.specs.Rules.{first_holding}
use Rattle.header.specs.Octaves.{total_samples}
use Rattle.small_chunks.specs.Pan.{held_to_unity}
use Rattle.envelope.specs.Level.{scaled_by, on_the_way}
use Rattle.envelope.specs.Envelope.{level_at}
use Rattle.fibonacci.proofs.Examples as fibonacci
use Rattle.body_read.specs.Sides.{lengths_suit}
use Rattle.note_path.specs.Path.{path_of, loop_path, joined_length, all_valid}
use Rattle.note_frame.specs.Frame.{attack_level, level_of, faded_at, value, frame_at, frame_by, frame}
use Rattle.note_frame.specs.Frames.{frames_from, interleaved, sounding}
use Rattle.note_frame.specs.Shares.{shares_of}
use Rattle.note_rules.specs.Rules.{fill_rules}
use Rattle.note.specs.Fill.{fill_voice}
use Rattle.demands.specs.Reckoning.{reckon_from}
use Rattle.demands.specs.TableP.{TableP, EqualDistances}
use Rattle.demands.proofs.Demand2.{demand2}
use Rattle.std.specs.Prelude.{Ok}

pub table_p : TableP
unfolding level_at on_the_way scaled_by value faded_at shares_of reckon_from fill_voice first_holding fill_rules total_samples lengths_suit
    all_valid joined_length frames_from interleaved sounding frame frame_by frame_at path_of loop_path level_of attack_level held_to_unity
table_p = record {
  up_and_down = ap Ok fibonacci.rises;
  wraps_above = ap Ok fibonacci.wraps_up;
  wraps_below = ap Ok fibonacci.wraps_down;
  one_byte = fibonacci.short;
  one_up = fibonacci.one_up;
  smaller_of_two = fibonacci.tie_up;
  none_written = fibonacci.none;
  on_the_way_lem = refl;
  at_its_end = refl;
  on_the_way_down = refl;
  largest_total = refl;
  octave_past_it = refl;
  all_full = refl;
  whole_file_read = demand2.example_read;
  whole_file_written = demand2.example_written;
  whole_file_played = rw demand2.example_read refl;
}

pub equal_distances : EqualDistances
equal_distances = record { downward = fibonacci.down_again; upward = fibonacci.up_again }
