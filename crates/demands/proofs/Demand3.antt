-- Demand 3, all of it.
-- Assumes nothing.
use mathlib.Core.List.{map}
use Rattle.note_frame.proofs.Velocity.{velocity_step}
use Rattle.note_calls.proofs.PlayLaws.{velocity_stays}
use Rattle.demands.specs.Demand3.{told_of, Demand3}
use Rattle.demands.specs.Reckoning.{playing}
use Rattle.demands.proofs.Played.{played, played_as, made}
use Rattle.demands.proofs.OneNote.{one_note}
use Rattle.demands.proofs.FillRefusals.{read_voice_lem, sheet_first, order, by_a_rule, by_none}

pub demand3 : Demand3
demand3 = record {
  played = λ file b l s calls was. played file b l s was calls;
  made = made;
  one_note = one_note;
  played_note = λ file b l s calls r was is. rw (← played_as file b l s was r is calls) (one_note r s (map told_of calls));
  full_velocity = λ r s key. velocity_step.full r.voice r.sides (playing s key);
  velocity_kept = velocity_stays;
  read_voice_lem = read_voice_lem;
  sheet_first = sheet_first;
  order = order;
  by_a_rule = by_a_rule;
  by_none = by_none;
}
