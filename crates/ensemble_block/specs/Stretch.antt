-- A stretch of mixed frames in which no entry starts and none is released, so that each is silent, held or released throughout. What the
-- code asks and gives. No reader of the definition of a mixed frame needs it.
use Rattle.std.specs.Prelude.{ℕ, ◌+◌, ◌-◌, ◌%◌, ◌/◌, ◌≤◌, ◌<◌, ◌^◌, min, cond, List, ◌≡◌, leb, ℤ, pos, length, replicate, Ok}
use Rattle.refusal.specs.Rules.{NoneHolds}
use Rattle.sheet.specs.Allowed.{All}
use Rattle.sheet.specs.Judge.{judged}
use Rattle.sheet.specs.Read.{read_sheet}
use Rattle.sheet.specs.Voice.{Voice}
use Rattle.sheet_layout.specs.Layout.{layout_of}
use Rattle.sheet_layout.specs.declared.Layout.{Layout}
use Rattle.voice_rules.specs.Rules.{voice_rules}
use Rattle.note_rules.specs.Rules.{sequence_rules}
use Rattle.note_frame.specs.declared.playing.Key.{Key}
use Rattle.note_frame.specs.declared.playing.Key.TheVariants.{Held, Released}
use Rattle.note_frame.specs.declared.playing.Playing.{Playing}
use Rattle.ensemble_score.specs.declared.Entry.{Entry}
use Rattle.ensemble_rules.specs.Rules.{entry_rules}
use Rattle.ensemble_sums.specs.Sums.{Within}

-- ---- where a stretch ends

-- neither a start nor a key-up lies past `at` and before `end`
pub record Calm (at end : ℕ) (e : Entry) : Type 0 where
  pub starts : at < e.start → end ≤ e.start
  pub comes_up : at < e.key_up → end ≤ e.key_up

-- the stretch from mixed frame `at` on ends with `next`: it is calm, has at most `most` frames, and doesn't pass the block's end
pub record StretchTo (score : List Entry) (at end most next : ℕ) : Type 0 where
  pub some : at < next
  pub within : next ≤ end
  pub short : next ≤ at + most
  pub calm : All (Calm at next) score

-- an end, or an event that lies past `at` and before it
abbrev pub cut_at : ℕ → ℕ → ℕ → ℕ
cut_at at end event = cond (leb event at) end (min end event)

-- ---- an entry's note in a stretch

-- held before the key-up, and released from it on
abbrev pub key_at : ℕ → Entry → Key
key_at at e = cond (leb e.key_up at) (Released (e.key_up - e.start)) Held

-- how the entry's note plays in a stretch from mixed frame `at` on
abbrev pub playing_at : ℕ → ℕ → Entry → Playing
playing_at rate at e = record { octave = e.octave; velocity = e.velocity; step = e.step; rate = rate; key = key_at at e }

-- ---- what the rules leave

-- an entry that no rule turns back
pub record GoodEntry (v : Voice) (rate : ℕ) (e : Entry) : Type 0 where
  pub ends_later : e.start ≤ e.key_up
  pub no_rule : NoneHolds (entry_rules v rate e)

-- sheet, sides and a score that no rule turns back
pub record Mixable (score : List Entry) (rate : ℕ) (sheet : List ℕ) (l : Layout) (left right : List ℤ) : Type 0 where
  pub sound : judged sheet ≡ Ok tt
  pub layout_is : l ≡ layout_of (read_sheet sheet)
  pub voice_good : NoneHolds (voice_rules (read_sheet sheet) (length left) (length right))
  pub sequence_good : NoneHolds (sequence_rules (read_sheet sheet))
  pub entries_good : All (GoodEntry (read_sheet sheet) rate) score

-- what a stretch from mixed frame `at` on asks: it is calm, has no frame from 4,294,967,295 on, and the sums, as many as places, are 0
pub record StretchReady (score : List Entry) (rate at : ℕ) (sheet : List ℕ) (l : Layout) (left right sums out : List ℤ) : Type 0 where
  pub mixable : Mixable score rate sheet l left right
  pub calm : All (Calm at (at + length out / 2)) score
  pub in_time : at + length out / 2 ≤ 4294967295
  pub even : length out % 2 ≡ 0
  pub none_yet : sums ≡ replicate (length out) (pos 0)

-- what one entry of it asks, with sums that a further value leaves within 32 bits
pub record EntryReady (e : Entry) (rate at : ℕ) (sheet : List ℕ) (l : Layout) (left right sums out : List ℤ) : Type 0 where
  pub sound : judged sheet ≡ Ok tt
  pub layout_is : l ≡ layout_of (read_sheet sheet)
  pub voice_good : NoneHolds (voice_rules (read_sheet sheet) (length left) (length right))
  pub sequence_good : NoneHolds (sequence_rules (read_sheet sheet))
  pub good : GoodEntry (read_sheet sheet) rate e
  pub calm : Calm at (at + length out / 2) e
  pub in_time : at + length out / 2 ≤ 4294967295
  pub even : length out % 2 ≡ 0
  pub as_many : length sums ≡ length out
  pub small : Within (2 ^ 30) sums
