-- The rules that turn a mix back, in the order in which they are judged: the score's own (46, and then, entry by entry, 45 and 47), the
-- voice's (10, 13, 18), the sequence's (21 to 23), the places' (25), and then, entry by entry, 24, 31, 32, 33 and 44. 15 to 17, the sheet's
-- own, come between the score's and the voice's. There is no 34: a key-up may lie ahead.
use Rattle.std.specs.Prelude.{ℕ, not, List, [], ◌∷◌, ◌++◌, ltb, length}
use Rattle.refusal.specs.Rules.{Rule, rule}
use Rattle.header.specs.Octaves.{octave_there}
use Rattle.sheet.specs.Voice.{Voice}
use Rattle.voice_rules.specs.Rules.{voice_rules}
use Rattle.note_rules.specs.Rules.{sequence_rules, octave_rules, place_rules, speed_rules, velocity_rules}
use Rattle.ensemble_score.specs.declared.Entry.{Entry}
use Rattle.refusal.specs.declared.Refusal.TheVariants.{NoOctave, StartOrder, EntryCount, EarlyKeyUp}

-- 45 and 47, of each entry: its start is below the start of the one before it; its key-up is below its start
unfoldable pub order_rules : ℕ → List Entry → List Rule
order_rules before [] = []
order_rules before (e ∷ es) = rule StartOrder (ltb e.start before) ∷ rule EarlyKeyUp (ltb e.key_up e.start) ∷ order_rules e.start es

-- the score's own: 46, and then those of its entries; before the first no start can fall
abbrev pub score_rules : List Entry → List Rule
score_rules score = rule EntryCount (ltb 16 (length score)) ∷ order_rules 0 score

-- 24, 31, 32, 33 and 44, of an entry at an output rate
abbrev pub entry_rules : Voice → ℕ → Entry → List Rule
entry_rules v rate e =
    octave_rules v e.octave
    ++ rule NoOctave (not (octave_there v.header e.octave))
    ∷ speed_rules e.step rate
    ++ velocity_rules e.velocity

-- these of every entry, in the score's order
unfoldable pub entries_rules : Voice → ℕ → List Entry → List Rule
entries_rules v rate [] = []
entries_rules v rate (e ∷ es) = entry_rules v rate e ++ entries_rules v rate es

-- those that follow the score's own: a voice whose sides have so many samples, the score at an output rate, a buffer of so many places
abbrev pub play_rules : Voice → ℕ → ℕ → List Entry → ℕ → ℕ → List Rule
play_rules v left right score rate places = voice_rules v left right ++ sequence_rules v ++ place_rules places ++ entries_rules v rate score

-- all of them
unfoldable pub mix_rules : Voice → ℕ → ℕ → List Entry → ℕ → ℕ → List Rule
mix_rules v left right score rate places = score_rules score ++ play_rules v left right score rate places

-- the numbers of the score's own rules, entry by entry
abbrev pub order_numbers : List Entry → List ℕ
order_numbers [] = []
order_numbers (e ∷ es) = 45 ∷ 47 ∷ order_numbers es

-- the numbers of the rules of every entry, in the score's order
abbrev pub entry_numbers : List Entry → List ℕ
entry_numbers [] = []
entry_numbers (e ∷ es) = 24 ∷ 31 ∷ 32 ∷ 33 ∷ 44 ∷ entry_numbers es
