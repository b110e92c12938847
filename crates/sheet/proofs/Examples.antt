-- Sheets judged, by computing. `h` is a header of 20 zero bytes.
-- Assumes nothing.
use Prim.Native.Nat.{ℕ, zero, suc}
use mathlib.Core.List.{List, [], ◌∷◌, ◌++◌}
use mathlib.Core.Path.{◌≡◌, refl}
use Rattle.laws.specs.Walk.{walk}
use Rattle.sheet.specs.Judge.{judged_items, judged}
use Rattle.sheet.specs.Order.{value_wrong, first_wrong}
use Rattle.sheet.specs.Read.{leading, groups}
use Rattle.sheet.specs.Record.{record_head, records, record_at}
use Rattle.text_utf8.specs.Table.{following}
use Rattle.text_utf8.specs.Utf8.{matching, first_subsequence, subsequences, well_formed}
use Rattle.std.specs.Prelude.{Err, None, Ok}
use Rattle.refusal.specs.declared.Refusal.TheVariants.{RecordCut, RecordWrong, TextIllFormed}

abbrev zeros : ℕ → List ℕ
zeros zero = []
zeros (suc n) = 0 ∷ zeros n

abbrev h : List ℕ
h = 1 ∷ zeros 20

-- no header
empty : judged [] ≡ Err RecordWrong
unfolding judged_items first_wrong leading groups records record_head walk
empty = refl

-- a channel whose value is cut off; the same with its value, before any header
channel_cut : judged (0x02 ∷ []) ≡ Err RecordCut
unfolding judged_items first_wrong leading groups records record_head walk value_wrong
channel_cut = refl

channel_first : judged (0x02 ∷ 0x02 ∷ []) ≡ Err RecordWrong
unfolding judged_items first_wrong leading groups records record_head walk value_wrong
channel_first = refl

-- an unknown kind
unknown : judged (0x0C ∷ []) ≡ Err RecordWrong
unfolding judged_items first_wrong leading groups records record_head walk value_wrong
unknown = refl

-- a second header that is cut off
header_cut : judged (h ++ 0x01 ∷ []) ≡ Err RecordCut
unfolding judged_items first_wrong leading groups records record_head walk value_wrong
header_cut = refl

-- an ill-formed text, and then an unknown kind
unknown_first : judged (h ++ 0x0A ∷ 0x01 ∷ 0x0B ∷ 0xFF ∷ 0x00 ∷ []) ≡ Err RecordWrong
unfolding judged_items first_wrong leading groups records record_head walk value_wrong
unknown_first = refl

-- C3 A9 is one scalar value, but not in two texts
two_texts : judged (h ++ 0x0A ∷ 0x01 ∷ 0x0B ∷ 0xC3 ∷ 0x0A ∷ 0x01 ∷ 0x0B ∷ 0xA9 ∷ []) ≡ Err TextIllFormed
unfolding judged_items first_wrong leading groups records record_head walk value_wrong well_formed subsequences first_subsequence following matching
two_texts = refl

one_text : judged (h ++ 0x0A ∷ 0x01 ∷ 0x0B ∷ 0xC3 ∷ 0x0B ∷ 0xA9 ∷ []) ≡ Ok tt
unfolding judged_items first_wrong leading groups records record_head walk value_wrong well_formed subsequences first_subsequence following matching
one_text = refl

header_alone : judged h ≡ Ok tt
unfolding judged_items first_wrong leading groups records record_head walk value_wrong
header_alone = refl

empty_text : judged (h ++ 0x0A ∷ 0x01 ∷ []) ≡ Ok tt
unfolding judged_items first_wrong leading groups records record_head walk value_wrong well_formed subsequences first_subsequence following matching
empty_text = refl

-- a place past the end is the end
past_the_end : record_at (0x0C ∷ []) 2 ≡ Ok None
unfolding record_at record_head
past_the_end = refl
