-- A sheet as a list of records, and what stands at a place of it.
use Rattle.std.specs.Prelude.{ℕ, ◌+◌, eqb, ltb, length, get_or, take, drop, Bool, ◌||◌, cond, List, [], ◌∷◌, Err, None, Ok, Option, Some}
use Rattle.laws.specs.Walk.{Front, more, last, walk}
use Rattle.sheet.specs.declared.record.Record.{Record}
use Rattle.refusal.specs.declared.Refusal.{Refusal}
use Rattle.refusal.specs.declared.Refusal.TheVariants.{RecordCut, RecordWrong}
use Rattle.refusal.specs.Outcome.{Outcome}

-- the length of the body of kinds 0 to 11; there is no kind 0
abbrev pub body_lengths : List ℕ
body_lengths = 0 ∷ 20 ∷ 1 ∷ 4 ∷ 0 ∷ 0 ∷ 6 ∷ 0 ∷ 8 ∷ 4 ∷ 1 ∷ 1 ∷ []

-- the length of a kind's body
abbrev pub body_length : ℕ → ℕ
body_length kind = get_or body_lengths kind 0

-- kinds are 1 to 11
abbrev pub unknown_kind : ℕ → Bool
unknown_kind kind = eqb kind 0 || ltb 11 kind

-- what stands at the front: a whole record of a kind, or a refusal, or the end
pub data RecordHead : Type 0 where
  whole : ℕ → RecordHead
  refused : Refusal → RecordHead
  none : RecordHead

-- an unknown kind is refused by 16, then a body that the sheet's end cuts off by 15
unfoldable pub record_head : List ℕ → RecordHead
record_head [] = none
record_head (kind ∷ l) = cond (unknown_kind kind) (refused RecordWrong) (cond (ltb (length l) (body_length kind)) (refused RecordCut) (whole kind))

-- a record: its kind and its body; or the one bad record at which the reading ends, by its refusal
pub data RecordItem : Type 0 where
  entry : ℕ → List ℕ → RecordItem
  bad : Refusal → RecordItem

-- the first item and how many bytes it takes past its first
abbrev pub first_record : RecordHead → List ℕ → Front RecordItem
first_record (whole kind) l = more (entry kind (take (body_length kind) (drop 1 l))) (body_length kind)
first_record (refused refusal) l = last (bad refusal ∷ [])
first_record none l = last []

-- the records of a sheet
unfoldable pub records : List ℕ → List RecordItem
records sheet = walk (λ l. first_record (record_head l) l) 0 sheet

-- the record at a place: its kind, its body's place and the place past it
abbrev pub record_placed : ℕ → RecordHead → Outcome (Option Record)
record_placed at (whole kind) = Ok (Some (record { kind = kind; start = at + 1; next = at + 1 + body_length kind }))
record_placed at (refused refusal) = Err refusal
record_placed at none = Ok None

-- what stands at a place; a place past the end is the end
unfoldable pub record_at : List ℕ → ℕ → Outcome (Option Record)
record_at sheet at = record_placed at (record_head (drop at sheet))
