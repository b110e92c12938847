-- What a sheet's records say: the voice. Records that open a group carry the members that follow them.
use Rattle.std.specs.Prelude.{ℕ, eqb, get_or, cond, List, [], ◌∷◌, map, Err, None, Ok, Option, Some}
use Rattle.laws.specs.Walk.{each}
use Rattle.header.specs.Header.{header_of}
use Rattle.small_chunks.specs.Channel.{channel_of}
use Rattle.small_chunks.specs.Pan.{pan_of}
use Rattle.small_chunks.specs.Envelope.{point_of}
use Rattle.small_chunks.specs.Sequence.{segment_of, fade_of}
use Rattle.small_chunks.specs.declared.channel.ChannelAssignment.{ChannelAssignment}
use Rattle.sheet.specs.Record.{RecordItem, entry, bad, records}
use Rattle.sheet.specs.Voice.{Text, Voice}
use Rattle.refusal.specs.Outcome.{Outcome}

-- the bodies of the records of a kind that stand at the front
unfoldable pub leading : ℕ → List RecordItem → List (List ℕ)
leading kind [] = []
leading kind (bad refusal ∷ items) = []
leading kind (entry k body ∷ items) = cond (eqb k kind) (body ∷ leading kind items) []

-- a record that opens a group, by its body, and the bodies of the members that follow it
pub record Group : Type 0 where
  pub body : List ℕ
  pub members : List (List ℕ)

-- the groups that records of a kind open, with members of another kind
unfoldable pub groups : ℕ → ℕ → List RecordItem → List Group
groups opens member [] = []
groups opens member (bad refusal ∷ items) = []
groups opens member (entry k body ∷ items) =
    cond (eqb k opens) (record { body = body; members = leading member items } ∷ groups opens member items) (groups opens member items)

-- the bodies of all records of a kind; no record is of kind 0, so there are no members
abbrev pub bodies : ℕ → List RecordItem → List (List ℕ)
bodies kind items = map (λ g. g.body) (groups kind 0 items)

-- the first of a list, where there is one
abbrev pub first : {A : Type 0} → List A → Option A
first [] = None
first (a ∷ as') = Some a

-- what a value that may be missing becomes
abbrev pub map_option : {A B : Type 0} → (A → B) → Option A → Option B
map_option f None = None
map_option f (Some a) = Some (f a)

-- an assignment that is known
abbrev pub known_channel : Outcome ChannelAssignment → Option ChannelAssignment
known_channel (Ok c) = Some c
known_channel (Err refusal) = None

-- the assignment of a channel record, where there is one
abbrev pub record_channel : Option (List ℕ) → Option ChannelAssignment
record_channel None = None
record_channel (Some body) = known_channel (channel_of (get_or body 0 0))

-- the first body, or no bytes
abbrev pub body_of : Option (List ℕ) → List ℕ
body_of None = []
body_of (Some body) = body

-- a text: its key, and its members' bytes joined
abbrev pub text_in : Group → Text
text_in g = record { key = get_or g.body 0 0; bytes = each (λ body. body) g.members }

-- the voice of a list of records
unfoldable pub voice_of : List RecordItem → Voice
voice_of items = record {
  header = header_of (body_of (first (bodies 1 items)));
  channel = record_channel (first (bodies 2 items));
  pan = map_option pan_of (first (bodies 3 items));
  attacks = map (λ g. map point_of g.members) (groups 4 6 items);
  releases = map (λ g. map point_of g.members) (groups 5 6 items);
  sequence = map_option (λ g. map segment_of g.members) (first (groups 7 8 items));
  fade = map_option fade_of (first (bodies 9 items));
  texts = map text_in (groups 10 11 items);
}

-- the voice of a sheet
abbrev pub read_sheet : List ℕ → Voice
read_sheet sheet = voice_of (records sheet)
