-- The chunks that are written for a voice, as items. Their bytes are what the FORM holds past its type.
--     voice_items, items_bytes    the items, and that their bytes are those of the writer
--     Chunks, items_chunks        every item is a chunk, whose name has four bytes
-- Assumes nothing.
use Prim.Native.Nat.{ℕ, ◌^◌, ◌≤◌, ◌<◌}
use mathlib.Core.List.{List, [], ◌∷◌, ◌++◌, map, append_assoc, append-nil}
use mathlib.Core.Path.{◌≡◌, refl}
use native.Mathlib.Omega.{arith}
use lib.Dec.{ltb, ltb→lt}
use Rattle.laws.specs.Walk.{each}
use Rattle.laws.proofs.Table.{below}
use Rattle.field.specs.BigEndian.{big_endian, big_endian_bytes}
use Rattle.field.proofs.BigEndianLaws.{bytes_number}
use Rattle.header.specs.Header.{header_bytes}
use Rattle.small_chunks.specs.Channel.{channel_value_of}
use Rattle.small_chunks.specs.Pan.{pan_bytes}
use Rattle.small_chunks.specs.Envelope.{point_bytes}
use Rattle.small_chunks.specs.Sequence.{segment_bytes, fade_bytes}
use Rattle.small_chunks.specs.declared.channel.ChannelAssignment.{ChannelAssignment}
use Rattle.small_chunks.specs.declared.channel.ChannelAssignment.TheVariants.{Left, Right, Stereo}
use Rattle.chunk.specs.Chunk.{Item, chunk, bad}
use Rattle.chunk.specs.ChunkBytes.{chunk_bytes}
use Rattle.form.specs.Names.{vhdr, chan, pan, atak, rlse, seqn, fade, body}
use Rattle.sheet.specs.Voice.{Text, Voice}
use Rattle.sheet.specs.Flat.{if_there}
use Rattle.sheet.specs.Allowed.{All, TextAllowed, Allowed}
use Rattle.sheet_grammar.proofs.ListLaws.{each_append, each_map}
use Rattle.sheet_grammar.proofs.FormLaws.{listed}
use Rattle.sheet_grammar.proofs.VoiceLaws.{each_listed}
use Rattle.sheet_write.specs.VoiceChunks.{text_name, text_chunk, voice_chunks}
use Rattle.std.specs.Prelude.{Option}

-- a chunk of one name for each value
abbrev pub named : {A : Type 0} → ℕ → (A → List ℕ) → List A → List Item
named id write values = map (λ a. chunk id (write a)) values

-- the payload of CHAN
abbrev pub channel_payload : ChannelAssignment → List ℕ
channel_payload c = big_endian_bytes 4 (channel_value_of c)

pub channel_number : (c : ChannelAssignment) → big_endian 4 (channel_payload c) ≡ channel_value_of c
channel_number c = bytes_number 4 (channel_value_of c) (small c)
  where
    small : (c : ChannelAssignment) → channel_value_of c < 256 ^ 4
    small Left = omega arith
    small Right = omega arith
    small Stereo = omega arith

-- the chunk of a text
abbrev pub text_item : Text → Item
text_item t = chunk (text_name t.key) (t.bytes ++ 0 ∷ [])

-- all of them, BODY last, with its payload given
abbrev pub voice_items : Voice → List ℕ → List Item
voice_items v samples =
    named vhdr header_bytes (v.header ∷ [])
    ++ (named chan channel_payload (listed v.channel)
    ++ (named pan pan_bytes (listed v.pan)
    ++ (named atak (each point_bytes) v.attacks
    ++ (named rlse (each point_bytes) v.releases
    ++ (named seqn (each segment_bytes) (listed v.sequence)
    ++ (named fade fade_bytes (listed v.fade)
    ++ (map text_item v.texts
    ++ named body (λ b. b) (samples ∷ []))))))))

-- ---- their bytes

abbrev pub item_bytes : Item → List ℕ
item_bytes (chunk id b) = chunk_bytes id b
item_bytes (bad refusal) = []

module _ {A : Type 0} where
  named_bytes : (id : ℕ) (write : A → List ℕ) (values : List A) → each item_bytes (named id write values) ≡ each (λ a. chunk_bytes id (write a)) values
  named_bytes id write values = each_map (λ a. chunk id (write a)) item_bytes (λ a. chunk_bytes id (write a)) (λ a. refl) values

  listed_bytes : (id : ℕ) (write : A → List ℕ) (o : Option A) → each item_bytes (named id write (listed o)) ≡ if_there (λ a. chunk_bytes id (write a)) o
  listed_bytes id write o = each_listed (λ a. chunk id (write a)) item_bytes (λ a. chunk_bytes id (write a)) (λ a. refl) o

pub items_bytes : (v : Voice) (samples : List ℕ) → each item_bytes (voice_items v samples) ≡ voice_chunks v ++ chunk_bytes body samples
unfolding voice_chunks
items_bytes v samples =
    simp (
      each_append,
      listed_bytes chan channel_payload v.channel,
      listed_bytes pan pan_bytes v.pan,
      named_bytes atak (each point_bytes) v.attacks,
      named_bytes rlse (each point_bytes) v.releases,
      listed_bytes seqn (each segment_bytes) v.sequence,
      listed_bytes fade fade_bytes v.fade,
      each_map text_item item_bytes text_chunk (λ t. refl) v.texts,
      append-nil,
      append_assoc,
    )

-- ---- their names

-- every item is a chunk, whose name has four bytes
pub data Chunks : List Item → Type 0 where
  end : Chunks []
  next : {id : ℕ} {b : List ℕ} {items : List Item} → id < 2 ^ 32 → Chunks items → Chunks (chunk id b ∷ items)

named_chunks : {A : Type 0} (id : ℕ) (write : A → List ℕ) (values : List A) {rest : List Item} → id < 2 ^ 32 → Chunks rest → Chunks (named id write values ++ rest)
named_chunks id write [] h r = r
named_chunks id write (a ∷ values) h r = next h (named_chunks id write values h r)

text_name_fits : (k : ℕ) → k ≤ 5 → text_name k < 2 ^ 32
text_name_fits k h = ltb→lt (text_name k) (2 ^ 32) (below (λ (k : ℕ). ltb (text_name k) (2 ^ 32)) 6 tt k (omega arith))

text_chunks : (ts : List Text) {rest : List Item} → All TextAllowed ts → Chunks rest → Chunks (map text_item ts ++ rest)
text_chunks [] a r = r
text_chunks (t ∷ ts) a r = next (text_name_fits t.key a.0.key_to) (text_chunks ts a.1 r)

pub items_chunks : (v : Voice) (samples : List ℕ) → Allowed v → Chunks (voice_items v samples)
items_chunks v samples a =
    named_chunks vhdr header_bytes (v.header ∷ []) (omega arith)
    (named_chunks chan channel_payload (listed v.channel) (omega arith)
    (named_chunks pan pan_bytes (listed v.pan) (omega arith)
    (named_chunks atak (each point_bytes) v.attacks (omega arith)
    (named_chunks rlse (each point_bytes) v.releases (omega arith)
    (named_chunks seqn (each segment_bytes) (listed v.sequence) (omega arith)
    (named_chunks fade fade_bytes (listed v.fade) (omega arith)
    (text_chunks v.texts a.texts
    (next (omega arith) end))))))))
