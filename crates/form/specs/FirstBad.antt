-- The first bad chunk of a FORM's items.
use Rattle.std.specs.Prelude.{ℕ, eqb, length, get_or, set, replicate, Bool, false, cond, not, ◌&&◌, List, [], ◌∷◌, Err, ⊤}
use Rattle.refusal.specs.Outcome.{Outcome, accepted, if_accepted}
use Rattle.field.specs.BigEndian.{big_endian}
use Rattle.small_chunks.specs.Channel.{is_channel}
use Rattle.chunk.specs.Chunk.{Item, chunk, bad}
use Rattle.form.specs.Kind.{kind_of, length_wrong, single}
use Rattle.refusal.specs.declared.Refusal.TheVariants.{ChunkTwice, ChunkLength, ChannelValue}

-- a CHAN whose value stands for no assignment
unfoldable pub channel_wrong : ℕ → List ℕ → Bool
channel_wrong kind b = eqb kind 2 && not (is_channel (big_endian 4 b))

-- the lowest refusal that applies to a chunk: 5 where one of its kind came before, 6, 7
unfoldable pub chunk_wrong : Bool → ℕ → List ℕ → Outcome ⊤
chunk_wrong came kind b = cond came (Err ChunkTwice) (cond (length_wrong kind (length b)) (Err ChunkLength) (cond (channel_wrong kind b) (Err ChannelValue) accepted))

-- by kind: that one came, of those that come but once
abbrev pub none_came : List Bool
none_came = replicate 9 false

-- the refusal of the first bad chunk from here on, after those that came
unfoldable pub bad_from : List Bool → List Item → Outcome ⊤
bad_from came [] = accepted
bad_from came (bad refusal ∷ items) = Err refusal
bad_from came (chunk id b ∷ items) =
    if_accepted (chunk_wrong (get_or came (kind_of id) false) (kind_of id) b) (bad_from (set came (kind_of id) (get_or single (kind_of id) false)) items)

-- the refusal of the first bad chunk
abbrev pub first_bad : List Item → Outcome ⊤
first_bad items = bad_from none_came items
