-- How long the parts of a sheet are, against the FORM: each chunk's records are no longer than a few times the chunk.
-- Assumes nothing.
use Prim.Native.Nat.{ℕ, ◌+◌, ◌*◌, ◌≤◌, zero-le}
use lib.Dec.{eqb, lit<}
use lib.ListN.{length, take, length-append, length-take}
use mathlib.Core.Bool.{Bool, true, false, cond}
use mathlib.Core.List.{List, [], ◌∷◌, map}
use mathlib.Core.Path.{◌≡◌, refl, ap}
use native.Mathlib.Nat.{le_trans}
use native.Mathlib.Omega.{arith}
use Rattle.laws.specs.Walk.{each}
use Rattle.field.specs.BigEndian.{big_endian}
use Rattle.small_chunks.specs.Channel.{channel_of, channel_value_of}
use Rattle.small_chunks.specs.Envelope.{point_of, point_bytes, envelope_points}
use Rattle.small_chunks.specs.Sequence.{segment_of, segment_bytes, sequence_segments}
use Rattle.small_chunks.specs.declared.channel.ChannelAssignment.{ChannelAssignment}
use Rattle.small_chunks.proofs.FieldLaws.{point_length, segment_length_lem}
use Rattle.chunk.specs.Chunk.{Item, chunk, bad, items_from}
use Rattle.chunk.proofs.ChunkLaws.{items_bound}
use Rattle.form.specs.Find.{all_of, first_of}
use Rattle.form.specs.Names.{chan, seqn}
use Rattle.text.specs.Text.{clean}
use Rattle.sheet.specs.Flat.{if_there, flat_envelope, flat_sequence, flat_text}
use Rattle.sheet.specs.Read.{map_option, known_channel}
use Rattle.sheet_read.specs.FormVoice.{chunk_channel, text_key, text_of}
use Rattle.sheet_read.specs.Parts.{record_part, channel_part, envelope_part, segments_part, text_part}
use Rattle.sheet_read.proofs.CutLaws.{parts_bound}
use Rattle.sheet_read.proofs.TextLaws.{text_length, texts_none, texts_bad, texts_more}
use Rattle.refusal.specs.declared.Refusal.{Refusal}
use Rattle.std.specs.Prelude.{None, Option, Some}

-- F takes no more from the items than g from each, and nothing from the first bad one on
module _ (F : List Item → List ℕ) (g : Item → List ℕ) (nil : F [] ≡ []) (bads : (refusal : Refusal) (items : List Item) → F (bad refusal ∷ items) ≡ [])
    (more : (i : ℕ) (b : List ℕ) (items : List Item) → length (F (chunk i b ∷ items)) ≤ length (g (chunk i b)) + length (F items)) where
  within : (items : List Item) → length (F items) ≤ length (each g items)
  within [] = rw nil (omega arith)
  within (bad refusal ∷ items) = rw (bads refusal items) zero-le
  within (chunk i b ∷ items) = omega (arith, more i b items, within items, length-append (g (chunk i b)) (each g items))

  form_bound : (c : ℕ) → ((i : ℕ) (b : List ℕ) → length (g (chunk i b)) ≤ c * (8 + length b)) → ((refusal : Refusal) → g (bad refusal) ≡ [])
      → (f : List ℕ) → length (F (items_from f 12)) ≤ c * length f
  form_bound c one nothing f = le_trans (within (items_from f 12)) (items_bound g c one nothing f 12)

-- ---- the chunks of a name

-- what becomes of a value that may be missing, in one step or in two
there_map : {A B : Type 0} (w : B → List ℕ) (r : A → B) (o : Option A) → if_there w (map_option r o) ≡ if_there (λ a. w (r a)) o
there_map w r None = refl
there_map w r (Some a) = refl

-- what h makes of the payload of a chunk of a name
abbrev of_name : ℕ → (List ℕ → List ℕ) → Item → List ℕ
of_name id h (chunk i b) = cond (eqb i id) (h b) []
of_name id h (bad refusal) = []

module _ (id : ℕ) (h : List ℕ → List ℕ) (c : ℕ) (one : (b : List ℕ) → length (h b) ≤ c * (8 + length b)) where
  name_bound : (i : ℕ) (b : List ℕ) → length (of_name id h (chunk i b)) ≤ c * (8 + length b)
  name_bound i b = go (eqb i id)
    where
      go : (t : Bool) → length (cond t (h b) []) ≤ c * (8 + length b)
      go true = one b
      go false = zero-le

  first_bound : (f : List ℕ) → length (if_there h (first_of id (items_from f 12))) ≤ c * length f
  unfolding first_of
  first_bound = form_bound (λ items. if_there h (first_of id items)) (of_name id h) refl (λ refusal items. refl) more c name_bound (λ refusal. refl)
    where
      more : (i : ℕ) (b : List ℕ) (items : List Item) → length (if_there h (first_of id (chunk i b ∷ items))) ≤ length (of_name id h (chunk i b)) + length (if_there h (first_of id items))
      more i b items = go (eqb i id)
        where
          go : (t : Bool) → length (if_there h (cond t (Some b) (first_of id items))) ≤ length (cond t (h b) []) + length (if_there h (first_of id items))
          go true = omega arith
          go false = omega arith

all_bound : {A : Type 0} (id : ℕ) (w : A → List ℕ) (r : List ℕ → A) (c : ℕ) → ((b : List ℕ) → length (w (r b)) ≤ c * (8 + length b))
    → (f : List ℕ) → length (each w (map r (all_of id (items_from f 12)))) ≤ c * length f
unfolding all_of
all_bound id w r c one = form_bound (λ items. each w (map r (all_of id items))) (of_name id (λ b. w (r b))) refl (λ refusal items. refl) more c (name_bound id (λ b. w (r b)) c one) (λ refusal. refl)
  where
    more : (i : ℕ) (b : List ℕ) (items : List Item) → length (each w (map r (all_of id (chunk i b ∷ items)))) ≤ length (of_name id (λ b. w (r b)) (chunk i b)) + length (each w (map r (all_of id items)))
    more i b items = go (eqb i id)
      where
        go : (t : Bool) → length (each w (map r (cond t (b ∷ all_of id items) (all_of id items)))) ≤ length (cond t (w (r b)) []) + length (each w (map r (all_of id items)))
        go true = omega (arith, length-append (w (r b)) (each w (map r (all_of id items))))
        go false = omega arith

-- ---- the parts

pub record_bound : (id kind n : ℕ) (f : List ℕ) → length (record_part id kind n (items_from f 12)) ≤ 1 * length f
record_bound id kind n = first_bound id (λ b. kind ∷ take n b) 1 (λ b. omega (arith, length-take n b))

abbrev flat_channel : ChannelAssignment → List ℕ
flat_channel c = 2 ∷ channel_value_of c ∷ []

pub channel_bound : (f : List ℕ) → length (channel_part (items_from f 12)) ≤ 1 * length f
channel_bound f =
    rw (same (first_of chan (items_from f 12)))
    (first_bound chan (λ b. if_there flat_channel (known_channel (channel_of (big_endian 4 b)))) 1 (λ b. omega (arith, two (known_channel (channel_of (big_endian 4 b))))) f)
  where
    same : (o : Option (List ℕ)) → if_there flat_channel (chunk_channel o) ≡ if_there (λ b. if_there flat_channel (known_channel (channel_of (big_endian 4 b)))) o
    same None = refl
    same (Some b) = refl

    two : (o : Option ChannelAssignment) → length (if_there flat_channel o) ≤ 2
    two None = omega arith
    two (Some c) = omega arith

pub envelope_bound : (id kind : ℕ) (f : List ℕ) → length (envelope_part id kind (items_from f 12)) ≤ 2 * length f
envelope_bound id kind = all_bound id (flat_envelope kind) envelope_points 2 (λ b. omega (arith, parts_bound 6 6 (lit< tt) point_of point_bytes point_length b))

pub sequence_bound : (f : List ℕ) → length (segments_part (items_from f 12)) ≤ 2 * length f
sequence_bound f =
    rw (there_map flat_sequence sequence_segments (first_of seqn (items_from f 12)))
    (first_bound seqn (λ b. flat_sequence (sequence_segments b)) 2 (λ b. omega (arith, parts_bound 8 8 (lit< tt) segment_of segment_bytes segment_length_lem b)) f)

pub texts_bound : (f : List ℕ) → length (text_part (items_from f 12)) ≤ 6 * length f
texts_bound = form_bound text_part texts_in texts_none texts_bad more 6 (λ i b. text_length (text_key i) b) (λ refusal. refl)
  where
    texts_in : Item → List ℕ
    texts_in (chunk i b) = each flat_text (text_of (text_key i) (clean b))
    texts_in (bad refusal) = []

    more : (i : ℕ) (b : List ℕ) (items : List Item) → length (text_part (chunk i b ∷ items)) ≤ length (texts_in (chunk i b)) + length (text_part items)
    more i b items = omega (arith, ap length (texts_more i b items), length-append (texts_in (chunk i b)) (text_part items))
