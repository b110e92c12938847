-- A voice's chunks and its flat form are of about one length, part by part.
--     chunks_bound     the chunks are eight times as long as the flat form, at most
--     flat_bound       the flat form is twice as long as the chunks, at most
-- Assumes nothing.
use Prim.Native.Nat.{ℕ, ◌+◌, ◌*◌, ◌≤◌, zero-le}
use lib.ListN.{length, length-append}
use mathlib.Core.List.{List, [], ◌∷◌, ◌++◌}
use mathlib.Core.Path.{◌≡◌, ap}
use native.Mathlib.Nat.{mul-add}
use native.Mathlib.Omega.{arith}
use Rattle.chunk.proofs.WriteLaws.{chunk_length_lem}
use Rattle.chunk.specs.ChunkBytes.{chunk_bytes}
use Rattle.field.proofs.BigEndianLaws.{bytes_length}
use Rattle.field.specs.BigEndian.{big_endian_bytes, Bytes}
use Rattle.form.specs.Names.{vhdr, chan, pan, atak, rlse, seqn, fade}
use Rattle.sheet_grammar.proofs.Theorem.{flat_read}
use Rattle.header.specs.Header.{header_bytes}
use Rattle.laws.specs.Walk.{each}
use Rattle.sheet.specs.Flat.{if_there, flat_text, flat}
use Rattle.sheet.specs.Judge.{judged}
use Rattle.sheet.specs.Read.{read_sheet}
use Rattle.sheet.specs.Voice.{Text, Voice}
use Rattle.small_chunks.proofs.FieldLaws.{point_length, segment_length_lem}
use Rattle.small_chunks.specs.Channel.{channel_value_of}
use Rattle.small_chunks.specs.Envelope.{point_bytes}
use Rattle.small_chunks.specs.Pan.{pan_bytes}
use Rattle.small_chunks.specs.Sequence.{segment_bytes, fade_bytes}
use Rattle.small_chunks.specs.declared.channel.ChannelAssignment.{ChannelAssignment}
use Rattle.small_chunks.specs.declared.points.EgPoint.{EgPoint}
use Rattle.small_chunks.specs.declared.sequence.SeqnSegment.{SeqnSegment}
use Rattle.sheet_write.proofs.GroupChunks.{each_byte}
use Rattle.sheet_write.specs.VoiceChunks.{text_name, text_chunk, voice_chunks}
use Rattle.std.specs.Prelude.{None, Ok, Option, Some}

-- c times as long, at most
record Within (c : ℕ) (xs ys : List ℕ) : Type 0 where
  is : length xs ≤ c * length ys

module _ (c : ℕ) where
  within_append : {xs xs' ys ys' : List ℕ} → Within c xs ys → Within c xs' ys' → Within c (xs ++ xs') (ys ++ ys')
  within_append {xs} {xs'} {ys} {ys'} p q = record { is = rw (length-append xs xs', length-append ys ys', mul-add c (length ys) (length ys')) (omega (arith, p.is, q.is)) }

  module _ {A : Type 0} {f g : A → List ℕ} (h : (a : A) → Within c (f a) (g a)) where
    within_each : (l : List A) → Within c (each f l) (each g l)
    within_each [] = record { is = zero-le }
    within_each (a ∷ l) = within_append (h a) (within_each l)

    within_option : (o : Option A) → Within c (if_there f o) (if_there g o)
    within_option None = record { is = zero-le }
    within_option (Some a) = h a

  -- the eight parts of a voice
  within_parts : {a b d e f g h i a' b' d' e' f' g' h' i' : List ℕ}
      → Within c a a' → Within c b b' → Within c d d' → Within c e e' → Within c f f' → Within c g g' → Within c h h' → Within c i i'
      → Within c (a ++ b ++ d ++ e ++ f ++ g ++ h ++ i) (a' ++ b' ++ d' ++ e' ++ f' ++ g' ++ h' ++ i')
  within_parts p q r s t u v w = within_append (within_append (within_append (within_append (within_append (within_append (within_append p q) r) s) t) u) v) w

-- ---- one chunk and the flat form of its part

module _ (id k : ℕ) (b f : List ℕ) where
  chunk_within : length b ≤ length f → Within 8 (chunk_bytes id b) (k ∷ f)
  chunk_within h = record { is = omega (arith, chunk_length_lem id b) }

  flat_within : length f ≤ 2 * length b + 15 → Within 2 (k ∷ f) (chunk_bytes id b)
  flat_within h = record { is = omega (arith, chunk_length_lem id b) }

-- a payload that stands on the sheet as it is
module _ (id k : ℕ) (b : List ℕ) where
  body_within : Within 8 (chunk_bytes id b) (k ∷ b)
  body_within = chunk_within id k b b (omega arith)

  body_flat_within : Within 2 (k ∷ b) (chunk_bytes id b)
  body_flat_within = flat_within id k b b (omega arith)

-- members: a tag before each makes it twice as long, at most
module _ {A : Type 0} (m : ℕ) (w : A → List ℕ) where
  untagged : (l : List A) → length (each w l) ≤ length (each (λ a. m ∷ w a) l)
  untagged l = omega (arith, (within_each 1 {f = w} {g = λ a. m ∷ w a} (λ a. record { is = omega arith }) l).is)

  tagged : ((a : A) → 1 ≤ length (w a)) → (l : List A) → length (each (λ a. m ∷ w a) l) ≤ 2 * length (each w l)
  tagged h l = (within_each 2 {f = λ a. m ∷ w a} {g = w} (λ a. record { is = omega (arith, h a) }) l).is

  module _ (id k : ℕ) where
    members_within : (l : List A) → Within 8 (chunk_bytes id (each w l)) (k ∷ each (λ a. m ∷ w a) l)
    members_within l = chunk_within id k (each w l) (each (λ a. m ∷ w a) l) (untagged l)

    members_flat_within : ((a : A) → 1 ≤ length (w a)) → (l : List A) → Within 2 (k ∷ each (λ a. m ∷ w a) l) (chunk_bytes id (each w l))
    members_flat_within h l = flat_within id k (each w l) (each (λ a. m ∷ w a) l) (omega (arith, tagged h l))

-- ---- all

text_length : (t : Text) → length (t.bytes ++ 0 ∷ []) ≡ length (each (λ b. b ∷ []) t.bytes) + 1
text_length t = rw (each_byte t.bytes) (length-append t.bytes (0 ∷ []))

pub chunks_bound : (v : Voice) → length (voice_chunks v) ≤ 8 * length (flat v)
unfolding voice_chunks flat
chunks_bound v =
    (within_parts 8
    (body_within vhdr 1 (header_bytes v.header))
    (within_option 8 channel v.channel)
    (within_option 8 (λ p. body_within pan 3 (pan_bytes p)) v.pan)
    (within_each 8 (members_within 6 point_bytes atak 4) v.attacks)
    (within_each 8 (members_within 6 point_bytes rlse 5) v.releases)
    (within_option 8 (members_within 8 segment_bytes seqn 7) v.sequence)
    (within_option 8 (λ f. body_within fade 9 (fade_bytes f)) v.fade)
    (within_each 8 text v.texts)
    ).is
  where
    channel : (c : ChannelAssignment) → Within 8 (chunk_bytes chan (big_endian_bytes 4 (channel_value_of c))) (2 ∷ channel_value_of c ∷ [])
    channel c = let b = big_endian_bytes 4 (channel_value_of c) in record { is = omega (arith, chunk_length_lem chan b, bytes_length 4 (channel_value_of c)) }

    text : (t : Text) → Within 8 (text_chunk t) (flat_text t)
    text t =
        chunk_within (text_name t.key) 10 (t.bytes ++ 0 ∷ []) (t.key ∷ each (λ b. 11 ∷ b ∷ []) t.bytes)
        (omega (arith, text_length t, untagged 11 (λ (b : ℕ). b ∷ []) t.bytes))

pub flat_bound : (v : Voice) → length (flat v) ≤ 2 * length (voice_chunks v)
unfolding voice_chunks flat
flat_bound v =
    (within_parts 2
    (body_flat_within vhdr 1 (header_bytes v.header))
    (within_option 2 (λ c. flat_within chan 2 (big_endian_bytes 4 (channel_value_of c)) (channel_value_of c ∷ []) (omega arith)) v.channel)
    (within_option 2 (λ p. body_flat_within pan 3 (pan_bytes p)) v.pan)
    (within_each 2 (members_flat_within 6 point_bytes atak 4 point_some) v.attacks)
    (within_each 2 (members_flat_within 6 point_bytes rlse 5 point_some) v.releases)
    (within_option 2 (members_flat_within 8 segment_bytes seqn 7 segment_some) v.sequence)
    (within_option 2 (λ f. body_flat_within fade 9 (fade_bytes f)) v.fade)
    (within_each 2 text v.texts)
    ).is
  where
    point_some : (p : EgPoint) → 1 ≤ length (point_bytes p)
    point_some p = omega (arith, point_length p)

    segment_some : (s : SeqnSegment) → 1 ≤ length (segment_bytes s)
    segment_some s = omega (arith, segment_length_lem s)

    text : (t : Text) → Within 2 (flat_text t) (text_chunk t)
    text t =
        flat_within (text_name t.key) 10 (t.bytes ++ 0 ∷ []) (t.key ∷ each (λ b. 11 ∷ b ∷ []) t.bytes)
        (omega (arith, text_length t, tagged 11 (λ (b : ℕ). b ∷ []) (λ b. omega arith) t.bytes))

-- of a sound sheet
pub sheet_bound : (s : List ℕ) → Bytes s → judged s ≡ Ok tt → length (voice_chunks (read_sheet s)) ≤ 8 * length s
sheet_bound s b j = omega (arith, chunks_bound (read_sheet s), ap length (flat_read s b j))
