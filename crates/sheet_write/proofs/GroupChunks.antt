-- The chunk of each part of a voice, from the group that it is written as.
-- Assumes nothing.
use Prim.Native.Nat.{ℕ, zero, suc, ◌<◌}
use mathlib.Core.List.{List, [], ◌∷◌, ◌++◌, map}
use mathlib.Core.Path.{◌≡◌, refl, sym, ap, ◌∙◌}
use native.Mathlib.Omega.{arith}
use Rattle.chunk.specs.ChunkBytes.{chunk_bytes}
use Rattle.field.proofs.BigEndianLaws.{number16_at, number32_halves, number_bytes}
use Rattle.field.specs.BigEndian.{big_endian, big_endian_bytes, Bytes}
use Rattle.form.specs.Names.{chan}
use Rattle.sheet_grammar.proofs.FormLaws.{alone, gathered}
use Rattle.sheet_grammar.proofs.KindLaws.{member}
use Rattle.sheet_grammar.proofs.ListLaws.{each_map}
use Rattle.sheet_grammar.proofs.VoiceForms.{text_group}
use Rattle.laws.specs.Walk.{each}
use Rattle.sheet.specs.Record.{RecordItem, entry}
use Rattle.sheet.specs.Voice.{Text}
use Rattle.small_chunks.specs.Channel.{channel_value_of}
use Rattle.small_chunks.specs.declared.channel.ChannelAssignment.{ChannelAssignment}
use Rattle.small_chunks.specs.declared.channel.ChannelAssignment.TheVariants.{Left, Right, Stereo}
use Rattle.sheet_write.proofs.RecordChunkLaws.{channel_chunk, text_chunk_lem}
use Rattle.sheet_write.proofs.SectionChunks.{group_chunk, leading_all}
use Rattle.sheet_write.specs.RecordChunks.{members_after, record_chunk}
use Rattle.sheet_write.specs.VoiceChunks.{text_name, text_chunk}

-- ---- a channel: its byte is the lowest of four

module _ (v : ℕ) (h : v < 256) where
  low_bytes : Bytes (0 ∷ 0 ∷ 0 ∷ v ∷ [])
  low_bytes zero = omega arith
  low_bytes (suc zero) = omega arith
  low_bytes (suc (suc zero)) = omega arith
  low_bytes (suc (suc (suc zero))) = h
  low_bytes (suc (suc (suc (suc i)))) = omega arith

  low_number : big_endian 4 (0 ∷ 0 ∷ 0 ∷ v ∷ []) ≡ v
  low_number = let l : List ℕ = 0 ∷ 0 ∷ 0 ∷ v ∷ [] in rw (number32_halves l, number16_at l 0, number16_at l 2) (omega arith)

  low_byte : 0 ∷ 0 ∷ 0 ∷ v ∷ [] ≡ big_endian_bytes 4 v
  low_byte = sym (number_bytes 4 (0 ∷ 0 ∷ 0 ∷ v ∷ []) low_bytes (omega arith)) ∙ ap (big_endian_bytes 4) low_number

channel_small : (c : ChannelAssignment) → channel_value_of c < 256
channel_small Left = omega arith
channel_small Right = omega arith
channel_small Stereo = omega arith

pub channel_group : (c : ChannelAssignment) → group_chunk 2 (alone (channel_value_of c ∷ [])) ≡ chunk_bytes chan (big_endian_bytes 4 (channel_value_of c))
channel_group c = channel_chunk (channel_value_of c ∷ []) [] ∙ ap (chunk_bytes chan) (low_byte (channel_value_of c) (channel_small c))

-- ---- members

-- their bodies joined, where each is what an element becomes
joined : {A : Type 0} (m : ℕ) (w : A → List ℕ) (l : List A) → members_after m (map (entry m) (map w l)) ≡ each w l
joined m w l = ap (each (λ b. b)) (leading_all m (map w l)) ∙ each_map w (λ b. b) w (λ a. refl) l

-- a kind whose chunk is its members
pub gathered_group : {A : Type 0} (k id : ℕ) (w : A → List ℕ) → ((body : List ℕ) (items : List RecordItem) → record_chunk k body items ≡ chunk_bytes id (members_after (member k) items))
    → (l : List A) → group_chunk k (gathered (map w l)) ≡ chunk_bytes id (each w l)
gathered_group k id w h l = h [] (map (entry (member k)) (map w l)) ∙ ap (chunk_bytes id) (joined (member k) w l)

-- ---- a text

pub each_byte : (l : List ℕ) → each (λ b. b ∷ []) l ≡ l
each_byte [] = refl
each_byte (b ∷ l) = ap (λ (x : List ℕ). b ∷ x) (each_byte l)

pub text_group_lem : (t : Text) → group_chunk 10 (text_group t) ≡ text_chunk t
text_group_lem t =
    text_chunk_lem (t.key ∷ []) (map (entry 11) (map (λ b. b ∷ []) t.bytes))
    ∙ ap (λ (l : List ℕ). chunk_bytes (text_name t.key) (l ++ 0 ∷ [])) (joined 11 (λ b. b ∷ []) t.bytes ∙ each_byte t.bytes)
