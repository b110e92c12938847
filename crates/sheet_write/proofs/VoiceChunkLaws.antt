-- The chunks of a sheet's records are those of the voice that it says.
--     chunks_voice     of a sound sheet
-- Assumes nothing.
use Prim.Native.Nat.{ℕ}
use mathlib.Core.List.{List, [], ◌∷◌, map, append_assoc, append-nil}
use mathlib.Core.Path.{◌≡◌, sym, ap, ◌∙◌}
use Rattle.chunk.specs.ChunkBytes.{chunk_bytes}
use Rattle.field.specs.BigEndian.{big_endian_bytes, Bytes}
use Rattle.form.specs.Names.{chan, pan, atak, rlse, seqn, fade}
use Rattle.sheet_grammar.proofs.FlatLaws.{items_of, flat_records}
use Rattle.sheet_grammar.proofs.FormLaws.{alone, gathered}
use Rattle.sheet_grammar.proofs.ListLaws.{each_map}
use Rattle.sheet_grammar.proofs.Theorem.{flat_read, allowed_read}
use Rattle.sheet_grammar.proofs.VoiceForms.{text_group}
use Rattle.sheet_grammar.proofs.VoiceLaws.{groups_of, each_listed}
use Rattle.header.specs.Header.{header_bytes}
use Rattle.laws.specs.Walk.{each}
use Rattle.sheet.specs.Judge.{judged}
use Rattle.sheet.specs.Read.{read_sheet}
use Rattle.sheet.specs.Record.{records}
use Rattle.sheet.specs.Voice.{Voice}
use Rattle.small_chunks.specs.Channel.{channel_value_of}
use Rattle.small_chunks.specs.Envelope.{point_bytes}
use Rattle.small_chunks.specs.Pan.{pan_bytes}
use Rattle.small_chunks.specs.Sequence.{segment_bytes, fade_bytes}
use Rattle.sheet_write.proofs.GroupChunks.{channel_group, gathered_group, text_group_lem}
use Rattle.sheet_write.proofs.RecordChunkLaws.{header_chunk, pan_chunk, attack_chunk, release_chunk, sequence_chunk, fade_chunk}
use Rattle.sheet_write.proofs.SectionChunks.{group_chunk, sections_chunks}
use Rattle.sheet_write.specs.RecordChunks.{record_chunks}
use Rattle.sheet_write.specs.VoiceChunks.{text_chunk, voice_chunks}
use Rattle.std.specs.Prelude.{Ok}

items_chunks : (v : Voice) → record_chunks (items_of v) ≡ voice_chunks v
unfolding voice_chunks
items_chunks v =
    sections_chunks (groups_of v)
    ∙ rw (
      header_chunk (header_bytes v.header) [],
      each_listed (λ c. alone (channel_value_of c ∷ [])) (group_chunk 2) (λ c. chunk_bytes chan (big_endian_bytes 4 (channel_value_of c))) channel_group v.channel,
      each_listed (λ p. alone (pan_bytes p)) (group_chunk 3) (λ p. chunk_bytes pan (pan_bytes p)) (λ p. pan_chunk (pan_bytes p) []) v.pan,
      each_map (λ l. gathered (map point_bytes l)) (group_chunk 4) (λ l. chunk_bytes atak (each point_bytes l)) (gathered_group 4 atak point_bytes attack_chunk) v.attacks,
      each_map (λ l. gathered (map point_bytes l)) (group_chunk 5) (λ l. chunk_bytes rlse (each point_bytes l)) (gathered_group 5 rlse point_bytes release_chunk) v.releases,
      each_listed (λ l. gathered (map segment_bytes l)) (group_chunk 7) (λ l. chunk_bytes seqn (each segment_bytes l)) (gathered_group 7 seqn segment_bytes sequence_chunk) v.sequence,
      each_listed (λ f. alone (fade_bytes f)) (group_chunk 9) (λ f. chunk_bytes fade (fade_bytes f)) (λ f. fade_chunk (fade_bytes f) []) v.fade,
      each_map text_group (group_chunk 10) text_chunk text_group_lem v.texts,
    ) (simp (append_assoc, append-nil))

pub chunks_voice : (s : List ℕ) → Bytes s → judged s ≡ Ok tt → record_chunks (records s) ≡ voice_chunks (read_sheet s)
chunks_voice s b j =
    ap (λ (l : List ℕ). record_chunks (records l)) (sym (flat_read s b j))
    ∙ ap record_chunks (flat_records (read_sheet s) (allowed_read s b j))
    ∙ items_chunks (read_sheet s)
