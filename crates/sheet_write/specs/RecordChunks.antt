-- What the code's helpers ask and give; no reader of the meanings needs it. The chunks that a sheet's records open, record by record:
-- a record of kind 6, 8 or 11 belongs to the one that opened its group.
use Rattle.std.specs.Prelude.{ℕ, eqb, get_or, cond, List, [], ◌∷◌, ◌++◌}
use Rattle.laws.specs.Walk.{each}
use Rattle.chunk.specs.ChunkBytes.{chunk_bytes}
use Rattle.form.specs.Names.{vhdr, chan, pan, atak, rlse, seqn, fade}
use Rattle.sheet.specs.Record.{RecordItem, entry, bad}
use Rattle.sheet.specs.Read.{leading}
use Rattle.sheet_write.specs.VoiceChunks.{text_name}

-- the members' bodies, joined
abbrev pub members_after : ℕ → List RecordItem → List ℕ
members_after member items = each (λ b. b) (leading member items)

-- the chunk that a record opens, given its body and the records after it
unfoldable pub record_chunk : ℕ → List ℕ → List RecordItem → List ℕ
record_chunk kind body items =
    cond (eqb kind 1) (chunk_bytes vhdr body)
    (cond (eqb kind 2) (chunk_bytes chan (0 ∷ 0 ∷ 0 ∷ body))
    (cond (eqb kind 3) (chunk_bytes pan body)
    (cond (eqb kind 4) (chunk_bytes atak (members_after 6 items))
    (cond (eqb kind 5) (chunk_bytes rlse (members_after 6 items))
    (cond (eqb kind 7) (chunk_bytes seqn (members_after 8 items))
    (cond (eqb kind 9) (chunk_bytes fade body)
    (cond (eqb kind 10) (chunk_bytes (text_name (get_or body 0 0)) (members_after 11 items ++ 0 ∷ []))
    [])))))))

-- all of them
unfoldable pub record_chunks : List RecordItem → List ℕ
record_chunks [] = []
record_chunks (bad refusal ∷ items) = []
record_chunks (entry kind body ∷ items) = record_chunk kind body items ++ record_chunks items
