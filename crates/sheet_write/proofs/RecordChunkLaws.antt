-- The chunk that a record of each kind opens, and the chunks of records from a place on. No proof elsewhere unfolds them.
-- Assumes nothing.
use Prim.Native.Nat.{ℕ, ◌-◌}
use borrow.Author.Tests.{ne_eqb}
use lib.Dec.{eqb}
use lib.ListN.{get_or, take, drop}
use mathlib.Core.Bool.{false}
use mathlib.Core.List.{List, [], ◌∷◌, ◌++◌}
use mathlib.Core.Path.{◌≡◌, refl}
use Rattle.chunk.specs.ChunkBytes.{chunk_bytes}
use Rattle.form.specs.Names.{vhdr, chan, pan, atak, rlse, seqn, fade}
use Rattle.sheet_grammar.proofs.KindLaws.{member, openers, all_parts}
use Rattle.sheet.proofs.RecordLaws.{Whole}
use Rattle.sheet.specs.Allowed.{All}
use Rattle.sheet.specs.Read.{leading}
use Rattle.sheet.specs.Record.{RecordItem, entry, records}
use Rattle.sheet_write.proofs.StopLaws.{Stopped, ended, refused}
use Rattle.sheet_write.specs.RecordChunks.{members_after, record_chunk, record_chunks}
use Rattle.sheet_write.specs.VoiceChunks.{text_name}

-- ---- one record's

module _ (body : List ℕ) (items : List RecordItem) where
  pub header_chunk : record_chunk 1 body items ≡ chunk_bytes vhdr body
  unfolding record_chunk
  header_chunk = refl

  pub channel_chunk : record_chunk 2 body items ≡ chunk_bytes chan (0 ∷ 0 ∷ 0 ∷ body)
  unfolding record_chunk
  channel_chunk = refl

  pub pan_chunk : record_chunk 3 body items ≡ chunk_bytes pan body
  unfolding record_chunk
  pan_chunk = refl

  pub attack_chunk : record_chunk 4 body items ≡ chunk_bytes atak (members_after 6 items)
  unfolding record_chunk
  attack_chunk = refl

  pub release_chunk : record_chunk 5 body items ≡ chunk_bytes rlse (members_after 6 items)
  unfolding record_chunk
  release_chunk = refl

  pub sequence_chunk : record_chunk 7 body items ≡ chunk_bytes seqn (members_after 8 items)
  unfolding record_chunk
  sequence_chunk = refl

  pub fade_chunk : record_chunk 9 body items ≡ chunk_bytes fade body
  unfolding record_chunk
  fade_chunk = refl

  pub text_chunk_lem : record_chunk 10 body items ≡ chunk_bytes (text_name (get_or body 0 0)) (members_after 11 items ++ 0 ∷ [])
  unfolding record_chunk
  text_chunk_lem = refl

-- none of these kinds
pub record Other (k : ℕ) : Type 0 where
  pub no_header : k ≡ 1 → ⊥
  pub no_channel : k ≡ 2 → ⊥
  pub no_pan : k ≡ 3 → ⊥
  pub no_attack : k ≡ 4 → ⊥
  pub no_release : k ≡ 5 → ⊥
  pub no_sequence : k ≡ 7 → ⊥
  pub no_fade : k ≡ 9 → ⊥
  pub no_text : k ≡ 10 → ⊥

pub no_chunk : (k : ℕ) (body : List ℕ) (items : List RecordItem) → Other k → record_chunk k body items ≡ []
unfolding record_chunk
no_chunk k body items o = rw (
  ne_eqb k 1 o.no_header,
  ne_eqb k 2 o.no_channel,
  ne_eqb k 3 o.no_pan,
  ne_eqb k 4 o.no_attack,
  ne_eqb k 5 o.no_release,
  ne_eqb k 7 o.no_sequence,
  ne_eqb k 9 o.no_fade,
  ne_eqb k 10 o.no_text,
)

-- ---- by groups

-- of a kind that opens groups: its chunk looks at its members alone, and they are of another kind that opens no chunk
pub record Opens (k : ℕ) : Type 0 where
  pub by_members : (body : List ℕ) (items others : List RecordItem) → leading (member k) items ≡ leading (member k) others → record_chunk k body items ≡ record_chunk k body others
  pub silent : (body : List ℕ) (items : List RecordItem) → record_chunk (member k) body items ≡ []
  pub apart : eqb k (member k) ≡ false

pub all_opens : All Opens openers
unfolding record_chunk
all_opens = all_parts Opens record {
  header = record { by_members = λ b i o e. refl; silent = λ b i. refl; apart = refl };
  channel = record { by_members = λ b i o e. refl; silent = λ b i. refl; apart = refl };
  pan = record { by_members = λ b i o e. refl; silent = λ b i. refl; apart = refl };
  attacks = record { by_members = λ b i o e. rw e; silent = λ b i. refl; apart = refl };
  releases = record { by_members = λ b i o e. rw e; silent = λ b i. refl; apart = refl };
  sequence = record { by_members = λ b i o e. rw e; silent = λ b i. refl; apart = refl };
  fade = record { by_members = λ b i o e. refl; silent = λ b i. refl; apart = refl };
  texts = record { by_members = λ b i o e. rw e; silent = λ b i. refl; apart = refl };
}

-- ---- all of them

pub chunks_entry : (k : ℕ) (body : List ℕ) (items : List RecordItem) → record_chunks (entry k body ∷ items) ≡ record_chunk k body items ++ record_chunks items
unfolding record_chunks
chunks_entry k body items = refl

pub chunks_stopped : {items : List RecordItem} → Stopped items → record_chunks items ≡ []
unfolding record_chunks
chunks_stopped ended = refl
chunks_stopped refused = refl

-- at a place
pub chunks_more : {s : List ℕ} {at k start past : ℕ} → Whole s at k start past
    → record_chunks (records (drop at s)) ≡ record_chunk k (take (past - start) (drop start s)) (records (drop past s)) ++ record_chunks (records (drop past s))
chunks_more {s} {k = k} {start} {past} w = rw w.items (chunks_entry k (take (past - start) (drop start s)) (records (drop past s)))
