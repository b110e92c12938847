-- A file that was written is walked as the chunks that it was written from.
--     file_read      reading the file of chunks is reading those chunks
-- Assumes nothing.
use Prim.Native.Nat.{ℕ, ◌+◌, ◌^◌, ◌<◌}
use mathlib.Core.List.{List, [], ◌++◌, append-nil}
use mathlib.Core.Path.{◌≡◌, refl, sym, ap, ◌∙◌}
use native.Mathlib.Omega.{arith}
use borrow.Author.Tests.{le-ltb}
use lib.ListN.{length, drop, length-append}
use lib.Seq.{take-length, drop-drop, drop_at}
use Rattle.laws.specs.Walk.{walk, each}
use Rattle.field.specs.BigEndian.{big_endian, big_endian_bytes}
use Rattle.field.proofs.BigEndianLaws.{bytes_length, number_back}
use Rattle.small_chunks.proofs.FieldLaws.{two_drop, two_first}
use Rattle.chunk.specs.Chunk.{Item, items_of, items_from}
use Rattle.chunk.specs.ChunkBytes.{chunk_bytes}
use Rattle.chunk.proofs.ChunkLaws.{end_file}
use Rattle.chunk.proofs.WriteLaws.{chunk_padded, chunk_length_lem}
use Rattle.chunk.proofs.RunLaws.{Run, empty, then, run_items}
use Rattle.form.specs.Names.{form, form_type}
use Rattle.voice_read.specs.ReadVoice.{read_items, form_of, head_refusal, read_voice}
use Rattle.voice_write.specs.WriteVoice.{file_of}
use Rattle.voice_round_trip.proofs.Items.{item_bytes, Chunks, end, next}
use Rattle.std.specs.Prelude.{Ok}

-- ---- a FORM around chunks

-- what a FORM 8SVX holds
abbrev pub held_of : List ℕ → List ℕ
held_of chunks = big_endian_bytes 4 form_type ++ chunks

module _ (chunks : List ℕ) (small : length (held_of chunks) < 2 ^ 32) where
  abbrev file : List ℕ
  file = file_of (held_of chunks)

  at_4 : drop 4 file ≡ big_endian_bytes 4 (length (held_of chunks)) ++ held_of chunks
  unfolding file_of
  at_4 = two_drop 4 form (big_endian_bytes 4 (length (held_of chunks))) (held_of chunks)

  at_8 : drop 8 file ≡ held_of chunks
  at_8 = sym (drop-drop 4 4 file) ∙ ap (drop 4) at_4 ∙ drop_at (big_endian_bytes 4 (length (held_of chunks))) (held_of chunks) 4 (bytes_length 4 (length (held_of chunks)))

  at_12 : drop 12 file ≡ chunks
  at_12 = sym (drop-drop 4 8 file) ∙ ap (drop 4) at_8 ∙ drop_at (big_endian_bytes 4 form_type) chunks 4 (bytes_length 4 form_type)

  file_length : length file ≡ 12 + length chunks
  unfolding file_of
  file_length = simp (length-append, bytes_length) (omega arith)

  form_whole : form_of file ≡ file
  form_whole =
      let size : big_endian 4 (drop 4 file) ≡ length (held_of chunks) = rw at_4 (number_back 4 (length (held_of chunks)) (held_of chunks) small) in
      let long : length (held_of chunks) ≡ 4 + length chunks = simp (length-append, bytes_length) in
      rw (end_file file (omega (arith, file_length))) (take-length file)

  head_right : head_refusal file ≡ Ok tt
  unfolding head_refusal file_of
  head_right =
      rw (
        le-ltb (length file) 12 (omega (arith, file_length)),
        two_first 4 form (big_endian_bytes 4 (length (held_of chunks))) (held_of chunks) (omega arith),
        at_8,
        number_back 4 form_type chunks (omega arith),
      )

  form_items : items_from (form_of file) 12 ≡ items_of chunks
  unfolding items_from
  form_items = rw (form_whole, at_12)

-- ---- the chunks

no_items : items_of [] ≡ []
unfolding items_of walk
no_items = refl

chunks_run : {items : List Item} → Chunks items → length (each item_bytes items) < 2 ^ 32 → Run (each item_bytes items) items
chunks_run end h = empty
chunks_run (next {id} {b} {items} f r) h =
    let sum = length-append (chunk_bytes id b) (each item_bytes items) in
    then (chunk_padded id b f (omega (arith, sum, chunk_length_lem id b))) (chunks_run r (omega (arith, sum)))

items_back : {items : List Item} → Chunks items → length (each item_bytes items) < 2 ^ 32 → items_of (each item_bytes items) ≡ items
items_back {items} r h =
    ap items_of (sym (append-nil (each item_bytes items))) ∙ run_items (chunks_run r h) [] ∙ ap (λ (l : List Item). items ++ l) no_items ∙ append-nil items

pub file_read : {items : List Item} → Chunks items → length (held_of (each item_bytes items)) < 2 ^ 32 → read_voice (file_of (held_of (each item_bytes items))) ≡ read_items items
unfolding read_voice
file_read {items} r small =
    let chunks = each item_bytes items in
    let fits : length chunks < 2 ^ 32 = omega (arith, length-append (big_endian_bytes 4 form_type) chunks) in
    rw (head_right chunks small, form_items chunks small, items_back r fits)
