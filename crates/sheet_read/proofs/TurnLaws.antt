-- One answer of the walk: the records of the chunk in hand, then those of the chunks that are left; and none where no chunk is left.
-- Assumes nothing.
use Prim.Native.Nat.{ℕ}
use lib.Dec.{lit<}
use lib.ListN.{take, drop}
use mathlib.Core.List.{List, [], ◌∷◌, ◌++◌, map}
use mathlib.Core.Path.{◌≡◌, refl, sym, ap, ◌∙◌}
use Rattle.laws.proofs.Cases.{impossible}
use Rattle.field.specs.BigEndian.{Bytes}
use Rattle.laws.specs.Walk.{each}
use Rattle.field.specs.Tagged.{tagged}
use Rattle.field.proofs.BigEndianLaws.{bytes_take, bytes_drop}
use Rattle.small_chunks.specs.Envelope.{point_of, point_bytes, envelope_points}
use Rattle.small_chunks.specs.Sequence.{segment_of, segment_bytes, sequence_segments}
use Rattle.small_chunks.proofs.FieldLaws.{point_again, segment_again}
use Rattle.chunk.specs.Chunk.{Item, chunk, bad, items_from}
use Rattle.chunk.specs.ForCode.{step_at}
use Rattle.chunk.specs.declared.Chunk.{Chunk}
use Rattle.chunk.proofs.ChunkLaws.{Whole, at_chunk}
use Rattle.chunk.proofs.StopLaws.{each_stops}
use Rattle.form.specs.Find.{all_of}
use Rattle.form.proofs.FormLaws.{all_hit, all_miss}
use Rattle.text.specs.Text.{clean}
use Rattle.sheet.specs.Flat.{flat_point, flat_envelope, flat_segment, flat_text}
use Rattle.sheet_read.specs.FormVoice.{text_key, text_of}
use Rattle.sheet_read.specs.Parts.{envelope_part, text_part}
use Rattle.sheet_read.proofs.CutLaws.{parts_tagged}
use Rattle.sheet_read.proofs.TextLaws.{texts_none, texts_bad, texts_more}
use Rattle.refusal.specs.Outcome.{Outcome}
use Rattle.refusal.specs.declared.Refusal.{Refusal}
use Rattle.refusal.proofs.OutcomeLaws.{whole_step, no_step}
use Rattle.std.specs.Prelude.{None, Option, Some}
use Rattle.std.specs.Result.{result_unwrap_or}

-- ---- groups

pub points_tagged : (b : List ℕ) → Bytes b → each flat_point (envelope_points b) ≡ tagged 6 6 b
points_tagged = parts_tagged 6 6 (lit< tt) point_of point_bytes point_again

pub segments_tagged : (b : List ℕ) → Bytes b → each flat_segment (sequence_segments b) ≡ tagged 8 8 b
segments_tagged = parts_tagged 8 8 (lit< tt) segment_of segment_bytes segment_again

-- ---- a chunk

-- the chunk in hand stands whole where the walk takes it
pub in_hand : {f : List ℕ} {at : ℕ} {r : Outcome (Option Chunk)} {o : Option Chunk} {c : Chunk} → r ≡ step_at f at → o ≡ result_unwrap_or r None → o ≡ Some c
    → Whole f at c.id c.start c.size c.next
in_hand step o is = at_chunk _ _ _ (sym step ∙ whole_step _ _ (sym o ∙ is))

module _ {f : List ℕ} {at i start n next : ℕ} (w : Whole f at i start n next) where
  module _ (id kind : ℕ) where
    pub envelope_hit : Bytes f → i ≡ id → envelope_part id kind (items_from f at) ≡ (kind ∷ tagged 6 6 (take n (drop start f))) ++ envelope_part id kind (items_from f next)
    envelope_hit b e =
        ap (λ (ps : List (List ℕ)). each (flat_envelope kind) (map envelope_points ps)) (all_hit id w e)
        ∙ ap (λ (r : List ℕ). (kind ∷ r) ++ envelope_part id kind (items_from f next)) (points_tagged (take n (drop start f)) (bytes_take n (drop start f) (bytes_drop start f b)))

    pub envelope_miss : (i ≡ id → ⊥) → envelope_part id kind (items_from f at) ≡ envelope_part id kind (items_from f next)
    envelope_miss h = ap (λ (ps : List (List ℕ)). each (flat_envelope kind) (map envelope_points ps)) (all_miss id w h)

  pub text_turn : text_part (items_from f at) ≡ each flat_text (text_of (text_key i) (clean (take n (drop start f)))) ++ text_part (items_from f next)
  text_turn = ap text_part w.items ∙ texts_more i (take n (drop start f)) (items_from f next)

-- ---- no chunk

-- a byte for each chunk: where there is none, no chunk is left
abbrev pub chunk_mark : Item → List ℕ
chunk_mark (chunk id b) = 0 ∷ []
chunk_mark (bad refusal) = []

-- the walk ends where no chunk is left
pub none_left : (f : List ℕ) (at : ℕ) {r : Outcome (Option Chunk)} {o : Option Chunk} → r ≡ step_at f at → o ≡ result_unwrap_or r None → o ≡ None → each chunk_mark (items_from f at) ≡ []
none_left f at step o is = each_stops f at _ step (no_step _ (sym o ∙ is)) chunk_mark (λ refusal. refl)

module _ (items : List Item) (h : each chunk_mark items ≡ []) where
  stops : (F : List Item → List ℕ) → F [] ≡ [] → ((refusal : Refusal) (items : List Item) → F (bad refusal ∷ items) ≡ []) → F items ≡ []
  stops F nil bads = go items h
    where
      go : (items : List Item) → each chunk_mark items ≡ [] → F items ≡ []
      go [] e = nil
      go (bad refusal ∷ items) e = bads refusal items
      go (chunk id b ∷ items) e = impossible cc

  pub envelope_stops : (id kind : ℕ) → envelope_part id kind items ≡ []
  unfolding all_of
  envelope_stops id kind = stops (envelope_part id kind) refl (λ refusal items. refl)

  pub text_stops : text_part items ≡ []
  text_stops = stops text_part texts_none texts_bad
