-- The sheet of a FORM's voice is its parts, joined: a record's body is the first bytes of its chunk, written as they were read.
-- Assumes nothing.
use Prim.Native.Nat.{ℕ, ◌≤◌}
use lib.Dec.{lit<}
use lib.ListN.{length, get_or, take, drop}
use mathlib.Core.Bool.{true, true≢false}
use mathlib.Core.List.{List, ◌∷◌, ◌++◌}
use mathlib.Core.Path.{◌≡◌, refl, sym, ap, ◌∙◌}
use native.Mathlib.Omega.{arith}
use Rattle.field.specs.BigEndian.{Bytes}
use Rattle.laws.specs.Put.{Put}
use Rattle.laws.proofs.PutLaws.{put_then}
use Rattle.field.proofs.BigEndianLaws.{bytes_take, bytes_drop}
use Rattle.header.specs.Header.{header_of, header_bytes}
use Rattle.header.proofs.HeaderLaws.{bytes_back}
use Rattle.small_chunks.specs.Pan.{pan_of, pan_bytes}
use Rattle.small_chunks.specs.Sequence.{fade_of, fade_bytes}
use Rattle.small_chunks.proofs.FieldLaws.{pan_again, fade_again}
use Rattle.chunk.specs.Chunk.{Item, items_from}
use Rattle.form.specs.Find.{first_of}
use Rattle.form.specs.FirstBad.{first_bad}
use Rattle.form.specs.Kind.{kind_of, least}
use Rattle.form.specs.Names.{vhdr, pan, atak, rlse, fade}
use Rattle.form.proofs.FormLaws.{size_least, first_sound}
use Rattle.sheet.specs.Flat.{if_there, flat}
use Rattle.sheet.specs.Read.{map_option, body_of}
use Rattle.sheet_read.specs.FormVoice.{form_voice}
use Rattle.std.specs.Option.{is_some}
use Rattle.sheet_read.specs.ForCode.{Readable}
use Rattle.sheet_read.specs.Parts.{record_part, channel_part, envelope_part, segments_part, text_part}
use Rattle.sheet_read.proofs.ItemLaws.{Payloads, payloads, first_payload}
use Rattle.sheet_read.proofs.PlaceLaws.{least_of_lem}
use Rattle.std.specs.Prelude.{None, Option, Some, Ok}

-- the payloads of a FORM of bytes are bytes
pub payload_bytes : (f : List ℕ) → Bytes f → (at : ℕ) → Payloads Bytes (items_from f at)
payload_bytes f b = payloads Bytes f (λ start n. bytes_take n (drop start f) (bytes_drop start f b))

-- ---- a record

module _ (f : List ℕ) (bytes : Bytes f) (sound : first_bad (items_from f 12) ≡ Ok tt) where
  record_written : {A : Type 0} (id kind n : ℕ) (read : List ℕ → A) (write : A → List ℕ) → get_or least (kind_of id) 0 ≡ n
      → ((l : List ℕ) → Bytes l → n ≤ length l → write (read l) ≡ take n l)
      → if_there (λ a. kind ∷ write a) (map_option read (first_of id (items_from f 12))) ≡ record_part id kind n (items_from f 12)
  record_written {A} id kind n read write long again = go (first_of id (items_from f 12)) refl
    where
      go : (o : Option (List ℕ)) → first_of id (items_from f 12) ≡ o → if_there (λ (a : A). kind ∷ write a) (map_option read o) ≡ if_there (λ b. kind ∷ take n b) o
      go None e = refl
      go (Some b) e =
          let right = first_sound id (items_from f 12) sound b e in
          let fits : n ≤ length b = omega (arith, size_least (kind_of id) (length b) right.0) in
          ap (λ (l : List ℕ). kind ∷ l) (again b (first_payload Bytes id (items_from f 12) (payload_bytes f bytes 12) b e) fits)

-- the header, where there is one
header_there : (o : Option (List ℕ)) → is_some o ≡ true → 1 ∷ header_bytes (header_of (body_of o)) ≡ if_there (λ h. 1 ∷ header_bytes h) (map_option header_of o)
header_there None e = absurd (true≢false (sym e))
header_there (Some b) e = refl

-- the parts of a sheet, with the three records that are written from values
abbrev joined : List Item → List ℕ → List ℕ → List ℕ → List ℕ
joined items header pan fade =
    header ++ channel_part items ++ pan ++ envelope_part atak 4 items ++ envelope_part rlse 5 items ++ segments_part items ++ fade ++ text_part items

joined_same : (items : List Item) {h h' p p' q q' : List ℕ} → h ≡ h' → p ≡ p' → q ≡ q' → joined items h p q ≡ joined items h' p' q'
joined_same items eh ep eq = rw (eh, ep, eq)

pub flat_parts : (f : List ℕ) → Bytes f → Readable f
    → flat (form_voice (items_from f 12)) ≡ joined (items_from f 12) (record_part vhdr 1 20 (items_from f 12)) (record_part pan 3 4 (items_from f 12)) (record_part fade 9 4 (items_from f 12))
unfolding flat form_voice
flat_parts f bytes r =
    joined_same (items_from f 12)
    (header_there (first_of vhdr (items_from f 12)) r.header ∙ record_written f bytes r.sound vhdr 1 20 header_of header_bytes (least_of_lem 0 (lit< tt)) bytes_back)
    (record_written f bytes r.sound pan 3 4 pan_of pan_bytes (least_of_lem 2 (lit< tt)) pan_again)
    (record_written f bytes r.sound fade 9 4 fade_of fade_bytes (least_of_lem 4 (lit< tt)) fade_again)

-- the parts stored one after another are the sheet stored
pub parts_put : (f : List ℕ) → Bytes f → Readable f → {d d₁ d₂ d₃ d₄ d₅ d₆ d₇ d₈ : List ℕ} {r₁ r₂ r₃ r₄ r₅ r₆ r₇ r₈ : ℕ}
    → Put d 0 (record_part vhdr 1 20 (items_from f 12)) d₁ r₁
    → Put d₁ r₁ (channel_part (items_from f 12)) d₂ r₂
    → Put d₂ r₂ (record_part pan 3 4 (items_from f 12)) d₃ r₃
    → Put d₃ r₃ (envelope_part atak 4 (items_from f 12)) d₄ r₄
    → Put d₄ r₄ (envelope_part rlse 5 (items_from f 12)) d₅ r₅
    → Put d₅ r₅ (segments_part (items_from f 12)) d₆ r₆
    → Put d₆ r₆ (record_part fade 9 4 (items_from f 12)) d₇ r₇
    → Put d₇ r₇ (text_part (items_from f 12)) d₈ r₈
    → Put d 0 (flat (form_voice (items_from f 12))) d₈ r₈
parts_put f bytes r header channel pans attacks releases sequence fades texts =
    let up_to_pan = put_then (put_then header channel) pans in
    let up_to_sequence = put_then (put_then (put_then up_to_pan attacks) releases) sequence in
    rw (flat_parts f bytes r) (put_then (put_then up_to_sequence fades) texts)
