-- What reading refuses and gives, by cases, and what holds of what it gives.
--     items_bad .. items_whole              the chunks of a FORM
--     head_short .. head_right              the first 12 bytes of a file
--     voice_refused, voice_form             a whole file
--     items_given, file_given               a reading is of chunks without a bad one, with a VHDR and a BODY
-- Assumes nothing.
use Prim.Native.Nat.{ℕ, ◌≤◌, ◌<◌}
use borrow.Author.Tests.{eq-eqb, ne_eqb, lt-ltb, le-ltb}
use lib.ListN.{length, drop}
use mathlib.Core.Bool.{Bool, true, false, true≢false}
use mathlib.Core.List.{List}
use mathlib.Core.Path.{◌≡◌, refl, sym, ◌∙◌}
use Rattle.laws.proofs.Cases.{impossible}
use Rattle.field.specs.BigEndian.{big_endian}
use Rattle.chunk.specs.Chunk.{Item, items_from}
use Rattle.form.specs.FirstBad.{first_bad}
use Rattle.form.specs.Find.{first_of}
use Rattle.form.specs.Names.{form, form_type, vhdr, body}
use Rattle.sheet.specs.Read.{body_of}
use Rattle.sheet.specs.Voice.{Voice, is_stereo}
use Rattle.body_read.specs.Sides.{Sides, body_sides}
use Rattle.sheet_read.specs.FormVoice.{form_voice}
use Rattle.std.specs.Option.{is_some}
use Rattle.voice_read.specs.ReadVoice.{Reading, with_chunk, with_sides, read_items, form_of, head_refusal, read_voice}
use Rattle.refusal.specs.declared.Refusal.TheVariants.{FileShort, NotForm, Not8svx, NoHeader, NoBody}
use Rattle.refusal.specs.Outcome.{Outcome, and_then}
use Rattle.refusal.specs.declared.Refusal.{Refusal}
use Rattle.std.specs.Prelude.{Err, None, Ok, Option, Some, ⊤}

-- ---- the chunks of a FORM

module _ {A : Type 0} (refusal : Refusal) (next : List ℕ → Outcome A) where
  chunk_missing : (o : Option (List ℕ)) → is_some o ≡ false → with_chunk refusal o next ≡ Err refusal
  chunk_missing None e = refl
  chunk_missing (Some b) e = absurd (true≢false e)

  chunk_there : (o : Option (List ℕ)) → is_some o ≡ true → with_chunk refusal o next ≡ next (body_of o)
  chunk_there None e = absurd (true≢false (sym e))
  chunk_there (Some b) e = refl

module _ (items : List Item) where
  -- what follows a VHDR
  abbrev with_body : Outcome Reading
  with_body = with_chunk NoBody (first_of body items) (with_sides (form_voice items))

  pub items_bad : (refusal : Refusal) → first_bad items ≡ Err refusal → read_items items ≡ Err refusal
  unfolding read_items
  items_bad refusal e = rw e

  module _ (sound : first_bad items ≡ Ok tt) where
    -- where no chunk is bad
    items_sound : read_items items ≡ with_chunk NoHeader (first_of vhdr items) (λ header. with_body)
    unfolding read_items
    items_sound = rw sound

    pub items_headless : is_some (first_of vhdr items) ≡ false → read_items items ≡ Err NoHeader
    items_headless e = items_sound ∙ chunk_missing NoHeader (λ header. with_body) (first_of vhdr items) e

    module _ (header : is_some (first_of vhdr items) ≡ true) where
      -- where there is a VHDR
      items_headed : read_items items ≡ with_body
      items_headed = items_sound ∙ chunk_there NoHeader (λ header. with_body) (first_of vhdr items) header

      pub items_bodiless : is_some (first_of body items) ≡ false → read_items items ≡ Err NoBody
      items_bodiless e = items_headed ∙ chunk_missing NoBody (with_sides (form_voice items)) (first_of body items) e

      pub items_whole : is_some (first_of body items) ≡ true → read_items items ≡ with_sides (form_voice items) (body_of (first_of body items))
      items_whole e = items_headed ∙ chunk_there NoBody (with_sides (form_voice items)) (first_of body items) e

-- ---- a file

module _ (file : List ℕ) where
  pub head_short : length file < 12 → head_refusal file ≡ Err FileShort
  unfolding head_refusal
  head_short h = rw (lt-ltb (length file) 12 h)

  module _ (long : 12 ≤ length file) where
    pub head_other : (big_endian 4 file ≡ form → ⊥) → head_refusal file ≡ Err NotForm
    unfolding head_refusal
    head_other h = rw (le-ltb (length file) 12 long, ne_eqb (big_endian 4 file) form h)

    module _ (is_form : big_endian 4 file ≡ form) where
      pub head_type : (big_endian 4 (drop 8 file) ≡ form_type → ⊥) → head_refusal file ≡ Err Not8svx
      unfolding head_refusal
      head_type h = rw (le-ltb (length file) 12 long, eq-eqb (big_endian 4 file) form is_form, ne_eqb (big_endian 4 (drop 8 file)) form_type h)

      pub head_right : big_endian 4 (drop 8 file) ≡ form_type → head_refusal file ≡ Ok tt
      unfolding head_refusal
      head_right e = rw (le-ltb (length file) 12 long, eq-eqb (big_endian 4 file) form is_form, eq-eqb (big_endian 4 (drop 8 file)) form_type e)

  pub voice_refused : (refusal : Refusal) → head_refusal file ≡ Err refusal → read_voice file ≡ Err refusal
  unfolding read_voice
  voice_refused refusal e = rw e

  pub voice_form : head_refusal file ≡ Ok tt → read_voice file ≡ read_items (items_from (form_of file) 12)
  unfolding read_voice
  voice_form e = rw e

-- ---- what is given

-- a refusal gives nothing
never : {A : Type 0} {B : Type 0} {refusal : Refusal} {a : A} → Err refusal ≡ Ok a → B
never e = impossible cc

-- the chunks that a reading is of
pub record Given (items : List Item) (r : Reading) : Type 0 where
  pub sound : first_bad items ≡ Ok tt
  pub header : is_some (first_of vhdr items) ≡ true
  pub bytes : List ℕ
  pub body : first_of body items ≡ Some bytes
  pub voice : r.voice ≡ form_voice items
  pub sides : body_sides r.voice.header (is_stereo r.voice.channel) bytes ≡ Ok r.sides

pub given_sides : (items : List Item) (r : Reading) → Given items r → body_sides (form_voice items).header (is_stereo (form_voice items).channel) (body_of (first_of body items)) ≡ Ok r.sides
given_sides items r g = rw (← g.voice, g.body) g.sides

-- what BODY's bytes give
record Sided (v : Voice) (bytes : List ℕ) (r : Reading) : Type 0 where
  voice : r.voice ≡ v
  sides : body_sides r.voice.header (is_stereo r.voice.channel) bytes ≡ Ok r.sides

sided : (v : Voice) (bytes : List ℕ) (r : Reading) → with_sides v bytes ≡ Ok r → Sided v bytes r
sided v bytes r = go (body_sides v.header (is_stereo v.channel) bytes) refl
  where
    go : (o : Outcome Sides) → body_sides v.header (is_stereo v.channel) bytes ≡ o → and_then o (λ s. Ok (record { voice = v; sides = s })) ≡ Ok r → Sided v bytes r
    go (Ok s) q e =
        let same : r.voice ≡ v = cc in
        let last : Ok s ≡ Ok r.sides = cc in
        record { voice = same; sides = rw same (q ∙ last) }
    go (Err k) q e = never e

there : (o : Option (List ℕ)) → is_some o ≡ true → o ≡ Some (body_of o)
there None e = absurd (true≢false (sym e))
there (Some b) e = refl

pub items_given : (items : List Item) (r : Reading) → read_items items ≡ Ok r → Given items r
items_given items r e = bad_or (first_bad items) refl
  where
    whole : first_bad items ≡ Ok tt → is_some (first_of vhdr items) ≡ true → is_some (first_of body items) ≡ true → Given items r
    whole sound header present =
        let s = sided (form_voice items) (body_of (first_of body items)) r (sym (items_whole items sound header present) ∙ e) in
        record { sound = sound; header = header; bytes = body_of (first_of body items); body = there (first_of body items) present; voice = s.voice; sides = s.sides }

    body_or : first_bad items ≡ Ok tt → is_some (first_of vhdr items) ≡ true → (t : Bool) → is_some (first_of body items) ≡ t → Given items r
    body_or sound header true p = whole sound header p
    body_or sound header false p = never (sym (items_bodiless items sound header p) ∙ e)

    header_or : first_bad items ≡ Ok tt → (t : Bool) → is_some (first_of vhdr items) ≡ t → Given items r
    header_or sound true p = body_or sound p (is_some (first_of body items)) refl
    header_or sound false p = never (sym (items_headless items sound p) ∙ e)

    bad_or : (j : Outcome ⊤) → first_bad items ≡ j → Given items r
    bad_or (Ok u) p = header_or p (is_some (first_of vhdr items)) refl
    bad_or (Err refusal) p = never (sym (items_bad items refusal p) ∙ e)

module _ (file : List ℕ) (r : Reading) (e : read_voice file ≡ Ok r) where
  pub file_form : head_refusal file ≡ Ok tt
  file_form = go (head_refusal file) refl
    where
      go : (j : Outcome ⊤) → head_refusal file ≡ j → head_refusal file ≡ Ok tt
      go (Ok u) p = p
      go (Err refusal) p = never (sym (voice_refused file refusal p) ∙ e)

  pub file_given : Given (items_from (form_of file) 12) r
  file_given = items_given (items_from (form_of file) 12) r (sym (voice_form file file_form) ∙ e)
