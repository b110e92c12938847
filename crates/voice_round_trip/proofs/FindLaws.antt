-- The chunks of a name, and the texts, among the chunks that are written for a voice.
--     first_all                 the first of a name is the first of all of that name
--     items_all, items_texts    all chunks of a name, and the texts, of the items
-- Assumes nothing.
use Prim.Native.Nat.{ℕ}
use mathlib.Core.Bool.{Bool, true, false, cond}
use mathlib.Core.List.{List, [], ◌∷◌, ◌++◌, map, append-nil}
use mathlib.Core.Path.{◌≡◌, refl, ap, ◌∙◌}
use native.Mathlib.Omega.{arith}
use borrow.Author.Tests.{ne_eqb}
use lib.Dec.{eqb}
use Rattle.laws.specs.Walk.{each}
use Rattle.header.specs.Header.{header_bytes}
use Rattle.small_chunks.specs.Pan.{pan_bytes}
use Rattle.small_chunks.specs.Envelope.{point_bytes}
use Rattle.small_chunks.specs.Sequence.{segment_bytes, fade_bytes}
use Rattle.chunk.specs.Chunk.{Item, chunk, bad}
use Rattle.form.specs.Names.{vhdr, chan, pan, atak, rlse, seqn, fade, body}
use Rattle.form.specs.Find.{all_of, first_of}
use Rattle.text.specs.Text.{tidy}
use Rattle.sheet.specs.Voice.{Text, Voice}
use Rattle.sheet.specs.Allowed.{All, TextAllowed}
use Rattle.sheet.specs.Read.{first}
use Rattle.sheet_grammar.proofs.FormLaws.{listed}
use Rattle.sheet_read.specs.FormVoice.{text_key, text_of, texts_of}
use Rattle.sheet_write.specs.VoiceChunks.{text_name}
use Rattle.voice_round_trip.proofs.Items.{named, channel_payload, text_item, voice_items}
use Rattle.voice_round_trip.proofs.TextBack.{name_key, text_back}
use Rattle.std.specs.Prelude.{Some}

pub first_all : (id : ℕ) (items : List Item) → first_of id items ≡ first (all_of id items)
unfolding first_of all_of
first_all id [] = refl
first_all id (bad refusal ∷ items) = refl
first_all id (chunk i b ∷ items) = go (eqb i id) (first_all id items)
  where
    go : (t : Bool) → first_of id items ≡ first (all_of id items) → cond t (Some b) (first_of id items) ≡ first (cond t (b ∷ all_of id items) (all_of id items))
    go true e = refl
    go false e = e

-- ---- the chunks of a name

module _ {A : Type 0} (id i : ℕ) (write : A → List ℕ) where
  all_named : (values : List A) (rest : List Item) → all_of id (named i write values ++ rest) ≡ cond (eqb i id) (map write values) [] ++ all_of id rest
  unfolding all_of
  all_named values rest = go (eqb i id) refl values
    where
      go : (t : Bool) → eqb i id ≡ t → (values : List A) → all_of id (named i write values ++ rest) ≡ cond t (map write values) [] ++ all_of id rest
      go true e [] = refl
      go true e (a ∷ values) = rw e (ap (λ (l : List (List ℕ)). write a ∷ l) (go true e values))
      go false e [] = refl
      go false e (a ∷ values) = rw e (go false e values)

-- a name that is no text's
all_texts : (id : ℕ) (ts : List Text) (rest : List Item) → text_key id ≡ 0 → All TextAllowed ts → all_of id (map text_item ts ++ rest) ≡ all_of id rest
unfolding all_of
all_texts id [] rest e a = refl
all_texts id (t ∷ ts) rest e a =
    let other : text_name t.key ≡ id → ⊥ = λ p. omega (arith, a.0.key_from_lem, name_key t.key a.0.key_to, ap text_key p) in
    rw (ne_eqb (text_name t.key) id other) (all_texts id ts rest e a.1)

all_none : (id : ℕ) → all_of id [] ≡ []
unfolding all_of
all_none id = refl

-- the payloads of a name in a voice
abbrev pub payloads : Voice → List ℕ → ℕ → List (List ℕ)
payloads v samples id =
    cond (eqb vhdr id) (map header_bytes (v.header ∷ [])) []
    ++ (cond (eqb chan id) (map channel_payload (listed v.channel)) []
    ++ (cond (eqb pan id) (map pan_bytes (listed v.pan)) []
    ++ (cond (eqb atak id) (map (each point_bytes) v.attacks) []
    ++ (cond (eqb rlse id) (map (each point_bytes) v.releases) []
    ++ (cond (eqb seqn id) (map (each segment_bytes) (listed v.sequence)) []
    ++ (cond (eqb fade id) (map fade_bytes (listed v.fade)) []
    ++ cond (eqb body id) (samples ∷ []) []))))))

pub items_all : (v : Voice) (samples : List ℕ) → All TextAllowed v.texts → (id : ℕ) → text_key id ≡ 0 → all_of id (voice_items v samples) ≡ payloads v samples id
items_all v samples a id e =
    simp (
      all_named id vhdr header_bytes (v.header ∷ []),
      all_named id chan channel_payload (listed v.channel),
      all_named id pan pan_bytes (listed v.pan),
      all_named id atak (each point_bytes) v.attacks,
      all_named id rlse (each point_bytes) v.releases,
      all_named id seqn (each segment_bytes) (listed v.sequence),
      all_named id fade fade_bytes (listed v.fade),
      all_texts id v.texts,
      all_named id body (λ (b : List ℕ). b) (samples ∷ []) [],
      all_none id,
      append-nil,
    )

-- ---- texts

texts_named : {A : Type 0} (id : ℕ) (write : A → List ℕ) (values : List A) (rest : List Item) → text_key id ≡ 0 → texts_of (named id write values ++ rest) ≡ texts_of rest
unfolding texts_of text_of
texts_named id write [] rest e = refl
texts_named id write (a ∷ values) rest e = rw e (texts_named id write values rest e)

texts_none : texts_of [] ≡ []
unfolding texts_of
texts_none = refl

texts_back : (ts : List Text) (rest : List Item) → All TextAllowed ts → All (λ t. tidy t.bytes ≡ true) ts → texts_of (map text_item ts ++ rest) ≡ ts ++ texts_of rest
unfolding texts_of
texts_back [] rest a d = refl
texts_back (t ∷ ts) rest a d = rw (text_back t a.0 d.0) (ap (λ (l : List Text). t ∷ l) (texts_back ts rest a.1 d.1))

pub items_texts : (v : Voice) (samples : List ℕ) → All TextAllowed v.texts → All (λ t. tidy t.bytes ≡ true) v.texts → texts_of (voice_items v samples) ≡ v.texts
unfolding text_key
items_texts v samples a d =
    texts_named vhdr header_bytes (v.header ∷ []) _ refl
    ∙ texts_named chan channel_payload (listed v.channel) _ refl
    ∙ texts_named pan pan_bytes (listed v.pan) _ refl
    ∙ texts_named atak (each point_bytes) v.attacks _ refl
    ∙ texts_named rlse (each point_bytes) v.releases _ refl
    ∙ texts_named seqn (each segment_bytes) (listed v.sequence) _ refl
    ∙ texts_named fade fade_bytes (listed v.fade) _ refl
    ∙ texts_back v.texts _ a d
    ∙ ap (λ (l : List Text). v.texts ++ l) (texts_named body (λ (b : List ℕ). b) (samples ∷ []) [] refl ∙ texts_none)
    ∙ append-nil v.texts
