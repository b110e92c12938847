-- A voice as groups, part by part.
--     flat_bytes                                        the bytes of the groups that are written for a voice are its flat form
--     groups_written, texts_well_formed_lem, voice_back  of an allowed voice: those groups are correct and read as that voice
--     groups_again, voice_allowed                       of groups that were read: they are written again, and their voice is allowed
-- Assumes nothing.
use Prim.Native.Nat.{ℕ, ◌<◌}
use mathlib.Core.Bool.{true, and-eq-true_iff}
use mathlib.Core.List.{List, [], ◌∷◌, ◌++◌, map, append_assoc, append-nil}
use mathlib.Core.Path.{◌≡◌, refl, ap, ◌∙◌}
use lib.ListN.{length, get_or}
use Rattle.laws.specs.Walk.{each}
use Rattle.header.specs.Header.{header_of, header_bytes}
use Rattle.small_chunks.specs.Channel.{channel_value_of}
use Rattle.small_chunks.specs.Pan.{pan_of, pan_bytes}
use Rattle.small_chunks.specs.Envelope.{point_of, point_bytes}
use Rattle.small_chunks.specs.Sequence.{segment_of, segment_bytes, fade_of, fade_bytes}
use Rattle.sheet.specs.Voice.{Text, Voice}
use Rattle.sheet.specs.Flat.{if_there, flat_envelope, flat_sequence, flat_text, flat}
use Rattle.sheet.specs.Allowed.{All, IfThere, TextAllowed, Allowed}
use Rattle.sheet.specs.Judge.{texts_well_formed}
use Rattle.text_utf8.specs.Utf8.{well_formed}
use Rattle.sheet.specs.Read.{Group, first, map_option, record_channel, body_of, text_in}
use Rattle.sheet_grammar.proofs.ListLaws.{each_map, all_imply}
use Rattle.sheet_grammar.proofs.RecordLaws.{bytes_of}
use Rattle.sheet_grammar.proofs.OrderLaws.{Correct, Given}
use Rattle.sheet_grammar.proofs.KindLaws.{member, openers, Parts}
use Rattle.sheet_grammar.proofs.Sections.{sections, group_bytes, sections_bytes, Listed}
use Rattle.sheet_grammar.proofs.FormLaws.{alone, gathered, listed}
use Rattle.sheet_grammar.proofs.VoiceForms.{bodies_of, header_form, channel_form, pan_form, attacks_form, releases_form, sequence_form, fade_form, TextFits, text_group, text_form, texts_form}
use Rattle.std.specs.Prelude.{None, Option, Some}

-- the groups that are written for a voice, by kind
abbrev pub groups_of : Voice → ℕ → List Group
groups_of v k =
    get_or
    ([]
    ∷ (alone (header_bytes v.header) ∷ [])
    ∷ map (λ c. alone (channel_value_of c ∷ [])) (listed v.channel)
    ∷ map (λ p. alone (pan_bytes p)) (listed v.pan)
    ∷ map (λ l. gathered (map point_bytes l)) v.attacks
    ∷ map (λ l. gathered (map point_bytes l)) v.releases
    ∷ []
    ∷ map (λ l. gathered (map segment_bytes l)) (listed v.sequence)
    ∷ []
    ∷ map (λ f. alone (fade_bytes f)) (listed v.fade)
    ∷ map text_group v.texts
    ∷ [])
    k
    []

-- ---- their bytes

module _ {A : Type 0} where
  pub each_listed : {B : Type 0} (w : A → B) (f : B → List ℕ) (g : A → List ℕ) → ((a : A) → f (w a) ≡ g a) → (o : Option A) → each f (map w (listed o)) ≡ if_there g o
  each_listed w f g e None = refl
  each_listed w f g e (Some a) = append-nil (f (w a)) ∙ e a

  alone_bytes : (k : ℕ) (w : A → List ℕ) (a : A) → group_bytes k (alone (w a)) ≡ k ∷ w a
  alone_bytes k w a = ap (λ (l : List ℕ). k ∷ l) (append-nil (w a))

  gathered_bytes : (k : ℕ) (w : A → List ℕ) (l : List A) → group_bytes k (gathered (map w l)) ≡ k ∷ each (λ a. member k ∷ w a) l
  gathered_bytes k w l = ap (λ (x : List ℕ). k ∷ x) (each_map w (λ b. member k ∷ b) (λ a. member k ∷ w a) (λ a. refl) l)

text_bytes : (t : Text) → group_bytes 10 (text_group t) ≡ flat_text t
text_bytes t = ap (λ (l : List ℕ). 10 ∷ t.key ∷ l) (each_map (λ b. b ∷ []) (λ b. 11 ∷ b) (λ b. 11 ∷ b ∷ []) (λ b. refl) t.bytes)

pub flat_bytes : (v : Voice) → each bytes_of (sections openers (groups_of v)) ≡ flat v
unfolding flat
flat_bytes v =
    let header : (header_bytes v.header ++ []) ++ [] ≡ header_bytes v.header = append-nil (header_bytes v.header ++ []) ∙ append-nil (header_bytes v.header) in
    sections_bytes openers (groups_of v)
    ∙ rw (
      header,
      each_listed (λ c. alone (channel_value_of c ∷ [])) (group_bytes 2) (λ c. 2 ∷ channel_value_of c ∷ []) (alone_bytes 2 (λ c. channel_value_of c ∷ [])) v.channel,
      each_listed (λ p. alone (pan_bytes p)) (group_bytes 3) (λ p. 3 ∷ pan_bytes p) (alone_bytes 3 pan_bytes) v.pan,
      each_map (λ l. gathered (map point_bytes l)) (group_bytes 4) (flat_envelope 4) (gathered_bytes 4 point_bytes) v.attacks,
      each_map (λ l. gathered (map point_bytes l)) (group_bytes 5) (flat_envelope 5) (gathered_bytes 5 point_bytes) v.releases,
      each_listed (λ l. gathered (map segment_bytes l)) (group_bytes 7) flat_sequence (gathered_bytes 7 segment_bytes) v.sequence,
      each_listed (λ f. alone (fade_bytes f)) (group_bytes 9) (λ f. 9 ∷ fade_bytes f) (alone_bytes 9 fade_bytes) v.fade,
      each_map text_group (group_bytes 10) flat_text text_bytes v.texts,
    ) (simp (append_assoc, append-nil))

-- ---- what is written, and read back

any_channel : {A : Type 0} (o : Option A) → IfThere (λ a. Unit {0}) o
any_channel None = tt
any_channel (Some a) = tt

text_fits : (t : Text) → TextAllowed t → TextFits t
text_fits t a = record { key = record { from = a.key_from_lem; to = a.key_to }; bytes = a.bytes }

texts_judged : (ts : List Text) → All TextAllowed ts → texts_well_formed (map text_group ts) ≡ true
texts_judged [] a = refl
texts_judged (t ∷ ts) a = rw (ap (λ (x : Text). x.bytes) (text_form.back t (text_fits t a.0)), a.0.well_formed_lem) (texts_judged ts a.1)

texts_allowed : (gs : List Group) → All TextFits (map text_in gs) → texts_well_formed gs ≡ true → All TextAllowed (map text_in gs)
texts_allowed [] f w = tt
texts_allowed (g ∷ gs) f w =
    let both = (and-eq-true_iff (well_formed (text_in g).bytes) (texts_well_formed gs)).0 w in
    (record { key_from_lem = f.0.key.from; key_to = f.0.key.to; well_formed_lem = both.0; bytes = f.0.bytes }, texts_allowed gs f.1 both.1)

-- the voice that groups say
abbrev pub voice_in : (ℕ → List Group) → Voice
voice_in gs = record {
  header = header_of (body_of (first (bodies_of (gs 1))));
  channel = record_channel (first (bodies_of (gs 2)));
  pan = map_option pan_of (first (bodies_of (gs 3)));
  attacks = map (λ g. map point_of g.members) (gs 4);
  releases = map (λ g. map point_of g.members) (gs 5);
  sequence = map_option (λ g. map segment_of g.members) (first (gs 7));
  fade = map_option fade_of (first (bodies_of (gs 9)));
  texts = map text_in (gs 10);
}

module _ (v : Voice) (a : Allowed v) where
  pub groups_written : Parts (λ k. Listed Correct k (groups_of v k))
  groups_written = record {
    header = header_form.written v.header a.header;
    channel = channel_form.written v.channel (any_channel v.channel);
    pan = pan_form.written v.pan a.pan;
    attacks = attacks_form.written v.attacks a.attacks;
    releases = releases_form.written v.releases a.releases;
    sequence = sequence_form.written v.sequence a.sequence;
    fade = fade_form.written v.fade a.fade;
    texts = texts_form.written v.texts (all_imply text_fits v.texts a.texts);
  }

  pub texts_well_formed_lem : texts_well_formed (groups_of v 10) ≡ true
  texts_well_formed_lem = texts_judged v.texts a.texts

  pub voice_back : voice_in (groups_of v) ≡ v
  voice_back = rw (
    header_form.back v.header a.header,
    channel_form.back v.channel (any_channel v.channel),
    pan_form.back v.pan a.pan,
    attacks_form.back v.attacks a.attacks,
    releases_form.back v.releases a.releases,
    sequence_form.back v.sequence a.sequence,
    fade_form.back v.fade a.fade,
    texts_form.back v.texts (all_imply text_fits v.texts a.texts),
  )

-- ---- what is read, and written again

module _ (gs : ℕ → List Group) (there : 0 < length (gs 1)) (h : Parts (λ k. Listed Given k (gs k))) where
  pub groups_again : Parts (λ k. groups_of (voice_in gs) k ≡ gs k)
  groups_again = record {
    header = header_form.again (gs 1) (there, h.header);
    channel = channel_form.again (gs 2) h.channel;
    pan = pan_form.again (gs 3) h.pan;
    attacks = attacks_form.again (gs 4) h.attacks;
    releases = releases_form.again (gs 5) h.releases;
    sequence = sequence_form.again (gs 7) h.sequence;
    fade = fade_form.again (gs 9) h.fade;
    texts = texts_form.again (gs 10) h.texts;
  }

  pub voice_allowed : texts_well_formed (gs 10) ≡ true → Allowed (voice_in gs)
  voice_allowed w = record {
    header = header_form.fits (gs 1) (there, h.header);
    pan = pan_form.fits (gs 3) h.pan;
    attacks = attacks_form.fits (gs 4) h.attacks;
    releases = releases_form.fits (gs 5) h.releases;
    sequence = sequence_form.fits (gs 7) h.sequence;
    fade = fade_form.fits (gs 9) h.fade;
    texts = texts_allowed (gs 10) (texts_form.fits (gs 10) h.texts) w;
  }
