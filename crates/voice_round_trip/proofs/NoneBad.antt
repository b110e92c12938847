-- None of the chunks that are written for a voice is bad.
-- Assumes nothing.
use Prim.Native.Nat.{ℕ, ◌%◌, ◌≤◌}
use mathlib.Core.Bool.{false, false≢true}
use mathlib.Core.List.{List, [], ◌∷◌}
use mathlib.Core.Path.{◌≡◌, refl, ◌∙◌}
use native.Mathlib.Nat.{zero-mod, mod-one, add-mod_left}
use native.Mathlib.Omega.{arith}
use lib.Dec.{eqb}
use lib.ListN.{length, get_or, length-append}
use Rattle.laws.specs.Walk.{each}
use Rattle.header.specs.Header.{header_bytes}
use Rattle.header.proofs.HeaderLaws.{header_length}
use Rattle.small_chunks.specs.Pan.{pan_bytes}
use Rattle.small_chunks.specs.Envelope.{point_bytes}
use Rattle.small_chunks.specs.Sequence.{segment_bytes, fade_bytes}
use Rattle.small_chunks.proofs.FieldLaws.{point_length, segment_length_lem, pan_length, fade_length}
use Rattle.form.specs.Names.{vhdr, chan, pan, atak, rlse, seqn, fade, body}
use Rattle.form.specs.Kind.{least, unit}
use Rattle.form.specs.FirstBad.{chunk_wrong, first_bad}
use Rattle.form.proofs.FormLaws.{kind_name}
use Rattle.sheet.specs.Voice.{Voice}
use Rattle.sheet.specs.Allowed.{Allowed}
use Rattle.voice_round_trip.proofs.Items.{channel_payload, voice_items}
use Rattle.voice_round_trip.proofs.FirstBadLaws.{plain_right, channel_right, named_sound, listed_sound, texts_sound, nothing_bad}
use Rattle.std.specs.Prelude.{Ok}

-- parts of n bytes, joined
each_unit : {A : Type 0} (n : ℕ) (write : A → List ℕ) → ((a : A) → length (write a) ≡ n) → (l : List A) → length (each write l) % n ≡ 0
each_unit n write size [] = zero-mod n
each_unit n write size (a ∷ l) = rw (length-append, size a, add-mod_left n (length (each write l))) (each_unit n write size l)

module _ {A : Type 0} (kind n : ℕ) (write : A → List ℕ) (size : (a : A) → length (write a) ≡ n) (no_channel : eqb kind 2 ≡ false) where
  -- a payload of n bytes
  sized_right : get_or least kind 0 ≤ n → get_or unit kind 0 ≡ 1 → (a : A) → chunk_wrong false kind (write a) ≡ Ok tt
  sized_right h e a = plain_right kind (write a) no_channel (omega (arith, size a)) (rw e (mod-one (length (write a))))

  -- parts of n bytes, any number of them
  joined_right : get_or least kind 0 ≡ 0 → get_or unit kind 0 ≡ n → (l : List A) → chunk_wrong false kind (each write l) ≡ Ok tt
  joined_right h e l = plain_right kind (each write l) no_channel (omega arith) (rw e (each_unit n write size l))

body_right : (b : List ℕ) → chunk_wrong false 6 b ≡ Ok tt
body_right b = plain_right 6 b refl (omega arith) (omega arith)

pub items_sound : (v : Voice) (samples : List ℕ) → Allowed v → first_bad (voice_items v samples) ≡ Ok tt
items_sound v samples a =
    let header_right = sized_right 1 20 header_bytes header_length refl (omega arith) refl in
    let pan_right = sized_right 3 4 pan_bytes pan_length refl (omega arith) refl in
    let attack_right = joined_right 7 6 point_bytes point_length refl refl refl in
    let release_right = joined_right 8 6 point_bytes point_length refl refl refl in
    let sequence_right = joined_right 4 8 segment_bytes segment_length_lem refl refl refl in
    let fade_right = sized_right 5 4 fade_bytes fade_length refl (omega arith) refl in
    named_sound vhdr 1 (kind_name 0 (omega arith)) header_bytes header_right (v.header ∷ []) _ _ (λ p. omega arith) refl (λ t₁.
    listed_sound chan 2 (kind_name 1 (omega arith)) channel_payload channel_right v.channel _ _ refl (λ t₂.
    listed_sound pan 3 (kind_name 2 (omega arith)) pan_bytes pan_right v.pan _ _ refl (λ t₃.
    named_sound atak 7 (kind_name 6 (omega arith)) (each point_bytes) attack_right v.attacks _ _ (λ p. absurd (false≢true p)) refl (λ t₄.
    named_sound rlse 8 (kind_name 7 (omega arith)) (each point_bytes) release_right v.releases _ _ (λ p. absurd (false≢true p)) refl (λ t₅.
    listed_sound seqn 4 (kind_name 3 (omega arith)) (each segment_bytes) sequence_right v.sequence _ _ refl (λ t₆.
    listed_sound fade 5 (kind_name 4 (omega arith)) fade_bytes fade_right v.fade _ _ refl (λ t₇.
    texts_sound v.texts _ _ a.texts refl
    ∙ named_sound body 6 (kind_name 5 (omega arith)) (λ b. b) body_right (samples ∷ []) _ [] (λ p. omega arith) refl (λ t₈. nothing_bad _))))))))
