-- A part that may be missing: where two places are one it is missing, and where they differ it stands at the first of them.
--     missing, present                                          of any part
--     present_read                                              what stands there reads as the part
--     channel_byte                                              the byte of a channel that is there
--     channel_missing, pan_missing, fade_missing                of the parts of a voice, by its layout
--     channel_present, pan_present, fade_present
--     sequence_missing, sequence_within, sequence_counted       a sequence by the bytes that it takes
-- Assumes nothing.
use Prim.Native.Nat.{ℕ, suc, ◌+◌, ◌-◌, ◌*◌, ◌/◌, ◌≤◌}
use lib.Dec.{lit<}
use lib.ListN.{length, get_or, drop, length-append, length-drop}
use lib.Seq.{get_or-drop, drop-drop}
use mathlib.Core.List.{List, [], ◌∷◌, ◌++◌}
use mathlib.Core.Path.{◌≡◌, refl, sym, ap, subst, ◌∙◌}
use native.Mathlib.Nat.{add-zero, mul-div_cancel}
use native.Mathlib.Omega.{arith}
use Rattle.laws.specs.Walk.{each}
use Rattle.small_chunks.specs.Channel.{channel_value_of}
use Rattle.small_chunks.specs.Pan.{pan_bytes}
use Rattle.small_chunks.specs.Sequence.{fade_bytes}
use Rattle.small_chunks.specs.declared.channel.ChannelAssignment.{ChannelAssignment}
use Rattle.small_chunks.specs.declared.sequence.SeqnSegment.{SeqnSegment}
use Rattle.small_chunks.proofs.FieldLaws.{segment_length_lem}
use Rattle.sheet.specs.Allowed.{IfThere}
use Rattle.sheet.specs.Flat.{if_there, flat_segment, flat_sequence, flat}
use Rattle.sheet.specs.Voice.{Voice}
use Rattle.sheet_layout.specs.Layout.{channel_at, pan_at, attacks_at, sequence_at, fade_at, texts_at, layout_of}
use Rattle.sheet_layout.specs.declared.Layout.{Layout}
use Rattle.sheet_layout.proofs.PartLaws.{from_pan, from_attacks, from_texts, at_channel, at_pan, at_fade}
use Rattle.std.specs.Prelude.{None, Option, Some, option_map}

-- ---- any part

-- it is there: its value, and its bytes past the byte at `at`
pub record Present {A : Type 0} (f : A → List ℕ) (o : Option A) (at : ℕ) (s rest : List ℕ) : Type 0 where
  pub value : A
  pub is : o ≡ Some value
  pub body : drop (at + 1) s ≡ f value ++ rest
  pub room : at + 1 + length (f value) ≤ length s

module _ {A : Type 0} (k : ℕ) (f : A → List ℕ) where
  missing : (at : ℕ) (o : Option A) → at ≡ at + length (if_there (λ a. k ∷ f a) o) → o ≡ None
  missing at None e = refl
  missing at (Some a) e = absurd (omega arith)

  present : (at : ℕ) (s rest : List ℕ) (o : Option A) → drop at s ≡ if_there (λ a. k ∷ f a) o ++ rest → (at ≡ at + length (if_there (λ a. k ∷ f a) o) → ⊥) → Present f o at s rest
  present at s rest None e h = absurd (h (omega arith))
  present at s rest (Some a) e h = record {
    value = a;
    is = refl;
    body = sym (drop-drop 1 at s) ∙ ap (drop 1) e;
    room = omega (arith, length-drop at s, ap length e, length-append (f a) rest);
  }

-- where what is written reads back
pub present_read : {A : Type 0} {f : A → List ℕ} {o : Option A} {at : ℕ} {s rest : List ℕ} (of : List ℕ → A) (P : A → Type 0)
    → ((a : A) (r : List ℕ) → P a → of (f a ++ r) ≡ a) → Present f o at s rest → IfThere P o → o ≡ Some (of (drop (at + 1) s))
present_read {rest = rest} of P back p h =
    p.is ∙ ap Some (sym (ap of p.body ∙ back p.value rest (subst (λ x. IfThere P x) p.is h)))

-- a channel's byte is its value
pub channel_byte : {o : Option ChannelAssignment} {at : ℕ} {s rest : List ℕ} (p : Present (λ c. channel_value_of c ∷ []) o at s rest) → get_or s (at + 1) 0 ≡ channel_value_of p.value
channel_byte {at = at} {s = s} p =
    ap (λ (i : ℕ). get_or s i 0) (sym (add-zero (at + 1))) ∙ sym (get_or-drop (at + 1) s 0 0) ∙ ap (λ (l : List ℕ). get_or l 0 0) p.body

-- ---- the parts of a voice

module _ (v : Voice) (l : Layout) (q : l ≡ layout_of v) where
  pub channel_missing : l.channel ≡ l.pan → v.channel ≡ None
  unfolding pan_at
  channel_missing h = missing 2 (λ c. channel_value_of c ∷ []) (channel_at v) v.channel (rw q at h)

  pub pan_missing : l.pan ≡ l.attacks → v.pan ≡ None
  unfolding attacks_at
  pan_missing h = missing 3 pan_bytes (pan_at v) v.pan (rw q at h)

  pub fade_missing : l.fade ≡ l.texts → v.fade ≡ None
  unfolding texts_at
  fade_missing h = missing 9 fade_bytes (fade_at v) v.fade (rw q at h)

  pub sequence_missing : l.sequence ≡ l.fade → v.sequence ≡ None
  unfolding fade_at
  sequence_missing h = missing 7 (each flat_segment) (sequence_at v) v.sequence (rw q at h)

  module _ (s : List ℕ) (e : flat v ≡ s) where
    pub channel_present : (l.channel ≡ l.pan → ⊥) → Present (λ c. channel_value_of c ∷ []) v.channel l.channel s (from_pan v)
    unfolding pan_at
    channel_present h = rw q (present 2 (λ c. channel_value_of c ∷ []) (channel_at v) s (from_pan v) v.channel (at_channel v s e) (rw q at h))

    pub pan_present : (l.pan ≡ l.attacks → ⊥) → Present pan_bytes v.pan l.pan s (from_attacks v)
    unfolding attacks_at
    pan_present h = rw q (present 3 pan_bytes (pan_at v) s (from_attacks v) v.pan (at_pan v s e) (rw q at h))

    pub fade_present : (l.fade ≡ l.texts → ⊥) → Present fade_bytes v.fade l.fade s (from_texts v)
    unfolding texts_at
    fade_present h = rw q (present 9 fade_bytes (fade_at v) s (from_texts v) v.fade (at_fade v s e) (rw q at h))

  pub sequence_within : l.sequence ≤ l.fade
  unfolding fade_at
  sequence_within = rw q (omega arith)

-- ---- the segments of a sequence

each_length : {A : Type 0} (n : ℕ) (g : A → List ℕ) → ((a : A) → length (g a) ≡ n) → (as' : List A) → length (each g as') ≡ length as' * n
each_length n g size [] = omega arith
each_length n g size (a ∷ as') = rw (length-append, size a, each_length n g size as') (omega arith)

counted : (at : ℕ) (o : Option (List SeqnSegment)) → (at ≡ at + length (if_there flat_sequence o) → ⊥) → Some ((at + length (if_there flat_sequence o) - at - 1) / 9) ≡ option_map length o
counted at None h = absurd (h (omega arith))
counted at (Some segments) h =
    let bytes : at + suc (length (each flat_segment segments)) - at - 1 ≡ length segments * 9 = omega (arith, each_length 9 flat_segment (λ g. ap suc (segment_length_lem g)) segments) in
    ap (λ (n : ℕ). Some (n / 9)) bytes ∙ ap Some (mul-div_cancel (length segments) (lit< tt))

pub sequence_counted : (v : Voice) (l : Layout) → l ≡ layout_of v → (l.sequence ≡ l.fade → ⊥) → Some ((l.fade - l.sequence - 1) / 9) ≡ option_map length v.sequence
unfolding fade_at
sequence_counted v l q h = rw q (counted (sequence_at v) v.sequence (rw q at h))
