-- The parts of a voice in its flat form: what stands from each part's place on, and that the passes over the parts end at the places.
-- The parts follow one another, and no part begins with a kind of the part before it.
--     at_header, at_channel .. at_fade       the bytes from a part's place on: the part, and the parts after it
--     pass_channel .. pass_fade              a pass over a part ends at the next one's place
-- Assumes nothing.
use Prim.Native.Nat.{ℕ, suc, ◌+◌}
use lib.Dec.{eqb}
use lib.ListN.{length, drop}
use lib.Seq.{drop-drop, drop-append_seam}
use mathlib.Core.Bool.{Bool, false, ◌||◌}
use mathlib.Core.List.{List, [], ◌∷◌, ◌++◌, append-nil, append_assoc}
use mathlib.Core.Path.{◌≡◌, refl, sym, ap, ◌∙◌}
use Rattle.laws.proofs.Cases.{neither}
use Rattle.laws.specs.Walk.{each}
use Rattle.header.specs.Header.{header_bytes}
use Rattle.header.proofs.HeaderLaws.{header_length}
use Rattle.small_chunks.specs.Channel.{channel_value_of}
use Rattle.small_chunks.specs.Envelope.{point_bytes}
use Rattle.small_chunks.specs.Pan.{pan_bytes}
use Rattle.small_chunks.specs.Sequence.{segment_bytes, fade_bytes}
use Rattle.small_chunks.proofs.FieldLaws.{point_length, segment_length_lem, pan_length, fade_length}
use Rattle.sheet.specs.Flat.{if_there, flat_envelope, flat_sequence, flat_text, flat}
use Rattle.sheet.specs.Voice.{Voice}
use Rattle.sheet_layout.specs.Layout.{channel_at, pan_at, attacks_at, releases_at, sequence_at, fade_at, texts_at}
use Rattle.sheet_layout.specs.Stretch.{starts_with, one_length, stretch}
use Rattle.sheet_layout.proofs.StretchLaws.{starts_each, starts_there, one_there, groups_passed, group_passed}

-- ---- the parts that may be empty, and each with the parts after it

abbrev pub from_texts : Voice → List ℕ
from_texts v = each flat_text v.texts

abbrev pub fade_part : Voice → List ℕ
fade_part v = if_there (λ f. 9 ∷ fade_bytes f) v.fade

abbrev pub from_fade : Voice → List ℕ
from_fade v = fade_part v ++ from_texts v

abbrev pub sequence_part : Voice → List ℕ
sequence_part v = if_there flat_sequence v.sequence

abbrev pub from_sequence : Voice → List ℕ
from_sequence v = sequence_part v ++ from_fade v

abbrev pub releases_part : Voice → List ℕ
releases_part v = each (flat_envelope 5) v.releases

abbrev pub from_releases : Voice → List ℕ
from_releases v = releases_part v ++ from_sequence v

abbrev pub attacks_part : Voice → List ℕ
attacks_part v = each (flat_envelope 4) v.attacks

abbrev pub from_attacks : Voice → List ℕ
from_attacks v = attacks_part v ++ from_releases v

abbrev pub pan_part : Voice → List ℕ
pan_part v = if_there (λ p. 3 ∷ pan_bytes p) v.pan

abbrev pub from_pan : Voice → List ℕ
from_pan v = pan_part v ++ from_attacks v

abbrev pub channel_part : Voice → List ℕ
channel_part v = if_there (λ c. 2 ∷ channel_value_of c ∷ []) v.channel

abbrev pub from_channel : Voice → List ℕ
from_channel v = channel_part v ++ from_pan v

-- ---- their places

-- past a part stands what follows it
past_part : (at : ℕ) (s p r : List ℕ) → drop at s ≡ p ++ r → drop (at + length p) s ≡ r
past_part at s p r e = sym (drop-drop (length p) at s) ∙ ap (drop (length p)) e ∙ drop-append_seam p r

module _ (v : Voice) (s : List ℕ) (e : flat v ≡ s) where
  whole : s ≡ (1 ∷ header_bytes v.header) ++ from_channel v
  unfolding flat
  whole = sym e ∙ simp append_assoc

  pub at_header : drop 1 s ≡ header_bytes v.header ++ from_channel v
  at_header = ap (drop 1) whole

  pub at_channel : drop (channel_at v) s ≡ from_channel v
  unfolding channel_at
  at_channel = rw (header_length v.header) at (past_part 1 s (header_bytes v.header) (from_channel v) at_header)

  pub at_pan : drop (pan_at v) s ≡ from_pan v
  unfolding pan_at
  at_pan = past_part (channel_at v) s (channel_part v) (from_pan v) at_channel

  pub at_attacks : drop (attacks_at v) s ≡ from_attacks v
  unfolding attacks_at
  at_attacks = past_part (pan_at v) s (pan_part v) (from_attacks v) at_pan

  pub at_releases : drop (releases_at v) s ≡ from_releases v
  unfolding releases_at
  at_releases = past_part (attacks_at v) s (attacks_part v) (from_releases v) at_attacks

  pub at_sequence : drop (sequence_at v) s ≡ from_sequence v
  unfolding sequence_at
  at_sequence = past_part (releases_at v) s (releases_part v) (from_sequence v) at_releases

  pub at_fade : drop (fade_at v) s ≡ from_fade v
  unfolding fade_at
  at_fade = past_part (sequence_at v) s (sequence_part v) (from_fade v) at_sequence

-- ---- kinds that no later part begins with

-- that a kind is one of these
abbrev among : ℕ → List ℕ → Bool
among k [] = false
among k (b ∷ bs) = eqb b k || among k bs

-- the first kind of each part, or that of a part after it
module _ (k : ℕ) (v : Voice) where
  no_text : among k (10 ∷ []) ≡ false → starts_with k (from_texts v) ≡ false
  no_text h = rw append-nil at (starts_each k flat_text (λ t r. (neither (eqb 10 k) _ h).0) [] refl v.texts)

  no_fade : among k (9 ∷ 10 ∷ []) ≡ false → starts_with k (from_fade v) ≡ false
  no_fade h = starts_there k (λ f. 9 ∷ fade_bytes f) (λ f r. (neither (eqb 9 k) _ h).0) (from_texts v) (no_text (neither (eqb 9 k) _ h).1) v.fade

  no_sequence : among k (7 ∷ 9 ∷ 10 ∷ []) ≡ false → starts_with k (from_sequence v) ≡ false
  no_sequence h = starts_there k flat_sequence (λ q r. (neither (eqb 7 k) _ h).0) (from_fade v) (no_fade (neither (eqb 7 k) _ h).1) v.sequence

  no_release : among k (5 ∷ 7 ∷ 9 ∷ 10 ∷ []) ≡ false → starts_with k (from_releases v) ≡ false
  no_release h = starts_each k (flat_envelope 5) (λ p r. (neither (eqb 5 k) _ h).0) (from_sequence v) (no_sequence (neither (eqb 5 k) _ h).1) v.releases

  no_attack : among k (4 ∷ 5 ∷ 7 ∷ 9 ∷ 10 ∷ []) ≡ false → starts_with k (from_attacks v) ≡ false
  no_attack h = starts_each k (flat_envelope 4) (λ p r. (neither (eqb 4 k) _ h).0) (from_releases v) (no_release (neither (eqb 4 k) _ h).1) v.attacks

  no_pan : among k (3 ∷ 4 ∷ 5 ∷ 7 ∷ 9 ∷ 10 ∷ []) ≡ false → starts_with k (from_pan v) ≡ false
  no_pan h = starts_there k (λ p. 3 ∷ pan_bytes p) (λ p r. (neither (eqb 3 k) _ h).0) (from_attacks v) (no_attack (neither (eqb 3 k) _ h).1) v.pan

-- ---- passes

-- a pass over the part p, from where it begins
pass : (over : List ℕ → ℕ) (at : ℕ) (s p r : List ℕ) → drop at s ≡ p ++ r → over (p ++ r) ≡ length p → at + over (drop at s) ≡ at + length p
pass over at s p r e h = ap (λ (n : ℕ). at + n) (ap over e ∙ h)

module _ (v : Voice) (s : List ℕ) (e : flat v ≡ s) where
  pub pass_channel : channel_at v + one_length 2 2 (drop (channel_at v) s) ≡ pan_at v
  unfolding pan_at
  pass_channel =
      pass (one_length 2 2) (channel_at v) s (channel_part v) (from_pan v) (at_channel v s e)
      (one_there 2 2 (λ c. channel_value_of c ∷ []) (λ c. refl) v.channel (from_pan v) (no_pan 2 v refl))

  pub pass_pan : pan_at v + one_length 3 5 (drop (pan_at v) s) ≡ attacks_at v
  unfolding attacks_at
  pass_pan =
      pass (one_length 3 5) (pan_at v) s (pan_part v) (from_attacks v) (at_pan v s e)
      (one_there 3 5 pan_bytes (λ p. ap suc (pan_length p)) v.pan (from_attacks v) (no_attack 3 v refl))

  pub pass_attacks : attacks_at v + stretch 4 6 7 (drop (attacks_at v) s) ≡ releases_at v
  unfolding releases_at
  pass_attacks =
      pass (stretch 4 6 7) (attacks_at v) s (attacks_part v) (from_releases v) (at_attacks v s e)
      (groups_passed 4 6 7 point_bytes refl (λ p. ap suc (point_length p)) (from_releases v) (no_release 4 v refl) (no_release 6 v refl) v.attacks)

  pub pass_releases : releases_at v + stretch 5 6 7 (drop (releases_at v) s) ≡ sequence_at v
  unfolding sequence_at
  pass_releases =
      pass (stretch 5 6 7) (releases_at v) s (releases_part v) (from_sequence v) (at_releases v s e)
      (groups_passed 5 6 7 point_bytes refl (λ p. ap suc (point_length p)) (from_sequence v) (no_sequence 5 v refl) (no_sequence 6 v refl) v.releases)

  pub pass_sequence : sequence_at v + stretch 7 8 9 (drop (sequence_at v) s) ≡ fade_at v
  unfolding fade_at
  pass_sequence =
      pass (stretch 7 8 9) (sequence_at v) s (sequence_part v) (from_fade v) (at_sequence v s e)
      (group_passed 7 8 9 segment_bytes refl (λ q. ap suc (segment_length_lem q)) (from_fade v) (no_fade 7 v refl) (no_fade 8 v refl) v.sequence)

  pub pass_fade : fade_at v + one_length 9 5 (drop (fade_at v) s) ≡ texts_at v
  unfolding texts_at
  pass_fade =
      pass (one_length 9 5) (fade_at v) s (fade_part v) (from_texts v) (at_fade v s e)
      (one_there 9 5 fade_bytes (λ f. ap suc (fade_length f)) v.fade (from_texts v) (no_text 9 v refl))

-- a pass that began at a part's place ends where a pass from there ends
pub pass_to : (over : List ℕ → ℕ) (s : List ℕ) (at place r next : ℕ) → at ≡ place → r ≡ at + over (drop at s) → place + over (drop place s) ≡ next → r ≡ next
pass_to over s at place r next e h p = h ∙ ap (λ (x : ℕ). x + over (drop x s)) e ∙ p
