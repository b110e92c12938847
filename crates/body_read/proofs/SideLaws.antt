-- What BODY gives to the sides, by cases, and what holds of it.
--     one_refused, one_gives, two_uneven, two_refused, two_gives     the sides by what their channels count
--     sides_unknown, sides_one, sides_two                            BODY by its compression and the number of channels
--     sides_known, sides_total, sides_suit                           what BODY gives has a known compression, and suits the header
-- Assumes nothing.
use mathlib.Core.Path.{◌≡◌, refl, sym, ap, ◌∙◌}
use mathlib.Core.Bool.{Bool, true, false, cond, ◌||◌, and-true, and-false, and-eq-true_iff}
use mathlib.Core.List.{List, []}
use Prim.Native.Nat.{ℕ, ◌/◌, ◌^◌, ◌<◌}
use native.Mathlib.Omega.{arith}
use borrow.Author.Tests.{le-leb, eq-eqb}
use lib.Dec.{eqb}
use lib.IntN.{ℤ}
use lib.ListN.{length, take, drop, length-take, length-drop}
use Rattle.header.specs.Compression.{known_compression, by_compression}
use Rattle.header.specs.Octaves.{hi, total_samples}
use Rattle.header.specs.declared.compression.Compression.{Compression}
use Rattle.header.specs.declared.voice_header.VoiceHeader.{VoiceHeader}
use Rattle.samples.specs.Halves.{left_half, right_half, uneven}
use Rattle.body_read.specs.Sides.{Sides, channel_samples, one_side, two_sides, body_sides, lengths_suit}
use Rattle.body_read.specs.Answers.{SidesFit, left_after, right_after}
use Rattle.body_read.specs.Helpers.{sample_count_of, stream_samples}
use Rattle.body_read.proofs.ChannelLaws.{count_refused, same_count, channel_gives, channel_of_lem}
use Rattle.refusal.specs.declared.Refusal.TheVariants.{OddHalves}
use Rattle.refusal.specs.Outcome.{Outcome, and_then, buffer_after}
use Rattle.refusal.specs.declared.Refusal.{Refusal}
use Rattle.std.specs.Prelude.{Err, Ok}

-- ---- one side

-- one channel, and no right side
abbrev alone : Outcome (List ℤ) → Outcome Sides
alone o = and_then o (λ left. Ok (record { left = left; right = [] }))

module _ (h : VoiceHeader) (c : Compression) (body : List ℕ) where
  pub one_refused : (refusal : Refusal) → channel_samples h c body ≡ Err refusal → one_side h c body ≡ Err refusal
  unfolding one_side
  one_refused refusal e = rw e

  pub one_gives : (samples : List ℤ) → channel_samples h c body ≡ Ok samples → one_side h c body ≡ Ok (record { left = samples; right = [] })
  unfolding one_side
  one_gives samples e = rw e

  -- the buffers after the call, where there is room
  pub one_written :
      (left right left' : List ℤ) → SidesFit (one_side h c body) (length left) (length right) → left' ≡ buffer_after (channel_samples h c body) left →
      (left' ≡ left_after (one_side h c body) left) × (right ≡ right_after (one_side h c body) right)
  unfolding one_side
  one_written left right left' = go (channel_samples h c body)
    where
      go : (o : Outcome (List ℤ)) → SidesFit (alone o) (length left) (length right) → left' ≡ buffer_after o left → (left' ≡ left_after (alone o) left) × (right ≡ right_after (alone o) right)
      go (Ok xs) room e = (rw (le-leb (length xs) (length left) room.0) at e, refl)
      go (Err refusal) room e = (e, refl)

-- ---- two sides

-- the halves are of one length
halves_same : (body : List ℕ) → length (left_half body) ≡ length (right_half body)
halves_same body = omega (arith, length-take (length body / 2) body, length-take (length body / 2) (drop (length body / 2) body), length-drop (length body / 2) body)

-- both channels, each by itself
abbrev both : Outcome (List ℤ) → Outcome (List ℤ) → Outcome Sides
both l r = and_then l (λ left. and_then r (λ right. Ok (record { left = left; right = right })))

module _ (h : VoiceHeader) (c : Compression) (body : List ℕ) where
  pub two_uneven : uneven c body ≡ true → two_sides h c body ≡ Err OddHalves
  unfolding two_sides
  two_uneven u = rw u

  pub halves_count : sample_count_of (channel_samples h c (left_half body)) ≡ sample_count_of (channel_samples h c (right_half body))
  halves_count = same_count h c (left_half body) (right_half body) (halves_same body)

  module _ (u : uneven c body ≡ false) where
    pub two_both : two_sides h c body ≡ both (channel_samples h c (left_half body)) (channel_samples h c (right_half body))
    unfolding two_sides
    two_both = rw u

    pub two_refused : (refusal : Refusal) → sample_count_of (channel_samples h c (left_half body)) ≡ Err refusal → two_sides h c body ≡ Err refusal
    two_refused refusal e = rw (two_both, count_refused (channel_samples h c (left_half body)) refusal e)

    pub two_gives :
        (n : ℕ) → sample_count_of (channel_samples h c (left_half body)) ≡ Ok n →
        two_sides h c body ≡ Ok (record { left = take n (stream_samples c (left_half body)); right = take n (stream_samples c (right_half body)) })
    two_gives n e =
        let left = channel_gives h c (left_half body) n e in
        let right = channel_gives h c (right_half body) n (sym halves_count ∙ e) in
        rw (two_both, left.is, right.is)

    -- the buffers after the calls, where there is room
    pub two_written :
        (left right left' right' : List ℤ) → SidesFit (two_sides h c body) (length left) (length right) →
        left' ≡ buffer_after (channel_samples h c (left_half body)) left → right' ≡ buffer_after (channel_samples h c (right_half body)) right →
        (left' ≡ left_after (two_sides h c body) left) × (right' ≡ right_after (two_sides h c body) right)
    two_written left right left' right' = rw two_both (go (channel_samples h c (left_half body)) (channel_samples h c (right_half body)) halves_count)
      where
        go :
            (l r : Outcome (List ℤ)) → sample_count_of l ≡ sample_count_of r → SidesFit (both l r) (length left) (length right) → left' ≡ buffer_after l left →
            right' ≡ buffer_after r right → (left' ≡ left_after (both l r) left) × (right' ≡ right_after (both l r) right)
        go (Ok xs) (Ok ys) e room p q = (rw (le-leb (length xs) (length left) room.0) at p, rw (le-leb (length ys) (length right) room.1) at q)
        go (Ok xs) (Err k) e room p q = let z : ◌≡◌ {A = ℕ} 0 1 = cc in absurd (omega arith)
        go (Err k) (Ok ys) e room p q = let z : ◌≡◌ {A = ℕ} 0 1 = cc in absurd (omega arith)
        go (Err k) (Err m) e room p q = (p, q)

-- ---- BODY

module _ (h : VoiceHeader) (stereo : Bool) (body : List ℕ) where
  pub sides_unknown : (refusal : Refusal) → known_compression h.compression_byte ≡ Err refusal → body_sides h stereo body ≡ Err refusal
  unfolding body_sides
  sides_unknown refusal e = rw e

  module _ (c : Compression) (e : known_compression h.compression_byte ≡ Ok c) where
    pub sides_two : stereo ≡ true → body_sides h stereo body ≡ two_sides h c body
    unfolding body_sides
    sides_two t = rw (e, t)

    pub sides_one : stereo ≡ false → body_sides h stereo body ≡ one_side h c body
    unfolding body_sides
    sides_one t = rw (e, t)

-- ---- lengths that suit

module _ (h : VoiceHeader) (stereo : Bool) (left right : ℕ) where
  -- the right side is as long as the number of channels wants
  abbrev pub right_suits : Bool
  right_suits = cond stereo (eqb right left) (eqb right 0)

  pub suit_not : right_suits ≡ false → lengths_suit h stereo left right ≡ false
  unfolding lengths_suit
  suit_not e = rw e (and-false (eqb (hi h) 0 || eqb left (total_samples h)))

  pub suit_is : right_suits ≡ true → lengths_suit h stereo left right ≡ (eqb (hi h) 0 || eqb left (total_samples h))
  unfolding lengths_suit
  suit_is e = rw e (and-true (eqb (hi h) 0 || eqb left (total_samples h)))

  -- the other way
  pub suit_parts : lengths_suit h stereo left right ≡ true → ((eqb (hi h) 0 || eqb left (total_samples h)) ≡ true) × (right_suits ≡ true)
  unfolding lengths_suit
  suit_parts e = (and-eq-true_iff (eqb (hi h) 0 || eqb left (total_samples h)) right_suits).0 e

-- ---- what BODY gives

-- one channel's samples, and none at right
pub record One (h : VoiceHeader) (c : Compression) (body : List ℕ) (s : Sides) : Type 0 where
  pub left : channel_samples h c body ≡ Ok s.left
  pub right : s.right ≡ []

pub one_parts : (h : VoiceHeader) (c : Compression) (body : List ℕ) (s : Sides) → one_side h c body ≡ Ok s → One h c body s
unfolding one_side
one_parts h c body s = go (channel_samples h c body) refl
  where
    go : (o : Outcome (List ℤ)) → channel_samples h c body ≡ o → alone o ≡ Ok s → One h c body s
    go (Ok xs) q e = record { left = q ∙ cc; right = cc }
    go (Err k) q e = let z : ◌≡◌ {A = ℕ} 0 1 = cc in absurd (omega arith)

-- both channels' samples
pub record Two (h : VoiceHeader) (c : Compression) (body : List ℕ) (s : Sides) : Type 0 where
  pub left : channel_samples h c (left_half body) ≡ Ok s.left
  pub right : channel_samples h c (right_half body) ≡ Ok s.right

pub two_parts : (h : VoiceHeader) (c : Compression) (body : List ℕ) (s : Sides) → two_sides h c body ≡ Ok s → Two h c body s
unfolding two_sides
two_parts h c body s = test (uneven c body)
  where
    go : (l r : Outcome (List ℤ)) → channel_samples h c (left_half body) ≡ l → channel_samples h c (right_half body) ≡ r → both l r ≡ Ok s → Two h c body s
    go (Ok xs) (Ok ys) p q e = record { left = p ∙ cc; right = q ∙ cc }
    go (Ok xs) (Err k) p q e = let z : ◌≡◌ {A = ℕ} 0 1 = cc in absurd (omega arith)
    go (Err k) r p q e = let z : ◌≡◌ {A = ℕ} 0 1 = cc in absurd (omega arith)

    test : (t : Bool) → cond t (Err OddHalves) (both (channel_samples h c (left_half body)) (channel_samples h c (right_half body))) ≡ Ok s → Two h c body s
    test true e = let z : ◌≡◌ {A = ℕ} 0 1 = cc in absurd (omega arith)
    test false e = go (channel_samples h c (left_half body)) (channel_samples h c (right_half body)) refl refl e

-- the total fits 64 bits, and the lengths suit
record Suited (h : VoiceHeader) (stereo : Bool) (s : Sides) : Type 0 where
  total : total_samples h < 2 ^ 64
  suits : lengths_suit h stereo (length s.left) (length s.right) ≡ true

one_suited : (h : VoiceHeader) (c : Compression) (body : List ℕ) (s : Sides) → One h c body s → Suited h false s
one_suited h c body s o =
    let k = channel_of_lem h c body s.left o.left in
    let none : length s.right ≡ 0 = ap length o.right in
    record { total = k.total; suits = suit_is h false (length s.left) (length s.right) (eq-eqb (length s.right) 0 none) ∙ k.suits }

two_suited : (h : VoiceHeader) (c : Compression) (body : List ℕ) (s : Sides) → Two h c body s → Suited h true s
two_suited h c body s o =
    let k = channel_of_lem h c (left_half body) s.left o.left in
    let counts : Ok (length s.left) ≡ Ok (length s.right) = sym (ap sample_count_of o.left) ∙ halves_count h c body ∙ ap sample_count_of o.right in
    let same : length s.right ≡ length s.left = cc in
    record { total = k.total; suits = suit_is h true (length s.left) (length s.right) (eq-eqb (length s.right) (length s.left) same) ∙ k.suits }

-- the compression is known, and one or two channels give the sides by it
pub record Source (h : VoiceHeader) (stereo : Bool) (body : List ℕ) (s : Sides) : Type 0 where
  pub compression : Compression
  pub known : known_compression h.compression_byte ≡ Ok compression
  pub is : cond stereo (two_sides h compression body) (one_side h compression body) ≡ Ok s

pub sides_known : (h : VoiceHeader) (stereo : Bool) (body : List ℕ) (s : Sides) → body_sides h stereo body ≡ Ok s → Source h stereo body s
unfolding body_sides
sides_known h stereo body s = go (known_compression h.compression_byte) refl
  where
    go : (k : Outcome Compression) → known_compression h.compression_byte ≡ k → by_compression k (λ c. cond stereo (two_sides h c body) (one_side h c body)) ≡ Ok s → Source h stereo body s
    go (Ok c) q e = record { compression = c; known = q; is = e }
    go (Err k) q e = let z : ◌≡◌ {A = ℕ} 0 1 = cc in absurd (omega arith)

suited : (h : VoiceHeader) (stereo : Bool) (body : List ℕ) (s : Sides) → Source h stereo body s → Suited h stereo s
suited h true body s o = two_suited h o.compression body s (two_parts h o.compression body s o.is)
suited h false body s o = one_suited h o.compression body s (one_parts h o.compression body s o.is)

pub sides_total : (h : VoiceHeader) (stereo : Bool) (body : List ℕ) (s : Sides) → body_sides h stereo body ≡ Ok s → total_samples h < 2 ^ 64
sides_total h stereo body s e = (suited h stereo body s (sides_known h stereo body s e)).total

pub sides_suit : (h : VoiceHeader) (stereo : Bool) (body : List ℕ) (s : Sides) → body_sides h stereo body ≡ Ok s → lengths_suit h stereo (length s.left) (length s.right) ≡ true
sides_suit h stereo body s e = (suited h stereo body s (sides_known h stereo body s e)).suits
