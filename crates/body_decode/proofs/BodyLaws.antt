-- What a BODY gives, case by case, and that a raw byte is its sample's byte.
-- Assumes nothing.
use mathlib.Core.Path.{◌≡◌, refl, sym, ap, ◌∙◌}
use mathlib.Core.List.{List, [], ◌∷◌, map}
use Prim.Native.Nat.{ℕ, zero, suc, ◌+◌, ◌/◌, ◌%◌, ◌≤◌, ◌<◌, min}
use native.Mathlib.Omega.{arith}
use borrow.Author.Tests.{lt-ltb, le-ltb, ne_eqb}
use lib.IntN.{ℤ, pos}
use lib.ListN.{length, take, drop, get_or, length-map, length-take, length-drop, get_or-map}
use lib.Seq.{get_or-take, length-take-le}
use Rattle.field.specs.BigEndian.{Bytes}
use Rattle.field.specs.Signed.{twos_complement_bits, sample_of, byte_of}
use Rattle.field.proofs.BigEndianLaws.{bytes_tail, bytes_take, bytes_drop}
use Rattle.field.proofs.SignedLaws.{byte_sample}
use Rattle.header.specs.Compression.{known_compression}
use Rattle.header.specs.declared.compression.Compression.{Compression}
use Rattle.header.specs.declared.compression.Compression.TheVariants.{None, Fibonacci}
use Rattle.fibonacci.specs.Decode.{fib_samples}
use Rattle.samples.specs.Stream.{stream}
use Rattle.samples.specs.Halves.{left_half, right_half}
use Rattle.laws.specs.Turns.{by_turns}
use Rattle.body_decode.specs.Body.{frame_bytes, one_channel, two_channels, decoded_body}
use Rattle.laws.proofs.TurnLaws.{by_turns_length}
use Rattle.refusal.specs.declared.Refusal.TheVariants.{OddHalves, ChannelShort}
use Rattle.refusal.specs.declared.Refusal.{Refusal}
use Rattle.std.specs.Prelude.{Err, Ok}

-- ---- at most so many

-- as many as there are, or as the limit says
pub take_least : {A : Type 0} (limit : ℕ) (l : List A) → take (min limit (length l)) l ≡ take limit l
take_least zero [] = refl
take_least zero (x ∷ l) = let none : min 0 (suc (length l)) ≡ 0 = omega arith in rw none
take_least (suc n) [] = let none : min (suc n) 0 ≡ 0 = omega arith in rw none
take_least (suc n) (x ∷ l) =
    let both : min (suc n) (suc (length l)) ≡ suc (min n (length l)) = omega arith in
    rw both (ap (◌∷◌ x) (take_least n l))

-- ---- raw bytes

raw_frames : (limit : ℕ) (l : List ℕ) → Bytes l → frame_bytes limit (map sample_of l) ≡ take limit l
raw_frames zero l h = refl
raw_frames (suc n) [] h = refl
raw_frames (suc n) (b ∷ l) h = rw (byte_sample b (h 0), raw_frames n l (bytes_tail b l h))

-- ---- one channel

module _ (limit : ℕ) (body : List ℕ) where
  pub one_raw_is : Bytes body → one_channel None limit body ≡ Ok (take limit body)
  unfolding one_channel stream
  one_raw_is h = ap Ok (raw_frames limit body h)

  pub one_short : length body < 2 → one_channel Fibonacci limit body ≡ Err ChannelShort
  unfolding one_channel stream
  one_short h = rw (lt-ltb (length body) 2 h)

  pub one_fibonacci_is : 2 ≤ length body → one_channel Fibonacci limit body ≡ Ok (frame_bytes limit (fib_samples body))
  unfolding one_channel stream
  one_fibonacci_is h = rw (le-ltb (length body) 2 h)

-- n is the number of frames that a channel gives
module _ (limit : ℕ) (samples : List ℤ) (n : ℕ) (e : n ≡ min limit (length samples)) where
  pub frames_length : n ≡ length (frame_bytes limit samples)
  frames_length = e ∙ sym (length-map (take limit samples) byte_of ∙ length-take limit samples)

  pub frames_are : frame_bytes n samples ≡ frame_bytes limit samples
  frames_are = rw e (ap (map byte_of) (take_least limit samples))

-- n frames, of a channel that has so many
pub frame_length : (n : ℕ) (samples : List ℤ) → n ≤ length samples → length (frame_bytes n samples) ≡ n
frame_length n samples h = length-map (take n samples) byte_of ∙ length-take-le n samples h

pub frame_at : (n : ℕ) (samples : List ℤ) (i : ℕ) → i < n → n ≤ length samples → get_or (frame_bytes n samples) i 0 ≡ byte_of (get_or samples i (pos 0))
unfolding twos_complement_bits
frame_at n samples i h k = get_or-map byte_of (take n samples) i (pos 0) ∙ ap byte_of (get_or-take n samples i (pos 0) h)

-- ---- two channels

-- both halves are half as long
pub half_length : (body : List ℕ) → length (left_half body) ≡ length body / 2
half_length body = rw length-take (omega arith)

pub right_length : (body : List ℕ) → length (right_half body) ≡ length body / 2
right_length body = rw (length-take, length-drop) (omega arith)

module _ (limit : ℕ) (body : List ℕ) where
  pub two_raw_is : Bytes body → two_channels None limit body ≡ Ok (by_turns (take limit (left_half body)) (take limit (right_half body)))
  unfolding two_channels stream
  two_raw_is h =
      let left = raw_frames limit (left_half body) (bytes_take (length body / 2) body h) in
      let right = raw_frames limit (right_half body) (bytes_take (length body / 2) (drop (length body / 2) body) (bytes_drop (length body / 2) body h)) in
      rw (left, right)

  pub two_odd : length body % 2 ≡ 1 → two_channels Fibonacci limit body ≡ Err OddHalves
  unfolding two_channels
  two_odd e = rw e

  module _ (even : length body % 2 ≡ 1 → ⊥) where
    pub two_short : length body / 2 < 2 → two_channels Fibonacci limit body ≡ Err ChannelShort
    unfolding two_channels stream
    two_short h =
        let left : length (left_half body) < 2 = rw (half_length body) h in
        rw (ne_eqb (length body % 2) 1 even, lt-ltb (length (left_half body)) 2 left)

    pub two_fibonacci_is : 2 ≤ length body / 2 → two_channels Fibonacci limit body ≡ Ok (by_turns (frame_bytes limit (fib_samples (left_half body))) (frame_bytes limit (fib_samples (right_half body))))
    unfolding two_channels stream
    two_fibonacci_is h =
        let left : 2 ≤ length (left_half body) = rw (half_length body) h in
        let right : 2 ≤ length (right_half body) = rw (right_length body) h in
        rw (ne_eqb (length body % 2) 1 even, le-ltb (length (left_half body)) 2 left, le-ltb (length (right_half body)) 2 right)

-- n is the number of frames that raw halves give
module _ (limit : ℕ) (body : List ℕ) (n : ℕ) (e : n ≡ min limit (length body / 2)) where
  pub raw_halves_length : n + n ≡ length (by_turns (take limit (left_half body)) (take limit (right_half body)))
  raw_halves_length =
      let left : length (take limit (left_half body)) ≡ n = rw (length-take limit (left_half body), half_length body) (sym e) in
      let right : length (take limit (right_half body)) ≡ n = rw (length-take limit (right_half body), right_length body) (sym e) in
      sym (by_turns_length (take limit (left_half body)) (take limit (right_half body)) n left right)

  pub raw_halves_are : by_turns (take n (left_half body)) (take n (right_half body)) ≡ by_turns (take limit (left_half body)) (take limit (right_half body))
  raw_halves_are =
      let left : n ≡ min limit (length (left_half body)) = e ∙ ap (min limit) (sym (half_length body)) in
      let right : n ≡ min limit (length (right_half body)) = e ∙ ap (min limit) (sym (right_length body)) in
      let ls : take n (left_half body) ≡ take limit (left_half body) = ap (λ (k : ℕ). take k (left_half body)) left ∙ take_least limit (left_half body) in
      let rs : take n (right_half body) ≡ take limit (right_half body) = ap (λ (k : ℕ). take k (right_half body)) right ∙ take_least limit (right_half body) in
      ap (λ (l : List ℕ). by_turns l (take n (right_half body))) ls ∙ ap (by_turns (take limit (left_half body))) rs

-- the same of two channels of samples, of one length
module _ (limit : ℕ) (ls rs : List ℤ) (n : ℕ) (el : n ≡ min limit (length ls)) (er : n ≡ min limit (length rs)) where
  pub halves_length : n + n ≡ length (by_turns (frame_bytes limit ls) (frame_bytes limit rs))
  halves_length = sym (by_turns_length (frame_bytes limit ls) (frame_bytes limit rs) n (sym (frames_length limit ls n el)) (sym (frames_length limit rs n er)))

  pub halves_are : by_turns (frame_bytes n ls) (frame_bytes n rs) ≡ by_turns (frame_bytes limit ls) (frame_bytes limit rs)
  halves_are = rw (frames_are limit ls n el, frames_are limit rs n er)

-- ---- a whole BODY

module _ (byte channels limit : ℕ) (body : List ℕ) where
  pub decoded_unknown : (refusal : Refusal) → known_compression byte ≡ Err refusal → decoded_body byte channels limit body ≡ Err refusal
  decoded_unknown refusal e = rw e

  module _ (c : Compression) (e : known_compression byte ≡ Ok c) where
    pub decoded_two : 1 < channels → decoded_body byte channels limit body ≡ two_channels c limit body
    decoded_two h = rw (e, lt-ltb 1 channels h)

    pub decoded_one : channels ≤ 1 → decoded_body byte channels limit body ≡ one_channel c limit body
    decoded_one h = rw (e, le-ltb 1 channels h)
