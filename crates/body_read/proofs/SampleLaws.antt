-- Every sample of the sides lies within -128..127, and raw samples written one side after the other are read back.
--     sides_samples     what BODY gives are samples
--     raw_back          the sides of raw samples written left side first
-- Assumes nothing.
use mathlib.Core.Path.{◌≡◌, refl, sym, ap, ◌∙◌}
use mathlib.Core.Bool.{Bool, true, false, ◌||◌}
use mathlib.Core.List.{List, [], ◌∷◌, ◌++◌, map, append-nil}
use Prim.Native.Nat.{ℕ, zero, suc, ◌/◌, ◌^◌, ◌≤◌, ◌<◌}
use native.Mathlib.Omega.{arith}
use borrow.Author.Tests.{eqb-true}
use lib.Dec.{eqb}
use lib.IntN.{ℤ}
use lib.ListN.{length, get_or, take, drop, length-map, length-append}
use lib.Seq.{take_at, drop_at, take_all}
use mir.Syntax.{w8}
use mir.Val.{SFits}
use Rattle.laws.proofs.Cases.{length_none}
use Rattle.field.specs.Signed.{Samples, sample_of, byte_of}
use Rattle.field.proofs.SignedLaws.{sample_fits, sample_byte, none_fits, samples_map, samples_take}
use Rattle.header.specs.Compression.{known_compression}
use Rattle.header.specs.Octaves.{hi, total_samples}
use Rattle.header.specs.declared.compression.Compression.{Compression}
use Rattle.header.specs.declared.compression.Compression.TheVariants.{None, Fibonacci}
use Rattle.header.specs.declared.voice_header.VoiceHeader.{VoiceHeader}
use Rattle.fibonacci.specs.Step.{fib_step}
use Rattle.fibonacci.specs.Decode.{nibbles, running, fib_samples}
use Rattle.fibonacci.proofs.StepLaws.{step_fits}
use Rattle.samples.specs.Halves.{left_half, right_half}
use Rattle.body_read.specs.Sides.{Sides, channel_samples, two_sides, body_sides, lengths_suit}
use Rattle.body_read.specs.Helpers.{stream_samples}
use Rattle.body_read.proofs.ChannelLaws.{channel_of_lem, channel_whole}
use Rattle.body_read.proofs.SideLaws.{one_gives, two_both, sides_one, sides_two, suit_parts, one_parts, two_parts, Source, sides_known}
use Rattle.std.specs.Prelude.{Ok}

-- ---- what is read

running_fits : (s : ℤ) (ks : List ℕ) → SFits w8 s → Samples (running s ks)
unfolding running
running_fits s [] h zero = h
running_fits s [] h (suc i) = none_fits
running_fits s (k ∷ ks) h zero = h
running_fits s (k ∷ ks) h (suc i) = running_fits (fib_step s k) ks (step_fits s k) i

stream_fits : (c : Compression) (bytes : List ℕ) → Samples (stream_samples c bytes)
unfolding fib_samples
stream_fits None bytes = samples_map sample_of sample_fits bytes
stream_fits Fibonacci bytes = running_fits (sample_of (get_or bytes 1 0)) (nibbles (drop 2 bytes)) (sample_fits (get_or bytes 1 0))

channel_fits : (h : VoiceHeader) (c : Compression) (bytes : List ℕ) (xs : List ℤ) → channel_samples h c bytes ≡ Ok xs → Samples xs
channel_fits h c bytes xs e =
    let first : Ok (take (length xs) (stream_samples c bytes)) ≡ Ok xs = sym (channel_of_lem h c bytes xs e).is ∙ e in
    let is : take (length xs) (stream_samples c bytes) ≡ xs = cc in
    rw is at (samples_take (length xs) (stream_samples c bytes) (stream_fits c bytes))

source_fits : (h : VoiceHeader) (stereo : Bool) (body : List ℕ) (s : Sides) → Source h stereo body s → Samples s.left × Samples s.right
source_fits h true body s o =
    let p = two_parts h o.compression body s o.is in
    (channel_fits h o.compression (left_half body) s.left p.left, channel_fits h o.compression (right_half body) s.right p.right)
source_fits h false body s o =
    let p = one_parts h o.compression body s o.is in
    (channel_fits h o.compression body s.left p.left, (λ i. rw p.right none_fits))

pub sides_samples : (h : VoiceHeader) (stereo : Bool) (body : List ℕ) (s : Sides) → body_sides h stereo body ≡ Ok s → Samples s.left × Samples s.right
sides_samples h stereo body s e = source_fits h stereo body s (sides_known h stereo body s e)

-- ---- what was written

-- a sample's byte is that sample again
bytes_back : (l : List ℤ) → Samples l → map sample_of (map byte_of l) ≡ l
bytes_back [] h = refl
bytes_back (x ∷ l) h = rw (sample_byte x (h 0), bytes_back l (λ i. h (suc i)))

-- parts of one length are the halves of the two joined
module _ (a b : List ℕ) (same : length b ≡ length a) where
  half_of : length (a ++ b) / 2 ≡ length a
  half_of = omega (arith, length-append a b)

  left_back : left_half (a ++ b) ≡ a
  left_back = rw half_of (take_at a b (length a) refl)

  right_back : right_half (a ++ b) ≡ b
  right_back =
      let all : length b ≤ length a = omega arith in
      rw (half_of, drop_at a b (length a) refl) (take_all (length a) b all)

module _ (h : VoiceHeader) (small : total_samples h < 2 ^ 64) where
  raw_channel : (l : List ℤ) → (eqb (hi h) 0 || eqb (length l) (total_samples h)) ≡ true → Samples l → channel_samples h None (map byte_of l) ≡ Ok l
  raw_channel l e f =
      let suits : (eqb (hi h) 0 || eqb (length (map byte_of l)) (total_samples h)) ≡ true = rw (length-map l byte_of) e in
      channel_whole h (map byte_of l) small suits ∙ ap Ok (bytes_back l f)

  raw_two :
      (l r : List ℤ) → length r ≡ length l → (eqb (hi h) 0 || eqb (length l) (total_samples h)) ≡ true → Samples l → Samples r →
      two_sides h None (map byte_of l ++ map byte_of r) ≡ Ok (record { left = l; right = r })
  raw_two l r same e fl fr =
      let halves : length (map byte_of r) ≡ length (map byte_of l) = length-map r byte_of ∙ same ∙ sym (length-map l byte_of) in
      let also : (eqb (hi h) 0 || eqb (length r) (total_samples h)) ≡ true = rw same e in
      let both = two_both h None (map byte_of l ++ map byte_of r) refl in
      let left = left_back (map byte_of l) (map byte_of r) halves in
      let right = right_back (map byte_of l) (map byte_of r) halves in
      rw (both, left, right, raw_channel l e fl, raw_channel r also fr)

pub raw_back :
    (h : VoiceHeader) (stereo : Bool) (l r : List ℤ) → known_compression h.compression_byte ≡ Ok None → total_samples h < 2 ^ 64 →
    lengths_suit h stereo (length l) (length r) ≡ true → Samples l → Samples r →
    body_sides h stereo (map byte_of l ++ map byte_of r) ≡ Ok (record { left = l; right = r })
raw_back h true l r k small e fl fr =
    let p = suit_parts h true (length l) (length r) e in
    sides_two h true (map byte_of l ++ map byte_of r) None k refl ∙ raw_two h small l r (eqb-true (length r) (length l) p.1) p.0 fl fr
raw_back h false l r k small e fl fr =
    let p = suit_parts h false (length l) (length r) e in
    let none : r ≡ [] = length_none r (eqb-true (length r) 0 p.1) in
    let body : map byte_of l ++ map byte_of r ≡ map byte_of l = rw none (append-nil (map byte_of l)) in
    rw (body, none) (sides_one h false (map byte_of l) None k refl ∙ one_gives h None (map byte_of l) l (raw_channel h small l p.0 fl))
