-- What one channel gives, by cases: of its stream, and of the part that the octaves keep.
--     stream_refused, stream_gives     what a stream of bytes is
--     same_count                       bytes of one length are refused alike, and give as many samples
--     channel_gives                    all that follows from the number of a channel's samples
--     channel_whole                    a raw channel as long as the header says is kept whole
-- Assumes nothing.
use mathlib.Core.Path.{◌≡◌, refl, sym, ap, ◌∙◌}
use mathlib.Core.Bool.{Bool, true, false, cond, ◌||◌}
use mathlib.Core.List.{List, [], ◌∷◌, map}
use Prim.Native.Nat.{ℕ, zero, suc, ◌+◌, ◌-◌, ◌*◌, ◌^◌, ◌≤◌, ◌<◌, zero-le}
use native.Mathlib.Omega.{arith}
use borrow.Author.Tests.{lt-ltb, le-ltb, le-leb, ltb-true, ltb-false, eq-eqb, eqb-true}
use lib.Dec.{eqb, ltb}
use lib.IntN.{ℤ}
use lib.ListN.{length, take, length-map}
use lib.Seq.{length-take-le, take_all}
use Rattle.laws.specs.Buffer.{written}
use Rattle.field.specs.Signed.{sample_of}
use Rattle.header.specs.Octaves.{hi, total_samples}
use Rattle.header.specs.declared.compression.Compression.{Compression}
use Rattle.header.specs.declared.compression.Compression.TheVariants.{None, Fibonacci}
use Rattle.header.specs.declared.voice_header.VoiceHeader.{VoiceHeader}
use Rattle.fibonacci.specs.Decode.{fib_samples}
use Rattle.fibonacci.proofs.DecodeLaws.{samples_length}
use Rattle.samples.specs.Stream.{stream}
use Rattle.body_read.specs.Sides.{octaves_of, channel_samples}
use Rattle.body_read.specs.Helpers.{sample_count_of, kept_of, stream_samples, StreamHas}
use Rattle.refusal.specs.declared.Refusal.TheVariants.{ChannelShort, OctaveTotal, SamplesShort}
use Rattle.refusal.specs.Outcome.{Outcome, and_then, buffer_after}
use Rattle.refusal.specs.declared.Refusal.{Refusal}
use Rattle.std.specs.Prelude.{Err, Ok}

-- ---- counts

-- a count tells whether samples are given
pub count_refused : (o : Outcome (List ℤ)) (refusal : Refusal) → sample_count_of o ≡ Err refusal → o ≡ Err refusal
count_refused (Ok xs) refusal e = let z : ◌≡◌ {A = ℕ} 0 1 = cc in absurd (omega arith)
count_refused (Err k) refusal e = cc

-- ---- a stream

pub stream_refused : (bytes : List ℕ) → length bytes < 2 → stream Fibonacci bytes ≡ Err ChannelShort
unfolding stream
stream_refused bytes h = rw (lt-ltb (length bytes) 2 h)

pub stream_gives : (c : Compression) (bytes : List ℕ) (n : ℕ) → StreamHas c bytes n → stream c bytes ≡ Ok (stream_samples c bytes)
unfolding stream
stream_gives None bytes n h = refl
stream_gives Fibonacci bytes n h = rw (le-ltb (length bytes) 2 h.0)

-- the first samples of a raw stream are those of its first bytes
raw_first : (n : ℕ) (bytes : List ℕ) → map sample_of (take n bytes) ≡ take n (stream_samples None bytes)
raw_first zero bytes = refl
raw_first (suc n) [] = refl
raw_first (suc n) (b ∷ bytes) = ap (◌∷◌ (sample_of b)) (raw_first n bytes)

-- what a buffer holds after them
pub raw_written :
    (n : ℕ) (bytes : List ℕ) (buffer : List ℤ) → n ≤ length bytes → n ≤ length buffer →
    buffer_after (Ok (map sample_of (take n bytes))) buffer ≡ written (take n (stream_samples None bytes)) buffer
raw_written n bytes buffer has room =
    let long : length (map sample_of (take n bytes)) ≡ n = length-map (take n bytes) sample_of ∙ length-take-le n bytes has in
    let fits : length (map sample_of (take n bytes)) ≤ length buffer = rw long room in
    rw (le-leb (length (map sample_of (take n bytes))) (length buffer) fits) (ap (λ (l : List ℤ). written l buffer) (raw_first n bytes))

-- how many samples n bytes give
abbrev pub count_in : Compression → ℕ → Outcome ℕ
count_in None n = Ok n
count_in Fibonacci n = cond (ltb n 2) (Err ChannelShort) (Ok (2 * (n - 2) + 1))

pub stream_count : (c : Compression) (bytes : List ℕ) → sample_count_of (stream c bytes) ≡ count_in c (length bytes)
unfolding stream
stream_count None bytes = ap Ok (length-map bytes sample_of)
stream_count Fibonacci bytes = go (ltb (length bytes) 2)
  where
    go : (t : Bool) → sample_count_of (cond t (Err ChannelShort) (Ok (fib_samples bytes))) ≡ cond t (Err ChannelShort) (Ok (2 * (length bytes - 2) + 1))
    go true = refl
    go false = ap Ok (samples_length bytes)

-- ---- what the octaves keep

-- how many are kept of so many
abbrev pub kept_count : VoiceHeader → Outcome ℕ → Outcome ℕ
kept_count h (Ok n) = kept_of h n
kept_count h (Err refusal) = Err refusal

module _ (h : VoiceHeader) (samples : List ℤ) where
  -- by the tests: that the total fits 64 bits, that hi is 0, that the stream is shorter than the total
  abbrev kept : Bool → Bool → Bool → Outcome (List ℤ)
  kept p q r = cond p (cond q (Ok samples) (cond r (Err SamplesShort) (Ok (take (total_samples h) samples)))) (Err OctaveTotal)

  octaves_count : sample_count_of (octaves_of h samples) ≡ kept_of h (length samples)
  octaves_count = go (ltb (total_samples h) (2 ^ 64)) (eqb (hi h) 0) (ltb (length samples) (total_samples h)) refl
    where
      go :
          (p q r : Bool) → ltb (length samples) (total_samples h) ≡ r →
          sample_count_of (kept p q r) ≡ cond p (cond q (Ok (length samples)) (cond r (Err SamplesShort) (Ok (total_samples h)))) (Err OctaveTotal)
      go false q r e = refl
      go true true r e = refl
      go true false true e = refl
      go true false false e = ap Ok (length-take-le (total_samples h) samples (ltb-false (length samples) (total_samples h) e))

  -- n of the samples are kept
  record Kept (n : ℕ) : Type 0 where
    pub within : n ≤ length samples
    pub is : octaves_of h samples ≡ Ok (take n samples)
    pub total : total_samples h < 2 ^ 64
    pub suits : (eqb (hi h) 0 || eqb n (total_samples h)) ≡ true

  octaves_kept : (n : ℕ) → sample_count_of (octaves_of h samples) ≡ Ok n → Kept n
  octaves_kept n = go (ltb (total_samples h) (2 ^ 64)) (eqb (hi h) 0) (ltb (length samples) (total_samples h)) refl refl refl
    where
      go : (p q r : Bool) → ltb (total_samples h) (2 ^ 64) ≡ p → eqb (hi h) 0 ≡ q → ltb (length samples) (total_samples h) ≡ r → sample_count_of (kept p q r) ≡ Ok n → Kept n
      go false q r pe qe re e = let z : ◌≡◌ {A = ℕ} 0 1 = cc in absurd (omega arith)
      go true true r pe qe re e =
          let all : length samples ≡ n = cc in
          record {
            within = omega arith;
            is = rw (pe, qe) (ap Ok (sym (take_all n samples (omega arith))));
            total = ltb-true (total_samples h) (2 ^ 64) pe;
            suits = rw qe;
          }
      go true false true pe qe re e = let z : ◌≡◌ {A = ℕ} 0 1 = cc in absurd (omega arith)
      go true false false pe qe re e =
          let long = ltb-false (length samples) (total_samples h) re in
          let counted : length (take (total_samples h) samples) ≡ n = cc in
          let first : total_samples h ≡ n = sym (length-take-le (total_samples h) samples long) ∙ counted in
          record {
            within = omega arith;
            is = rw (pe, qe, re) (ap (λ (k : ℕ). Ok (take k samples)) first);
            total = ltb-true (total_samples h) (2 ^ 64) pe;
            suits = rw (qe, eq-eqb n (total_samples h) (sym first));
          }

  -- as long as the total, or of any length where hi is 0: all are kept
  octaves_whole : total_samples h < 2 ^ 64 → (eqb (hi h) 0 || eqb (length samples) (total_samples h)) ≡ true → octaves_of h samples ≡ Ok samples
  octaves_whole small = go (eqb (hi h) 0) refl
    where
      go : (q : Bool) → eqb (hi h) 0 ≡ q → (q || eqb (length samples) (total_samples h)) ≡ true → octaves_of h samples ≡ Ok samples
      go true qe e = rw (lt-ltb (total_samples h) (2 ^ 64) small, qe)
      go false qe e =
          let same : length samples ≡ total_samples h = eqb-true (length samples) (total_samples h) e in
          let long : total_samples h ≤ length samples = omega arith in
          let short : length samples ≤ total_samples h = omega arith in
          rw (lt-ltb (total_samples h) (2 ^ 64) small, qe, le-ltb (length samples) (total_samples h) long) (ap Ok (take_all (total_samples h) samples short))

-- ---- a channel

pub channel_count_lem : (h : VoiceHeader) (c : Compression) (bytes : List ℕ) → sample_count_of (channel_samples h c bytes) ≡ kept_count h (sample_count_of (stream c bytes))
unfolding channel_samples
channel_count_lem h c bytes = go (stream c bytes)
  where
    go : (o : Outcome (List ℤ)) → sample_count_of (and_then o (octaves_of h)) ≡ kept_count h (sample_count_of o)
    go (Ok samples) = octaves_count h samples
    go (Err refusal) = refl

pub same_count : (h : VoiceHeader) (c : Compression) (a b : List ℕ) → length a ≡ length b → sample_count_of (channel_samples h c a) ≡ sample_count_of (channel_samples h c b)
same_count h c a b e = channel_count_lem h c a ∙ ap (kept_count h) (stream_count c a ∙ ap (count_in c) e ∙ sym (stream_count c b)) ∙ sym (channel_count_lem h c b)

-- a channel of n samples: its stream has so many, they are its first ones, and n suits the header
pub record Channel (h : VoiceHeader) (c : Compression) (bytes : List ℕ) (n : ℕ) : Type 0 where
  pub has : StreamHas c bytes n
  pub is : channel_samples h c bytes ≡ Ok (take n (stream_samples c bytes))
  pub long : length (take n (stream_samples c bytes)) ≡ n
  pub total : total_samples h < 2 ^ 64
  pub suits : (eqb (hi h) 0 || eqb n (total_samples h)) ≡ true

-- from a stream that gives samples
channel_from :
    (h : VoiceHeader) (c : Compression) (bytes : List ℕ) (n : ℕ) → stream c bytes ≡ Ok (stream_samples c bytes) →
    (n ≤ length (stream_samples c bytes) → StreamHas c bytes n) → sample_count_of (channel_samples h c bytes) ≡ Ok n → Channel h c bytes n
unfolding channel_samples
channel_from h c bytes n s has e =
    let k = octaves_kept h (stream_samples c bytes) n (rw s at e) in
    record {
      has = has k.within;
      is = rw s k.is;
      long = length-take-le n (stream_samples c bytes) k.within;
      total = k.total;
      suits = k.suits;
    }

pub channel_gives : (h : VoiceHeader) (c : Compression) (bytes : List ℕ) (n : ℕ) → sample_count_of (channel_samples h c bytes) ≡ Ok n → Channel h c bytes n
channel_gives h None bytes n e = channel_from h None bytes n (stream_gives None bytes 0 zero-le) (λ w. rw (length-map bytes sample_of) at w) e
channel_gives h Fibonacci bytes n e = go (ltb (length bytes) 2) refl
  where
    go : (t : Bool) → ltb (length bytes) 2 ≡ t → Channel h Fibonacci bytes n
    go true te =
        let short = channel_count_lem h Fibonacci bytes ∙ ap (λ (o : Outcome (List ℤ)). kept_count h (sample_count_of o)) (stream_refused bytes (ltb-true (length bytes) 2 te)) in
        let z : ◌≡◌ {A = ℕ} 0 1 = cc in
        absurd (omega arith)
    go false te =
        let two = ltb-false (length bytes) 2 te in
        channel_from h Fibonacci bytes n (stream_gives Fibonacci bytes 0 (two, zero-le)) (λ w. (two, w)) e

-- the same of what a channel gives
pub channel_of_lem : (h : VoiceHeader) (c : Compression) (bytes : List ℕ) (xs : List ℤ) → channel_samples h c bytes ≡ Ok xs → Channel h c bytes (length xs)
channel_of_lem h c bytes xs e = channel_gives h c bytes (length xs) (ap sample_count_of e)

-- a raw channel that is as long as the header says is kept whole
pub channel_whole :
    (h : VoiceHeader) (bytes : List ℕ) → total_samples h < 2 ^ 64 → (eqb (hi h) 0 || eqb (length bytes) (total_samples h)) ≡ true →
    channel_samples h None bytes ≡ Ok (map sample_of bytes)
unfolding channel_samples stream
channel_whole h bytes small e =
    let same : length (map sample_of bytes) ≡ length bytes = length-map bytes sample_of in
    octaves_whole h (map sample_of bytes) small (rw same e)
