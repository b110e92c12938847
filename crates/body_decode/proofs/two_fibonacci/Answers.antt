-- `body_decode::two_fibonacci` meets its contract: two Fibonacci halves give their samples by turns, as many as the limit allows.
use mathlib.Core.Path.{◌≡◌, ap, ◌∙◌}
use mathlib.Core.List.{List}
use Prim.Native.Nat.{ℕ, ◌+◌, ◌-◌, ◌*◌, ◌/◌, min}
use native.Mathlib.Omega.{arith}
use lib.ListN.{length}
use Rattle.laws.specs.Buffer.{written}
use Rattle.refusal.proofs.OutcomeLaws.{outcome_refused, outcome_fits, outcome_short}
use Rattle.header.specs.declared.compression.Compression.TheVariants.{Fibonacci}
use Rattle.fibonacci.specs.Decode.{fib_samples}
use Rattle.fibonacci.proofs.DecodeLaws.{samples_length}
use Rattle.samples.specs.Halves.{left_half, right_half}
use Rattle.laws.specs.Turns.{by_turns}
use Rattle.body_decode.specs.Body.{frame_bytes, two_channels}
use Rattle.body_decode.proofs.BodyLaws.{half_length, right_length, two_odd, two_short, two_fibonacci_is, halves_length, halves_are}
use Rattle.body_decode.proofs.two_fibonacci.Goals as goal
use Rattle.refusal.specs.declared.Refusal.TheVariants.{OddHalves, ChannelShort}

pub returns-then-body-eq1 : goal.returns-then-body-eq1
returns-then-body-eq1 c =
    let a = c.args in
    let both = outcome_refused (two_channels Fibonacci a.frames a.body.now) a.out.now OddHalves (two_odd a.frames a.body.now c.if-body-eq1.true) in
    record { result = both.0; buffer = both.1 }

pub returns-then-half-lt2 : goal.returns-then-half-lt2
returns-then-half-lt2 c =
    let a = c.args in
    let both = outcome_refused (two_channels Fibonacci a.frames a.body.now) a.out.now ChannelShort (two_short a.frames a.body.now c.if-body-eq1.false c.if-half-lt2.true) in
    record { result = both.0; buffer = both.1 }

-- how many samples of either side are read, and how many bytes they give by turns
module _ (limit : ℕ) (body : List ℕ) (n : ℕ) (least : n ≡ min limit (2 * (length body / 2 - 2) + 1)) where
  left_count : n ≡ min limit (length (fib_samples (left_half body)))
  left_count = least ∙ rw (samples_length (left_half body), half_length body)

  right_count : n ≡ min limit (length (fib_samples (right_half body)))
  right_count = least ∙ rw (samples_length (right_half body), right_length body)

  count : n + n ≡ length (by_turns (frame_bytes limit (fib_samples (left_half body))) (frame_bytes limit (fib_samples (right_half body))))
  count = halves_length limit (fib_samples (left_half body)) (fib_samples (right_half body)) n left_count right_count

  -- as many of either side are all that the limit allows
  all :
      (held : List ℕ) →
      written (by_turns (frame_bytes n (fib_samples (left_half body))) (frame_bytes n (fib_samples (right_half body)))) held
      ≡ written (by_turns (frame_bytes limit (fib_samples (left_half body))) (frame_bytes limit (fib_samples (right_half body)))) held
  all held = ap (λ (l : List ℕ). written l held) (halves_are limit (fib_samples (left_half body)) (fib_samples (right_half body)) n left_count right_count)

pub returns-then-out-length : goal.returns-then-out-length
returns-then-out-length c =
    let a = c.args in
    let whole = two_fibonacci_is a.frames a.body.now c.if-body-eq1.false c.if-half-lt2.false in
    let both = outcome_short _ a.out.now _ whole _ (count _ _ _ c.min-n.ensures) c.if-out-length.true in
    record { result = both.0; buffer = both.1 }

pub interleave_fibonacci-requires : goal.interleave_fibonacci-requires
interleave_fibonacci-requires c =
    let body = c.args.body.now in
    rw (c.left_half.ensures.contents, c.right_half.ensures.contents) (
      rw (half_length body) c.if-half-lt2.false,
      rw (right_length body) c.if-half-lt2.false,
      omega (arith, left_count _ _ _ c.min-n.ensures),
      omega (arith, right_count _ _ _ c.min-n.ensures),
      c.if-out-length.false,
    )

pub returns : goal.returns
returns c =
    let a = c.args in
    let whole = two_fibonacci_is a.frames a.body.now c.if-body-eq1.false c.if-half-lt2.false in
    let halves = rw (c.left_half.ensures.contents, c.right_half.ensures.contents) at c.interleave_fibonacci.ensures in
    let both = outcome_fits _ a.out.now _ whole _ (count _ _ _ c.min-n.ensures) _ c.if-out-length.false (halves ∙ all _ _ _ c.min-n.ensures a.out.now) in
    record { result = both.0; buffer = both.1 }
