-- `body_decode::one_fibonacci` meets its contract: a Fibonacci channel gives its samples, as many as the limit allows.
use mathlib.Core.Path.{◌≡◌, ap, ◌∙◌}
use mathlib.Core.List.{List}
use Prim.Native.Nat.{ℕ, ◌+◌, ◌-◌, ◌*◌, min}
use native.Mathlib.Omega.{arith}
use lib.ListN.{length}
use Rattle.laws.specs.Buffer.{written}
use Rattle.refusal.proofs.OutcomeLaws.{outcome_refused, outcome_fits, outcome_short}
use Rattle.header.specs.declared.compression.Compression.TheVariants.{Fibonacci}
use Rattle.fibonacci.specs.Decode.{fib_samples}
use Rattle.fibonacci.proofs.DecodeLaws.{samples_length}
use Rattle.body_decode.specs.Body.{frame_bytes, one_channel}
use Rattle.body_decode.proofs.BodyLaws.{one_short, one_fibonacci_is, frames_length, frames_are}
use Rattle.body_decode.proofs.one_fibonacci.Goals as goal
use Rattle.refusal.specs.declared.Refusal.TheVariants.{ChannelShort}

pub returns-then-body-lt2 : goal.returns-then-body-lt2
returns-then-body-lt2 c =
    let a = c.args in
    let both = outcome_refused (one_channel Fibonacci a.frames a.body.now) a.out.now ChannelShort (one_short a.frames a.body.now c.if-body-lt2.true) in
    record { result = both.0; buffer = both.1 }

-- the bytes of the samples, as many as the limit allows, and how many they are
module _ (limit : ℕ) (body : List ℕ) (n : ℕ) (least : n ≡ min limit (2 * (length body - 2) + 1)) where
  available : n ≡ min limit (length (fib_samples body))
  available = least ∙ rw (samples_length body)

  count : n ≡ length (frame_bytes limit (fib_samples body))
  count = frames_length limit (fib_samples body) n available

pub returns-then-out-n : goal.returns-then-out-n
returns-then-out-n c =
    let a = c.args in
    let whole = one_fibonacci_is a.frames a.body.now c.if-body-lt2.false in
    let both = outcome_short _ a.out.now _ whole _ (count _ _ _ c.min-n.ensures) c.if-out-n.true in
    record { result = both.0; buffer = both.1 }

pub copy_fibonacci-requires : goal.copy_fibonacci-requires
copy_fibonacci-requires c = (c.if-body-lt2.false, omega (arith, available _ _ _ c.min-n.ensures), c.if-out-n.false)

pub returns : goal.returns
returns c =
    let a = c.args in
    let whole = one_fibonacci_is a.frames a.body.now c.if-body-lt2.false in
    let all = frames_are a.frames (fib_samples a.body.now) c.min-n.result (available _ _ _ c.min-n.ensures) in
    let both = outcome_fits _ a.out.now _ whole _ (count _ _ _ c.min-n.ensures) _ c.if-out-n.false (c.copy_fibonacci.ensures ∙ ap (λ (l : List ℕ). written l a.out.now) all) in
    record { result = both.0; buffer = both.1 }
