-- A channel of 2 bytes or more gives as many samples as the code counts, so the answer and the buffer follow by whether they fit.
use mathlib.Core.Path.{◌≡◌, sym}
use mathlib.Core.List.{List}
use Prim.Native.Nat.{ℕ, ◌+◌, ◌-◌, ◌*◌, ◌≤◌}
use native.Mathlib.Omega.{arith}
use borrow.Author.Tests.{le-ltb}
use lib.ListN.{length}
use lib.Seq.{take_all}
use Rattle.fibonacci.specs.Decode.{fib_samples, fib_channel}
use Rattle.fibonacci.proofs.DecodeLaws.{samples_length}
use Rattle.refusal.proofs.OutcomeLaws.{outcome_fits, outcome_short}
use Rattle.fibonacci.proofs.decode.fibonacci_decode_channel.Goals as goal
use Rattle.std.specs.Prelude.{Ok}

given : (body : List ℕ) → 2 ≤ length body → fib_channel body ≡ Ok (fib_samples body)
given body h = rw (le-ltb (length body) 2 h)

pub returns-then-out-n-clause-result : goal.returns-then-out-n-clause-result
returns-then-out-n-clause-result c =
    let a = c.args in
    let body = a.body.now in
    (outcome_short (fib_channel body) a.out.now (fib_samples body) (given body c.if-body-lt2.false) _ (sym (samples_length body)) c.if-out-n.true).0

pub returns-then-out-n-clause-buffer : goal.returns-then-out-n-clause-buffer
returns-then-out-n-clause-buffer c =
    let a = c.args in
    let body = a.body.now in
    (outcome_short (fib_channel body) a.out.now (fib_samples body) (given body c.if-body-lt2.false) _ (sym (samples_length body)) c.if-out-n.true).1

pub decode_first-requires : goal.decode_first-requires
decode_first-requires c =
    let fits = samples_length c.args.body.now in
    (omega arith, omega arith, omega arith)

pub returns-clause-result : goal.returns-clause-result
returns-clause-result c =
    let a = c.args in
    let body = a.body.now in
    let n = 2 * (length body - 2) + 1 in
    let whole = take_all n (fib_samples body) (omega (arith, samples_length body)) in
    let stored = rw whole at c.decode_first.ensures in
    (outcome_fits (fib_channel body) a.out.now (fib_samples body) (given body c.if-body-lt2.false) n (sym (samples_length body)) _ c.if-out-n.false stored).0

pub returns-clause-buffer : goal.returns-clause-buffer
returns-clause-buffer c =
    let a = c.args in
    let body = a.body.now in
    let n = 2 * (length body - 2) + 1 in
    let whole = take_all n (fib_samples body) (omega (arith, samples_length body)) in
    let stored = rw whole at c.decode_first.ensures in
    (outcome_fits (fib_channel body) a.out.now (fib_samples body) (given body c.if-body-lt2.false) n (sym (samples_length body)) _ c.if-out-n.false stored).1
