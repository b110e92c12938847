-- The samples give as many bytes as the code counts, so the answer and the buffer follow by whether they fit; no samples give 00 00.
use mathlib.Core.Path.{sym}
use native.Mathlib.Omega.{arith}
use Rattle.fibonacci.specs.Step.{deltas}
use Rattle.fibonacci.specs.Pick.{less, argmin, delta_size, nearest}
use Rattle.fibonacci.specs.Encode.{fib_bytes}
use Rattle.fibonacci.specs.Helpers.{nearest_delta}
use Rattle.fibonacci.proofs.TableLaws.{table_right}
use Rattle.fibonacci.proofs.EncodeLaws.{bytes_length, none_stored}
use Rattle.refusal.proofs.OutcomeLaws.{output_fits, output_short}
use Rattle.fibonacci.proofs.encode.fibonacci_encode_channel.Goals as goal

pub returns-then-out-length-clause-result : goal.returns-then-out-length-clause-result
returns-then-out-length-clause-result c =
    let a = c.args in
    (output_short (fib_bytes a.samples.now) a.out.now _ (sym (bytes_length a.samples.now)) c.if-out-length.true).0

pub returns-then-out-length-clause-buffer : goal.returns-then-out-length-clause-buffer
returns-then-out-length-clause-buffer c =
    let a = c.args in
    (output_short (fib_bytes a.samples.now) a.out.now _ (sym (bytes_length a.samples.now)) c.if-out-length.true).1

pub returns-then-n-eq0-clause-result : goal.returns-then-n-eq0-clause-result
returns-then-n-eq0-clause-result c =
    let a = c.args in
    (output_fits (fib_bytes a.samples.now) a.out.now _ (sym (bytes_length a.samples.now)) _ c.if-out-length.false (none_stored a.samples.now a.out.now c.if-n-eq0.true (omega arith))).0

pub returns-then-n-eq0-clause-buffer : goal.returns-then-n-eq0-clause-buffer
returns-then-n-eq0-clause-buffer c =
    let a = c.args in
    (output_fits (fib_bytes a.samples.now) a.out.now _ (sym (bytes_length a.samples.now)) _ c.if-out-length.false (none_stored a.samples.now a.out.now c.if-n-eq0.true (omega arith))).1

-- antt computes the letters for all 55 changes and finds those of the code
pub encode_samples-requires : goal.encode_samples-requires
unfolding nearest_delta nearest argmin less delta_size deltas
encode_samples-requires c = (table_right, omega arith, omega arith)

pub returns-clause-result : goal.returns-clause-result
returns-clause-result c =
    let a = c.args in
    (output_fits (fib_bytes a.samples.now) a.out.now _ (sym (bytes_length a.samples.now)) _ c.if-out-length.false c.encode_samples.ensures).0
