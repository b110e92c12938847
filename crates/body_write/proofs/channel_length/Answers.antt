-- `body_write::channel_length` meets its contract: in each arm the match says which compression it is.
use native.Mathlib.Omega.{arith}
use Rattle.body_write.proofs.BodyBytesLaws.{raw_length, fibonacci_length}
use Rattle.body_write.proofs.channel_length.Goals as goal

pub returns-in-None : goal.returns-in-None
returns-in-None c =
    let a = c.args in
    (omega (arith, raw_length a.c a.samples.now c.in-None.is), omega arith)

pub returns-in-Fibonacci : goal.returns-in-Fibonacci
returns-in-Fibonacci c =
    let a = c.args in
    (omega (arith, fibonacci_length a.c a.samples.now c.in-Fibonacci.is), omega arith)
