-- Byte 1 is the first sample, each turn stores the two samples of a byte, and an even count ends with the first sample of one byte more.
use mathlib.Core.Path.{◌≡◌, ◌∙◌}
use mathlib.Core.List.{List, ◌++◌}
use Prim.Native.Nat.{ℕ, ◌+◌, ◌-◌, ◌*◌, ◌/◌, ◌≤◌, ◌<◌}
use native.Mathlib.Omega.{arith}
use lib.IntN.{ℤ}
use lib.ListN.{length, take, drop, set, length-set}
use lib.Seq.{drop-set-lt}
use mir.Syntax.{w8}
use mir.Val.{to_z, of_z}
use Rattle.laws.specs.Buffer.{written}
use Rattle.laws.proofs.Signed.{back}
use Rattle.laws.proofs.Prefix.{prefix_part}
use Rattle.fibonacci.proofs.DecodeLaws.{samples_length, first_left, first_stored, high_stored, low_left, low_stored}
use Rattle.fibonacci.proofs.decode.decode_first.Goals as goal

-- the first n of all samples are stored; that the first was stored before the loop makes no difference past them
ended : (all held out : List ℤ) (n : ℕ) (first : ℤ) → 0 < n → n ≤ length all → out ≡ take n all ++ drop n (set held 0 first) → out ≡ written (take n all) held
ended all held out n first some h e = e ∙ rw (drop-set-lt n held 0 first some) (prefix_part all held n h)

pub loop-j-init : goal.loop-j-init
loop-j-init c =
    let a = c.args in
    let first = to_z w8 (of_z w8 c.sample_of_byte-prev.result) in
    let first_is = back w8 c.sample_of_byte-prev.type_inv ∙ c.sample_of_byte-prev.ensures in
    (first_stored a.body.now first first_is a.out.now (omega arith) ∙ rw (drop-set-lt 1 a.out.now 0 first (omega arith)), first_left a.body.now _ first_is)

pub bounds-body-j : goal.bounds-body-j
bounds-body-j c = omega (arith, samples_length c.args.body.now)

pub loop-j-preserved : goal.loop-j-preserved
loop-j-preserved c =
    let body = c.args.body.now in
    let l = c.loop-j in
    let high_is = back w8 c.fib_step-high.type_inv ∙ c.fib_step-high.ensures in
    let low_is = back w8 c.fib_step-low.type_inv ∙ c.fib_step-low.ensures in
    let more : 2 + l.j < length body = omega (arith, samples_length body) in (
      low_stored body _ _ _ l.j _ _ l.invariant.1 more high_is l.invariant.0 _ low_is (omega (arith, length-set {A = ℤ})),
      low_left body _ _ _ l.j _ _ l.invariant.1 more high_is l.invariant.0 _ low_is,
    )

pub bounds-body-pairs : goal.bounds-body-pairs
bounds-body-pairs c = omega (arith, samples_length c.args.body.now)

pub returns-then-n-eq0-2 : goal.returns-then-n-eq0-2
returns-then-n-eq0-2 c =
    let body = c.args.body.now in
    let n = c.args.n in
    let l = c.loop-j in
    let all_pairs : (n - 1) / 2 ≡ l.j = omega arith in
    let last : 2 * l.j + 1 ≡ n - 1 = omega arith in
    let end : 2 * l.j + 2 ≡ n = omega arith in
    let high_is = rw all_pairs at (back w8 c.fib_step.type_inv ∙ c.fib_step.ensures) in
    let more : 2 + l.j < length body = omega (arith, samples_length body) in
    ended _ _ _ n _ (omega arith) (omega arith) (rw (last, end) at (high_stored body _ _ _ l.j _ _ l.invariant.1 more high_is l.invariant.0 (omega (arith, length-set {A = ℤ}))))
