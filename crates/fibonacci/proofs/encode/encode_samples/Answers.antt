-- Byte 0 is 0 and byte 1 the first sample, each turn stores the byte of two samples, and an even count ends with the byte of the last one.
use mathlib.Core.Path.{◌≡◌, ◌∙◌, ap}
use mathlib.Core.List.{List, ◌++◌}
use Prim.Native.Nat.{ℕ, ◌+◌, ◌-◌, ◌*◌, ◌/◌, ◌<◌}
use native.Mathlib.Omega.{arith}
use borrow.Author.Rules.{rules}
use lib.IntN.{ℤ, pos}
use lib.ListN.{length, take, drop, get_or, set, length-set}
use lib.Seq.{drop-set-lt}
use mir.Syntax.{w8}
use mir.Val.{to_z, of_z}
use Rattle.laws.specs.Buffer.{written}
use Rattle.laws.proofs.Signed.{back}
use Rattle.laws.proofs.Prefix.{prefix_whole}
use Rattle.fibonacci.specs.Encode.{fib_bytes}
use Rattle.fibonacci.proofs.PickLaws.{pick_below}
use Rattle.fibonacci.proofs.EncodeLaws.{bytes_length, first_rest, first_two_stored, pair_left, pair_stored, last_stored}
use Rattle.fibonacci.proofs.encode.encode_samples.Goals as goal

-- all bytes are stored; that the first two were stored before the loop makes no difference past them
ended :
    (all held out : List ℕ) (byte n : ℕ) → 1 < n → n ≡ length all →
    out ≡ take n all ++ drop n (set (set held 0 0) 1 byte) → out ≡ written all held
ended all held out byte n past e is = is ∙ rw (drop-set-lt n (set held 0 0) 1 byte past, drop-set-lt n held 0 0 (omega arith)) (prefix_whole all held n e)

pub loop-j-init : goal.loop-j-init
loop-j-init c =
    let out = c.args.out.now in
    let samples = c.args.samples.now in
    let first = to_z w8 (of_z w8 (get_or samples 0 (pos 0))) in
    let first_is : first ≡ get_or samples 0 (pos 0) = back w8 (omega arith) in
    let byte = c.byte_of_sample.result in
    let past = drop-set-lt 2 (set out 0 0) 1 byte (omega arith) ∙ drop-set-lt 2 out 0 0 (omega arith) in
    (first_two_stored samples first (omega arith) first_is out byte c.byte_of_sample.ensures (omega arith) ∙ rw past, first_rest samples first (omega arith) first_is)

pub loop-j-preserved : goal.loop-j-preserved
loop-j-preserved c =
    let samples = c.args.samples.now in
    let l = c.loop-j in
    let a_is = back w8 {z = get_or samples (2 * l.j + 1) (pos 0)} (omega arith) in
    let b_is = back w8 {z = get_or samples (2 * l.j + 2) (pos 0)} (omega arith) in
    let more : 2 * l.j + 2 < length samples = omega arith in (
      rw c.pack_pair-p.ensures (pair_stored samples _ l.j _ l.invariant.1 _ _ more a_is b_is _ _ l.invariant.0 (omega (arith, length-set {A = ℕ}))),
      rw (back w8 {z = c.pack_pair-p.result.last} (search rules), c.pack_pair-p.ensures) (pair_left samples _ l.j _ l.invariant.1 _ _ more a_is b_is),
    )

pub overflow_mul-out : goal.overflow_mul-out
overflow_mul-out c =
    let below : c.fib_pick_nibble-picked.result.nibble < 16 = rw c.fib_pick_nibble-picked.ensures (pick_below _ _) in
    omega arith

pub overflow_add-out-then-n-eq0 : goal.overflow_add-out-then-n-eq0
overflow_add-out-then-n-eq0 c =
    let below : c.fib_pick_nibble-picked.result.nibble < 16 = rw c.fib_pick_nibble-picked.ensures (pick_below _ _) in
    omega arith

pub returns-then-n-eq0 : goal.returns-then-n-eq0
returns-then-n-eq0 c =
    let samples = c.args.samples.now in
    let l = c.loop-j in
    let all_pairs : (length samples - 1) / 2 ≡ l.j = omega arith in
    let last : length samples - 1 ≡ 2 * l.j + 1 = omega arith in
    let sample : ℕ → ℤ = λ k. get_or samples k (pos 0) in
    let a_is = back w8 {z = sample (length samples - 1)} (omega arith) ∙ ap sample last in
    let end : 2 + l.j + 1 ≡ length (fib_bytes samples) = omega (arith, bytes_length samples) in
    let stored = last_stored samples _ l.j _ l.invariant.1 _ (omega arith) a_is _ _ l.invariant.0 (omega (arith, length-set {A = ℕ})) in
    ended _ _ _ c.byte_of_sample.result (2 + l.j + 1) (omega arith) end (rw (all_pairs, c.fib_pick_nibble-picked.ensures) stored)

pub returns-else-n-eq0 : goal.returns-else-n-eq0
returns-else-n-eq0 c =
    let samples = c.args.samples.now in
    let l = c.loop-j in
    ended _ _ _ _ (2 + l.j) (omega arith) (omega (arith, bytes_length samples)) l.invariant.0
