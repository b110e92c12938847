-- `body_decode::two_raw` meets its contract: raw halves give their own bytes by turns, as many as the limit allows.
use mathlib.Core.Path.{◌≡◌, ap, ◌∙◌}
use mathlib.Core.List.{List}
use Prim.Native.Nat.{ℕ, ◌/◌, min}
use lib.ListN.{length, take}
use Rattle.laws.specs.Buffer.{written}
use Rattle.laws.specs.Turns.{by_turns}
use Rattle.refusal.proofs.OutcomeLaws.{outcome_fits, outcome_short}
use Rattle.samples.specs.Halves.{left_half, right_half}
use Rattle.body_decode.proofs.BodyLaws.{two_raw_is, raw_halves_length, raw_halves_are}
use Rattle.body_decode.proofs.two_raw.Goals as goal

-- as many bytes of either side are all that the limit allows
stored :
    (limit : ℕ) (body left right held out : List ℕ) (n : ℕ) → n ≡ min limit (length body / 2) → left ≡ left_half body → right ≡ right_half body →
    out ≡ written (by_turns (take n left) (take n right)) held → out ≡ written (by_turns (take limit (left_half body)) (take limit (right_half body))) held
stored limit body left right held out n least l r e = rw (l, r) at e ∙ ap (λ (b : List ℕ). written b held) (raw_halves_are limit body n least)

pub returns-then-out-length : goal.returns-then-out-length
returns-then-out-length c =
    let a = c.args in
    let whole = two_raw_is a.frames a.body.now (λ i. (c.type_inv.body i).fits) in
    let count = raw_halves_length a.frames a.body.now c.min-n.result c.min-n.ensures in
    let both = outcome_short _ a.out.now _ whole _ count c.if-out-length.true in
    record { result = both.0; buffer = both.1 }

pub returns : goal.returns
returns c =
    let a = c.args in
    let whole = two_raw_is a.frames a.body.now (λ i. (c.type_inv.body i).fits) in
    let count = raw_halves_length a.frames a.body.now c.min-n.result c.min-n.ensures in
    let bytes = stored a.frames a.body.now _ _ a.out.now _ _ c.min-n.ensures c.left_half.ensures.contents c.right_half.ensures.contents c.interleave_bytes.ensures in
    let both = outcome_fits _ a.out.now _ whole _ count _ c.if-out-length.false bytes in
    record { result = both.0; buffer = both.1 }
