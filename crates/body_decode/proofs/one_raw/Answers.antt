-- `body_decode::one_raw` meets its contract: a raw channel gives its own bytes, as many as the limit allows.
use mathlib.Core.Path.{◌≡◌, sym, ap, ◌∙◌}
use mathlib.Core.List.{List}
use Prim.Native.Nat.{ℕ, min}
use lib.ListN.{length, take, length-take}
use Rattle.laws.specs.Buffer.{written}
use Rattle.refusal.proofs.OutcomeLaws.{outcome_fits, outcome_short}
use Rattle.body_decode.proofs.BodyLaws.{take_least, one_raw_is}
use Rattle.body_decode.proofs.one_raw.Goals as goal

-- as many bytes as the limit allows, and how many they are
module _ (limit : ℕ) (body : List ℕ) (n : ℕ) (least : n ≡ min limit (length body)) where
  count : n ≡ length (take limit body)
  count = least ∙ sym (length-take limit body)

  all : take n body ≡ take limit body
  all = rw least (take_least limit body)

pub returns-then-out-n : goal.returns-then-out-n
returns-then-out-n c =
    let a = c.args in
    let whole = one_raw_is a.frames a.body.now (λ i. (c.type_inv.body i).fits) in
    let short = outcome_short _ a.out.now _ whole _ (count _ _ _ c.min-n.ensures) c.if-out-n.true in
    record { result = short.0; buffer = short.1 }

pub returns : goal.returns
returns c =
    let a = c.args in
    let whole = one_raw_is a.frames a.body.now (λ i. (c.type_inv.body i).fits) in
    let long = count _ _ _ c.min-n.ensures in
    let copied = c.copy_bytes.ensures ∙ ap (λ (l : List ℕ). written l a.out.now) (all _ _ _ c.min-n.ensures) in
    let fits = outcome_fits _ a.out.now _ whole _ long _ c.if-out-n.false copied in
    record { result = fits.0; buffer = fits.1 }
