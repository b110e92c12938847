-- `octaves::octave_parts::octave_part` meets its contract. 2 ^ k is within 64 bits; the octave's end is hi × (2 × 2 ^ k - 1), and it is
-- past the samples if hi is above their quotient by the other factor. From k = 64 on, one sample in octave 0 is already too much.
use Prim.Native.Nat.{ℕ, ◌-◌, ◌*◌, ◌%◌, ◌^◌, ◌≤◌, ◌<◌}
use mathlib.Core.Path.{◌≡◌, sym, ap₂, ◌∙◌}
use native.Mathlib.Nat.{mul-le-mul}
use native.Mathlib.Omega.{arith}
use lib.Dec.{lit<}
use lib.Pow.{pow_mono, shl_exact}
use Rattle.std.specs.Prelude.{Option, Some}
use Rattle.header.specs.Octaves.{hi, octaves}
use Rattle.octaves.specs.declared.part.Part.{Part}
use Rattle.octaves.proofs.PartLaws.{octave_whole, octave_sole, octave_past, octave_short, octave_at, octave_fits, octave_exceeds}
use Rattle.octaves.proofs.octave_parts.octave_part.Goals as goal
use Rattle.octaves.proofs.octave_parts.octave_part.Goals.{then-h-k+else-k-ge1, else-h-k}

pub returns-then-k-eq0 : goal.returns-then-k-eq0
returns-then-k-eq0 c =
    let a = c.args in
    sym (octave_whole a.h a.samples a.k (sym c.hi_octave_samples-hi.ensures ∙ c.if-hi-eq0.true) c.if-k-eq0.true)

pub returns-then-hi-eq0 : goal.returns-then-hi-eq0
returns-then-hi-eq0 c =
    let a = c.args in
    sym (octave_sole a.h a.samples a.k (sym c.hi_octave_samples-hi.ensures ∙ c.if-hi-eq0.true) c.if-k-eq0.false)

pub returns-then-k-gt63 : goal.returns-then-k-gt63
returns-then-k-gt63 c =
    let a = c.args in
    let there : hi a.h ≡ 0 → ⊥ = λ z. c.if-hi-eq0.false (c.hi_octave_samples-hi.ensures ∙ z) in
    let large : 2 ^ 64 ≤ 2 ^ a.k = pow_mono {i = 64} {j = a.k} (omega arith) in
    let one : 1 ≤ hi a.h = omega arith in
    sym (octave_short a.h a.samples a.k there (omega (arith, mul-le-mul one large)))

pub returns-then-k-ge1 : goal.returns-then-k-ge1
returns-then-k-ge1 c =
    let a = c.args in
    sym (octave_past a.h a.samples a.k (λ z. c.if-hi-eq0.false (c.hi_octave_samples-hi.ensures ∙ z)) (omega arith))

-- 1 shifted left by less than 64 bits
shifted : (k : ℕ) → k < 64 → 1 * 2 ^ k % 2 ^ 64 ≡ 2 ^ k
shifted k l = omega (arith, shl_exact {a = 1} 1 k 64 (lit< tt) (omega arith))

pub returns-then-samples-through : goal.returns-then-samples-through
returns-then-samples-through c =
    let a = c.args in
    let is_hi = c.hi_octave_samples-hi.ensures in
    let ends = octave_exceeds a.h a.samples a.k c.hi_octave_samples-hi.result _ is_hi (shifted a.k (omega arith)) c.if-samples-through.true in
    sym (octave_short a.h a.samples a.k (λ z. c.if-hi-eq0.false (is_hi ∙ z)) ends)

-- where an octave of m times l samples lies, after the m × (l - 1) of the octaves before it
abbrev place : ℕ → ℕ → Option Part
place m l = Some (record { start = m * (l - 1); length = m * l })

pub returns : goal.returns
returns c =
    let a = c.args in
    let is_hi = c.hi_octave_samples-hi.ensures in
    let length_is = shifted a.k (omega arith) in
    let below : a.k < octaves a.h = elim c.if-h-k.branch [ then-h-k+else-k-ge1 w ↦ omega arith | else-h-k w ↦ omega arith ] in
    -- the octave ends within the samples
    let fits = octave_fits a.h a.samples a.k c.hi_octave_samples-hi.result _ is_hi length_is c.if-samples-through.false in
    ap₂ place is_hi length_is
    ∙ sym (octave_at a.h a.samples a.k (λ z. c.if-hi-eq0.false (is_hi ∙ z)) below fits)
