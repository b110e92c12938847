-- `header::VoiceHeader::total_samples_per_channel` meets its contract. The factor is 2 ^ octaves - 1, and a product is past
-- 64 bits if one factor is above the quotient by the other; in over 64 octaves one sample is already too much.
use Prim.Native.Nat.{ℕ, ◌-◌, ◌*◌, ◌/◌, ◌^◌, ◌≤◌, ◌<◌}
use mathlib.Core.Path.{◌≡◌, sym, ap, ◌∙◌}
use native.Mathlib.Omega.{arith}
use Rattle.header.specs.Octaves.{hi, octaves, total_samples}
use Rattle.header.specs.declared.voice_header.VoiceHeader.{VoiceHeader}
use Rattle.header.proofs.OctaveLaws.{total_sum, total_large, total_none, many_octaves, ones_high, factor_pos, product, room, no_room}
use Rattle.header.proofs.voice_header.VoiceHeader.total_samples_per_channel.Goals as goal
use Rattle.header.proofs.voice_header.VoiceHeader.total_samples_per_channel.Goals.{then-self-eq0, else-self-eq0}
use Rattle.std.specs.Prelude.{Ok}

pub returns-then-hi-eq0 : goal.returns-then-hi-eq0
returns-then-hi-eq0 c = sym (total_none c.args.self (sym c.hi_octave_samples-hi.ensures ∙ c.if-hi-eq0.true))

pub returns-then-self-gt64 : goal.returns-then-self-gt64
returns-then-self-gt64 c =
    let h = c.args.self in
    sym (total_large h (many_octaves h (omega arith) (omega arith)))

-- the factor that the code makes of the number of octaves is the total's other factor
factor_is : (h : VoiceHeader) (k : ℕ) → h.ct_octave ≤ 64 → k ≡ octaves h → (2 ^ 64 - 1) / 2 ^ (64 - k) ≡ 2 ^ octaves h - 1
factor_is h k few is = ones_high 64 k (omega arith) ∙ ap (λ (x : ℕ). 2 ^ x - 1) is

pub overflow_sub-factor : goal.overflow_sub-factor
overflow_sub-factor c = elim c.if-self-eq0.branch [ then-self-eq0 w ↦ omega arith | else-self-eq0 w ↦ omega arith ]

pub overflow_shr-factor : goal.overflow_shr-factor
overflow_shr-factor c = elim c.if-self-eq0.branch [ then-self-eq0 w ↦ omega arith | else-self-eq0 w ↦ omega arith ]

pub nonzero_div-factor : goal.nonzero_div-factor
nonzero_div-factor c =
    let is : c.if-self-eq0.octaves ≡ octaves c.args.self = elim c.if-self-eq0.branch [ then-self-eq0 w ↦ omega arith | else-self-eq0 w ↦ omega arith ] in
    factor_pos c.args.self _ _ c.hi_octave_samples-hi.ensures (factor_is c.args.self _ c.if-self-gt64.false is)

pub returns-then-factor-hi : goal.returns-then-factor-hi
returns-then-factor-hi c =
    let is : c.if-self-eq0.octaves ≡ octaves c.args.self = elim c.if-self-eq0.branch [ then-self-eq0 w ↦ omega arith | else-self-eq0 w ↦ omega arith ] in
    let factor = factor_is c.args.self _ c.if-self-gt64.false is in
    sym (total_large _ (no_room c.args.self _ _ c.hi_octave_samples-hi.ensures factor c.if-factor-hi.true))

-- hi times the factor is the total, which is within 64 bits
record Within (h : VoiceHeader) (n : ℕ) : Type 0 where
  is : n ≡ total_samples h
  fits : total_samples h < 2 ^ 64

within : (h : VoiceHeader) (n k : ℕ) → h.ct_octave ≤ 64 → n ≡ hi h → k ≡ octaves h → n ≤ (2 ^ 64 - 1) / ((2 ^ 64 - 1) / 2 ^ (64 - k))
    → Within h (n * ((2 ^ 64 - 1) / 2 ^ (64 - k)))
within h n k few length is below =
    let factor = factor_is h k few is in
    record { is = product h _ _ length factor; fits = room h _ _ length factor below }

pub overflow_mul-sum : goal.overflow_mul-sum
overflow_mul-sum c =
    let is : c.if-self-eq0.octaves ≡ octaves c.args.self = elim c.if-self-eq0.branch [ then-self-eq0 w ↦ omega arith | else-self-eq0 w ↦ omega arith ] in
    let w = within c.args.self _ _ c.if-self-gt64.false c.hi_octave_samples-hi.ensures is c.if-factor-hi.false in
    omega (arith, w.is, w.fits)

pub returns : goal.returns
returns c =
    let is : c.if-self-eq0.octaves ≡ octaves c.args.self = elim c.if-self-eq0.branch [ then-self-eq0 w ↦ omega arith | else-self-eq0 w ↦ omega arith ] in
    let w = within c.args.self _ _ c.if-self-gt64.false c.hi_octave_samples-hi.ensures is c.if-factor-hi.false in
    ap Ok w.is ∙ sym (total_sum _ w.fits)
