-- Laws of a number brought back into -128..127. No other file of laws looks into `residue` or `to_sample`.
--     residue_sum                         of the bytes of two samples
--     library_wraps                       what `wrapping_add` and `wrapping_sub` leave
--     sample_fits, sample_kept            what is brought back is a sample, and a sample is kept
--     sum_back, difference_back           a difference added to what it was taken from, and the other way round
--     sample_turn, sample_below, sample_above, sample_apart     256 apart, past either end, and less than 256 apart
-- Assumes nothing.
use Rattle.std.proofs.Common.{◌≡◌, ℕ, suc, ◌+◌, ◌-◌, ◌%◌, ◌<◌, Bool, true, false, cond, ltb, ℤ, pos, negsuc, ◌+ℤ◌, ◌-ℤ◌, neg_ℤ, ◌≤ℤ◌, ◌<ℤ◌, sym, refl, ap, ◌∙◌, arith, w8, SFits, ltb-false, ltb-true}
use Rattle.std.specs.Int.{int_wrap}
use lib.IntN.{sub_ℕ}
use Rattle.laws.proofs.Signed.{zarith, sum, diff}
use Rattle.field.specs.Signed.{twos_complement_bits, sample_of, byte_of}
use Rattle.field.specs.Wrap.{residue, to_sample}
use Rattle.field.proofs.SignedLaws as field

-- ---- residues

-- that of a difference
residue_less : (a b : ℕ) → residue (sub_ℕ a b) ≡ (a + (256 - b % 256)) % 256
unfolding residue
residue_less a b = go (ltb a b) refl
  where
    go : (t : Bool) → ltb a b ≡ t → residue (cond t (negsuc (b - suc a)) (pos (a - b))) ≡ (a + (256 - b % 256)) % 256
    go true e = omega (arith, ltb-true a b e)
    go false e = omega (arith, ltb-false a b e)

-- that of a sum is that of the sum of both
residue_add : (a b : ℤ) → residue (a +ℤ b) ≡ (residue a + residue b) % 256
unfolding residue
residue_add (pos a) (pos b) = omega arith
residue_add (pos a) (negsuc b) = omega (arith, residue_less a (suc b))
residue_add (negsuc a) (pos b) = omega (arith, residue_less b (suc a))
residue_add (negsuc a) (negsuc b) = omega arith

residue_below : (z : ℤ) → residue z < 256
unfolding residue
residue_below (pos n) = omega arith
residue_below (negsuc n) = omega arith

-- that of a sample is its byte
residue_kept : (z : ℤ) → SFits w8 z → residue z ≡ byte_of z
unfolding residue twos_complement_bits
residue_kept (pos n) f = omega (arith, f.sfits)
residue_kept (negsuc n) f = omega (arith, f.sfits)

module _ (a b : ℤ) (f : SFits w8 a) (g : SFits w8 b) where
  -- the sum of their bytes
  pub residue_sum : (byte_of a + byte_of b) % 256 ≡ residue (a +ℤ b)
  residue_sum = rw (residue_add a b, residue_kept a f, residue_kept b g)

-- numbers that are 256 apart have the same
residue_turn : (z : ℤ) → residue (z +ℤ pos 256) ≡ residue z
unfolding residue
residue_turn (pos n) = omega arith
residue_turn (negsuc n) = omega (arith, residue_less 256 (suc n))

-- ---- what is brought back

pub sample_fits : (z : ℤ) → SFits w8 (to_sample z)
unfolding to_sample
sample_fits z = field.sample_fits (residue z)

-- what the library's sums and differences that wrap leave
pub library_wraps : (z : ℤ) → int_wrap w8 z ≡ to_sample z
unfolding int_wrap to_sample residue
library_wraps (pos n) = field.read_is w8 _
library_wraps (negsuc n) = field.read_is w8 _

-- what is within the range is kept
pub sample_kept : (z : ℤ) → SFits w8 z → to_sample z ≡ z
unfolding to_sample
sample_kept z f = ap sample_of (residue_kept z f) ∙ field.sample_byte z f

-- bringing back changes no residue
residue_sample : (z : ℤ) → residue (to_sample z) ≡ residue z
unfolding to_sample
residue_sample z = residue_kept (sample_of (residue z)) (field.sample_fits (residue z)) ∙ field.byte_sample (residue z) (residue_below z)

-- a number may be brought back before it is added to or taken from
same_residue : (x y a : ℤ) → residue x ≡ residue y → SFits w8 a → y ≡ a → to_sample x ≡ a
unfolding to_sample
same_residue x y a e f is = ap sample_of e ∙ ap to_sample is ∙ sample_kept a f

module _ (a b : ℤ) (f : SFits w8 a) where
  -- by how much a is above b, added to b
  pub sum_back : to_sample (b +ℤ to_sample (a -ℤ b)) ≡ a
  sum_back =
      let d = a -ℤ b in
      let whole : b +ℤ d ≡ a = omega (zarith, sum b d, diff a b) in
      same_residue (b +ℤ to_sample d) (b +ℤ d) a (rw (residue_add b (to_sample d), residue_sample d, ← residue_add b d)) f whole

  -- a added to b, less b
  pub difference_back : to_sample (to_sample (b +ℤ a) -ℤ b) ≡ a
  difference_back =
      let s = b +ℤ a in
      let whole : s -ℤ b ≡ a = omega (zarith, sum b a, diff s b) in
      same_residue (to_sample s -ℤ b) (s -ℤ b) a (rw (residue_add (to_sample s) (neg_ℤ b), residue_sample s, ← residue_add s (neg_ℤ b))) f whole

-- sums that are 256 apart are brought back to the same sample
pub sample_turn : (z : ℤ) → to_sample (z +ℤ pos 256) ≡ to_sample z
unfolding to_sample
sample_turn z = ap sample_of (residue_turn z)

-- ---- a sum that leaves the range at one end comes back at the other

pub sample_below : (z : ℤ) → negsuc 383 ≤ℤ z → z <ℤ negsuc 127 → to_sample z ≡ z +ℤ pos 256
sample_below z l u = sym (sample_turn z) ∙ sample_kept (z +ℤ pos 256) (omega (zarith, sum z (pos 256)))

pub sample_above : (z : ℤ) → pos 127 <ℤ z → z ≤ℤ pos 383 → to_sample z ≡ z -ℤ pos 256
sample_above z l u =
    let back : z ≡ (z -ℤ pos 256) +ℤ pos 256 = omega (zarith, sum (z -ℤ pos 256) (pos 256), diff z (pos 256)) in
    ap to_sample back ∙ sample_turn (z -ℤ pos 256) ∙ sample_kept (z -ℤ pos 256) (omega (zarith, diff z (pos 256)))

-- ---- sums less than 256 apart lead to different samples

residue_apart : (x y : ℤ) → x <ℤ y → y <ℤ (x +ℤ pos 256) → residue x ≡ residue y → ⊥
unfolding residue
residue_apart (pos m) (pos n) l u e = omega (zarith, l, u)
residue_apart (pos m) (negsuc n) l u e = omega (zarith, l)
residue_apart (negsuc m) (pos n) l u e = omega (zarith, u, sum (negsuc m) (pos 256))
residue_apart (negsuc m) (negsuc n) l u e = omega (zarith, l, u, sum (negsuc m) (pos 256))

pub sample_apart : (x y : ℤ) → x <ℤ y → y <ℤ (x +ℤ pos 256) → to_sample x ≡ to_sample y → ⊥
unfolding to_sample
sample_apart x y l u e =
    residue_apart x y l u (sym (field.byte_sample (residue x) (residue_below x)) ∙ ap byte_of e ∙ field.byte_sample (residue y) (residue_below y))
