-- `twos_complement` and `twos_complement_bits` are the machine's own reading and writing of a signed number, at each width, so each undoes the other.
-- Assumes nothing.
use Rattle.std.proofs.Common.{◌≡◌, ℕ, zero, suc, ◌+◌, ◌-◌, ◌^◌, ◌<◌, Bool, true, false, cond, ltb, List, [], ◌∷◌, map, take, drop, ℤ, pos, negsuc, refl, get_or-drop, to_z-of_z, w8, w16, w32, w64, Fits, SFits, to_z, of_z, ltb-false, ltb-true}
use mir.Syntax.{Width, w128}
use mir.Val.{hbits, sel}
use mir.Facts.{of_z-to_z}
use Rattle.laws.proofs.Signed.{zarith}
use Rattle.field.specs.Signed.{twos_complement, twos_complement_bits, sample_of, byte_of, Samples}

sel_cond : (t : Bool) (x y : ℤ) → sel t x y ≡ cond t x y
sel_cond true x y = refl
sel_cond false x y = refl

-- the machine's reading
pub read_is : (w : Width) (b : ℕ) → to_z w b ≡ twos_complement (2 ^ hbits w) b
unfolding twos_complement
read_is w8 b = sel_cond (ltb b (2 ^ 7)) _ _
read_is w16 b = sel_cond (ltb b (2 ^ 15)) _ _
read_is w32 b = sel_cond (ltb b (2 ^ 31)) _ _
read_is w64 b = sel_cond (ltb b (2 ^ 63)) _ _
read_is w128 b = sel_cond (ltb b (2 ^ 127)) _ _

-- the machine's writing
pub bits_are : (w : Width) (s : ℤ) → of_z w s ≡ twos_complement_bits (2 ^ hbits w) s
unfolding twos_complement_bits
bits_are w (pos n) = refl
bits_are w8 (negsuc n) = refl
bits_are w16 (negsuc n) = refl
bits_are w32 (negsuc n) = refl
bits_are w64 (negsuc n) = refl
bits_are w128 (negsuc n) = refl

-- the round trips
pub signed_bits : (w : Width) (s : ℤ) → SFits w s → twos_complement (2 ^ hbits w) (twos_complement_bits (2 ^ hbits w) s) ≡ s
signed_bits w s f = rw (← bits_are w s, ← read_is w (of_z w s)) (to_z-of_z f)

pub bits_signed : (w : Width) (b : ℕ) → Fits w b → twos_complement_bits (2 ^ hbits w) (twos_complement (2 ^ hbits w) b) ≡ b
bits_signed w b f = rw (← read_is w b, ← bits_are w (to_z w b)) (of_z-to_z {w = w} f)

pub sample_byte : (s : ℤ) → SFits w8 s → sample_of (byte_of s) ≡ s
sample_byte s f = signed_bits w8 s f

-- whatever the number, its sample fits
pub sample_fits : (b : ℕ) → SFits w8 (sample_of b)
unfolding twos_complement
sample_fits b = go (ltb b 128) refl
  where
    go : (t : Bool) → ltb b 128 ≡ t → SFits w8 (cond t (pos b) (negsuc (128 + 128 - suc b)))
    go true e = omega (zarith, ltb-true b 128 e)
    go false e = omega (zarith, ltb-false b 128 e)

-- parts of samples are samples
pub none_fits : SFits w8 (pos 0)
none_fits = omega zarith

-- whatever the elements of a list become samples by
pub samples_map : {A : Type 0} (f : A → ℤ) → ((a : A) → SFits w8 (f a)) → (l : List A) → Samples (map f l)
samples_map f fits [] i = none_fits
samples_map f fits (a ∷ l) zero = fits a
samples_map f fits (a ∷ l) (suc i) = samples_map f fits l i

pub samples_take : (n : ℕ) (l : List ℤ) → Samples l → Samples (take n l)
samples_take zero l h i = none_fits
samples_take (suc n) [] h i = none_fits
samples_take (suc n) (x ∷ l) h zero = h 0
samples_take (suc n) (x ∷ l) h (suc i) = samples_take n l (λ j. h (suc j)) i

pub samples_drop : (n : ℕ) (l : List ℤ) → Samples l → Samples (drop n l)
samples_drop n l h i = rw get_or-drop (h (n + i))

pub byte_sample : (b : ℕ) → b < 256 → byte_of (sample_of b) ≡ b
byte_sample b h = bits_signed w8 b (record { fits = h })
