-- `header::compression::known_compression` meets its contract: the tests tell 0, 1 and what is above them apart.
use Prim.Native.Nat.{ℕ, zero, suc}
use mathlib.Core.Path.{◌≡◌, refl}
use Rattle.header.specs.Compression.{known_compression}
use Rattle.header.proofs.compression.known_compression.Goals as goal
use Rattle.refusal.specs.declared.Refusal.TheVariants.{UnknownCompression}
use Rattle.std.specs.Prelude.{Err}

pub returns-then-byte-eq0 : goal.returns-then-byte-eq0
unfolding known_compression
returns-then-byte-eq0 c = rw c.if-byte-eq0.true

pub returns-then-byte-eq1 : goal.returns-then-byte-eq1
unfolding known_compression
returns-then-byte-eq1 c = rw c.if-byte-eq1.true

-- neither 0 nor 1
above : (byte : ℕ) → (byte ≡ 0 → ⊥) → (byte ≡ 1 → ⊥) → Err UnknownCompression ≡ known_compression byte
unfolding known_compression
above zero no_0 no_1 = absurd (no_0 refl)
above (suc zero) no_0 no_1 = absurd (no_1 refl)
above (suc (suc n)) no_0 no_1 = refl

pub returns : goal.returns
returns c = above _ c.if-byte-eq0.false c.if-byte-eq1.false
