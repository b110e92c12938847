-- A sound sheet in a slice of bytes is the flat form of the voice that it reads as, and that voice is allowed.
-- Assumes nothing.
use Prim.Native.Nat.{ℕ}
use lib.ListN.{get_or}
use mathlib.Core.List.{List}
use mathlib.Core.Path.{◌≡◌}
use mir.Syntax.{w8}
use mir.Val.{Fits}
use Rattle.sheet.specs.Allowed.{Allowed}
use Rattle.sheet.specs.Flat.{flat}
use Rattle.sheet.specs.Judge.{judged}
use Rattle.sheet.specs.Read.{read_sheet}
use Rattle.sheet_grammar.proofs.Theorem.{flat_read, allowed_read}
use Rattle.std.specs.Prelude.{Ok}

module _ (s : List ℕ) (bytes : (i : ℕ) → Fits w8 (get_or s i 0)) (sound : judged s ≡ Ok tt) where
  pub sound_flat : flat (read_sheet s) ≡ s
  sound_flat = flat_read s (λ i. (bytes i).fits) sound

  pub sound_allowed : Allowed (read_sheet s)
  sound_allowed = allowed_read s (λ i. (bytes i).fits) sound
