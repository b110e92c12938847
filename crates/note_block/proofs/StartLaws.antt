-- The level that an attack begins at, by the first point of the sheet's part: full where there is none.
-- Assumes nothing.
use Prim.Native.Nat.{ℕ}
use mathlib.Core.List.{List, map}
use mathlib.Core.Path.{◌≡◌, sym, ap}
use lib.IntN.{pos}
use Rattle.sheet_layout.specs.Members.{points_in, next_member}
use Rattle.sheet_layout.proofs.NextLaws.{no_member, member_here}
use Rattle.small_chunks.specs.Envelope.{point_of}
use Rattle.note_frame.specs.Frame.{start_level}
use Rattle.std.specs.Prelude.{None, Some}

module _ (attack : List ℕ) where
  pub start_none : next_member 6 0 attack ≡ None → pos 65536 ≡ start_level (points_in attack)
  start_none e = sym (ap (λ ms. start_level (map point_of ms)) (no_member 6 attack 0 e 6))

  pub start_some : {k : ℕ} → next_member 6 0 attack ≡ Some k → pos 0 ≡ start_level (points_in attack)
  start_some e = sym (ap (λ ms. start_level (map point_of ms)) (member_here 6 6 attack 0 e))
