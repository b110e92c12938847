-- A coder that was lent the part of a buffer from a place on, with room for what it gives: stores at that place of the whole.
-- Assumes nothing.
use Prim.Native.Nat.{ℕ, ◌+◌, ◌-◌, ◌≤◌}
use borrow.Author.Tests.{le-leb}
use lib.ListN.{length, take, drop}
use mathlib.Core.List.{List, ◌++◌}
use mathlib.Core.Path.{◌≡◌, ◌∙◌}
use Rattle.laws.proofs.PutLaws.{part_fits, put_part}
use Rattle.laws.specs.Put.{Put}
use Rattle.refusal.specs.Outcome.{buffer_after}
use Rattle.std.specs.Prelude.{Ok}

module _ {A : Type 0} (xs d : List A) (at n : ℕ) (n_is : n ≡ length xs) (room : at + length xs ≤ length d) where
  pub part_put : (ys out : List A) → xs ≡ ys → out ≡ buffer_after (Ok ys) (take (length d - at) (drop at d)) → Put d at xs (take at d ++ (out ++ drop (length d - at) (drop at d))) (at + n)
  part_put ys out same e =
      let part = take (length d - at) (drop at d) in
      let fits : length ys ≤ length part = rw same at (part_fits xs d at room) in
      put_part xs d at room n ys out n_is same (e ∙ rw (le-leb (length ys) (length part) fits))
