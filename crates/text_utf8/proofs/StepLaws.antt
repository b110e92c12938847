-- The answers of `step_at`, from what the code finds: the end, what the lead byte asks for, and how far the bytes match.
-- Assumes nothing.
use Prim.Native.Nat.{ℕ, ◌+◌, ◌≤◌, ◌<◌}
use lib.Dec.{eqb}
use lib.ListN.{length, get_or, take, drop, drop_of_length-le, length-drop}
use lib.Seq.{drop-cons}
use mathlib.Core.Bool.{Bool, true, false, cond}
use mathlib.Core.List.{List, ◌∷◌}
use mathlib.Core.Path.{◌≡◌, refl}
use native.Mathlib.Nat.{add-zero}
use native.Mathlib.Numerals.{add-one}
use native.Mathlib.Omega.{arith}
use Rattle.laws.specs.Walk.{more}
use Rattle.std.proofs.lemmas.List.{take_rest}
use Rattle.text_utf8.proofs.MatchingLaws.{ranges_length, matching_le}
use Rattle.text_utf8.specs.Lead.{ranges_of}
use Rattle.text_utf8.specs.Step.{utf8_step, utf8_step_at}
use Rattle.text_utf8.specs.Table.{following}
use Rattle.text_utf8.specs.Utf8.{matching, scalar, ill_formed, first_subsequence}
use Rattle.text_utf8.specs.declared.table.Follow.{Follow}
use Rattle.std.specs.Prelude.{None, Some}

module _ (s : List ℕ) (at : ℕ) where
  pub step_end : length s ≤ at → None ≡ utf8_step_at s at
  unfolding utf8_step_at first_subsequence
  step_end h = rw (drop_of_length-le s h)

  module _ (h : at < length s) where
    pub step_never : None ≡ following (get_or s at 0) → Some (record { next = at + 1; well_formed = false }) ≡ utf8_step_at s at
    unfolding utf8_step_at first_subsequence
    step_never e = rw (drop-cons s at 0 h, ← e, add-zero)

    module _ (f : Follow) (e : Some (ranges_of f) ≡ following (get_or s at 0)) where
      -- how many of the bytes after the lead byte match
      abbrev many : ℕ
      many = matching (ranges_of f) (drop (at + 1) s)

      pub step_inside : at + 1 + many ≤ length s
      step_inside = omega (arith, matching_le (ranges_of f) (drop (at + 1) s), length-drop (at + 1) s)

      pub step_follow : Some (record { next = at + 1 + many; well_formed = eqb many f.more }) ≡ utf8_step_at s at
      unfolding utf8_step_at first_subsequence
      step_follow = rw (drop-cons s at 0 h, ← e, ← add-one at, ranges_length f.more f.low f.high) (go (eqb many f.more))
        where
          go : (u : Bool)
              → Some (record { next = at + 1 + many; well_formed = u })
              ≡ utf8_step at (more (cond u (scalar (get_or s at 0 ∷ take many (drop (at + 1) s))) (ill_formed (get_or s at 0 ∷ take many (drop (at + 1) s)))) many)
          go true = refl
          go false = refl

-- all that `step_at` uses; its part of the bytes is all that is left of them
pub ruleset step_answers = (step_end, step_never, step_inside, step_follow, take_rest)
