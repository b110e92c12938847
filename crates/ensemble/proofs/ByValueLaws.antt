-- A score by value: the entries that its numbers stand for are those that it was taken from.
--     taken_same      of a score of at most sixteen entries
--     too_many        a longer one is refused by 46
-- Assumes nothing.
use Prim.Native.Nat.{ℕ, ◌≤◌, ◌<◌}
use mathlib.Core.List.{List}
use mathlib.Core.Path.{◌≡◌, ◌∙◌}
use native.Mathlib.Omega.{arith}
use lib.ListN.{length, get_or, take}
use lib.Seq.{ext_get_or, get_or-take, length-take-le}
use borrow.Author.Tests.{lt-ltb}
use Rattle.std.specs.Prelude.{Err}
use Rattle.refusal.specs.Rules.{first_holding}
use Rattle.refusal.specs.declared.Refusal.TheVariants.{EntryCount}
use Rattle.refusal.proofs.RuleLaws.{first_here}
use Rattle.ensemble_rules.specs.Rules.{score_rules}
use Rattle.ensemble_score.specs.Score.{blank, entry_in, TakenFrom}
use Rattle.ensemble_score.specs.declared.Entry.{Entry}
use Rattle.ensemble_score.specs.declared.Score.{Score}

pub taken_same : (s : Score) (entries score : List Entry) → length entries ≡ 16 → ((i : ℕ) → i < 16 → get_or entries i blank ≡ entry_in s.numbers i)
    → TakenFrom score s → s.count ≤ 16 → take s.count entries ≡ score
taken_same s entries score long each taken few =
    let size : length (take s.count entries) ≡ s.count = length-take-le s.count entries (omega (arith, long, few)) in
    ext_get_or blank (take s.count entries) score (size ∙ taken.count_is)
    (λ i there.
    get_or-take s.count entries i blank (omega (arith, there, size))
    ∙ each i (omega (arith, there, size, few))
    ∙ taken.entries_are i (omega (arith, there, size, few)) (omega (arith, there, size, taken.count_is)))

pub too_many : (score : List Entry) → 16 < length score → first_holding (score_rules score) ≡ Err EntryCount
too_many score h = first_here _ _ (lt-ltb 16 (length score) h)
