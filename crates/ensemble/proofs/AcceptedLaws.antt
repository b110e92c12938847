-- What a score leaves that no rule turns back: what a block of it asks.
-- Assumes nothing.
use Prim.Native.Nat.{ℕ, ◌%◌, ◌≤◌}
use mathlib.Core.List.{List, [], ◌∷◌}
use mathlib.Core.Path.{◌≡◌}
use native.Mathlib.Omega.{arith}
use borrow.Author.Tests.{eqb-false}
use lib.IntN.{ℤ}
use lib.ListN.{length}
use Rattle.refusal.specs.Rules.{NoneHolds, first_holding}
use Rattle.refusal.proofs.RuleLaws.{none_holds}
use Rattle.sheet.specs.Allowed.{All}
use Rattle.sheet.specs.Judge.{judged}
use Rattle.sheet.specs.Read.{read_sheet}
use Rattle.sheet.specs.Voice.{Voice}
use Rattle.sheet_layout.specs.Layout.{layout_of}
use Rattle.sheet_layout.specs.declared.Layout.{Layout}
use Rattle.ensemble_score.specs.declared.Entry.{Entry}
use Rattle.ensemble_rules.specs.Rules.{score_rules, entry_rules, play_rules}
use Rattle.ensemble_rules.proofs.RuleLaws.{play_parts, score_small, score_ends}
use Rattle.ensemble_block.specs.Stretch.{GoodEntry, Mixable}
use Rattle.std.specs.Prelude.{Ok, ⊤}
use Rattle.refusal.specs.Outcome.{Outcome}

good_entries : (v : Voice) (rate : ℕ) (score : List Entry) → All (λ e. e.start ≤ e.key_up) score → All (λ e. NoneHolds (entry_rules v rate e)) score → All (GoodEntry v rate) score
good_entries v rate [] ends none = tt
good_entries v rate (e ∷ es) ends none = (record { ends_later = ends.0; no_rule = none.0 }, good_entries v rate es ends.1 none.1)

module _ (score : List Entry) (rate : ℕ) (sheet : List ℕ) (l : Layout) (left right : List ℤ) (places : ℕ) where
  abbrev rules_here : Outcome ⊤
  rules_here = first_holding (play_rules (read_sheet sheet) (length left) (length right) score rate places)

  pub mixable : judged sheet ≡ Ok tt → l ≡ layout_of (read_sheet sheet) → first_holding (score_rules score) ≡ Ok tt → rules_here ≡ Ok tt
      → Mixable score rate sheet l left right × (length score ≤ 16) × (places % 2 ≡ 0)
  mixable sound layout own none =
      let v = read_sheet sheet in
      let rules = play_rules v (length left) (length right) score rate places in
      let parts = play_parts v (length left) (length right) score rate places (none_holds rules none) in
      let none_own = none_holds (score_rules score) own in (
        record {
          sound = sound;
          layout_is = layout;
          voice_good = parts.0;
          sequence_good = parts.1;
          entries_good = good_entries v rate score (score_ends score none_own) parts.3;
        },
        score_small score none_own,
        omega (arith, eqb-false (places % 2) 1 parts.2.0),
      )
