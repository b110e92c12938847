-- `ensemble::by_value::mix_score` meets its contract: a score of more than sixteen entries is refused by 46, and the entries of any other are
-- those that it was taken from.
use Prim.Native.Nat.{ℕ}
use mathlib.Core.List.{List}
use mathlib.Core.Path.{◌≡◌, sym, ap, ◌∙◌}
use native.Mathlib.Omega.{arith}
use lib.ListN.{length}
use Rattle.body_read.specs.Sides.{Sides}
use Rattle.ensemble_score.specs.Score.{TakenFrom}
use Rattle.ensemble_score.specs.declared.Entry.{Entry}
use Rattle.ensemble.specs.Mix.{after_mix}
use Rattle.ensemble.proofs.ByValueLaws.{taken_same, too_many}
use Rattle.ensemble.proofs.MixLaws.{by_score, refused_leaves}
use Rattle.ensemble.proofs.by_value.mix_score.Goals as goal

pub returns-then-score-gt16 : goal.returns-then-score-gt16
returns-then-score-gt16 c =
    let a = c.args in
    let s : Sides = record { left = a.left.now; right = a.right.now } in
    let left = λ (lent : List Entry) (taken : TakenFrom lent a.score).
    refused_leaves lent a.rate a.place a.sheet.now s a.out.now _
    (by_score lent a.rate a.place a.sheet.now s (length a.out.now) _ (too_many lent (omega (arith, taken.count_is))))
    in
    record { answer = λ lent taken. (left lent taken).0; buffer = λ lent taken. (left lent taken).1 }

pub returns : goal.returns
returns c =
    let a = c.args in
    let s : Sides = record { left = a.left.now; right = a.right.now } in
    let made = c.entries_of-entries in
    let same = λ (lent : List Entry) (taken : TakenFrom lent a.score).
    taken_same a.score made.result lent made.ensures.length made.ensures.entries taken (omega arith)
    in
    let done = c.mix.ensures in
    record {
      answer = λ lent taken. done.answer ∙ ap (λ l. (after_mix l a.rate a.place a.sheet.now s a.out.now).answer) (same lent taken);
      buffer = λ lent taken. done.buffer ∙ ap (λ l. (after_mix l a.rate a.place a.sheet.now s a.out.now).buffer) (same lent taken);
    }
