-- Each return cites the law of its answer, with the tests that led there.
use mathlib.Core.Path.{sym}
use native.Mathlib.Omega.{arith}
use Rattle.sheet.proofs.RecordLaws.{at_end, at_zero, at_unknown, at_cut, at_whole}
use Rattle.sheet.proofs.record.record_at.Goals as goal

pub returns-then-n-at : goal.returns-then-n-at
returns-then-n-at c = sym (at_end _ _ (omega arith))

pub returns-then-kind-eq0 : goal.returns-then-kind-eq0
returns-then-kind-eq0 c = sym (at_zero _ _ (omega arith) c.if-kind-eq0.true)

pub returns-then-kind-gt11 : goal.returns-then-kind-gt11
returns-then-kind-gt11 c = sym (at_unknown _ _ (omega arith) c.if-kind-eq0.false (omega arith))

pub returns-then-n-start : goal.returns-then-n-start
returns-then-n-start c = sym (at_cut _ _ (omega arith) c.if-kind-eq0.false (omega arith) (omega arith))

pub returns : goal.returns
returns c = sym (at_whole _ _ (omega arith) c.if-kind-eq0.false (omega arith) (omega arith))
