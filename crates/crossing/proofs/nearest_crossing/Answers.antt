-- `crossing::nearest_crossing` meets its contract.
use mathlib.Core.Path.{sym, ◌∙◌}
use native.Mathlib.Omega.{arith}
use Rattle.crossing.proofs.NearestLaws.{short_refused}
use Rattle.crossing.proofs.SearchLaws.{past_reach, from_last}
use Rattle.crossing.proofs.nearest_crossing.Goals as goal

pub returns-then-n-eq0 : goal.returns-then-n-eq0
returns-then-n-eq0 c = let a = c.args in sym (short_refused a.samples.now a.place a.reach (omega arith))

pub returns-then-reach-past : goal.returns-then-reach-past
returns-then-reach-past c = let a = c.args in sym (past_reach a.samples.now a.place a.reach (omega arith) (omega arith) c.if-reach-past.true)

pub returns : goal.returns
returns c =
    let a = c.args in
    c.search-2.ensures ∙ from_last a.samples.now a.place a.reach (omega arith) (omega arith) c.if-reach-past.false
