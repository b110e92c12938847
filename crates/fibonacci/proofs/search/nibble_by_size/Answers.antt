-- The rule of the order, by whether the place is even.
use Rattle.fibonacci.proofs.SearchLaws.{even_place, odd_place}
use Rattle.fibonacci.proofs.search.nibble_by_size.Goals as goal

pub returns-then-i-eq0 : goal.returns-then-i-eq0
returns-then-i-eq0 c = even_place c.args.i c.if-i-eq0.true

pub returns : goal.returns
returns c = odd_place c.args.i c.if-i-eq0.false
