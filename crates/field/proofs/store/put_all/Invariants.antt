-- The invariant is `Underway`: to store what is left of src is to store all of it.
use Rattle.std.proofs.Common.{drop}
use Rattle.laws.proofs.PutLaws.{Underway}
use Rattle.field.proofs.store.put_all.Given as goal

abbrev pub invariant-loop-b : goal.invariant-loop-b
invariant-loop-b l = Underway l.initial.d l.at l.src l.d l.o (drop l.b-index l.src)
