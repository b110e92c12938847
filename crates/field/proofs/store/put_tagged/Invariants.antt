-- The invariant is `Underway` over the parts that are left.
use Rattle.std.proofs.Common.{◌≡◌}
use Rattle.std.specs.Slice.Iter.{chunks_exact_rest, chunks_exact_size}
use Rattle.laws.proofs.PutLaws.{Underway}
use Rattle.field.specs.Tagged.{tagged}
use Rattle.field.proofs.store.put_tagged.Given as goal

abbrev pub invariant-loop-part : goal.invariant-loop-part
invariant-loop-part l =
    Underway l.initial.d l.at (tagged l.tag l.n l.src) l.d l.o (tagged l.tag l.n (chunks_exact_rest l.part-iterator)) × (chunks_exact_size l.part-iterator ≡ l.n)
