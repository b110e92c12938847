-- A segment is valid exactly where its four rules hold: `Playable` has them as facts, and no proof elsewhere takes `segment_valid` apart.
--     valid_of         a playable segment is valid
--     refused_of       one that is not playable is refused by 21
--     playable_of      a valid segment is playable
-- Assumes nothing.
use mathlib.Core.Path.{◌≡◌, refl}
use mathlib.Core.Bool.{Bool, true, false, cond, ◌&&◌, and-eq-true_iff}
use Prim.Native.Nat.{ℕ, ◌%◌, ◌≤◌}
use native.Mathlib.Omega.{arith}
use lib.Dec.{eqb, leb}
use borrow.Author.Tests.{eq-eqb, le-leb, eqb-true, leb-true}
use Rattle.laws.proofs.Cases.{impossible}
use Rattle.refusal.specs.Outcome.{Outcome, accepted}
use Rattle.small_chunks.specs.Sequence.{segment_valid, segment_verdict}
use Rattle.small_chunks.specs.declared.sequence.SeqnSegment.{SeqnSegment}
use Rattle.refusal.specs.declared.Refusal.TheVariants.{Segment}
use Rattle.std.specs.Prelude.{Err, Ok, ⊤}

-- start and end are multiples of 4, and start ≤ end ≤ hi
pub record Playable (s : SeqnSegment) (hi : ℕ) : Type 0 where
  pub start_step : s.start % 4 ≡ 0
  pub end_step : s.end % 4 ≡ 0
  pub ordered : s.start ≤ s.end
  pub within : s.end ≤ hi

module _ (s : SeqnSegment) (hi : ℕ) where
  tests : segment_valid s hi ≡ true → Playable s hi
  tests e =
      let abc = (and-eq-true_iff (eqb (s.start % 4) 0 && eqb (s.end % 4) 0 && leb s.start s.end) (leb s.end hi)).0 e in
      let ab = (and-eq-true_iff (eqb (s.start % 4) 0 && eqb (s.end % 4) 0) (leb s.start s.end)).0 abc.0 in
      let a = (and-eq-true_iff (eqb (s.start % 4) 0) (eqb (s.end % 4) 0)).0 ab.0 in
      record { start_step = eqb-true _ _ a.0; end_step = eqb-true _ _ a.1; ordered = leb-true _ _ ab.1; within = leb-true _ _ abc.1 }

  pub valid_of : Playable s hi → segment_verdict s hi ≡ accepted
  valid_of p = simp (eq-eqb _ _ p.start_step, eq-eqb _ _ p.end_step, le-leb _ _ p.ordered, le-leb _ _ p.within)

  pub refused_of : (Playable s hi → ⊥) → segment_verdict s hi ≡ Err Segment
  refused_of not_so = go (segment_valid s hi) refl
    where
      go : (t : Bool) → segment_valid s hi ≡ t → ◌≡◌ {A = Outcome ⊤} (cond t accepted (Err Segment)) (Err Segment)
      go true e = absurd (not_so (tests e))
      go false e = refl

  pub playable_of : segment_verdict s hi ≡ accepted → Playable s hi
  playable_of v = go (segment_valid s hi) refl v
    where
      go : (t : Bool) → segment_valid s hi ≡ t → ◌≡◌ {A = Outcome ⊤} (cond t accepted (Err Segment)) accepted → Playable s hi
      go true e w = tests e
      go false e w = impossible cc
